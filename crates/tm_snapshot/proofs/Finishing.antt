-- What the lemmas on a finished backup are over: the store before, what was built, and what is known of them.
use Rattle.std.proofs.Common.{ℕ, ◌*◌, ◌^◌, ◌≤◌, List}
use Rattle.tm_base.specs.Limits.{max_nodes}
use Rattle.tm_tree.specs.declared.rows.Mark.{Mark}
use Rattle.tm_records.specs.Records.{Records}
use Rattle.tm_graph.specs.declared.built.Built.{Built}
use Rattle.tm_graph.specs.Nodes.{Nodes, greatest}
use Rattle.tm_graph.specs.Growing.{grown}
use Rattle.tm_store_records.specs.declared.snapshot.Snapshot.{Snapshot}
use Rattle.tm_store_records.specs.Held.{Held}
use Rattle.tm_store_records.specs.Built.{IsBuilt, snapshot_built}
use Rattle.tm_store_records.specs.Found.{roots_of}
use Rattle.tm_store_records.proofs.Noding.{NodesAreFound}
use Rattle.tm_snapshot.specs.Completing.{count_after}
use Rattle.tm_snapshot.specs.Growth.{MayComplete, records_after}
use Rattle.tm_snapshot.proofs.Olds.{IsOld, old_is, wide}

-- what was built may join the nodes of a store, even where there would be up to twice as many nodes as there may be
pub record Joining : Type 0 where
  pub h : Held
  pub built : Built
  pub is_built : IsBuilt h built
  pub old : IsOld h.nodes h.snapshots h.number
  pub few : count_after h built ≤ 2 * max_nodes
  pub most : h.number ≤ 2 ^ 40

-- a backup may finish with what was built
pub record Finishing : Type 0 where
  pub h : Held
  pub built : Built
  pub date : ℕ
  pub volume : List ℕ
  pub id : ℕ
  pub mark : Mark
  pub may : MayComplete h built date volume id mark
  pub found : NodesAreFound

abbrev pub finishing : (h : Held) (built : Built) (date : ℕ) (volume : List ℕ) (id : ℕ) (mark : Mark) → MayComplete h built date volume id mark → NodesAreFound → Finishing
finishing h built date volume id mark may found = record { h = h; built = built; date = date; volume = volume; id = id; mark = mark; may = may; found = found }

abbrev pub joining : Finishing → Joining
joining f = record { h = f.h; built = f.built; is_built = f.may.is_built; old = old_is f.h f.may.whole f.found; few = wide f.may.few; most = f.may.whole.fits.most }

-- the nodes before, the new ones, the new root, the greatest number before, the nodes afterwards, the roots before, the
-- records before and afterwards, and the snapshot
pub record Parts : Type 0 where
  pub g : Nodes
  pub new : Nodes
  pub root : ℕ
  pub last : ℕ
  pub after : Nodes
  pub roots : List ℕ
  pub R : Records
  pub S : Records
  pub s : Snapshot

abbrev pub parts : Finishing → Parts
parts f = record {
  g = f.h.nodes;
  new = f.built.nodes;
  root = f.built.root;
  last = greatest f.h.nodes;
  after = grown f.h.nodes f.built.nodes f.built.root;
  roots = roots_of f.h.snapshots;
  R = f.h.image.records;
  S = records_after f.h f.built f.date f.volume f.id f.mark;
  s = snapshot_built f.h f.built f.date f.volume f.id f.mark;
}
