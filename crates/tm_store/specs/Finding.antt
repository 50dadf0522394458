-- What is found in a store.
use Rattle.std.specs.Prelude.{◌≡◌, ℕ, Option, Some, None, Result, Ok, Err, List, find, ◌==◌, if◌then◌else◌}
use Rattle.std.specs.List.{last_or}
use Rattle.std.specs.Option.{option_map}
use Rattle.tm_base.specs.Paths.{Names, same_name}
use Rattle.tm_base.specs.declared.refused.Refused.TheVariants.{NoSnapshot}
use Rattle.tm_base.specs.declared.refused.LineFault.{LineFault}
use Rattle.tm_base.specs.declared.refused.LineFault.TheVariants as fault
use Rattle.tm_tree.specs.declared.node.LeafRow.{LeafRow}
use Rattle.tm_tree.specs.declared.node.LeafRow.TheVariants as leaf
use Rattle.tm_tree.specs.declared.node.NodeBody.{NodeBody}
use Rattle.tm_tree.specs.declared.node.NodeBody.TheVariants as body
use Rattle.tm_tree.specs.declared.node.NodeRow.{NodeRow}
use Rattle.tm_tree.specs.States.{Snapshot as StoredSnapshot}
use Rattle.tm_tree.specs.Copies.{LabelledTree, bare}
use Rattle.tm_tree.specs.Lookups.{snapshot_at, snapshot_under}
use Rattle.tm_tree.specs.Trees.{at}
use Rattle.tm_tree.specs.Walks.{walk}
use Rattle.tm_graph.specs.Nodes.{Nodes, node}
use Rattle.tm_store_records.specs.declared.snapshot.Snapshot.{Snapshot}
use Rattle.tm_store_records.specs.Held.{Held, files_of, store_on}
use Rattle.tm_store_records.specs.States.{item_on, labelled_on, snapshot_on}
use Rattle.tm_store.specs.declared.finding.Found.{Found}
use Rattle.tm_identity.specs.Stored.{node_length}
use Rattle.tm_store.specs.declared.finding.Stat.{Stat}
use Rattle.tm_store.specs.declared.finding.Kind.{Kind}
use Rattle.tm_store.specs.declared.finding.Kind.TheVariants as kind

-- ---- snapshots

abbrev pub snapshot_dated : List Snapshot → Option ℕ → Option Snapshot
snapshot_dated snapshots None = last_or None snapshots
snapshot_dated snapshots (Some date) = find (λ s. s.date == date) snapshots

-- the snapshot under a machine's name with this date, or the last one where no date is given
abbrev pub held_at : List ℕ → List Snapshot → List ℕ → Option ℕ → Option Snapshot
held_at own snapshots machine date = if same_name machine own then snapshot_dated snapshots date else None

abbrev pub of_volume : List ℕ → Option Snapshot → Option Snapshot
of_volume volume None = None
of_volume volume (Some s) = if same_name volume s.volume then Some s else None

-- the same, under a volume's name besides
abbrev pub held_under : List ℕ → List Snapshot → List ℕ → Option ℕ → List ℕ → Option Snapshot
held_under own snapshots machine date volume = of_volume volume (held_at own snapshots machine date)

-- a snapshot is named in the store as it is in memory
abbrev pub NamedAt : Type 0
NamedAt = (h : Held) (bytes : ℕ → List ℕ) (machine : List ℕ) (date : Option ℕ)
    → snapshot_at (store_on h bytes) machine date ≡ option_map (snapshot_on (files_of h.image.records bytes) h.nodes) (held_at h.machine h.snapshots machine date)

-- and so under a volume's name besides
abbrev pub NamedUnder : Type 0
NamedUnder = (h : Held) (bytes : ℕ → List ℕ) (machine : List ℕ) (date : Option ℕ) (volume : List ℕ)
    → snapshot_under (store_on h bytes) machine date volume ≡ option_map (snapshot_on (files_of h.image.records bytes) h.nodes) (held_under h.machine h.snapshots machine date volume)

-- ---- items

-- the walk down the path comes to this node: its row, what stands at the path, and what the walk answers
pub record WalkLeadsTo (files : ℕ → List ℕ) (g : Nodes) (t : LabelledTree) (path : Names) (n : ℕ) : Type 0 where
  pub row : NodeRow
  pub is : node g n ≡ Some row
  pub stands : at t path ≡ Some (labelled_on files n row)
  pub walks : walk (bare t) path ≡ Ok (item_on (files n) row.body)

-- what a look at a path in a snapshot answers: the node that stands there, NoSnapshot, or why the walk fails; it takes
-- neither memory nor the device, so it fails in no other way
abbrev pub Looks : (ℕ → List ℕ) → Nodes → Option StoredSnapshot → Names → Result Found LineFault → Type 0
Looks files g None path (Ok found) = ⊥
Looks files g None path (Err (fault.Refused why)) = why ≡ NoSnapshot
Looks files g None path (Err (fault.Fault side)) = ⊥
Looks files g None path (Err fault.Memory) = ⊥
Looks files g (Some s) path (Ok found) = (found.date ≡ s.date) × WalkLeadsTo files g s.tree path found.node
Looks files g (Some s) path (Err (fault.Refused why)) = walk (bare s.tree) path ≡ Err why
Looks files g (Some s) path (Err (fault.Fault side)) = ⊥
Looks files g (Some s) path (Err fault.Memory) = ⊥

-- ---- nodes

abbrev pub kind_of_leaf : LeafRow → Kind
kind_of_leaf (leaf.File attrs stamp size) = kind.File
kind_of_leaf (leaf.Link attrs stamp target) = kind.Link

abbrev pub kind_of_body : NodeBody → Kind
kind_of_body (body.Folder attrs entries) = kind.Folder
kind_of_body (body.Leaf leaf) = kind_of_leaf leaf

abbrev pub stat_of : NodeRow → Stat
stat_of row = record { kind = kind_of_body row.body; label = row.label; links = row.links; length = node_length row }
