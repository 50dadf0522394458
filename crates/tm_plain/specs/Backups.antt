-- A backup, by what it takes of a volume.
use Rattle.std.specs.Prelude.{ℕ, ◌+◌, ◌-◌, List, [], ◌∷◌, ◌++◌}
use Rattle.tm_plain.specs.declared.store.Source.{Source}
use Rattle.tm_tree.specs.Copies.{copy}
use Rattle.tm_tree.specs.States.{StoreState, Snapshot, base}
use Rattle.tm_tree.specs.Trees.{Tree}

-- a volume's name, id, generation and next number, and its tree without the exclusions
pub record SourceState : Type 0 where
  pub name : List ℕ
  pub id : ℕ
  pub generation : ℕ
  pub next : ℕ
  pub view : Tree

abbrev pub seen_source : Source → SourceState
seen_source s = record { name = s.name.now; id = s.id; generation = s.generation; next = s.next; view = s.view.now }

abbrev pub snapshot_of : StoreState → SourceState → ℕ → Snapshot
snapshot_of store s date = record {
  date = date;
  volume = s.name;
  id = s.id;
  generation = s.generation;
  cursor = s.next - 1;
  tree = copy store.number (base store s.id) s.view;
}

-- the store when a backup of this that was started at `date` has finished
abbrev pub completed : StoreState → SourceState → ℕ → StoreState
completed store s date = record {
  machine = store.machine;
  number = store.number + 1;
  snapshots = store.snapshots ++ snapshot_of store s date ∷ [];
}
