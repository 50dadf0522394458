-- What a volume is and what a store is, whatever they are kept on.
use Rattle.std.specs.Prelude.{ℕ, ◌+◌, ◌-◌, ◌==◌, if◌then◌else◌, Option, Some, None, List, [], ◌∷◌, ◌++◌}
use Rattle.std.specs.List.{last_or}
use Rattle.tm_tree.specs.Contents.{Contents}
use Rattle.tm_tree.specs.Copies.{LabelledTree, copy}
use Rattle.tm_tree.specs.Items.{new_folder}
use Rattle.tm_tree.specs.Trees.{new_tree}
use Rattle.tm_tree.specs.Views.{view}

-- a volume: its name and id, how many journal rows it keeps, its generation, and its contents
pub record VolumeState : Type 0 where
  pub name : List ℕ
  pub id : ℕ
  pub capacity : ℕ
  pub generation : ℕ
  pub contents : Contents

-- a new volume: the root alone, dated; numbers begin at 1
abbrev pub new_volume : List ℕ → ℕ → ℕ → ℕ → VolumeState
new_volume name id capacity moment = record {
  name = name;
  id = id;
  capacity = capacity;
  generation = 1;
  contents = record { tree = new_tree (new_folder moment); fixed = []; next = 1 };
}

-- what one backup kept: when it was started, of which volume, how far its journal had come, and the copy
pub record Snapshot : Type 0 where
  pub date : ℕ
  pub volume : List ℕ
  pub id : ℕ
  pub generation : ℕ
  pub cursor : ℕ
  pub tree : LabelledTree

-- a store: the machine's name, the number of the next backup, and the snapshots by rising date
pub record StoreState : Type 0 where
  pub machine : List ℕ
  pub number : ℕ
  pub snapshots : List Snapshot

abbrev pub new_store : List ℕ → StoreState
new_store machine = record { machine = machine; number = 1; snapshots = [] }

-- the last snapshot, if there is one
abbrev pub latest : StoreState → Option Snapshot
latest store = last_or None store.snapshots

abbrev pub tree_of_volume : ℕ → Option Snapshot → LabelledTree
tree_of_volume id None = []
tree_of_volume id (Some s) = if s.id == id then s.tree else []

-- the base of a backup: the last snapshot's tree if that is of this volume, and else none
abbrev pub base : StoreState → ℕ → LabelledTree
base store id = tree_of_volume id (latest store)

-- what a backup of this volume that was started at `date` keeps when it finishes
abbrev pub snapshot_of : StoreState → VolumeState → ℕ → Snapshot
snapshot_of store volume date = record {
  date = date;
  volume = volume.name;
  id = volume.id;
  generation = volume.generation;
  cursor = volume.contents.next - 1;
  tree = copy store.number (base store volume.id) (view volume.contents.fixed volume.contents.tree);
}

-- the store when a backup of this volume has finished
abbrev pub backed_up : StoreState → VolumeState → ℕ → StoreState
backed_up store volume date = record {
  machine = store.machine;
  number = store.number + 1;
  snapshots = store.snapshots ++ snapshot_of store volume date ∷ [];
}
