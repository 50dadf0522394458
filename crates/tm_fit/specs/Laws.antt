-- What keeps a volume and a store fitting.
use Rattle.std.specs.Prelude.{◌≡◌, ℕ, ◌≤◌, false, Option, Some, None}
use Rattle.std.specs.List.{list_any}
use Rattle.std.specs.Prelude.{List, ◌==◌}
use Rattle.tm_tree.specs.declared.change.Change.{Change}
use Rattle.tm_tree.specs.Changes.{tests, after}
use Rattle.tm_tree.specs.Contents.{Contents}
use Rattle.tm_tree.specs.Refusing.{first_refused}
use Rattle.tm_tree.specs.States.{VolumeState, StoreState, new_volume, new_store, backed_up}
use Rattle.tm_fit.specs.Fit.{Fits}

abbrev pub with_contents : VolumeState → Contents → VolumeState
with_contents v c = record { name = v.name; id = v.id; capacity = v.capacity; generation = v.generation; contents = c }

-- a change that nothing refuses
abbrev pub ChangeFits : Type 0
ChangeFits = (v : VolumeState) (store : Option StoreState) (c : Change) (moment : Option ℕ) → first_refused (tests v.contents c moment) ≡ None
    → Fits (Some v) store → Fits (Some (with_contents v (after v.contents c moment))) store

-- a backup
abbrev pub BackupFits : Type 0
BackupFits = (v : VolumeState) (store : StoreState) (date : ℕ) → Fits (Some v) (Some store) → Fits (Some v) (Some (backed_up store v date))

-- a new volume, whose id no snapshot has
abbrev pub NewVolumeFits : Type 0
NewVolumeFits = (name : List ℕ) (id capacity moment : ℕ) (store : StoreState) → list_any (λ s. s.id == id) store.snapshots ≡ false
    → Fits (Some (new_volume name id capacity moment)) (Some store)

abbrev pub NewVolumeAloneFits : Type 0
NewVolumeAloneFits = (name : List ℕ) (id capacity moment : ℕ) → Fits (Some (new_volume name id capacity moment)) None

-- a new store
abbrev pub NewStoreFits : Type 0
NewStoreFits = (v : VolumeState) (machine : List ℕ) → Fits (Some v) None → Fits (Some v) (Some (new_store machine))

abbrev pub with_generation : VolumeState → ℕ → VolumeState
with_generation v generation = record { name = v.name; id = v.id; capacity = v.capacity; generation = generation; contents = v.contents }

-- a later generation
abbrev pub LaterGenerationFits : Type 0
LaterGenerationFits = (v : VolumeState) (store : Option StoreState) (generation : ℕ) → v.generation ≤ generation → Fits (Some v) store
    → Fits (Some (with_generation v generation)) store
