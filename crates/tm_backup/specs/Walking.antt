-- What the walk makes of a folder and of its entries.
use Rattle.std.specs.Prelude.{◌≡◌, ℕ, ◌+◌, true, if◌then◌else◌, Option, List, [], ◌∷◌, ◌++◌}
use Rattle.tm_base.specs.Paths.{Names}
use Rattle.tm_world.specs.Log.{Log}
use Rattle.tm_blockmap.specs.Counts.{times}
use Rattle.tm_tree.specs.Trees.{Tree, folder_at}
use Rattle.tm_tree.specs.Copies.{LabelledTree}
use Rattle.tm_tree.specs.declared.node.Child.{Child}
use Rattle.tm_graph.specs.Nodes.{Nodes, greatest}
use Rattle.tm_store_records.specs.Held.{Held}
use Rattle.tm_volume.specs.Seen.{Seen}
use Rattle.tm_copy.specs.Building.{next, AreNew, Builds, AreBuilt}
use Rattle.tm_copy.specs.Driving.{base_child}
use Rattle.tm_copy.specs.Making.{Making}
use Rattle.tm_backup.specs.declared.stage.PlannedEntry.{PlannedEntry}
use Rattle.tm_backup.specs.Growing.{folders_from, staging_from, Suits, Grows}
use Rattle.tm_backup.specs.EntryPlans.{is_folder_plan, plan_blocks, owed, IsPlanned, ArePlanned}
use Rattle.tm_backup.specs.Steps.{store_bytes}
use Rattle.tm_backup.specs.Taking.{view_on, backup_of}

-- ---- beneath the entries of the folder at p

-- the folders
abbrev pub entry_folders : Tree → Names → PlannedEntry → List Names
entry_folders t p x = if is_folder_plan x.plan then folders_from t (p ++ x.name ∷ []) else []

-- the blocks of the files that are staged there
abbrev pub entry_staging : LabelledTree → Tree → Names → PlannedEntry → List ℕ
entry_staging prev t p x = if is_folder_plan x.plan then staging_from prev t (p ++ x.name ∷ []) else []

-- an entry has the base's node of its name beside it, and where the walk is to go on, the view has a folder
pub record MayEnter (v : Seen) (g : Nodes) (p : Names) (base : Option ℕ) (x : PlannedEntry) : Type 0 where
  pub below : x.base ≡ base_child g base x.name
  pub shown : is_folder_plan x.plan ≡ true → (bytes : ℕ → List ℕ) → folder_at (view_on v bytes) (p ++ x.name ∷ []) ≡ true

abbrev pub MayEnterAll : Seen → Nodes → Names → Option ℕ → List PlannedEntry → Type 0
MayEnterAll v g p base [] = Unit {0}
MayEnterAll v g p base (x ∷ entries) = MayEnter v g p base x × MayEnterAll v g p base entries

-- ---- what is made

-- the new nodes have the number of the next backup, and are numbered after all others
pub record IsBegun (store : Held) (m : Making) : Type 0 where
  pub label : m.label ≡ store.number
  pub first : m.first ≡ greatest store.nodes + 1

-- node n is what the backup makes of the folder at p with all beneath it
abbrev pub FolderGrows : Type 0 → Held → Held → Seen → Log → Log → Names → Option ℕ → Making → Making → ℕ → Type 0
FolderGrows told store after v start end p base old new n = (root : Option ℕ) (files bytes fresh : ℕ → List ℕ) → Suits told store start p base root bytes
    → let b = backup_of store files root (view_on v bytes) in AreNew b old.nodes
    → Grows told b (store_bytes end) old new (λ k. 0) store.staged after.staged fresh (λ other. Builds b new.nodes other (next b old.nodes) (next b new.nodes) p n)

-- node n is what the backup makes of an entry of the folder at p
abbrev pub EntryGrows : Type 0 → Held → Held → Seen → Log → Log → Names → Option ℕ → PlannedEntry → Making → Making → ℕ → Type 0
EntryGrows told store after v start end p base x old new n = (root : Option ℕ) (files bytes fresh : ℕ → List ℕ) → Suits told store start p base root bytes
    → let b = backup_of store files root (view_on v bytes) in AreNew b old.nodes → IsPlanned told b (store_bytes start) p x
    → Grows told b (store_bytes end) old new (λ k. times k (plan_blocks x.plan)) store.staged after.staged fresh
    (λ other. Builds b new.nodes other (next b old.nodes) (next b new.nodes) (p ++ x.name ∷ []) n)

-- these entries are what the backup makes of those of the folder at p
abbrev pub EntriesGrow : Type 0 → Held → Held → Seen → Log → Log → Names → Option ℕ → List PlannedEntry → Making → Making → List Child → Type 0
EntriesGrow told store after v start end p base planned old new entries = (root : Option ℕ) (files bytes fresh : ℕ → List ℕ) → Suits told store start p base root bytes
    → let b = backup_of store files root (view_on v bytes) in AreNew b old.nodes → ArePlanned told b (store_bytes start) p planned
    → Grows told b (store_bytes end) old new (owed planned) store.staged after.staged fresh
    (λ other. AreBuilt b new.nodes other p (next b old.nodes) entries (next b new.nodes))
