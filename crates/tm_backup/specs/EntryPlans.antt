-- What becomes of the entries of a folder.
use Rattle.std.specs.Prelude.{if◌then◌else◌, ◌≡◌, ◌==◌, ◌≤◌, ℕ, Bool, true, false, Option, Some, None, List, [], ◌∷◌, ◌++◌, length}
use Rattle.std.specs.List.{sum_by, filter_map}
use Rattle.tm_base.specs.Paths.{Names}
use Rattle.tm_base.specs.Limits.{max_file_bytes}
use Rattle.tm_blockmap.specs.Counts.{times}
use Rattle.tm_chain.specs.Blob.{bytes_in, blob_len}
use Rattle.tm_tree.specs.declared.attrs.Attrs.{Attrs}
use Rattle.tm_tree.specs.declared.item.Item.{Item}
use Rattle.tm_tree.specs.declared.item.Item.TheVariants as item
use Rattle.tm_tree.specs.declared.listing.ListKind.{ListKind}
use Rattle.tm_tree.specs.declared.listing.ListKind.TheVariants as kind
use Rattle.tm_tree.specs.declared.listing.ListRow.{ListRow}
use Rattle.tm_tree.specs.Items.{is_folder, is_file, bytes_of}
use Rattle.tm_tree.specs.Trees.{item_at}
use Rattle.tm_tree.specs.Copies.{LabelledTree, bare}
use Rattle.tm_copy.specs.Building.{Backup, base_at}
use Rattle.tm_copy.specs.Keeping.{kept_file, kept_link, kept_leaf}
use Rattle.tm_backup.specs.declared.stage.EntryPlan.{EntryPlan}
use Rattle.tm_backup.specs.declared.stage.EntryPlan.TheVariants as plan
use Rattle.tm_backup.specs.declared.stage.PlannedEntry.{PlannedEntry}

-- ---- names and kinds

-- a name in a folder, and whether a folder stands there
abbrev pub Head : Type 0
Head = List ℕ × Bool

abbrev pub is_folder_kind : ListKind → Bool
is_folder_kind kind.Folder = true
is_folder_kind (kind.File attrs stamp size) = false
is_folder_kind (kind.Link attrs stamp target) = false

abbrev pub row_head : ListRow → Head
row_head row = (row.name, is_folder_kind row.kind)

abbrev pub is_folder_plan : EntryPlan → Bool
is_folder_plan plan.Folder = true
is_folder_plan (plan.Kept n) = false
is_folder_plan (plan.File attrs stamp blob) = false
is_folder_plan (plan.Link attrs stamp target) = false

abbrev pub plan_head : PlannedEntry → Head
plan_head x = (x.name, is_folder_plan x.plan)

-- a file of so many bytes stands there
abbrev pub IsFileOf : ℕ → Option Item → Type 0
IsFileOf size found = (e : Item) × (found ≡ Some e) × (is_file e ≡ true) × (length (bytes_of e) ≡ size)

-- whether what the base has is a file of the stamp of this one
abbrev pub is_file_as_was : Option Item → ℕ → Bool
is_file_as_was None stamp = false
is_file_as_was (Some (item.Folder a)) stamp = false
is_file_as_was (Some (item.File a s x)) stamp = s == stamp
is_file_as_was (Some (item.Link a s x)) stamp = false

abbrev pub kind_blocks : Option Item → ListKind → List ℕ
kind_blocks was kind.Folder = []
kind_blocks was (kind.File attrs stamp size) = if is_file_as_was was stamp then [] else blob_len size ∷ []
kind_blocks was (kind.Link attrs stamp target) = []

-- the blocks that the bytes of this entry of the folder at p fill, if it is a file that the base doesn't have
abbrev pub row_blocks : LabelledTree → Names → ListRow → List ℕ
row_blocks prev p row = kind_blocks (item_at (bare prev) (p ++ row.name ∷ [])) row.kind

-- the names at which folders stand
abbrev pub folder_names : List Head → List (List ℕ)
folder_names heads = filter_map (λ h. if h.1 then Some h.0 else None) heads

-- ---- staged blobs

abbrev pub plan_blocks : EntryPlan → List ℕ
plan_blocks (plan.File attrs stamp blob) = blob.blocks
plan_blocks (plan.Kept n) = []
plan_blocks (plan.Link attrs stamp target) = []
plan_blocks plan.Folder = []

-- how often a block stands in the blobs of these entries
abbrev pub owed : List PlannedEntry → ℕ → ℕ
owed entries k = sum_by (λ x. times k (plan_blocks x.plan)) entries

-- ---- what each is

-- at q the base's file is kept, or a file is made whose bytes are in blocks with these bytes, or a link is kept or made, or a
-- folder stands
abbrev pub IsPlanFor : Type 0 → Backup → (ℕ → List ℕ) → Names → EntryPlan → Type 0
IsPlanFor told b bytes q (plan.Kept n) = (e : Item) × (item_at b.now q ≡ Some e) × (kept_leaf b.graph (base_at b q) e ≡ Some n)
IsPlanFor told b bytes q (plan.File attrs stamp blob) =
    (contents : List ℕ) × (item_at b.now q ≡ Some (item.File attrs stamp contents)) × (kept_file b.graph (base_at b q) stamp ≡ None)
    × (blob.length ≡ length contents) × (blob.length ≤ max_file_bytes) × (length blob.blocks ≡ blob_len blob.length) × (told → bytes_in blob.blocks bytes 0 blob.length ≡ contents)
IsPlanFor told b bytes q (plan.Link attrs stamp target) =
    (e : Item) × (item_at b.now q ≡ Some e) × (is_folder e ≡ false) × (kept_leaf b.graph (base_at b q) e ≡ kept_link b.graph (base_at b q) stamp)
    × (kept_link b.graph (base_at b q) stamp ≡ None → e ≡ item.Link attrs stamp target)
IsPlanFor told b bytes q plan.Folder = (attrs : Attrs) × (item_at b.now q ≡ Some (item.Folder attrs))

-- an entry of the folder at p with the base's node beside it
pub record IsPlanned (told : Type 0) (b : Backup) (bytes : ℕ → List ℕ) (p : Names) (x : PlannedEntry) : Type 0 where
  pub base : x.base ≡ base_at b (p ++ x.name ∷ [])
  pub plan : IsPlanFor told b bytes (p ++ x.name ∷ []) x.plan

abbrev pub ArePlanned : Type 0 → Backup → (ℕ → List ℕ) → Names → List PlannedEntry → Type 0
ArePlanned told b bytes p [] = Unit {0}
ArePlanned told b bytes p (x ∷ entries) = IsPlanned told b bytes p x × ArePlanned told b bytes p entries
