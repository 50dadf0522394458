-- What stands at the path of a file that is written, and the tests of it.
use Rattle.std.specs.Prelude.{◌≡◌, ℕ, ◌+◌, ◌^◌, Bool, true, false, not, nat_lt, if◌then◌else◌, Option, None, ◌∷◌, [], ◌++◌}
use Rattle.tm_base.specs.Paths.{Names}
use Rattle.tm_base.specs.declared.refused.Refused.TheVariants.{NotFound, Exists, NotFolder, IsFolder, TooLong, IdsSpent}
use Rattle.tm_items.specs.Finding.{FoundAt}
use Rattle.tm_items.specs.Placings.{Items}
use Rattle.tm_tree.specs.declared.node.LeafRow.TheVariants as leaf
use Rattle.tm_tree.specs.declared.record.ItemBody.{ItemBody}
use Rattle.tm_tree.specs.declared.record.ItemBody.TheVariants as body
use Rattle.tm_tree.specs.declared.record.ItemRow.{ItemRow}
use Rattle.tm_tree.specs.Changes.{most_bytes, most_items}
use Rattle.tm_tree.specs.Refusing.{Tests, too_many, needs_moment}
use Rattle.tm_tree.specs.Trees.{Tree, item_at}
use Rattle.tm_tree.specs.Walks.{way, is_at_file, is_at_folder, is_at_link}
use Rattle.tm_changes.specs.declared.destination.Destination.{Destination}
use Rattle.tm_changes.specs.declared.target.Target.{Target}
use Rattle.tm_changes.specs.declared.target.Target.TheVariants.{Nothing, Folder, Link, File}
use Rattle.tm_volume.specs.Room.{placed_row}
use Rattle.tm_changes.specs.Destinations.{goes_nowhere, goes_into_folder}

abbrev pub is_folder_there : Target → Bool
is_folder_there Nothing = false
is_folder_there Folder = true
is_folder_there Link = false
is_folder_there (File n row) = false

abbrev pub is_link_there : Target → Bool
is_link_there Nothing = false
is_link_there Folder = false
is_link_there Link = true
is_link_there (File n row) = false

abbrev pub is_file_there : Target → Bool
is_file_there Nothing = false
is_file_there Folder = false
is_file_there Link = false
is_file_there (File n row) = true

-- the walk ends as it does at such an item
pub record EndsAt (t : Tree) (p : Names) (target : Target) : Type 0 where
  pub folder : is_at_folder (way t p) ≡ is_folder_there target
  pub link : is_at_link (way t p) ≡ is_link_there target
  pub file : is_at_file (way t p) ≡ is_file_there target

-- this file stands there
pub record IsFileAt (items : Items) (t : Tree) (p : Names) (n : ℕ) (row : ItemRow) : Type 0 where
  pub found : FoundAt items t p n
  pub row_is : placed_row found.placed ≡ row

-- the file or nothing that stands there
abbrev pub StandsThere : Items → Tree → Names → Target → Type 0
StandsThere items t p Nothing = item_at t p ≡ None
StandsThere items t p Folder = Unit {0}
StandsThere items t p Link = Unit {0}
StandsThere items t p (File n row) = IsFileAt items t p n row

abbrev pub MeetsTarget : Items → Tree → Names → Target → Type 0
MeetsTarget items t p target = EndsAt t p target × StandsThere items t p target

-- what an item is by its record
abbrev pub target_by : ℕ → ItemRow → ItemBody → Target
target_by n row (body.Folder attrs) = Folder
target_by n row (body.Leaf (leaf.File attrs stamp count)) = File n row
target_by n row (body.Leaf (leaf.Link attrs stamp target)) = Link

abbrev pub target_of : ℕ → ItemRow → Target
target_of n row = target_by n row row.body

-- a file's record
abbrev pub IsFileBody : ItemBody → Type 0
IsFileBody (body.Folder attrs) = ⊥
IsFileBody (body.Leaf (leaf.File attrs stamp count)) = Unit {0}
IsFileBody (body.Leaf (leaf.Link attrs stamp target)) = ⊥

-- how many bytes the file has; 0 where none stands
abbrev pub body_length : ItemBody → ℕ
body_length (body.Folder attrs) = 0
body_length (body.Leaf (leaf.File attrs stamp count)) = count
body_length (body.Leaf (leaf.Link attrs stamp target)) = 0

abbrev pub target_length : Target → ℕ
target_length Nothing = 0
target_length Folder = 0
target_length Link = 0
target_length (File n row) = body_length row.body

-- ---- the tests

abbrev pub count_tests : Target → ℕ → Option ℕ → ℕ → Tests
count_tests target count moment next =
    too_many most_items (if is_file_there target then count else count + 1) ++ needs_moment moment ++ (nat_lt (2 ^ 62) (next + 2), IdsSpent) ∷ []

-- by where the walk to the folder ends, what stands at the path, and how many items there are
abbrev pub target_tests : Destination → Target → ℕ → ℕ → Option ℕ → ℕ → Tests
target_tests into target count size moment next =
    (goes_nowhere into, NotFound)
    ∷ (is_link_there target, Exists)
    ∷ (not (goes_into_folder into), NotFolder)
    ∷ (is_folder_there target, IsFolder)
    ∷ (nat_lt most_bytes size, TooLong size)
    ∷ count_tests target count moment next
