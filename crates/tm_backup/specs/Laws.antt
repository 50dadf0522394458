-- What the definitions say together.
use Rattle.std.specs.Prelude.{◌≡◌, true, ◌∷◌, [], ◌++◌, map}
use Rattle.std.specs.List.{flat_map}
use Rattle.tm_base.specs.Paths.{Names}
use Rattle.tm_tree.specs.Listings.{list_rows}
use Rattle.tm_tree.specs.Trees.{Tree, IsTree, folder_at}
use Rattle.tm_tree.specs.Copies.{LabelledTree, bare}
use Rattle.tm_copy.specs.Stamps.{StampsTell}
use Rattle.tm_backup.specs.Growing.{folders_from}
use Rattle.tm_backup.specs.EntryPlans.{row_head, folder_names}
use Rattle.tm_backup.specs.Taking.{as_taken}

-- the folders at and beneath p in path order are p, and then those at and beneath each folder in it, by name
abbrev pub FoldersInOrder : Type 0
FoldersInOrder = (t : Tree) (p : Names) → IsTree t → folder_at t p ≡ true
    → folders_from t p ≡ p ∷ flat_map (λ name. folders_from t (p ++ name ∷ [])) (folder_names (map row_head (list_rows t p)))

-- stamps tell of the tree as the walk takes it what is as it was
abbrev pub TakenTells : Type 0
TakenTells = (prev : LabelledTree) (t : Tree) → StampsTell (bare prev) (as_taken prev t)

-- where they tell of the tree itself, the walk takes it as it is
abbrev pub TakenIs : Type 0
TakenIs = (prev : LabelledTree) (t : Tree) → IsTree t → StampsTell (bare prev) t → as_taken prev t ≡ t
