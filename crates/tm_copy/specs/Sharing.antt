-- Which parts of a tree are as they were in the base.
use Rattle.std.specs.Prelude.{◌≡◌, ◌↔◌, ℕ, true, List, [], ◌∷◌, ◌++◌}
use Rattle.std.specs.List.Sorted.{IsStrictlySortedBy}
use Rattle.std.specs.Map.{keys_of}
use Rattle.tm_base.specs.Paths.{Names, path_cmp}
use Rattle.tm_tree.specs.Trees.{Tree, item_at}
use Rattle.tm_tree.specs.Copies.{LabelledTree, bare, is_same_at}

-- all at and beneath p is as it was exactly where the item at p is, and all at and beneath each name in it
abbrev pub SameByEntries : Type 0
SameByEntries = (prev : LabelledTree) (now : Tree) (p : Names) → IsStrictlySortedBy path_cmp (keys_of prev) → IsStrictlySortedBy path_cmp (keys_of now)
    → (is_same_at prev now p ≡ true) ↔ ((item_at (bare prev) p ≡ item_at now p) × ((name : List ℕ) → is_same_at prev now (p ++ name ∷ []) ≡ true))
