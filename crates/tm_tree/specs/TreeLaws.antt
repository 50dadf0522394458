-- What changes keep of trees, and what stands where after a move.
use Rattle.std.specs.Prelude.{◌≡◌, ℕ, if◌then◌else◌, List, Option, None, ◌++◌, length, drop}
use Rattle.tm_base.specs.Paths.{Names, is_prefix}
use Rattle.tm_tree.specs.declared.change.Change.{Change}
use Rattle.tm_tree.specs.Changes.{tests, after}
use Rattle.tm_tree.specs.Contents.{Contents}
use Rattle.tm_tree.specs.Items.{new_folder}
use Rattle.tm_tree.specs.Refusing.{first_refused}
use Rattle.tm_tree.specs.Trees.{Tree, IsTree, item_at, moved, new_tree}
use Rattle.tm_tree.specs.Views.{view}

-- the tree after a change that nothing refuses is a tree
abbrev pub TreeKept : Type 0
TreeKept = (v : Contents) (c : Change) (moment : Option ℕ) → IsTree v.tree → first_refused (tests v c moment) ≡ None → IsTree (after v c moment).tree

-- a new volume's tree is a tree
abbrev pub NewIsTree : Type 0
NewIsTree = (moment : ℕ) → IsTree (new_tree (new_folder moment))

-- the view of a tree is a tree
abbrev pub ViewIsTree : Type 0
ViewIsTree = (fixed : List Names) (t : Tree) → IsTree t → IsTree (view fixed t)

-- where nothing stands at b, a move to b brings there what stood at a and beneath it, and leaves all else
abbrev pub MovesItems : Type 0
MovesItems = (t : Tree) (a b q : Names) → IsTree t → item_at t b ≡ None →
    item_at (moved t a b) q ≡ (if is_prefix b q then item_at t (a ++ drop (length b) q) else if is_prefix a q then None else item_at t q)
