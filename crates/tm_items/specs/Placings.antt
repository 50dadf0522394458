-- Items by number, each with the number of its folder and its name there, and the tree that they are.
use Rattle.std.specs.Prelude.{◌≡◌, ℕ, ◌==◌, false, Option, Some, List, [], ◌∷◌}
use Rattle.std.specs.List.Sorted.{IsStrictlySortedBy}
use Rattle.std.specs.Map.{keys_of}
use Rattle.tm_base.specs.Paths.{Names, path_cmp}
use Rattle.tm_tree.specs.declared.item.Item.{Item}
use Rattle.tm_tree.specs.Trees.{Tree, item_at}

-- an item with its place: the number of its folder, and its name there, which the root lacks
pub record Placed : Type 0 where
  pub parent : ℕ
  pub name : Option (List ℕ)
  pub item : Item

-- what stands under each number, where something does
abbrev pub Items : Type 0
Items = ℕ → Option Placed

-- in the folder numbered a, k stands under the name `called`; number 1 is the root, and stands in no folder
pub record IsChild (items : Items) (a : ℕ) (called : List ℕ) (k : ℕ) : Type 0 where
  pub placed : Placed
  pub is : items k ≡ Some placed
  pub parent : placed.parent ≡ a
  pub name : placed.name ≡ Some called
  pub not_root : (k == 1) ≡ false

-- from the number a, the names of a path lead down to n
abbrev pub Walks : Items → ℕ → Names → ℕ → Type 0
Walks items a [] n = a ≡ n
Walks items a (name ∷ rest) n = (k : ℕ) × IsChild items a name k × Walks items k rest n

-- from the root, p leads to the item e
pub record LeadsTo (items : Items) (p : Names) (e : Item) : Type 0 where
  pub number : ℕ
  pub walks : Walks items 1 p number
  pub placed : Placed
  pub is : items number ≡ Some placed
  pub item : placed.item ≡ e

-- the items read as this tree: what stands at each path is what the path leads to
pub record ReadsAs (items : Items) (t : Tree) : Type 0 where
  pub in_order : IsStrictlySortedBy path_cmp (keys_of t)
  pub there : (p : Names) (e : Item) → LeadsTo items p e → item_at t p ≡ Some e
  pub only : (p : Names) (e : Item) → item_at t p ≡ Some e → LeadsTo items p e

-- items read as at most one tree
abbrev pub OneTree : Type 0
OneTree = (items : Items) (t u : Tree) → ReadsAs items t → ReadsAs items u → t ≡ u
