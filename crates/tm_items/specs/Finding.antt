-- The way to an item along the names of its path.
use Rattle.std.specs.Prelude.{◌≡◌, ℕ, Some, Ok, take, drop}
use Rattle.tm_base.specs.Paths.{Names}
use Rattle.tm_tree.specs.Trees.{Tree, item_at}
use Rattle.tm_tree.specs.Walks.{walk, walk_from}
use Rattle.tm_items.specs.Placings.{Placed, Items, Walks}

-- n stands at p: the walk down p comes to its item
pub record FoundAt (items : Items) (t : Tree) (p : Names) (n : ℕ) : Type 0 where
  pub placed : Placed
  pub is : items n ≡ Some placed
  pub walks : Walks items 1 p n
  pub stands : item_at t p ≡ Some placed.item
  pub walk_is : walk t p ≡ Ok placed.item

-- the walk down the first i names of p has come to n
pub record OnWay (items : Items) (t : Tree) (p : Names) (i n : ℕ) : Type 0 where
  pub walks : Walks items 1 (take i p) n
  pub comes : walk t p ≡ walk_from t (take i p) (drop i p)
