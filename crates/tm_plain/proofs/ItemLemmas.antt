-- The items of a map whose values hold one each.
use Rattle.std.proofs.Common.{◌≡◌, List, [], ◌∷◌, option_map, refl, ap}
use Rattle.std.proofs.lemmas.Map.Made.{lookup-map_values}
use Rattle.std.specs.BTreeMap.{is_at}
use Rattle.tm_base.specs.Paths.{Names, path_cmp}
use Rattle.tm_plain.specs.ItemsOf.{items_of}
use Rattle.tm_tree.specs.declared.item.Item.{Item}
use Rattle.tm_tree.specs.Trees.{Tree, at, item_at}

-- what stands at a path is the item of the value there
pub at_item : {V : Type 0} (f : V → Item) (t : List (Names × V)) (p : Names) → item_at (items_of f t) p ≡ option_map f (at t p)
at_item f t p = lookup-map_values f (is_at (path_cmp p)) t

-- items hold themselves
pub items_of_items : (t : Tree) → items_of (λ e. e) t ≡ t
items_of_items [] = refl
items_of_items (row ∷ t) = ap (λ (u : Tree). row ∷ u) (items_of_items t)
