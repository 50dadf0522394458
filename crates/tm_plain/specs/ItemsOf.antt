-- The items of a map whose values hold one each.
use Rattle.std.specs.Prelude.{List, map}
use Rattle.tm_base.specs.Paths.{Names}
use Rattle.tm_tree.specs.declared.item.Item.{Item}
use Rattle.tm_tree.specs.Trees.{Tree}

abbrev pub items_of : {V : Type 0} → (V → Item) → List (Names × V) → Tree
items_of item t = map (λ row. (row.0, item row.1)) t
