use Rattle.std.proofs.Common.{◌≡◌, ◌++◌}
use Rattle.tm_tree.specs.Listings.{list_rows}
use Rattle.tm_plain.specs.ItemsOf.{items_of}
use Rattle.tm_plain.proofs.items.list_rows.Given as goal

abbrev pub invariant-loop-at : goal.invariant-loop-at
invariant-loop-at g l =
    l.rows.items ++ list_rows (items_of g.V.HasItem.item_of l.at-iterator) l.path ≡ list_rows (items_of g.V.HasItem.item_of l.items.entries) l.path
