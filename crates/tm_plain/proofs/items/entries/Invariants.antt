use Rattle.std.proofs.Common.{◌≡◌, ◌++◌, map}
use Rattle.tm_tree.specs.Listings.{entries_of}
use Rattle.tm_plain.specs.Entries.{named}
use Rattle.tm_plain.specs.ItemsOf.{items_of}
use Rattle.tm_plain.proofs.items.entries.Given as goal

abbrev pub invariant-loop-at : goal.invariant-loop-at
invariant-loop-at g l =
    map named l.entries.items ++ entries_of (items_of g.V.HasItem.item_of l.at-iterator) l.path ≡ entries_of (items_of g.V.HasItem.item_of l.items.entries) l.path
