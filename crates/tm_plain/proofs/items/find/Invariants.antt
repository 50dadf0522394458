use Rattle.std.proofs.Common.{◌≡◌, take, drop}
use Rattle.tm_tree.specs.Walks.{walk, walk_from}
use Rattle.tm_plain.specs.ItemsOf.{items_of}
use Rattle.tm_plain.proofs.items.find.Given as goal

abbrev pub invariant-loop-count : goal.invariant-loop-count
invariant-loop-count g l =
    let t = items_of g.V.HasItem.item_of l.items.entries in
    walk t l.path ≡ walk_from t (take l.count l.path) (drop l.count l.path)
