use Rattle.std.proofs.Common.{◌≡◌, false}
use Rattle.tm_tree.specs.Changes.{is_too_deep}
use Rattle.tm_tree.specs.Trees.{put_all, rekeyed, moved}
use Rattle.tm_plain.proofs.tree.Tree.moved.Given as goal

abbrev pub invariant-loop-path : goal.invariant-loop-path
invariant-loop-path l =
    (put_all l.items.entries (rekeyed l.from l.to l.path-iterator) ≡ moved l.self l.from l.to) × (is_too_deep l.path-iterator l.from l.to ≡ false)
