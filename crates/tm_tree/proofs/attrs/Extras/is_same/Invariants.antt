use Rattle.std.proofs.Common.{◌≡◌}
use Rattle.tm_tree.specs.Items.{same_extras}
use Rattle.tm_tree.proofs.attrs.Extras.is_same.Given as goal

abbrev pub invariant-loop-name : goal.invariant-loop-name
invariant-loop-name l =
    (goal.iterator-loop-name).can_next l.name-iterator × (goal.iterator-loop-name).is_finite l.name-iterator × (same_extras l.name-iterator l.others ≡ same_extras l.self l.other)
