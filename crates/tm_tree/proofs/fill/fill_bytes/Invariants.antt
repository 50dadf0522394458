use Rattle.std.proofs.Common.{◌≡◌}
use Rattle.tm_tree.specs.Changes.{fill_bytes}
use Rattle.tm_tree.proofs.fill.fill_bytes.Given as goal

abbrev pub invariant-loop-i : goal.invariant-loop-i
invariant-loop-i l = l.bytes.items ≡ fill_bytes l.i l.seed
