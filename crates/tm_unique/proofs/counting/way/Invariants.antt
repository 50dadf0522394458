use Rattle.std.proofs.Common.{◌≡◌, drop}
use Rattle.tm_identity.specs.Uniques.{only_at}
use Rattle.tm_unique.proofs.counting.way.Given as goal

abbrev pub invariant-loop-name : goal.invariant-loop-name
invariant-loop-name l = only_at l.graph l.node (drop l.name-index l.name-items) ≡ only_at l.fn.graph l.fn.root l.fn.path
