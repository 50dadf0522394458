use Rattle.std.proofs.Common.{◌≡◌, drop}
use Rattle.tm_copy.specs.Keeping.{same_entries}
use Rattle.tm_copy.proofs.keeping.same_entries.Given as goal

abbrev pub invariant-loop-child : goal.invariant-loop-child
invariant-loop-child l = same_entries (drop l.child-index l.a) l.others.rest.now ≡ same_entries l.a l.b
