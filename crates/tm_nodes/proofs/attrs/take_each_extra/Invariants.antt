use Rattle.std.proofs.Common.{None}
use Rattle.tm_nodes.specs.Readers.{many}
use Rattle.tm_nodes.specs.Reading.{next_extra_at}
use Rattle.tm_nodes.proofs.Loops.{IsRead}
use Rattle.tm_nodes.proofs.attrs.take_each_extra.Given as goal

abbrev pub invariant-loop : goal.invariant-loop
invariant-loop l = IsRead next_extra_at l.count l.counter l.extras l.rest (many next_extra_at l.count None l.bytes)
