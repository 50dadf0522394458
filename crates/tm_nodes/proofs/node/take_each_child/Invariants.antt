use Rattle.std.proofs.Common.{None}
use Rattle.tm_nodes.specs.Readers.{many}
use Rattle.tm_nodes.specs.Reading.{next_child_at}
use Rattle.tm_nodes.proofs.Loops.{IsRead}
use Rattle.tm_nodes.proofs.node.take_each_child.Given as goal

abbrev pub invariant-loop : goal.invariant-loop
invariant-loop l = IsRead next_child_at l.count l.counter l.entries.items l.rest (many next_child_at l.count None l.bytes)
