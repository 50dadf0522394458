use Rattle.std.proofs.Common.{◌≡◌, length, None}
use Rattle.tm_nodes.specs.Readers.{many}
use Rattle.tm_nodes.specs.Reading.{name_at}
use Rattle.tm_nodes.proofs.Loops.{IsRead}
use Rattle.tm_nodes.proofs.path.take_each_name.Given as goal

abbrev pub invariant-loop : goal.invariant-loop
invariant-loop l = (length l.path ≡ l.counter) × IsRead (λ before. name_at) l.count l.counter l.path l.rest (many (λ before. name_at) l.count None l.bytes)
