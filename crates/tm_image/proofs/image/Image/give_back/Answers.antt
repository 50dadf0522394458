use Rattle.std.proofs.Common.{ap, arith, length}
use Rattle.std.specs.List.{sum}
use Rattle.tm_image.specs.Seen.{Seen}
use Rattle.tm_blockmap.proofs.Counting.{marks_sum}
use Rattle.tm_image.proofs.image.Image.give_back.Goals as goal

pub returns-clause-free : goal.returns-clause-free
returns-clause-free c = omega (arith, c.give_all.ensures.count, c.give_all.ensures.size, marks_sum c.self.inside.map c.self.invariant.marks, ap (λ (s : Seen). length s.used) c.self.view_is, ap (λ (s : Seen). sum s.used) c.self.view_is)
