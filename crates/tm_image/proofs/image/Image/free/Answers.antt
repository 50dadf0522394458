use Rattle.std.proofs.Common.{ap, subst, arith, length}
use Rattle.std.specs.List.{sum}
use Rattle.tm_image.specs.Seen.{Seen, IsSound}
use Rattle.tm_image.proofs.Owning.{counted}
use Rattle.tm_image.proofs.image.Image.free.Goals as goal

pub returns-clause-rule : goal.returns-clause-rule
returns-clause-rule c = λ blobs are.
    let sound = subst IsSound c.self.view_is c.self.invariant in
    let all = counted c.args.self.now.used c.args.self.now.layout blobs c.args.self.now.records (λ b. omega (arith, are b, sound.owners b)) in
    omega (arith, all, c.free.ensures, ap (λ (s : Seen). length s.used) c.self.view_is, ap (λ (s : Seen). sum s.used) c.self.view_is)
