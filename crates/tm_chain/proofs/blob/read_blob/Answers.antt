use Rattle.std.proofs.Common.{arith}
use Rattle.tm_chain.proofs.Held.{held_each}
use Rattle.tm_chain.proofs.blob.read_blob.Goals as goal

pub returns-clause-bytes : goal.returns-clause-bytes
returns-clause-bytes g c told = held_each _ _ _ _ _ (omega arith) (λ i lt. c.loop-done.invariant.read told i (omega arith))
