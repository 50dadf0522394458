use Rattle.std.proofs.lemmas.Bool.{eqb-true}
use Rattle.tm_chain.proofs.Walking.{ended}
use Rattle.tm_chain.proofs.walk.ends.Goals as goal

pub returns-else-next_in-eq0 : goal.returns-else-next_in-eq0
returns-else-next_in-eq0 c = (
  λ t. absurd (c.if-next_in-eq0.false (eqb-true c.next_in.result 0 t)),
  λ end. absurd (c.if-next_in-eq0.false (ended c.next_in.result c.args.rest c.args.block.now c.next_in.type_inv c.next_in.ensures end)),
)
