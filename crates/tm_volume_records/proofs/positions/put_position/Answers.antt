use Rattle.std.proofs.Common.{ap, ◌∙◌, arith}
use Rattle.tm_volume_records.specs.Loads.{position_at}
use Rattle.tm_volume_records.proofs.Surveying.{last_position, position_before}
use Rattle.tm_volume_records.proofs.positions.put_position.Goals as goal

pub returns-clause-here : goal.returns-clause-here
returns-clause-here c = ap (λ xs. position_at xs c.args.number) c.in_ok-push.ensures.items ∙ last_position c.skip_to.new.positions.items c.args.position c.args.number c.in_ok-skip_to.ensures.many

pub returns-clause-others : goal.returns-clause-others
returns-clause-others c = λ m lt.
    ap (λ xs. position_at xs m) c.in_ok-push.ensures.items ∙ position_before c.skip_to.new.positions.items c.args.position m (omega (arith, lt, c.in_ok-skip_to.ensures.many)) ∙ c.in_ok-skip_to.ensures.same m
