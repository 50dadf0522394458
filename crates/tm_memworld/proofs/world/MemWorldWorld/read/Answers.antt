use Rattle.std.proofs.Common.{◌∙◌, ap}
use Rattle.tm_world.specs.Outside.{part_of}
use Rattle.tm_memworld.specs.Devices.{outside}
use Rattle.tm_memworld.specs.State.{State, used, faulted}
use Rattle.tm_memworld.specs.World.{state}
use Rattle.tm_memworld.proofs.Outcomes.{rose, never_less_same, never_less_counted, answered}
use Rattle.tm_memworld.proofs.world.MemWorldWorld.read.Goals as goal

pub returns-then-counts-clause-after_err : goal.returns-then-counts-clause-after_err
returns-then-counts-clause-after_err c = c.fail.ensures.state ∙ ap (λ p. faulted p (used 0 0 (state c.counts.new.self))) c.part.ensures ∙ ap (λ s. faulted (part_of c.args.side) (used 0 0 s)) c.counts.ensures.state

pub returns-then-counts-clause-cause : goal.returns-then-counts-clause-cause
returns-then-counts-clause-cause c = rose (part_of c.args.side) (state c.args.self.now).faults (state c.fail.new.self).faults (ap (λ (s : State). s.faults) (returns-then-counts-clause-after_err c))

pub returns-then-counts-clause-never_less : goal.returns-then-counts-clause-never_less
returns-then-counts-clause-never_less c = never_less_counted c.counts.new.self c.fail.new.self (state c.args.self.now) c.counts.ensures.state c.fail.ensures.never_less

pub returns-clause-after_ok : goal.returns-clause-after_ok
unfolding state
returns-clause-after_ok c =
    answered c.counts.new.self c.spend.new.self 0 0 (outside c.args.self.now.devices) (state c.args.self.now) c.counts.ensures.state
    (c.spend.ensures.steps.ends ∙ ap outside c.counts.ensures.devices) c.spend.ensures.places c.spend.ensures.room

pub returns-clause-never_less : goal.returns-clause-never_less
returns-clause-never_less c = never_less_same (state c.args.self.now).faults _ (ap (λ (s : State). s.faults) (returns-clause-after_ok c))
