use Rattle.std.proofs.Common.{◌∙◌, ap}
use Rattle.tm_world.specs.Outside.{took}
use Rattle.tm_world.specs.declared.world.Part.TheVariants.{Script}
use Rattle.tm_memworld.specs.Devices.{outside}
use Rattle.tm_memworld.specs.State.{State, used, faulted}
use Rattle.tm_memworld.specs.World.{state}
use Rattle.tm_memworld.specs.declared.devices.Devices.{Devices}
use Rattle.tm_memworld.proofs.Outcomes.{rose, never_less_same, never_less_counted, answered, blocks_took}
use Rattle.tm_memworld.proofs.world.MemWorldWorld.take.Goals as goal

pub returns-then-counts-clause-after_err : goal.returns-then-counts-clause-after_err
returns-then-counts-clause-after_err c = c.fail.ensures.state ∙ ap (λ s. faulted Script (used 0 0 s)) c.counts.ensures.state

pub returns-then-counts-clause-cause : goal.returns-then-counts-clause-cause
returns-then-counts-clause-cause c = rose Script (state c.args.self.now).faults (state c.fail.new.self).faults (ap (λ (s : State). s.faults) (returns-then-counts-clause-after_err c))

pub returns-then-counts-clause-never_less : goal.returns-then-counts-clause-never_less
returns-then-counts-clause-never_less c = never_less_counted c.counts.new.self c.fail.new.self (state c.args.self.now) c.counts.ensures.state c.fail.ensures.never_less

pub returns-clause-after_ok : goal.returns-clause-after_ok
unfolding state
returns-clause-after_ok c =
    answered c.counts.new.self c.take.new.self 0 0 (took c.take.result (outside c.args.self.now.devices)) (state c.args.self.now) c.counts.ensures.state
    (c.take.ensures.steps.ends ∙ ap (λ (d : Devices). took c.take.result (outside d)) c.counts.ensures.devices) c.take.ensures.places c.take.ensures.room

pub returns-clause-never_less : goal.returns-clause-never_less
returns-clause-never_less c = never_less_same (state c.args.self.now).faults _ (ap (λ (s : State). s.faults) (returns-clause-after_ok c))

pub returns-clause-blocks : goal.returns-clause-blocks
returns-clause-blocks c = blocks_took c.args.self.now _ c.take.result (ap (λ (s : State). s.outside) (returns-clause-after_ok c))
