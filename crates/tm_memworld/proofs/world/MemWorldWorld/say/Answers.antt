use Rattle.std.proofs.Common.{◌∙◌, length, refl, ap, subst}
use Rattle.tm_world.specs.Outside.{spoke}
use Rattle.tm_world.specs.Log.{Steps}
use Rattle.tm_world.specs.declared.world.Part.TheVariants.{Out}
use Rattle.tm_memworld.specs.Devices.{outside, log_of}
use Rattle.tm_memworld.specs.State.{State, used, faulted}
use Rattle.tm_memworld.specs.World.{state, clock}
use Rattle.tm_memworld.specs.declared.devices.Devices.{Devices}
use Rattle.tm_memworld.proofs.Outcomes.{rose, never_less_same, never_less_counted, answered, blocks_spoke, says_all, says_none}
use Rattle.tm_memworld.proofs.world.MemWorldWorld.say.Goals as goal

pub returns-then-counts-clause-after_err : goal.returns-then-counts-clause-after_err
returns-then-counts-clause-after_err c = c.fail.ensures.state ∙ ap (λ s. faulted Out (used 0 (length c.args.bytes.now) s)) c.counts.ensures.state

pub returns-then-counts-clause-cause : goal.returns-then-counts-clause-cause
returns-then-counts-clause-cause c = rose Out (state c.args.self.now).faults (state c.fail.new.self).faults (ap (λ (s : State). s.faults) (returns-then-counts-clause-after_err c))

pub returns-then-counts-clause-never_less : goal.returns-then-counts-clause-never_less
returns-then-counts-clause-never_less c = never_less_counted c.counts.new.self c.fail.new.self (state c.args.self.now) c.counts.ensures.state c.fail.ensures.never_less

pub returns-clause-after_ok : goal.returns-clause-after_ok
unfolding state
returns-clause-after_ok c =
    answered c.counts.new.self c.say.new.self 0 (length c.args.bytes.now) (spoke c.args.bytes.now (outside c.args.self.now.devices)) (state c.args.self.now) c.counts.ensures.state
    (c.say.ensures.steps.ends ∙ ap (λ (d : Devices). spoke c.args.bytes.now (outside d)) c.counts.ensures.devices) c.say.ensures.places c.say.ensures.room

pub returns-clause-never_less : goal.returns-clause-never_less
returns-clause-never_less c = never_less_same (state c.args.self.now).faults _ (ap (λ (s : State). s.faults) (returns-clause-after_ok c))

pub returns-clause-blocks : goal.returns-clause-blocks
returns-clause-blocks c = blocks_spoke c.args.self.now _ c.args.bytes.now (ap (λ (s : State). s.outside) (returns-clause-after_ok c))

pub returns-then-counts-clause-says : goal.returns-then-counts-clause-says
unfolding clock
returns-then-counts-clause-says c =
    (0, tt, says_none (clock c.args.self.now) (clock c.fail.new.self) c.args.bytes.now (subst (λ d. Steps (log_of d) (log_of c.fail.new.self.devices) (outside d)) c.counts.ensures.devices c.fail.ensures.steps))

pub returns-clause-says : goal.returns-clause-says
unfolding clock
returns-clause-says c =
    (length c.args.bytes.now, refl, says_all (log_of c.args.self.now.devices) (log_of c.say.new.self) c.args.bytes.now (subst (λ d. Steps (log_of d) (log_of c.say.new.self) (spoke c.args.bytes.now (outside d))) c.counts.ensures.devices c.say.ensures.steps))
