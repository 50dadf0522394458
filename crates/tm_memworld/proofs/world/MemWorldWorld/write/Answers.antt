use Rattle.std.proofs.Common.{◌∙◌, cond, ltb, ap, subst}
use Rattle.tm_world.specs.Disk.{written}
use Rattle.tm_world.specs.Outside.{disk, put_disk, part_of}
use Rattle.tm_world.specs.Log.{Steps}
use Rattle.tm_world.proofs.Disks.{differs-written}
use Rattle.tm_memworld.specs.Torn.{loosened}
use Rattle.tm_memworld.specs.Devices.{outside, log_of}
use Rattle.tm_memworld.specs.State.{State, used, faulted, with_outside, after_write, after_failed_write}
use Rattle.tm_memworld.specs.World.{state, clock}
use Rattle.tm_memworld.specs.declared.devices.Devices.{Devices}
use Rattle.tm_memworld.proofs.Outcomes.{rose, never_less_same, never_less_counted, answered, blocks_put, blocks_failed, failed_write, done_write}
use Rattle.tm_memworld.proofs.world.MemWorldWorld.write.Goals as goal

pub returns-then-counts-clause-after_err : goal.returns-then-counts-clause-after_err
returns-then-counts-clause-after_err c = c.fail_write.ensures.state ∙ ap (λ s. faulted (part_of c.args.side) (used 1 0 (with_outside (after_failed_write c.args.side c.args.block s) s))) c.counts.ensures.state

pub returns-then-counts-clause-cause : goal.returns-then-counts-clause-cause
returns-then-counts-clause-cause c = rose (part_of c.args.side) (state c.args.self.now).faults (state c.fail_write.new.self).faults (ap (λ (s : State). s.faults) (returns-then-counts-clause-after_err c))

pub returns-then-counts-clause-never_less : goal.returns-then-counts-clause-never_less
returns-then-counts-clause-never_less c = never_less_counted c.counts.new.self c.fail_write.new.self (state c.args.self.now) c.counts.ensures.state c.fail_write.ensures.never_less

pub returns-clause-after_ok : goal.returns-clause-after_ok
unfolding state
returns-clause-after_ok c =
    answered c.counts.new.self c.write.new.self 1 0 (after_write c.args.side c.args.block c.args.bytes.now (outside c.args.self.now.devices)) (state c.args.self.now) c.counts.ensures.state
    (c.write.ensures.steps.ends ∙ ap (λ (d : Devices). after_write c.args.side c.args.block c.args.bytes.now (outside d)) c.counts.ensures.devices) c.write.ensures.places c.write.ensures.room

pub returns-clause-never_less : goal.returns-clause-never_less
returns-clause-never_less c = never_less_same (state c.args.self.now).faults _ (ap (λ (s : State). s.faults) (returns-clause-after_ok c))

pub returns-clause-blocks : goal.returns-clause-blocks
returns-clause-blocks c = blocks_put c.args.self.now _ c.args.side (written c.args.block c.args.bytes.now (disk c.args.side (state c.args.self.now).outside)) (ap (λ (s : State). s.outside) (returns-clause-after_ok c))
    (differs-written c.args.block c.args.bytes.now (disk c.args.side (state c.args.self.now).outside)).count

pub returns-then-counts-clause-steps : goal.returns-then-counts-clause-steps
unfolding state clock
returns-then-counts-clause-steps c =
    failed_write c.args.side c.args.block c.args.bytes.now (log_of c.args.self.now.devices) (log_of c.fail_write.new.self.devices) (ltb 0 c.args.self.now.devices.room.calls)
    (subst (λ d. Steps (log_of d) (log_of c.fail_write.new.self.devices) (cond (ltb 0 d.room.calls) (put_disk c.args.side (loosened c.args.block (disk c.args.side (outside d))) (outside d)) (outside d)))
    c.counts.ensures.devices c.fail_write.ensures.steps)

pub returns-then-counts-clause-blocks : goal.returns-then-counts-clause-blocks
returns-then-counts-clause-blocks c = blocks_failed c.args.self.now c.fail_write.new.self c.args.side c.args.block (ltb 0 (state c.args.self.now).calls_left) (ap (λ (s : State). s.outside) (returns-then-counts-clause-after_err c))

pub returns-clause-steps : goal.returns-clause-steps
unfolding clock
returns-clause-steps c =
    done_write c.args.side c.args.block c.args.bytes.now (log_of c.args.self.now.devices) (log_of c.write.new.self)
    (subst (λ d. Steps (log_of d) (log_of c.write.new.self) (after_write c.args.side c.args.block c.args.bytes.now (outside d))) c.counts.ensures.devices c.write.ensures.steps)
