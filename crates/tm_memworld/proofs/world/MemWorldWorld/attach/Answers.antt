use Rattle.std.proofs.Common.{◌≡◌, ◌∙◌, sym, ap, arith}
use Rattle.tm_world.specs.Outside.{attached, attached_count}
use Rattle.tm_world.specs.Log.{now}
use Rattle.tm_memworld.specs.State.{State, used, faulted, with_outside}
use Rattle.tm_memworld.specs.World.{state, clock, shows_now}
use Rattle.tm_memworld.proofs.Outcomes.{rose, attached_count-part_of, never_less_same, never_less_counted}
use Rattle.tm_memworld.proofs.world.MemWorldWorld.attach.Goals as goal

pub returns-then-counts-clause-after_err : goal.returns-then-counts-clause-after_err
returns-then-counts-clause-after_err c = c.fail.ensures.state ∙ ap (λ s. faulted c.args.part (used 0 0 s)) c.counts.ensures.state

pub returns-then-counts-clause-cause : goal.returns-then-counts-clause-cause
returns-then-counts-clause-cause c = rose c.args.part (state c.args.self.now).faults (state c.fail.new.self).faults (ap (λ (s : State). s.faults) (returns-then-counts-clause-after_err c))

pub returns-then-counts-clause-never_less : goal.returns-then-counts-clause-never_less
returns-then-counts-clause-never_less c = never_less_counted c.counts.new.self c.fail.new.self (state c.args.self.now) c.counts.ensures.state c.fail.ensures.never_less

pub returns-in_default-clause-after_err : goal.returns-in_default-clause-after_err
unfolding state
returns-in_default-clause-after_err c =
    let mid = c.counts.new.self in
    let opened = c.attach_part.new.self in
    let raised_is : state (record opened { faults = c.raise.new.self }) ≡ faulted c.args.part (state opened) = λ i. record (state opened) { faults = c.raise.ensures.raised i } in
    raised_is ∙ ap (faulted c.args.part) (c.attach_part.ensures.state
    ∙ ap (λ o. used 0 0 (with_outside o (state mid))) (c.in_default.ensures.stays.ends ∙ shows_now mid) ∙ ap (used 0 0) c.counts.ensures.state)

pub returns-in_default-clause-cause : goal.returns-in_default-clause-cause
returns-in_default-clause-cause c = rose c.args.part (state c.args.self.now).faults _ (ap (λ (s : State). s.faults) (returns-in_default-clause-after_err c))

pub returns-in_default-clause-never_less : goal.returns-in_default-clause-never_less
unfolding state
returns-in_default-clause-never_less c = λ part.
    let same : (state c.attach_part.new.self).faults part ≡ (state c.args.self.now).faults part = ap (λ (s : State). s.faults part) (c.attach_part.ensures.state ∙ ap (λ s. used 0 0 (with_outside (now (clock c.attach_part.new.self)) s)) c.counts.ensures.state) in
    omega (arith, c.raise.ensures.never_less part)

pub returns-clause-after_ok : goal.returns-clause-after_ok
returns-clause-after_ok c =
    let mid = c.counts.new.self in
    c.attach_part.ensures.state
    ∙ ap (λ o. used 0 0 (with_outside o (state mid))) (c.in-Some.ensures.ok.ends ∙ (λ i. attached c.args.part (c.as_bytes.ensures.value i) c.args.create (shows_now mid i)))
    ∙ ap (λ s. used 0 0 (with_outside (attached c.args.part c.args.path.now c.args.create s.outside) s)) c.counts.ensures.state

pub returns-clause-never_less : goal.returns-clause-never_less
returns-clause-never_less c = never_less_same (state c.args.self.now).faults (state c.attach_part.new.self).faults (ap (λ (s : State). s.faults) (returns-clause-after_ok c))

pub returns-clause-blocks : goal.returns-clause-blocks
returns-clause-blocks c = λ side is.
    let new = c.attach_part.new.self in
    attached_count-part_of side (state new).outside ∙ ap (λ p. attached_count p (state new).outside) is ∙ ap (attached_count c.args.part) (sym (shows_now new)) ∙ sym c.in-Some.ensures.count
