use Rattle.std.proofs.Common.{◌≡◌, ◌∙◌, true, false, ltb, sym, ap, rules, tests}
use Rattle.std.proofs.lemmas.Bool.{cond-true, cond-false}
use Rattle.tm_world.specs.Outside.{disk, put_disk, part_of}
use Rattle.tm_memworld.specs.Torn.{loosened}
use Rattle.tm_world.specs.Counts.{count_of, raised}
use Rattle.tm_memworld.specs.Devices.{outside}
use Rattle.tm_memworld.specs.State.{used, faulted, with_outside}
use Rattle.tm_memworld.specs.World.{state}
use Rattle.tm_memworld.proofs.world.MemWorld.fail_write.Goals as goal

pub returns-clause-state : goal.returns-clause-state
unfolding state
returns-clause-state c =
    let w = c.args.self.now in
    let some : ltb 0 w.devices.room.calls ≡ true = search (rules, tests) in
    λ i. record {
      outside = (c.loosen.ensures.steps.ends ∙ sym (cond-true _ (put_disk c.args.side (loosened c.args.block (disk c.args.side (outside w.devices))) (outside w.devices)) (outside w.devices) some)) i;
      places = c.loosen.ensures.places i;
      made = w.plan.made;
      failing = w.plan.failing.items;
      fuse = w.plan.fuse;
      calls_left = (c.loosen.ensures.room i).calls;
      writes_left = (c.loosen.ensures.room i).writes;
      said_left = (c.loosen.ensures.room i).said;
      faults = (c.raise.ensures.raised ∙ ap (λ p. raised p (count_of w.faults)) c.part-2.ensures) i;
    }

pub returns-then-room-eq0-clause-state : goal.returns-then-room-eq0-clause-state
unfolding state
returns-then-room-eq0-clause-state c =
    let w = c.args.self.now in
    let none : ltb 0 w.devices.room.calls ≡ false = search (rules, tests) in
    c.fail.ensures.state ∙ ap (λ p. faulted p (used 1 0 (state w))) c.part.ensures
    ∙ ap (λ o. faulted (part_of c.args.side) (used 1 0 (with_outside o (state w))))
    (sym (cond-false _ (put_disk c.args.side (loosened c.args.block (disk c.args.side (outside w.devices))) (outside w.devices)) (outside w.devices) none))
