use Rattle.std.proofs.Common.{◌++◌}
use Rattle.tm_changes.proofs.Deepening.{numbers_of, numbers_pushed, numbers_end}
use Rattle.tm_changes.proofs.moving.push_numbers.Goals as goal

pub loop-name-preserved : goal.loop-name-preserved
loop-name-preserved c = numbers_pushed c.loop-name.next.items c.push.new.self.items c.loop-name._name-iterator c.next.new.self c.in-Some._name.now c.in-Some.number.now
    (c.args.next.now.items ++ numbers_of c.args.entries.now.entries) c.in_ok-push.ensures.items c.in-Some.ensures.steps c.loop-name.invariant

pub returns : goal.returns
returns c = numbers_end c.loop-name.next.items c.loop-name._name-iterator (c.args.next.now.items ++ numbers_of c.args.entries.now.entries) c.in-None.ensures.steps.0 c.loop-name.invariant
