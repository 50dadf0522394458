use Rattle.std.proofs.Common.{None, ◌∙◌, sym, ap}
use Rattle.tm_world.specs.Disk.{Disk}
use Rattle.tm_world.specs.Outside.{Outside, disk, attached_count}
use Rattle.tm_world.specs.declared.world.Side.TheVariants.{Volume, Store}
use Rattle.tm_world.proofs.Keeping.{attach_script_keeps}
use Rattle.tm_memworld.specs.Devices.{outside}
use Rattle.tm_memworld.specs.World.{state, clock}
use Rattle.tm_memworld.proofs.Outcomes.{count_shown, attached_count-script}
use Rattle.tm_memworld.proofs.world.MemWorld.attach_part.Goals as goal

pub returns-in-Volume-clause-count : goal.returns-in-Volume-clause-count
unfolding clock
returns-in-Volume-clause-count c = count_shown c.attach.result Volume c.args.part (outside c.attach.new.self) c.in-Volume.is c.attach.ensures.count

pub returns-in-Store-clause-count : goal.returns-in-Store-clause-count
unfolding clock
returns-in-Store-clause-count c = count_shown c.attach-in-Store.result Store c.args.part (outside c.attach-in-Store.new.self) c.in-Store.is c.attach-in-Store.ensures.count

pub returns-then-attach_script-clause-count : goal.returns-then-attach_script-clause-count
unfolding clock
returns-then-attach_script-clause-count c = attached_count-script (outside c.attach_script.new.self) ∙ ap (λ p. attached_count p (outside c.attach_script.new.self)) (sym c.in-Script.is)

pub returns-then-attach_script-clause-other : goal.returns-then-attach_script-clause-other
unfolding state
returns-then-attach_script-clause-other c = λ side ne.
    let old = outside c.args.self.now.devices in
    let kept = attach_script_keeps c.args.path.now None old in
    ap (λ (s : Outside). (disk side s).count) (c.if-attach_script.ensures.steps None).ends ∙ ap (λ (d : Disk). d.count) (kept.0.sides side).disk_same
