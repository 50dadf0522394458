use Rattle.std.proofs.Common.{ap, sym, ◌∙◌}
use Rattle.tm_world.specs.Outside.{disk}
use Rattle.tm_world.specs.declared.world.Side.TheVariants.{Volume as VolumeSide}
use Rattle.tm_machine.specs.Session.{Seen}
use Rattle.tm_machine.proofs.QueryLines.{list_answer}
use Rattle.tm_machine.proofs.session.Session.ls.Goals as goal

pub returns-clause-answer : goal.returns-clause-answer
returns-clause-answer c o =
    list_answer c.args.self.now c.in-Some.volume o c.args.path.now c.show_item.result
    (sym (ap (λ (m : Seen). m.volume) c.self.view_is) ∙ c.in-Some.is) (c.show_item.ensures.answer (disk VolumeSide o).bytes)
