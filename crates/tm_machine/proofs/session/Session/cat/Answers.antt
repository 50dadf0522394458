use Rattle.std.proofs.Common.{[], Option}
use Rattle.std.specs.Option.{option_map_or}
use Rattle.tm_base.specs.declared.refused.LineFault.TheVariants.{Refused as RefusedFor}
use Rattle.tm_volume.specs.Stored.{StoredVolume}
use Rattle.tm_world.specs.Log.{now}
use Rattle.tm_machine.specs.Queries.{content_rows}
use Rattle.tm_machine.specs.Steps.{content_tests}
use Rattle.tm_machine.proofs.Exits.{exit_is}
use Rattle.tm_machine.proofs.QueryLines.{no_volume_reading, volume_reading}
use Rattle.tm_machine.proofs.session.Session.cat.Goals as goal

pub returns-in_err-volume-clause-answer : goal.returns-in_err-volume-clause-answer
returns-in_err-volume-clause-answer g c told =
    let none = c.in_err-volume.ensures.none in
    let why = c.in_err-volume.field-0.0 in
    no_volume_reading (λ v. content_tests v.volume.contents.tree c.args.path.now) (λ (s : Option StoredVolume). option_map_or (λ v. content_rows v.volume.contents.tree c.args.path.now) s []) c.args.self.now
    (now (g.W.World.log c.args.world.now)) why c.from_residual.result none.0 none.1 (exit_is c.from_residual.result (RefusedFor why) c.from_residual.ensures.1)

pub returns-clause-answer : goal.returns-clause-answer
returns-clause-answer g c told =
    volume_reading (λ v. content_tests v.volume.contents.tree c.args.path.now) (λ (s : Option StoredVolume). option_map_or (λ v. content_rows v.volume.contents.tree c.args.path.now) s []) c.args.self.now
    c.in_ok-volume.volume.now (now (g.W.World.log c.args.world.now)) c.show_contents.result c.in_ok-volume.ensures.volume (c.show_contents.ensures.answer told)
