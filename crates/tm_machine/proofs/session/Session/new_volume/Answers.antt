use Rattle.std.proofs.Common.{Err, [], arith, ap, sym, ◌∙◌}
use Rattle.tm_world.specs.Log.{now}
use Rattle.tm_machine.proofs.Exits.{exit_is}
use Rattle.tm_machine.proofs.Resting.{store_rests}
use Rattle.tm_machine.proofs.VolumeLines.{format_does, format_fails, does_rows}
use Rattle.tm_machine.proofs.session.Session.new_volume.Goals as goal

pub returns-in_err-volume-clause-does : goal.returns-in_err-volume-clause-does
returns-in_err-volume-clause-does g c told =
    let s = c.self.inside in
    let start = g.W.World.log c.args.world.now in
    format_fails c.args.self.now s.volume_blocks s.store_blocks s.volume s.store s.moment c.in-Some.moment c.args.name.now c.args.id c.args.events start (g.W.World.log c.blank.new.world)
    c.self.view_is (sym c.is_some.ensures ∙ c.if-is_some.false) c.if-self-lt-MIN_BLOCKS.false c.in-Some.is (sym (c.is_taken.ensures (now start)) ∙ c.if-is_taken.false) (c.requires.standing told)
    (store_rests (record { volume_stands = c.standing_volume_is_left.ensures; volume_blank = c.blank_is_left.ensures; store_stands = c.held_reads.ensures; store_blank = c.blank_is_left-2.ensures }) c.args.self.now (g.W.World.blocks c.args.world.now) (now start) c.requires.open (c.requires.standing told))
    (c.blank.ensures.any_moment told) c.args.self.now c.from_residual.result c.in_err-volume.field-0.0 (exit_is c.from_residual.result c.in_err-volume.field-0.0 c.from_residual.ensures.1)
    (λ r e. absurd (omega (arith, (c.in_err-volume.ensures.refused r (ap Err e)).1, c.if-self-lt-MIN_BLOCKS.false)))

pub returns-clause-does : goal.returns-clause-does
returns-clause-does g c told =
    let s = c.self.inside in
    let start = g.W.World.log c.args.world.now in
    does_rows _ _ _ _ _ [] c.new.result
    (format_does c.args.self.now s.volume_blocks s.store_blocks s.volume s.store s.moment c.in-Some.moment c.args.name.now c.args.id c.args.events start (g.W.World.log c.blank.new.world)
    c.self.view_is (sym c.is_some.ensures ∙ c.if-is_some.false) c.if-self-lt-MIN_BLOCKS.false c.in-Some.is (sym (c.is_taken.ensures (now start)) ∙ c.if-is_taken.false) (c.requires.standing told)
    (store_rests (record { volume_stands = c.standing_volume_is_left.ensures; volume_blank = c.blank_is_left.ensures; store_stands = c.held_reads.ensures; store_blank = c.blank_is_left-2.ensures }) c.args.self.now (g.W.World.blocks c.args.world.now) (now start) c.requires.open (c.requires.standing told))
    (c.blank.ensures.any_moment told) c.in_ok-volume.volume (c.in_ok-volume.ensures.stands told) (c.in_ok-volume.ensures.new told))
    c.new.ensures
