use Rattle.std.proofs.Common.{Ok, Err, []}
use Rattle.tm_world.specs.Log.{now}
use Rattle.tm_world.specs.declared.world.Side.TheVariants.{Volume as VolumeSide}
use Rattle.tm_machine.proofs.Resting.{store_rests}
use Rattle.tm_machine.proofs.VolumeLines.{change_does, change_open, does_rows}
use Rattle.tm_machine.proofs.session.Session.change.Goals as goal

pub returns-in-Err-clause-does : goal.returns-in-Err-clause-does
returns-in-Err-clause-does g c told =
    let s = c.self.inside in
    let start = g.W.World.log c.args.world.now in
    change_does c.args.self.now s.volume_blocks s.store_blocks (g.W.World.blocks c.args.world.now VolumeSide) s.volume c.in-Some.volume c.change.new.volume s.store s.moment c.args.change.now start (g.W.World.log c.change.new.world) (Err c.in-Err.why)
    c.self.view_is c.in-Some.is c.requires.open.count (c.requires.standing told)
    (store_rests (record { volume_stands = c.standing_volume_is_left.ensures; volume_blank = c.blank_is_left.ensures; store_stands = c.held_reads.ensures; store_blank = c.blank_is_left-2.ensures }) c.args.self.now (g.W.World.blocks c.args.world.now) (now start) c.requires.open (c.requires.standing told))
    (c.in-Err.ensures.answer told) (c.in-Err.ensures.stands told) (c.change.ensures.any_moment told)

pub returns-in-Err-clause-open : goal.returns-in-Err-clause-open
returns-in-Err-clause-open g c =
    let s = c.self.inside in
    change_open c.args.self.now s.volume_blocks s.store_blocks s.volume c.in-Some.volume c.change.new.volume s.store s.moment (g.W.World.blocks c.args.world.now) (g.W.World.blocks c.change.new.world) (Err c.in-Err.why)
    c.self.view_is c.requires.open c.change.ensures.blocks c.info.ensures.kept c.in-Err.ensures.ready

pub returns-clause-does : goal.returns-clause-does
returns-clause-does g c told =
    let s = c.self.inside in
    let start = g.W.World.log c.args.world.now in
    does_rows _ _ _ _ _ [] c.new.result
    (change_does c.args.self.now s.volume_blocks s.store_blocks (g.W.World.blocks c.args.world.now VolumeSide) s.volume c.in-Some.volume c.change.new.volume s.store s.moment c.args.change.now start (g.W.World.log c.change.new.world) (Ok c.in-Ok.touches)
    c.self.view_is c.in-Some.is c.requires.open.count (c.requires.standing told)
    (store_rests (record { volume_stands = c.standing_volume_is_left.ensures; volume_blank = c.blank_is_left.ensures; store_stands = c.held_reads.ensures; store_blank = c.blank_is_left-2.ensures }) c.args.self.now (g.W.World.blocks c.args.world.now) (now start) c.requires.open (c.requires.standing told))
    (c.in-Ok.ensures.answer told) (c.in-Ok.ensures.stands told) (c.change.ensures.any_moment told))
    c.new.ensures
