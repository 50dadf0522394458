use Rattle.tm_world.specs.Log.{now}
use Rattle.tm_world.proofs.Going.{Passes-then}
use Rattle.tm_run.specs.Moments.{IsFinding}
use Rattle.tm_run.proofs.pair.open_pair.Goals as goal

pub returns-in_err-sync_pair-clause-any_moment : goal.returns-in_err-sync_pair-clause-any_moment
returns-in_err-sync_pair-clause-any_moment g c told =
    let old = g.W.World.log c.args.world.now in
    let mid = g.W.World.log c.attach_pair.new.world in
    let p = c.args.command.volume.now in
    let q = c.args.command.store.now in
    let create = c.args.command.create in
    Passes-then old mid (g.W.World.log c.sync_pair.new.world) (IsFinding p q create (now old)) (c.attach_pair.ensures.any_moment told)
    (c.sync_pair.ensures.any_moment told p q create (now old) (c.in_ok-blocks.ensures.attached told))

pub returns-clause-any_moment : goal.returns-clause-any_moment
returns-clause-any_moment g c told =
    let old = g.W.World.log c.args.world.now in
    let mid = g.W.World.log c.attach_pair.new.world in
    let p = c.args.command.volume.now in
    let q = c.args.command.store.now in
    let create = c.args.command.create in
    Passes-then old mid (g.W.World.log c.sync_pair.new.world) (IsFinding p q create (now old)) (c.attach_pair.ensures.any_moment told)
    (c.sync_pair.ensures.any_moment told p q create (now old) (c.in_ok-blocks.ensures.attached told))

pub returns-clause-attached : goal.returns-clause-attached
returns-clause-attached g c told =
    c.in_ok-sync_pair.ensures.attached told c.args.command.volume.now c.args.command.store.now c.args.command.create (now (g.W.World.log c.args.world.now)) (c.in_ok-blocks.ensures.attached told)
