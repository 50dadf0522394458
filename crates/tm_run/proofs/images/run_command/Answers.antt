use Rattle.std.proofs.Common.{◌∙◌}
use Rattle.tm_world.specs.Log.{now}
use Rattle.tm_world.specs.Torn.{as_read}
use Rattle.tm_run.specs.Pairs.{found}
use Rattle.tm_run.proofs.ImageLemmas.{gave_later}
use Rattle.tm_run.proofs.PathLemmas.{none_beside, none_elsewhere, none_shut, ran_beside, ran_elsewhere, ran_none, ran_over, ran_shut}
use Rattle.tm_run.proofs.SayLemmas.{prefix_after, said_nothing}
use Rattle.tm_run.proofs.images.run_command.Goals as goal

pub returns-clause-history : goal.returns-clause-history
returns-clause-history g c told r reads unspent =
    let old = g.W.World.log c.args.world.now in
    let mid = g.W.World.log c.open_pair.new.world in
    let new = g.W.World.log c.run_images.new.world in
    let p = c.args.command.volume.now in
    let q = c.args.command.store.now in
    let create = c.args.command.create in
    let v = as_read (found c.args.command.volume.now c.args.command.create (now old)) in
    let z = as_read (found c.args.command.store.now c.args.command.create (now old)) in
    ran_over p q create old mid new (c.open_pair.ensures.any_moment told) (c.in-Ok.ensures.attached told) c.commits_end.ensures.opening c.args.lines.now v.count z.count r c.run_images.result
    (c.run_images.ensures.history told v z (c.in-Ok.ensures.pair told) r reads unspent)

pub returns-in-Err-clause-history : goal.returns-in-Err-clause-history
returns-in-Err-clause-history g c told r reads unspent =
    let old = g.W.World.log c.args.world.now in
    let new = g.W.World.log c.open_pair.new.world in
    let p = c.args.command.volume.now in
    let q = c.args.command.store.now in
    let create = c.args.command.create in
    let v = as_read (found c.args.command.volume.now c.args.command.create (now old)) in
    let z = as_read (found c.args.command.store.now c.args.command.create (now old)) in
    ran_none p q create old new (c.open_pair.ensures.any_moment told) c.plain_is_history.ensures.history c.args.lines.now v.count z.count r _ (λ whole. whole)

pub returns-clause-outcome : goal.returns-clause-outcome
returns-clause-outcome g c told fits whole =
    let old = g.W.World.log c.args.world.now in
    let mid = g.W.World.log c.open_pair.new.world in
    let new = g.W.World.log c.run_images.new.world in
    let v = as_read (found c.args.command.volume.now c.args.command.create (now old)) in
    let z = as_read (found c.args.command.store.now c.args.command.create (now old)) in
    gave_later v z c.args.lines.now (now old) (now mid) (now new) c.run_images.result (c.open_pair.ensures.said told)
    (c.run_images.ensures.outcome told v z (c.in-Ok.ensures.pair told) fits whole)

pub returns-clause-prefix : goal.returns-clause-prefix
returns-clause-prefix g c told fits status text ran =
    let old = g.W.World.log c.args.world.now in
    let mid = g.W.World.log c.open_pair.new.world in
    let new = g.W.World.log c.run_images.new.world in
    let v = as_read (found c.args.command.volume.now c.args.command.create (now old)) in
    let z = as_read (found c.args.command.store.now c.args.command.create (now old)) in
    prefix_after text (now old) (now mid) (now new) (c.open_pair.ensures.said told)
    (c.run_images.ensures.prefix told v z (c.in-Ok.ensures.pair told) fits status text ran)

pub returns-in-Err-clause-prefix : goal.returns-in-Err-clause-prefix
returns-in-Err-clause-prefix g c told fits status text ran = said_nothing text _ _ (c.open_pair.ensures.said told)

pub returns-clause-elsewhere : goal.returns-clause-elsewhere
returns-clause-elsewhere g c told =
    let old = g.W.World.log c.args.world.now in
    let mid = g.W.World.log c.open_pair.new.world in
    let new = g.W.World.log c.run_images.new.world in
    let p = c.args.command.volume.now in
    let q = c.args.command.store.now in
    let create = c.args.command.create in
    ran_elsewhere p q create old mid new (c.open_pair.ensures.any_moment told) (c.in-Ok.ensures.attached told) (c.run_images.ensures.framed told)

pub returns-in-Err-clause-elsewhere : goal.returns-in-Err-clause-elsewhere
returns-in-Err-clause-elsewhere g c told =
    let old = g.W.World.log c.args.world.now in
    let new = g.W.World.log c.open_pair.new.world in
    let p = c.args.command.volume.now in
    let q = c.args.command.store.now in
    let create = c.args.command.create in
    none_elsewhere p q create old new (c.open_pair.ensures.any_moment told)

pub returns-clause-shut_volume : goal.returns-clause-shut_volume
returns-clause-shut_volume g c told shut =
    let old = g.W.World.log c.args.world.now in
    let mid = g.W.World.log c.open_pair.new.world in
    let new = g.W.World.log c.run_images.new.world in
    let p = c.args.command.volume.now in
    let q = c.args.command.store.now in
    let create = c.args.command.create in
    let v = as_read (found c.args.command.volume.now c.args.command.create (now old)) in
    let z = as_read (found c.args.command.store.now c.args.command.create (now old)) in
    ran_shut p q create old mid new (c.open_pair.ensures.any_moment told) (c.in-Ok.ensures.attached told) (c.run_images.ensures.framed told)
    (c.run_images.ensures.shut_volume told v z (c.in-Ok.ensures.pair told) shut)

pub returns-in-Err-clause-shut_volume : goal.returns-in-Err-clause-shut_volume
returns-in-Err-clause-shut_volume g c told shut =
    let old = g.W.World.log c.args.world.now in
    let new = g.W.World.log c.open_pair.new.world in
    let p = c.args.command.volume.now in
    let q = c.args.command.store.now in
    let create = c.args.command.create in
    none_shut p q create old new (c.open_pair.ensures.any_moment told)

pub returns-clause-shut_store : goal.returns-clause-shut_store
returns-clause-shut_store g c told r reads shut =
    let old = g.W.World.log c.args.world.now in
    let mid = g.W.World.log c.open_pair.new.world in
    let new = g.W.World.log c.run_images.new.world in
    let p = c.args.command.volume.now in
    let q = c.args.command.store.now in
    let create = c.args.command.create in
    let v = as_read (found c.args.command.volume.now c.args.command.create (now old)) in
    let z = as_read (found c.args.command.store.now c.args.command.create (now old)) in
    ran_beside p q create old mid new (c.open_pair.ensures.any_moment told) (c.in-Ok.ensures.attached told) r (c.run_images.ensures.framed told)
    (c.run_images.ensures.shut_store told v z (c.in-Ok.ensures.pair told) r reads shut)

pub returns-in-Err-clause-shut_store : goal.returns-in-Err-clause-shut_store
returns-in-Err-clause-shut_store g c told r reads shut =
    let old = g.W.World.log c.args.world.now in
    let new = g.W.World.log c.open_pair.new.world in
    let p = c.args.command.volume.now in
    let q = c.args.command.store.now in
    let create = c.args.command.create in
    none_beside p q create old new (c.open_pair.ensures.any_moment told) r

pub returns-clause-silent : goal.returns-clause-silent
returns-clause-silent g c told shut cut =
    let old = g.W.World.log c.args.world.now in
    let v = as_read (found c.args.command.volume.now c.args.command.create (now old)) in
    let z = as_read (found c.args.command.store.now c.args.command.create (now old)) in
    c.run_images.ensures.silent told v z (c.in-Ok.ensures.pair told) shut cut ∙ c.open_pair.ensures.said told
