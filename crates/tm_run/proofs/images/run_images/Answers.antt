use Rattle.std.proofs.Common.{Err, ap, subst, sym, ◌∙◌}
use Rattle.tm_machine.specs.Session.{state_on}
use Rattle.tm_machine.specs.Stops.{CanOpen, CanOpenStore}
use Rattle.tm_volume.specs.Reads.{SideReads}
use Rattle.tm_world.specs.Disk.{Image}
use Rattle.tm_world.specs.Log.{now}
use Rattle.tm_world.specs.declared.world.Side.TheVariants.{Volume as VolumeSide, Store as StoreSide}
use Rattle.tm_run.specs.declared.status.Status.TheVariants as status
use Rattle.tm_run.proofs.ImageLemmas.{OpensAs, counts_of, cut_is_memory, disks_read, disks_says, framed_lines, framed_says, gave_bad, gave_replies, is_bad, not_bad, of_store, of_volume, opened_state, opening_framed, plain_ends, plain_prefix, prefix_bad, prefix_replies, ran_on, ran_opening, reads_now, shut_opening, shut_says}
use Rattle.tm_run.proofs.SayLemmas.{said_nothing}
use Rattle.tm_run.proofs.TopLemmas.{ends_as}
use Rattle.tm_run.proofs.images.run_images.Goals as goal

pub returns-in-Ok-clause-history : goal.returns-in-Ok-clause-history
returns-in-Ok-clause-history g c told v z pair r reads unspent =
    let old = g.W.World.log c.args.world.now in
    let mid = g.W.World.log c.load.new.world in
    let new = g.W.World.log c.run_session.new.world in
    let s = state_on c.in-Ok.session (now mid) in
    let counts = counts_of v z (now old) c.args.volume_blocks c.args.store_blocks pair (g.met.W.World.counts told c.args.world.now VolumeSide ∙ c.requires.count) c.requires.small (g.met.W.World.counts told c.args.world.now StoreSide ∙ c.requires.store_count) c.requires.store_small in
    let is : OpensAs v z s = λ r reads. opened_state v z r c.args.volume_blocks c.args.store_blocks s counts (c.in-Ok.ensures.state told r (reads_now v z r (now old) pair reads)) in
    ran_on c.commits_end.ensures.last c.commits_end.ensures.opening r v.count z.count c.args.lines.now old mid new (c.load.ensures.any_moment told r (reads_now v z r (now old) pair reads)) (c.load.ensures.said told)
    s c.run_session.result (is r reads) (c.run_session.ensures.does told)

pub returns-in-Err-Bad-clause-history : goal.returns-in-Err-Bad-clause-history
returns-in-Err-Bad-clause-history g c told v z pair r reads unspent =
    let old = g.W.World.log c.args.world.now in
    let n = c.args.volume_blocks in
    let k = c.args.store_blocks in
    let counts = counts_of v z (now old) c.args.volume_blocks c.args.store_blocks pair (g.met.W.World.counts told c.args.world.now VolumeSide ∙ c.requires.count) c.requires.small (g.met.W.World.counts told c.args.world.now StoreSide ∙ c.requires.store_count) c.requires.store_small in
    let bad = is_bad v z (now old) n k g.W.World.told c.in-Err-Bad.side c.in-Err-Bad.cause c.in-Err-Bad.place pair counts (c.in-Err-Bad.ensures.bad c.in-Err-Bad.side c.in-Err-Bad.cause c.in-Err-Bad.place (ap Err c.in-Err-Bad.field-0-is)) told in
    absurd (not_bad
    (record {
      volume_is_one = c.sides_read_as_one.ensures;
      volume_fails = c.volume_fails_once.ensures.failure;
      volume_whole = c.volume_fails_once.ensures.whole;
      store_is_one = c.sides_read_as_one-2.ensures;
      store_fails = c.store_fails_once.ensures.failure;
      store_whole = c.store_fails_once.ensures.whole;
    })
    v z n k c.in-Err-Bad.side c.in-Err-Bad.cause c.in-Err-Bad.place r counts bad reads unspent)

pub returns-in-Err-Fault-clause-history : goal.returns-in-Err-Fault-clause-history
returns-in-Err-Fault-clause-history g c told v z pair r reads unspent =
    let old = g.W.World.log c.args.world.now in
    ran_opening c.commits_end.ensures.last c.commits_end.ensures.opening r v.count z.count c.plain_is_history.ensures.lines c.args.lines.now old (g.W.World.log c.load.new.world)
    (c.load.ensures.any_moment told r (reads_now v z r (now old) pair reads)) _ (λ h whole. absurd whole)

pub returns-in-Err-Memory-clause-history : goal.returns-in-Err-Memory-clause-history
returns-in-Err-Memory-clause-history g c told v z pair r reads unspent =
    let old = g.W.World.log c.args.world.now in
    ran_opening c.commits_end.ensures.last c.commits_end.ensures.opening r v.count z.count c.plain_is_history.ensures.lines c.args.lines.now old (g.W.World.log c.load.new.world)
    (c.load.ensures.any_moment told r (reads_now v z r (now old) pair reads)) _ (λ h whole. absurd whole)

pub returns-in-Ok-clause-outcome : goal.returns-in-Ok-clause-outcome
returns-in-Ok-clause-outcome g c told v z pair fits whole =
    let old = g.W.World.log c.args.world.now in
    let mid = g.W.World.log c.load.new.world in
    let new = g.W.World.log c.run_session.new.world in
    let s = state_on c.in-Ok.session (now mid) in
    let counts = counts_of v z (now old) c.args.volume_blocks c.args.store_blocks pair (g.met.W.World.counts told c.args.world.now VolumeSide ∙ c.requires.count) c.requires.small (g.met.W.World.counts told c.args.world.now StoreSide ∙ c.requires.store_count) c.requires.store_small in
    let opens = c.in-Ok.ensures.opens told in
    let can = of_volume CanOpen v z (now old) pair opens.0 in
    let also = of_store CanOpenStore v z (now old) pair opens.1 in
    let is : OpensAs v z s = λ r reads. opened_state v z r c.args.volume_blocks c.args.store_blocks s counts (c.in-Ok.ensures.state told r (reads_now v z r (now old) pair reads)) in
    let ends = plain_ends c.plain_where_fits.ensures.lines v z c.args.lines.now s can also is fits mid new c.run_session.result (c.run_session.ensures.does told) whole in
    gave_replies v z c.args.lines.now (now old) (now mid) (now new) s c.run_session.result can also is (c.load.ensures.said told) ends.0 ends.1

pub returns-in-Ok-clause-prefix : goal.returns-in-Ok-clause-prefix
returns-in-Ok-clause-prefix g c told v z pair fits =
    let old = g.W.World.log c.args.world.now in
    let mid = g.W.World.log c.load.new.world in
    let new = g.W.World.log c.run_session.new.world in
    let s = state_on c.in-Ok.session (now mid) in
    let counts = counts_of v z (now old) c.args.volume_blocks c.args.store_blocks pair (g.met.W.World.counts told c.args.world.now VolumeSide ∙ c.requires.count) c.requires.small (g.met.W.World.counts told c.args.world.now StoreSide ∙ c.requires.store_count) c.requires.store_small in
    let opens = c.in-Ok.ensures.opens told in
    let can = of_volume CanOpen v z (now old) pair opens.0 in
    let also = of_store CanOpenStore v z (now old) pair opens.1 in
    let is : OpensAs v z s = λ r reads. opened_state v z r c.args.volume_blocks c.args.store_blocks s counts (c.in-Ok.ensures.state told r (reads_now v z r (now old) pair reads)) in
    prefix_replies
    (record {
      volume_is_one = c.sides_read_as_one.ensures;
      volume_fails = c.volume_fails_once.ensures.failure;
      volume_whole = c.volume_fails_once.ensures.whole;
      store_is_one = c.sides_read_as_one-2.ensures;
      store_fails = c.store_fails_once.ensures.failure;
      store_whole = c.store_fails_once.ensures.whole;
    })
    v z c.args.volume_blocks c.args.store_blocks c.args.lines.now (now old) (now mid) (now new) s counts can also is
    (c.load.ensures.said told) (plain_prefix c.plain_where_fits.ensures.lines v z c.args.lines.now s can also is fits _ mid new (c.run_session.ensures.does told))

pub returns-in-Err-Bad-clause-outcome : goal.returns-in-Err-Bad-clause-outcome
returns-in-Err-Bad-clause-outcome g c told v z pair fits whole =
    let old = g.W.World.log c.args.world.now in
    let mid = g.W.World.log c.load.new.world in
    let new = g.W.World.log c.say_bad_image.new.world in
    let n = c.args.volume_blocks in
    let k = c.args.store_blocks in
    let counts = counts_of v z (now old) c.args.volume_blocks c.args.store_blocks pair (g.met.W.World.counts told c.args.world.now VolumeSide ∙ c.requires.count) c.requires.small (g.met.W.World.counts told c.args.world.now StoreSide ∙ c.requires.store_count) c.requires.store_small in
    let bad = is_bad v z (now old) n k g.W.World.told c.in-Err-Bad.side c.in-Err-Bad.cause c.in-Err-Bad.place pair counts (c.in-Err-Bad.ensures.bad c.in-Err-Bad.side c.in-Err-Bad.cause c.in-Err-Bad.place (ap Err c.in-Err-Bad.field-0-is)) told in
    let is = ends_as _ _ c.say_bad_image.ensures.status whole in
    gave_bad v z c.args.lines.now (now old) (now mid) (now new) c.in-Err-Bad.side c.in-Err-Bad.cause c.in-Err-Bad.place c.say_bad_image.result bad (c.load.ensures.said told) is (c.say_bad_image.ensures.said told is)

pub returns-in-Err-Bad-clause-prefix : goal.returns-in-Err-Bad-clause-prefix
returns-in-Err-Bad-clause-prefix g c told v z pair fits =
    let old = g.W.World.log c.args.world.now in
    let mid = g.W.World.log c.load.new.world in
    let new = g.W.World.log c.say_bad_image.new.world in
    let n = c.args.volume_blocks in
    let k = c.args.store_blocks in
    let counts = counts_of v z (now old) c.args.volume_blocks c.args.store_blocks pair (g.met.W.World.counts told c.args.world.now VolumeSide ∙ c.requires.count) c.requires.small (g.met.W.World.counts told c.args.world.now StoreSide ∙ c.requires.store_count) c.requires.store_small in
    let bad = is_bad v z (now old) n k g.W.World.told c.in-Err-Bad.side c.in-Err-Bad.cause c.in-Err-Bad.place pair counts (c.in-Err-Bad.ensures.bad c.in-Err-Bad.side c.in-Err-Bad.cause c.in-Err-Bad.place (ap Err c.in-Err-Bad.field-0-is)) told in
    prefix_bad
    (record {
      volume_is_one = c.sides_read_as_one.ensures;
      volume_fails = c.volume_fails_once.ensures.failure;
      volume_whole = c.volume_fails_once.ensures.whole;
      store_is_one = c.sides_read_as_one-2.ensures;
      store_fails = c.store_fails_once.ensures.failure;
      store_whole = c.store_fails_once.ensures.whole;
    })
    v z n k c.args.lines.now (now old) (now mid) (now new) c.in-Err-Bad.side c.in-Err-Bad.cause c.in-Err-Bad.place counts bad (c.load.ensures.said told) (c.say_bad_image.ensures.cut told)

pub returns-in-Err-Fault-clause-prefix : goal.returns-in-Err-Fault-clause-prefix
returns-in-Err-Fault-clause-prefix g c told v z pair fits status text ran = said_nothing text _ _ (c.load.ensures.said told)

pub returns-in-Err-Memory-clause-prefix : goal.returns-in-Err-Memory-clause-prefix
returns-in-Err-Memory-clause-prefix g c told v z pair fits status text ran = said_nothing text _ _ (c.load.ensures.said told)

pub returns-in-Ok-clause-framed : goal.returns-in-Ok-clause-framed
returns-in-Ok-clause-framed g c told =
    let old = g.W.World.log c.args.world.now in
    let mid = g.W.World.log c.load.new.world in
    let did = c.run_session.ensures.does told in
    framed_lines old mid (g.W.World.log c.run_session.new.world) _ did.done (opening_framed old mid (c.load.ensures.alone told)) did.moments

pub returns-in-Err-Bad-clause-framed : goal.returns-in-Err-Bad-clause-framed
returns-in-Err-Bad-clause-framed g c told =
    let old = g.W.World.log c.args.world.now in
    let mid = g.W.World.log c.load.new.world in
    framed_says old mid (g.W.World.log c.say_bad_image.new.world) _ (opening_framed old mid (c.load.ensures.alone told)) (c.say_bad_image.ensures.any_moment told)

pub returns-in-Err-Fault-clause-framed : goal.returns-in-Err-Fault-clause-framed
returns-in-Err-Fault-clause-framed g c told = opening_framed (g.W.World.log c.args.world.now) (g.W.World.log c.load.new.world) (c.load.ensures.alone told)

pub returns-in-Err-Memory-clause-framed : goal.returns-in-Err-Memory-clause-framed
returns-in-Err-Memory-clause-framed g c told = opening_framed (g.W.World.log c.args.world.now) (g.W.World.log c.load.new.world) (c.load.ensures.alone told)

pub returns-in-Ok-clause-shut_volume : goal.returns-in-Ok-clause-shut_volume
returns-in-Ok-clause-shut_volume g c told v z pair shut = absurd (shut (of_volume CanOpen v z (now (g.W.World.log c.args.world.now)) pair (c.in-Ok.ensures.opens told).0))

pub returns-in-Err-Bad-clause-shut_volume : goal.returns-in-Err-Bad-clause-shut_volume
returns-in-Err-Bad-clause-shut_volume g c told v z pair shut =
    let old = g.W.World.log c.args.world.now in
    let mid = g.W.World.log c.load.new.world in
    disks_says old mid (g.W.World.log c.say_bad_image.new.world) _ (c.load.ensures.shut told (λ can. shut (of_volume CanOpen v z (now old) pair can))) (c.say_bad_image.ensures.any_moment told)

pub returns-in-Err-Fault-clause-shut_volume : goal.returns-in-Err-Fault-clause-shut_volume
returns-in-Err-Fault-clause-shut_volume g c told v z pair shut =
    let old = g.W.World.log c.args.world.now in
    disks_read old (g.W.World.log c.load.new.world) (c.load.ensures.shut told (λ can. shut (of_volume CanOpen v z (now old) pair can)))

pub returns-in-Err-Memory-clause-shut_volume : goal.returns-in-Err-Memory-clause-shut_volume
returns-in-Err-Memory-clause-shut_volume g c told v z pair shut =
    let old = g.W.World.log c.args.world.now in
    disks_read old (g.W.World.log c.load.new.world) (c.load.ensures.shut told (λ can. shut (of_volume CanOpen v z (now old) pair can)))

pub returns-in-Ok-clause-shut_store : goal.returns-in-Ok-clause-shut_store
returns-in-Ok-clause-shut_store g c told v z pair r reads shut = absurd (shut (of_store CanOpenStore v z (now (g.W.World.log c.args.world.now)) pair (c.in-Ok.ensures.opens told).1))

pub returns-in-Err-Bad-clause-shut_store : goal.returns-in-Err-Bad-clause-shut_store
returns-in-Err-Bad-clause-shut_store g c told v z pair r reads shut =
    let old = g.W.World.log c.args.world.now in
    let mid = g.W.World.log c.load.new.world in
    let here = subst (λ (u : Image). SideReads u r) (sym pair.volume_is) reads in
    shut_says r old mid (c.requires.settled told) here (c.load.ensures.alone told) (c.load.ensures.begun told r here) (c.load.ensures.blank told) (g.W.World.log c.say_bad_image.new.world) _ (c.say_bad_image.ensures.any_moment told)

pub returns-in-Err-Fault-clause-shut_store : goal.returns-in-Err-Fault-clause-shut_store
returns-in-Err-Fault-clause-shut_store g c told v z pair r reads shut =
    let old = g.W.World.log c.args.world.now in
    let here = subst (λ (u : Image). SideReads u r) (sym pair.volume_is) reads in
    shut_opening r old (g.W.World.log c.load.new.world) (c.requires.settled told) here (c.load.ensures.alone told) (c.load.ensures.begun told r here) (c.load.ensures.blank told)

pub returns-in-Err-Memory-clause-shut_store : goal.returns-in-Err-Memory-clause-shut_store
returns-in-Err-Memory-clause-shut_store g c told v z pair r reads shut =
    let old = g.W.World.log c.args.world.now in
    let here = subst (λ (u : Image). SideReads u r) (sym pair.volume_is) reads in
    shut_opening r old (g.W.World.log c.load.new.world) (c.requires.settled told) here (c.load.ensures.alone told) (c.load.ensures.begun told r here) (c.load.ensures.blank told)

pub returns-in-Ok-clause-silent : goal.returns-in-Ok-clause-silent
returns-in-Ok-clause-silent g c told v z pair shut cut =
    let old = now (g.W.World.log c.args.world.now) in
    absurd (shut (of_volume CanOpen v z old pair (c.in-Ok.ensures.opens told).0) (of_store CanOpenStore v z old pair (c.in-Ok.ensures.opens told).1))

pub returns-in-Err-Bad-clause-silent : goal.returns-in-Err-Bad-clause-silent
returns-in-Err-Bad-clause-silent g c told v z pair shut cut =
    cut_is_memory (status.BadImage c.in-Err-Bad.side c.in-Err-Bad.cause c.in-Err-Bad.place) c.say_bad_image.result (λ h. h) c.say_bad_image.ensures.status (λ is. c.say_bad_image.ensures.silent told is ∙ c.load.ensures.said told) cut
