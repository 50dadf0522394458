use Rattle.std.proofs.Common.{ap, sym, subst, ◌∙◌}
use Rattle.tm_world.specs.Disk.{synced}
use Rattle.tm_world.specs.Log.{now}
use Rattle.tm_world.specs.Outside.{Outside, disk, put_disk}
use Rattle.tm_world.specs.declared.world.Side.TheVariants.{Volume as VolumeSide, Store as StoreSide}
use Rattle.tm_world.proofs.Going.{Passes-then}
use Rattle.tm_run.specs.Moments.{IsFinding}
use Rattle.tm_run.proofs.FindingLemmas.{finding_steps, finding_then, store_synced_at, sync_store, sync_volume, volume_synced_at}
use Rattle.tm_run.proofs.PairLemmas.{pair_synced, said_put}
use Rattle.tm_run.proofs.pair.sync_pair.Goals as goal

pub returns-in-Ok-sync-clause-pair : goal.returns-in-Ok-sync-clause-pair
returns-in-Ok-sync-clause-pair g c told v z pair =
    pair_synced v z (now (g.W.World.log c.args.world.now)) (now (g.W.World.log c.sync.new.self)) (now (g.W.World.log c.sync-2.new.self)) pair (c.in-Ok.ensures.ok told).ends (c.in-Ok-sync.ensures.ok told).ends

pub returns-in-Ok-sync-clause-said : goal.returns-in-Ok-sync-clause-said
returns-in-Ok-sync-clause-said g c told =
    ap (λ (s : Outside). s.said) (c.in-Ok-sync.ensures.ok told).ends ∙ (said_put (now (g.W.World.log c.sync.new.self)) _).1
    ∙ ap (λ (s : Outside). s.said) (c.in-Ok.ensures.ok told).ends ∙ (said_put (now (g.W.World.log c.args.world.now)) _).0

pub returns-in-Err-sync-clause-said : goal.returns-in-Err-sync-clause-said
returns-in-Err-sync-clause-said g c told =
    ap (λ (s : Outside). s.said) (c.in-Err-sync.ensures.err told).ends
    ∙ ap (λ (s : Outside). s.said) (c.in-Ok.ensures.ok told).ends ∙ (said_put (now (g.W.World.log c.args.world.now)) _).0

pub returns-in-Err-clause-any_moment : goal.returns-in-Err-clause-any_moment
returns-in-Err-clause-any_moment g c told p q create start at =
    let old = g.W.World.log c.args.world.now in
    finding_steps p q create start old (g.W.World.log c.sync.new.self) (now old) (c.in-Err.ensures.err told) at.found

pub returns-in-Err-sync-clause-any_moment : goal.returns-in-Err-sync-clause-any_moment
returns-in-Err-sync-clause-any_moment g c told p q create start at =
    let old = g.W.World.log c.args.world.now in
    let mid = g.W.World.log c.sync.new.self in
    let new = g.W.World.log c.sync-2.new.self in
    let after = put_disk VolumeSide (synced (disk VolumeSide (now old))) (now old) in
    let fine = finding_then p q create start (now old) after at.found (sync_volume p q create start (now old) at) in
    Passes-then old mid new (IsFinding p q create start) (finding_steps p q create start old mid after (c.in-Ok.ensures.ok told) fine)
    (finding_steps p q create start mid new (now mid) (c.in-Err-sync.ensures.err told) (subst (IsFinding p q create start) (sym (c.in-Ok.ensures.ok told).ends) fine))

pub returns-in-Ok-sync-clause-any_moment : goal.returns-in-Ok-sync-clause-any_moment
returns-in-Ok-sync-clause-any_moment g c told p q create start at =
    let old = g.W.World.log c.args.world.now in
    let mid = g.W.World.log c.sync.new.self in
    let new = g.W.World.log c.sync-2.new.self in
    let after = put_disk VolumeSide (synced (disk VolumeSide (now old))) (now old) in
    let fine = finding_then p q create start (now old) after at.found (sync_volume p q create start (now old) at) in
    let mid_at = volume_synced_at p q create start (now old) (now mid) at (c.in-Ok.ensures.ok told).ends in
    Passes-then old mid new (IsFinding p q create start) (finding_steps p q create start old mid after (c.in-Ok.ensures.ok told) fine)
    (finding_steps p q create start mid new _ (c.in-Ok-sync.ensures.ok told) (finding_then p q create start (now mid) (put_disk StoreSide (synced (disk StoreSide (now mid))) (now mid)) mid_at.found (sync_store p q create start (now mid) mid_at)))

pub returns-in-Ok-sync-clause-attached : goal.returns-in-Ok-sync-clause-attached
returns-in-Ok-sync-clause-attached g c told p q create start at =
    let old = g.W.World.log c.args.world.now in
    let mid = g.W.World.log c.sync.new.self in
    let new = g.W.World.log c.sync-2.new.self in
    let mid_at = volume_synced_at p q create start (now old) (now mid) at (c.in-Ok.ensures.ok told).ends in
    store_synced_at p q create start (now mid) (now new) mid_at (c.in-Ok-sync.ensures.ok told).ends
