use Rattle.std.proofs.Common.{◌≡◌, ℕ, false, Err, ap, sym, subst}
use Rattle.tm_machine.specs.declared.session.SessionError.TheVariants.{Bad}
use Rattle.tm_store.specs.Sides.{StoreSideReads}
use Rattle.tm_world.specs.Disk.{Disk}
use Rattle.tm_world.specs.Log.{now}
use Rattle.tm_world.specs.Torn.{as_read}
use Rattle.tm_world.specs.declared.world.Side.TheVariants.{Volume as VolumeSide}
use Rattle.tm_world.proofs.Going.{Steps-then}
use Rattle.tm_world.proofs.Pairs.{Runs-ends}
use Rattle.tm_machine.specs.Stops.{CanOpenStore}
use Rattle.tm_machine.proofs.Exits.{err_met}
use Rattle.tm_machine.proofs.OpeningLemmas.{bad_store, bad_volume, begun_moments, begun_then, opening_alone, opening_alone_then, opened_standing, opened_state, opening_moments, opening_reads, other_side, said_as_before}
use Rattle.tm_machine.proofs.session.Session.load.Goals as goal

pub returns-in_err-volume-clause-any_moment : goal.returns-in_err-volume-clause-any_moment
returns-in_err-volume-clause-any_moment g c told r reads =
    opening_moments r (g.W.World.log c.args.world.now) (g.W.World.log c.open_volume.new.world) (c.requires.settled told) reads (c.open_volume.ensures.blank told) (c.open_volume.ensures.any_moment told r.volume reads.volume_reads)

pub returns-in_err-volume-clause-said : goal.returns-in_err-volume-clause-said
returns-in_err-volume-clause-said g c told =
    (Runs-ends VolumeSide _ (g.W.World.log c.args.world.now) (g.W.World.log c.open_volume.new.world) (c.requires.settled told).apart (c.open_volume.ensures.alone told)).said

pub returns-in_err-volume-clause-bad : goal.returns-in_err-volume-clause-bad
returns-in_err-volume-clause-bad g c side cause place e =
    let same = err_met c.from_residual.result c.in_err-volume.field-0.0 (Bad side cause place) c.from_residual.ensures.1 e in
    bad_volume side cause place c.args.volume_blocks c.args.store_blocks g.W.World.told (now (g.W.World.log c.args.world.now)) (c.in_err-volume.ensures.bad side cause place (ap Err same))

pub open_store-requires-clause-stable : goal.open_store-requires-clause-stable
open_store-requires-clause-stable g c told =
    subst (λ (d : Disk). (b : ℕ) → d.loose b ≡ false)
    (sym (other_side (g.W.World.log c.args.world.now) (g.W.World.log c.open_volume.new.world) (c.requires.settled told).apart (c.open_volume.ensures.alone told)))
    (c.requires.settled told).store_stable

pub returns-in_err-store-clause-any_moment : goal.returns-in_err-store-clause-any_moment
returns-in_err-store-clause-any_moment g c told r reads =
    opening_reads r (g.W.World.log c.args.world.now) (g.W.World.log c.open_volume.new.world) (g.W.World.log c.open_store.new.world) (c.requires.settled told) reads
    (c.open_volume.ensures.blank told) (c.open_volume.ensures.any_moment told r.volume reads.volume_reads) (c.open_store.ensures.steps told)

pub returns-in_err-store-clause-said : goal.returns-in_err-store-clause-said
returns-in_err-store-clause-said g c told =
    said_as_before (g.W.World.log c.args.world.now) (g.W.World.log c.open_volume.new.world) (g.W.World.log c.open_store.new.world) (c.requires.settled told).apart (c.open_volume.ensures.alone told) (c.open_store.ensures.steps told)

pub returns-in_err-store-clause-bad : goal.returns-in_err-store-clause-bad
returns-in_err-store-clause-bad g c side cause place e =
    let exit = c.from_residual-in_err-store in
    let same = err_met exit.result c.in_err-store.field-0.0 (Bad side cause place) exit.ensures.1 e in
    let old = g.W.World.log c.args.world.now in
    let mid = g.W.World.log c.open_volume.new.world in
    bad_store side cause place c.args.volume_blocks c.args.store_blocks g.W.World.told (now old) (now mid)
    (λ told. other_side old mid (c.requires.settled told).apart (c.open_volume.ensures.alone told))
    (λ told. c.in_ok-volume.ensures.opens told)
    (c.in_err-store.ensures.bad side cause place (ap Err same))

pub returns-clause-state : goal.returns-clause-state
returns-clause-state g c told r reads =
    let old = g.W.World.log c.args.world.now in
    let mid = g.W.World.log c.open_volume.new.world in
    let new = g.W.World.log c.open_store.new.world in
    opened_state c.args.volume_blocks c.args.store_blocks c.in_ok-volume.volume c.in_ok-store.store r (now mid) (now new) (c.open_store.ensures.steps told).ends
    (c.in_ok-volume.ensures.state told r.volume reads.volume_reads)
    (c.in_ok-store.ensures.state told r.store
    (subst (λ (d : Disk). StoreSideReads (as_read d) r.store) (sym (other_side old mid (c.requires.settled told).apart (c.open_volume.ensures.alone told))) reads.store_reads))

pub returns-clause-any_moment : goal.returns-clause-any_moment
returns-clause-any_moment g c told r reads =
    opening_reads r (g.W.World.log c.args.world.now) (g.W.World.log c.open_volume.new.world) (g.W.World.log c.open_store.new.world) (c.requires.settled told) reads
    (c.open_volume.ensures.blank told) (c.open_volume.ensures.any_moment told r.volume reads.volume_reads) (c.open_store.ensures.steps told)

pub returns-clause-opens : goal.returns-clause-opens
returns-clause-opens g c told = (
  c.in_ok-volume.ensures.opens told,
  subst (λ (d : Disk). CanOpenStore (as_read d))
      (other_side (g.W.World.log c.args.world.now) (g.W.World.log c.open_volume.new.world) (c.requires.settled told).apart (c.open_volume.ensures.alone told))
      (c.in_ok-store.ensures.opens told),
)

pub returns-clause-standing : goal.returns-clause-standing
returns-clause-standing g c told =
    opened_standing c.args.volume_blocks c.args.store_blocks c.in_ok-volume.volume c.in_ok-store.store
    (g.W.World.log c.args.world.now) (g.W.World.log c.open_volume.new.world) (g.W.World.log c.open_store.new.world) (c.requires.settled told).apart (c.open_volume.ensures.alone told) (c.open_store.ensures.steps told)
    (c.in_ok-volume.ensures.stands told) (c.in_ok-store.ensures.stands told)

pub returns-clause-said : goal.returns-clause-said
returns-clause-said g c told =
    said_as_before (g.W.World.log c.args.world.now) (g.W.World.log c.open_volume.new.world) (g.W.World.log c.open_store.new.world) (c.requires.settled told).apart (c.open_volume.ensures.alone told) (c.open_store.ensures.steps told)

pub returns-in_err-volume-clause-alone : goal.returns-in_err-volume-clause-alone
returns-in_err-volume-clause-alone g c told =
    opening_alone (g.W.World.log c.args.world.now) (g.W.World.log c.open_volume.new.world) (c.requires.settled told).apart (c.open_volume.ensures.alone told)

pub returns-in_err-store-clause-alone : goal.returns-in_err-store-clause-alone
returns-in_err-store-clause-alone g c told =
    opening_alone_then (g.W.World.log c.args.world.now) (g.W.World.log c.open_volume.new.world) (g.W.World.log c.open_store.new.world) (c.requires.settled told).apart (c.open_volume.ensures.alone told) (c.open_store.ensures.steps told)

pub returns-clause-alone : goal.returns-clause-alone
returns-clause-alone g c told =
    opening_alone_then (g.W.World.log c.args.world.now) (g.W.World.log c.open_volume.new.world) (g.W.World.log c.open_store.new.world) (c.requires.settled told).apart (c.open_volume.ensures.alone told) (c.open_store.ensures.steps told)

pub returns-in_err-volume-clause-begun : goal.returns-in_err-volume-clause-begun
returns-in_err-volume-clause-begun g c told v reads =
    begun_moments v (g.W.World.log c.args.world.now) (g.W.World.log c.open_volume.new.world) (c.requires.settled told).apart (c.open_volume.ensures.any_moment told v reads)

pub returns-in_err-store-clause-begun : goal.returns-in_err-store-clause-begun
returns-in_err-store-clause-begun g c told v reads =
    begun_then v (g.W.World.log c.args.world.now) (g.W.World.log c.open_volume.new.world) (g.W.World.log c.open_store.new.world) (c.requires.settled told) reads (c.open_volume.ensures.any_moment told v reads) (c.open_store.ensures.steps told)

pub returns-clause-begun : goal.returns-clause-begun
returns-clause-begun g c told v reads =
    begun_then v (g.W.World.log c.args.world.now) (g.W.World.log c.open_volume.new.world) (g.W.World.log c.open_store.new.world) (c.requires.settled told) reads (c.open_volume.ensures.any_moment told v reads) (c.open_store.ensures.steps told)

pub returns-in_err-store-clause-blank : goal.returns-in_err-store-clause-blank
returns-in_err-store-clause-blank g c told none =
    Steps-then (g.W.World.log c.args.world.now) (g.W.World.log c.open_volume.new.world) (g.W.World.log c.open_store.new.world) (c.open_volume.ensures.blank told none) (c.open_store.ensures.steps told)

pub returns-clause-blank : goal.returns-clause-blank
returns-clause-blank g c told none =
    Steps-then (g.W.World.log c.args.world.now) (g.W.World.log c.open_volume.new.world) (g.W.World.log c.open_store.new.world) (c.open_volume.ensures.blank told none) (c.open_store.ensures.steps told)

pub returns-in_err-store-clause-shut : goal.returns-in_err-store-clause-shut
returns-in_err-store-clause-shut g c told shut = absurd (shut (c.in_ok-volume.ensures.opens told))

pub returns-clause-shut : goal.returns-clause-shut
returns-clause-shut g c told shut = absurd (shut (c.in_ok-volume.ensures.opens told))
