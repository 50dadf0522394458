use Rattle.std.proofs.Common.{ℕ, Ok, Err, ap, subst}
use Rattle.tm_store_records.specs.Held.{store_on, store_stored_on}
use Rattle.tm_tree.specs.States.{backed_up}
use Rattle.tm_volume.specs.Seen.{stored_on as volume_stored_on}
use Rattle.tm_world.specs.Log.{now}
use Rattle.tm_world.specs.Outside.{disk}
use Rattle.tm_world.specs.declared.world.Side.{Side}
use Rattle.tm_world.specs.declared.world.Side.TheVariants.{Volume as VolumeSide, Store as StoreSide}
use Rattle.tm_world.proofs.Going.{Runs-then}
use Rattle.tm_machine.specs.Backups.{AnswersCopy, DoesCopy}
use Rattle.tm_machine.proofs.BackupLemmas.{begin_moments, cancel_moments, done_answers, finish_moments, moved, refused_answers, same_volume, still_apart, still_stands}
use Rattle.tm_machine.proofs.CopyLemmas.{may_be_plain, runs_alone}
use Rattle.tm_machine.proofs.backup.run_backup.Goals as goal

pub returns-in-Err-clause-alone : goal.returns-in-Err-clause-alone
returns-in-Err-clause-alone g c told = runs_alone _ (g.W.World.log c.args.world.now) (g.W.World.log c.begin.new.world) (c.begin.ensures.any_moment told)

pub copy_and_finish-requires-clause-apart : goal.copy_and_finish-requires-clause-apart
copy_and_finish-requires-clause-apart g c told = still_apart _ (g.W.World.log c.args.world.now) (g.W.World.log c.begin.new.world) (c.requires.apart told) (c.begin.ensures.any_moment told)

pub copy_and_finish-requires-clause-volume_stands : goal.copy_and_finish-requires-clause-volume_stands
copy_and_finish-requires-clause-volume_stands g c told = still_stands _ (g.W.World.log c.args.world.now) (g.W.World.log c.begin.new.world) (c.requires.apart told) (c.begin.ensures.any_moment told) c.args.volume.now (c.requires.volume_stands told)

pub returns-in-Ok-copy_and_finish-clause-alone : goal.returns-in-Ok-copy_and_finish-clause-alone
returns-in-Ok-copy_and_finish-clause-alone g c told =
    let start = g.W.World.log c.args.world.now in let mid = g.W.World.log c.begin.new.world in
    Runs-then StoreSide _ start mid (g.W.World.log c.copy_and_finish.new.world) (runs_alone _ start mid (c.begin.ensures.any_moment told)) (c.copy_and_finish.ensures.alone told)

pub returns-in-Ok-cancel-clause-alone : goal.returns-in-Ok-cancel-clause-alone
returns-in-Ok-cancel-clause-alone g c told =
    let start = g.W.World.log c.args.world.now in let mid = g.W.World.log c.begin.new.world in let last = g.W.World.log c.copy_and_finish.new.world in let end = g.W.World.log c.cancel.new.world in
    Runs-then StoreSide _ start last end
    (Runs-then StoreSide _ start mid last (runs_alone _ start mid (c.begin.ensures.any_moment told)) (c.copy_and_finish.ensures.alone told))
    (runs_alone _ last end (c.cancel.ensures.any_moment told))

pub returns-in-Err-cancel-clause-alone : goal.returns-in-Err-cancel-clause-alone
returns-in-Err-cancel-clause-alone g c told =
    let start = g.W.World.log c.args.world.now in let mid = g.W.World.log c.begin.new.world in let last = g.W.World.log c.copy_and_finish.new.world in let end = g.W.World.log c.cancel.new.world in
    Runs-then StoreSide _ start last end
    (Runs-then StoreSide _ start mid last (runs_alone _ start mid (c.begin.ensures.any_moment told)) (c.copy_and_finish.ensures.alone told))
    (runs_alone _ last end (c.cancel.ensures.any_moment told))

pub returns-in-Err-Fault-clause-alone : goal.returns-in-Err-Fault-clause-alone
returns-in-Err-Fault-clause-alone g c told =
    let start = g.W.World.log c.args.world.now in let mid = g.W.World.log c.begin.new.world in
    Runs-then StoreSide _ start mid (g.W.World.log c.copy_and_finish.new.world) (runs_alone _ start mid (c.begin.ensures.any_moment told)) (c.copy_and_finish.ensures.alone told)

pub returns-in-Err-Memory-clause-alone : goal.returns-in-Err-Memory-clause-alone
returns-in-Err-Memory-clause-alone g c told =
    let start = g.W.World.log c.args.world.now in let mid = g.W.World.log c.begin.new.world in
    Runs-then StoreSide _ start mid (g.W.World.log c.copy_and_finish.new.world) (runs_alone _ start mid (c.begin.ensures.any_moment told)) (c.copy_and_finish.ensures.alone told)

pub returns-in-Err-clause-does : goal.returns-in-Err-clause-does
returns-in-Err-clause-does g c told =
    let start = g.W.World.log c.args.world.now in
    let mid = g.W.World.log c.begin.new.world in
    let z = store_stored_on c.args.store.now (disk StoreSide (now start)).bytes in
    let v = volume_stored_on c.args.volume.now (disk VolumeSide (now start)).bytes in
    let k = g.W.World.blocks c.args.world.now StoreSide in
    let begun = c.begin.ensures.any_moment told in
    record {
      finished = backed_up z.store v.volume c.args.date;
      may = may_be_plain z.store v.volume c.args.date;
      moments = begin_moments k z v c.args.date (backed_up z.store v.volume c.args.date) start mid begun;
      answers = tt;
    }

pub returns-in-Ok-copy_and_finish-clause-does : goal.returns-in-Ok-copy_and_finish-clause-does
returns-in-Ok-copy_and_finish-clause-does g c told =
    let start = g.W.World.log c.args.world.now in
    let mid = g.W.World.log c.begin.new.world in
    let z = store_stored_on c.args.store.now (disk StoreSide (now start)).bytes in
    let v = volume_stored_on c.args.volume.now (disk VolumeSide (now start)).bytes in
    let k = g.W.World.blocks c.args.world.now StoreSide in
    let begun = c.begin.ensures.any_moment told in
    let last = g.W.World.log c.copy_and_finish.new.world in
    let after = store_stored_on c.copy_and_finish.new.store (disk StoreSide (now last)).bytes in
    let volume = same_volume _ start mid (c.requires.apart told) begun c.args.volume.now in
    let blocks = ap (λ (b : Side → ℕ). b StoreSide) c.begin.ensures.blocks in
    let did = moved (λ n s x. DoesCopy n s x c.args.date after mid last (Ok c.in-Ok-copy_and_finish.rows))
    k (g.W.World.blocks c.begin.new.world StoreSide) z.store (store_on c.begin.new.self (disk StoreSide (now mid)).bytes) v (volume_stored_on c.args.volume.now (disk VolumeSide (now mid)).bytes)
    blocks (c.in-Ok.ensures.state told) volume (c.in-Ok-copy_and_finish.ensures.does told) in
    record {
      finished = did.finished;
      may = did.may;
      moments = finish_moments k z v c.args.date did.finished start mid last begun did.moments;
      answers = done_answers k z v c.args.date did.finished after c.in-Ok-copy_and_finish.rows did.answers;
    }

pub returns-in-Ok-cancel-clause-does : goal.returns-in-Ok-cancel-clause-does
returns-in-Ok-cancel-clause-does g c told =
    let start = g.W.World.log c.args.world.now in
    let mid = g.W.World.log c.begin.new.world in
    let z = store_stored_on c.args.store.now (disk StoreSide (now start)).bytes in
    let v = volume_stored_on c.args.volume.now (disk VolumeSide (now start)).bytes in
    let k = g.W.World.blocks c.args.world.now StoreSide in
    let begun = c.begin.ensures.any_moment told in
    let last = g.W.World.log c.copy_and_finish.new.world in
    let after = store_stored_on c.copy_and_finish.new.store (disk StoreSide (now last)).bytes in
    let volume = same_volume _ start mid (c.requires.apart told) begun c.args.volume.now in
    let blocks = ap (λ (b : Side → ℕ). b StoreSide) c.begin.ensures.blocks in
    let did = moved (λ n s x. DoesCopy n s x c.args.date after mid last (Err c.in-Err-Refused.field-0))
    k (g.W.World.blocks c.begin.new.world StoreSide) z.store (store_on c.begin.new.self (disk StoreSide (now mid)).bytes) v (volume_stored_on c.args.volume.now (disk VolumeSide (now mid)).bytes)
    blocks (c.in-Ok.ensures.state told) volume (c.in-Err-Refused.ensures.does told) in
    let end = g.W.World.log c.cancel.new.world in
    let why = c.in-Err-Refused.why in
    let answers = subst (λ r. AnswersCopy did.finished k z.store v c.args.date after (Err r)) c.in-Err-Refused.field-0-is did.answers in
    record {
      finished = did.finished;
      may = did.may;
      moments = cancel_moments k z v c.args.date did.finished start mid last end after why begun did.moments answers (c.cancel.ensures.any_moment told);
      answers = refused_answers k z v c.args.date did.finished after (store_stored_on c.cancel.new.self (disk StoreSide (now end)).bytes) why answers (c.in-Ok-cancel.ensures.state told) c.in-Ok-cancel.ensures.running.1;
    }

pub returns-in-Err-cancel-clause-does : goal.returns-in-Err-cancel-clause-does
returns-in-Err-cancel-clause-does g c told =
    let start = g.W.World.log c.args.world.now in
    let mid = g.W.World.log c.begin.new.world in
    let z = store_stored_on c.args.store.now (disk StoreSide (now start)).bytes in
    let v = volume_stored_on c.args.volume.now (disk VolumeSide (now start)).bytes in
    let k = g.W.World.blocks c.args.world.now StoreSide in
    let begun = c.begin.ensures.any_moment told in
    let last = g.W.World.log c.copy_and_finish.new.world in
    let after = store_stored_on c.copy_and_finish.new.store (disk StoreSide (now last)).bytes in
    let volume = same_volume _ start mid (c.requires.apart told) begun c.args.volume.now in
    let blocks = ap (λ (b : Side → ℕ). b StoreSide) c.begin.ensures.blocks in
    let did = moved (λ n s x. DoesCopy n s x c.args.date after mid last (Err c.in-Err-Refused.field-0))
    k (g.W.World.blocks c.begin.new.world StoreSide) z.store (store_on c.begin.new.self (disk StoreSide (now mid)).bytes) v (volume_stored_on c.args.volume.now (disk VolumeSide (now mid)).bytes)
    blocks (c.in-Ok.ensures.state told) volume (c.in-Err-Refused.ensures.does told) in
    let end = g.W.World.log c.cancel.new.world in
    let why = c.in-Err-Refused.why in
    let answers = subst (λ r. AnswersCopy did.finished k z.store v c.args.date after (Err r)) c.in-Err-Refused.field-0-is did.answers in
    record {
      finished = did.finished;
      may = did.may;
      moments = cancel_moments k z v c.args.date did.finished start mid last end after why begun did.moments answers (c.cancel.ensures.any_moment told);
      answers = tt;
    }

pub returns-in-Err-Fault-clause-does : goal.returns-in-Err-Fault-clause-does
returns-in-Err-Fault-clause-does g c told =
    let start = g.W.World.log c.args.world.now in
    let mid = g.W.World.log c.begin.new.world in
    let z = store_stored_on c.args.store.now (disk StoreSide (now start)).bytes in
    let v = volume_stored_on c.args.volume.now (disk VolumeSide (now start)).bytes in
    let k = g.W.World.blocks c.args.world.now StoreSide in
    let begun = c.begin.ensures.any_moment told in
    let last = g.W.World.log c.copy_and_finish.new.world in
    let after = store_stored_on c.copy_and_finish.new.store (disk StoreSide (now last)).bytes in
    let volume = same_volume _ start mid (c.requires.apart told) begun c.args.volume.now in
    let blocks = ap (λ (b : Side → ℕ). b StoreSide) c.begin.ensures.blocks in
    let did = moved (λ n s x. DoesCopy n s x c.args.date after mid last c.copy_and_finish.result)
    k (g.W.World.blocks c.begin.new.world StoreSide) z.store (store_on c.begin.new.self (disk StoreSide (now mid)).bytes) v (volume_stored_on c.args.volume.now (disk VolumeSide (now mid)).bytes)
    blocks (c.in-Ok.ensures.state told) volume (c.copy_and_finish.ensures.does told) in
    record {
      finished = did.finished;
      may = did.may;
      moments = finish_moments k z v c.args.date did.finished start mid last begun did.moments;
      answers = tt;
    }

pub returns-in-Err-Memory-clause-does : goal.returns-in-Err-Memory-clause-does
returns-in-Err-Memory-clause-does g c told =
    let start = g.W.World.log c.args.world.now in
    let mid = g.W.World.log c.begin.new.world in
    let z = store_stored_on c.args.store.now (disk StoreSide (now start)).bytes in
    let v = volume_stored_on c.args.volume.now (disk VolumeSide (now start)).bytes in
    let k = g.W.World.blocks c.args.world.now StoreSide in
    let begun = c.begin.ensures.any_moment told in
    let last = g.W.World.log c.copy_and_finish.new.world in
    let after = store_stored_on c.copy_and_finish.new.store (disk StoreSide (now last)).bytes in
    let volume = same_volume _ start mid (c.requires.apart told) begun c.args.volume.now in
    let blocks = ap (λ (b : Side → ℕ). b StoreSide) c.begin.ensures.blocks in
    let did = moved (λ n s x. DoesCopy n s x c.args.date after mid last c.copy_and_finish.result)
    k (g.W.World.blocks c.begin.new.world StoreSide) z.store (store_on c.begin.new.self (disk StoreSide (now mid)).bytes) v (volume_stored_on c.args.volume.now (disk VolumeSide (now mid)).bytes)
    blocks (c.in-Ok.ensures.state told) volume (c.copy_and_finish.ensures.does told) in
    record {
      finished = did.finished;
      may = did.may;
      moments = finish_moments k z v c.args.date did.finished start mid last begun did.moments;
      answers = tt;
    }
