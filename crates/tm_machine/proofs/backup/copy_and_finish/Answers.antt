use Rattle.std.proofs.Common.{◌≡◌, ◌-◌, ℕ, Result, Err, List, [], ◌∷◌, ◌++◌, refl, sym, ◌∙◌, ap, arith, subst}
use Rattle.std.proofs.lemmas.Result.{err_from_is_err_and}
use Rattle.tm_backup.specs.declared.Copied.{Copied}
use Rattle.tm_base.specs.declared.refused.LineFault.{LineFault}
use Rattle.tm_image.specs.Room.{free_of}
use Rattle.tm_store_records.specs.Built.{store_completed}
use Rattle.tm_reply.specs.declared.row.ReplyRow.{ReplyRow}
use Rattle.tm_reply.specs.declared.row.ReplyRow.TheVariants.{Finished}
use Rattle.tm_world.proofs.Going.{Runs-then}
use Rattle.tm_store_records.specs.Held.{Held, store_on, store_stored_on}
use Rattle.tm_tree.specs.declared.rows.Mark.{Mark}
use Rattle.tm_volume.specs.Seen.{Seen as VolumeSeen, stored_on as volume_stored_on}
use Rattle.tm_tree.specs.States.{StoreState, backed_up}
use Rattle.tm_world.specs.Log.{now}
use Rattle.tm_world.specs.Outside.{disk}
use Rattle.tm_world.specs.declared.world.Side.TheVariants.{Volume as VolumeSide, Store as StoreSide}
use Rattle.tm_machine.specs.Backups.{AnswersCopy}
use Rattle.tm_machine.proofs.CopyLemmas.{at_date, copy_moments, copy_answers, finish_moments, finished_as, may_be_plain, may_finish_as, refused_answers, done_answers, runs_alone}
use Rattle.tm_machine.proofs.backup.copy_and_finish.Goals as goal

pub copy_volume-requires-clause-may : goal.copy_volume-requires-clause-may
copy_volume-requires-clause-may g c = record {
  kept = c.requires.kept;
  ready = c.requires.ready;
  whole = c.requires.whole;
  graph = (c.held_is_store.ensures.store c.args.store.now c.requires.whole).graph;
  count = c.requires.count;
  standing = λ told. record { apart = c.requires.apart told; volume_on = c.requires.volume_stands told; image_on = c.requires.stands told };
}

pub returns-in_err-built-clause-does : goal.returns-in_err-built-clause-does
returns-in_err-built-clause-does g c told =
    let start = g.W.World.log c.args.world.now in let b = (disk StoreSide (now start)).bytes in
    let v = volume_stored_on c.args.volume.now (disk VolumeSide (now start)).bytes in
    let k = g.W.World.blocks c.args.world.now StoreSide in
    let end = g.W.World.log c.copy_volume.new.world in
    let plain : StoreState = backed_up (store_on c.args.store.now b) v.volume c.args.date in
    let q = err_from_is_err_and c.from_residual.result c.from_residual.ensures.1 in
    record {
      finished = plain;
      may = may_be_plain (store_on c.args.store.now b) v.volume c.args.date;
      moments = copy_moments k c.args.store.now b v c.args.date plain c.requires.whole (c.held_sizes.ensures c.args.store.now b c.requires.whole) c.requires.count c.requires.running c.requires.unstaged
          _ start end (c.in_err-built.ensures.ran.runs told);
      answers = subst (λ (r : Result (List ReplyRow) LineFault). AnswersCopy plain k (store_on c.args.store.now b) v c.args.date (store_stored_on c.copy_volume.new.store (disk StoreSide (now end)).bytes) r) (sym (q.1 ∙ ap Err q.2))
          (copy_answers k c.args.store.now b v c.args.date plain
          c.requires.whole (c.held_sizes.ensures c.args.store.now b c.requires.whole) c.requires.count c.requires.running c.requires.unstaged
          Copied g.W.World.told told c.copy_volume.new.store (free_of c.copy_volume.new.store.image) start end refl c.in_err-built.field-0.0 (c.in_err-built.ensures.stages told) c.in_err-built.ensures.went);
    }

pub returns-in_err-push-clause-does : goal.returns-in_err-push-clause-does
returns-in_err-push-clause-does g c told =
    let start = g.W.World.log c.args.world.now in let b = (disk StoreSide (now start)).bytes in
    let v = volume_stored_on c.args.volume.now (disk VolumeSide (now start)).bytes in
    let k = g.W.World.blocks c.args.world.now StoreSide in
    let end = g.W.World.log c.copy_volume.new.world in
    let plain : StoreState = backed_up (store_on c.args.store.now b) v.volume c.args.date in
    let q = err_from_is_err_and c.from_residual-in_err-push.result c.from_residual-in_err-push.ensures.1 in
    record {
      finished = plain;
      may = may_be_plain (store_on c.args.store.now b) v.volume c.args.date;
      moments = copy_moments k c.args.store.now b v c.args.date plain c.requires.whole (c.held_sizes.ensures c.args.store.now b c.requires.whole) c.requires.count c.requires.running c.requires.unstaged
          _ start end (c.in_ok-built.ensures.ran.runs told);
      answers = subst (λ (r : Result (List ReplyRow) LineFault). AnswersCopy plain k (store_on c.args.store.now b) v c.args.date (store_stored_on c.copy_volume.new.store (disk StoreSide (now end)).bytes) r) (sym (q.1 ∙ ap Err q.2)) tt;
    }

pub returns-in_err-complete-clause-does : goal.returns-in_err-complete-clause-does
returns-in_err-complete-clause-does g c told =
    let start = g.W.World.log c.args.world.now in let b = (disk StoreSide (now start)).bytes in
    let v = volume_stored_on c.args.volume.now (disk VolumeSide (now start)).bytes in
    let k = g.W.World.blocks c.args.world.now StoreSide in
    let mid = g.W.World.log c.copy_volume.new.world in
    let end = g.W.World.log c.complete.new.world in
    let bytes = (disk StoreSide (now mid)).bytes in
    let went = c.in_ok-built.ensures.went in
    let running = ap (λ (x : Held). x.running) went.same ∙ c.requires.running in
    let stages = c.in_ok-built.ensures.stages told in
    let mark : Mark = record { generation = c.info-info.result.generation; cursor = c.info-info.result.next - 1 } in
    let volume = c.in_ok-built.ensures.ran.volume in
    let h = c.copy_volume.new.store in
    let built = c.in_ok-built.field-0.built in
    let fin : StoreState = finished_as h built c.args.date v.volume bytes in
    let sizes = c.completed_is_sized.ensures h built c.args.date c.name.result.now c.info-info.result.id mark bytes went.whole c.in_ok-built.ensures.built (omega (arith, c.in_ok-built.ensures.few)) in
    let is : store_completed h built c.args.date c.name.result.now c.info-info.result.id mark bytes ≡ fin = (λ i. store_completed h built c.args.date ((c.name.ensures ∙ ap (λ (x : VolumeSeen). x.head.name) volume) i) ((c.info-info.ensures.head.0 ∙ ap (λ (x : VolumeSeen). x.head.id) volume) i)
    (record { generation = (c.info-info.ensures.tag.0 ∙ ap (λ (x : VolumeSeen). x.tag.generation) volume) i; cursor = (c.info-info.ensures.tag.1 ∙ ap (λ (x : VolumeSeen). x.tag.next) volume) i - 1 }) bytes) in
    let q = err_from_is_err_and c.from_residual-in_err-complete.result c.from_residual-in_err-complete.ensures.1 in
    record {
      finished = fin;
      may = may_finish_as h built c.args.date v.volume bytes (store_on c.args.store.now b) (went.state told) (λ fits. c.in_ok-built.ensures.copied told fits c.args.date);
      moments = finish_moments k c.args.store.now b v c.args.date fin
          c.requires.whole (c.held_sizes.ensures c.args.store.now b c.requires.whole) c.requires.count c.requires.running c.requires.unstaged
          h built c.name.result.now c.info-info.result.id mark bytes went.same (went.state told) stages.0 stages.1 sizes is
          start mid end (c.in_ok-built.ensures.ran.runs told) (at_date _ _ c.args.date running (c.in_err-complete.ensures.any_moment told));
      answers = subst (λ (r : Result (List ReplyRow) LineFault). AnswersCopy fin k (store_on c.args.store.now b) v c.args.date (store_stored_on c.complete.new.self (disk StoreSide (now end)).bytes) r) (sym (q.1 ∙ ap Err q.2))
          (refused_answers k c.args.store.now b v c.args.date fin
          c.requires.whole (c.held_sizes.ensures c.args.store.now b c.requires.whole) c.requires.count c.requires.running c.requires.unstaged
          h built c.name.result.now c.info-info.result.id mark bytes went.same (went.state told) stages.0 stages.1 sizes is
          (Unit {0}) (c.complete.new.world ≡ c.copy_volume.new.world) c.complete.new.self (disk StoreSide (now end)).bytes c.in_err-complete.field-0.0
          (at_date _ _ c.args.date running c.in_err-complete.ensures.refused) c.in_err-complete.ensures.err c.in_err-complete.ensures.untouched
          (λ same. ap (λ w. (disk StoreSide (now (g.W.World.log w))).bytes) same));
    }

pub returns-clause-does : goal.returns-clause-does
returns-clause-does g c told =
    let start = g.W.World.log c.args.world.now in let b = (disk StoreSide (now start)).bytes in
    let v = volume_stored_on c.args.volume.now (disk VolumeSide (now start)).bytes in
    let k = g.W.World.blocks c.args.world.now StoreSide in
    let mid = g.W.World.log c.copy_volume.new.world in
    let end = g.W.World.log c.complete.new.world in
    let bytes = (disk StoreSide (now mid)).bytes in
    let went = c.in_ok-built.ensures.went in
    let running = ap (λ (x : Held). x.running) went.same ∙ c.requires.running in
    let stages = c.in_ok-built.ensures.stages told in
    let mark : Mark = record { generation = c.info-info.result.generation; cursor = c.info-info.result.next - 1 } in
    let volume = c.in_ok-built.ensures.ran.volume in
    let h = c.copy_volume.new.store in
    let built = c.in_ok-built.field-0.built in
    let fin : StoreState = finished_as h built c.args.date v.volume bytes in
    let sizes = c.completed_is_sized.ensures h built c.args.date c.name.result.now c.info-info.result.id mark bytes went.whole c.in_ok-built.ensures.built (omega (arith, c.in_ok-built.ensures.few)) in
    let is : store_completed h built c.args.date c.name.result.now c.info-info.result.id mark bytes ≡ fin = (λ i. store_completed h built c.args.date ((c.name.ensures ∙ ap (λ (x : VolumeSeen). x.head.name) volume) i) ((c.info-info.ensures.head.0 ∙ ap (λ (x : VolumeSeen). x.head.id) volume) i)
    (record { generation = (c.info-info.ensures.tag.0 ∙ ap (λ (x : VolumeSeen). x.tag.generation) volume) i; cursor = (c.info-info.ensures.tag.1 ∙ ap (λ (x : VolumeSeen). x.tag.next) volume) i - 1 }) bytes) in
    record {
      finished = fin;
      may = may_finish_as h built c.args.date v.volume bytes (store_on c.args.store.now b) (went.state told) (λ fits. c.in_ok-built.ensures.copied told fits c.args.date);
      moments = finish_moments k c.args.store.now b v c.args.date fin
          c.requires.whole (c.held_sizes.ensures c.args.store.now b c.requires.whole) c.requires.count c.requires.running c.requires.unstaged
          h built c.name.result.now c.info-info.result.id mark bytes went.same (went.state told) stages.0 stages.1 sizes is
          start mid end (c.in_ok-built.ensures.ran.runs told) (at_date _ _ c.args.date running (c.in_ok-complete.ensures.any_moment told));
      answers = done_answers k c.args.store.now b v c.args.date fin
          c.requires.whole (c.held_sizes.ensures c.args.store.now b c.requires.whole) c.requires.count c.requires.running c.requires.unstaged
          h built c.name.result.now c.info-info.result.id mark bytes went.same (went.state told) stages.0 stages.1 sizes is
          c.complete.new.self (disk StoreSide (now end)).bytes c.push.new.self
          (at_date _ _ c.args.date running c.in_ok-complete.ensures.done) (at_date _ _ c.args.date running (c.in_ok-complete.ensures.state told)) (at_date _ _ c.args.date running c.in_ok-complete.ensures.parts).stored
          (c.in_ok-push.ensures.ok ∙ ap (λ (rows : List ReplyRow). rows ++ Finished c.args.date c.in_ok-built.field-0.walked ∷ []) c.new-rows.ensures
          ∙ ap (λ (n : ℕ). Finished c.args.date n ∷ []) (c.in_ok-built.ensures.walked (disk VolumeSide (now start)).bytes));
    }

pub returns-in_err-push-clause-alone : goal.returns-in_err-push-clause-alone
returns-in_err-push-clause-alone g c told = runs_alone _ (g.W.World.log c.args.world.now) (g.W.World.log c.copy_volume.new.world) (c.in_ok-built.ensures.ran.runs told)

pub returns-in_err-complete-clause-alone : goal.returns-in_err-complete-clause-alone
returns-in_err-complete-clause-alone g c told =
    let start = g.W.World.log c.args.world.now in
    let mid = g.W.World.log c.copy_volume.new.world in
    let end = g.W.World.log c.complete.new.world in
    let running = ap (λ (x : Held). x.running) c.in_ok-built.ensures.went.same ∙ c.requires.running in
    Runs-then StoreSide _ start mid end (runs_alone _ start mid (c.in_ok-built.ensures.ran.runs told))
    (runs_alone _ mid end (at_date _ _ c.args.date running (c.in_err-complete.ensures.any_moment told)))

pub returns-clause-alone : goal.returns-clause-alone
returns-clause-alone g c told =
    let start = g.W.World.log c.args.world.now in
    let mid = g.W.World.log c.copy_volume.new.world in
    let end = g.W.World.log c.complete.new.world in
    let running = ap (λ (x : Held). x.running) c.in_ok-built.ensures.went.same ∙ c.requires.running in
    Runs-then StoreSide _ start mid end (runs_alone _ start mid (c.in_ok-built.ensures.ran.runs told))
    (runs_alone _ mid end (at_date _ _ c.args.date running (c.in_ok-complete.ensures.any_moment told)))

pub returns-in_err-built-clause-alone : goal.returns-in_err-built-clause-alone
returns-in_err-built-clause-alone g c told = runs_alone _ (g.W.World.log c.args.world.now) (g.W.World.log c.copy_volume.new.world) (c.in_err-built.ensures.ran.runs told)
