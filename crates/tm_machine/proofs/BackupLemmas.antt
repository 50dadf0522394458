-- A backup that runs to its end.
use Rattle.std.proofs.Common.{◌≡◌, ⊎_elim, ℕ, Option, Some, None, Ok, Err, List, [], ◌∷◌, refl, sym, ◌∙◌, ap, subst, arith}
use Rattle.tm_base.specs.declared.refused.LineFault.TheVariants.{Refused as RefusedFor}
use Rattle.tm_base.specs.declared.refused.Refused.{Refused}
use Rattle.tm_reply.specs.declared.row.ReplyRow.{ReplyRow}
use Rattle.tm_tree.specs.States.{StoreState}
use Rattle.tm_store_records.specs.States.{StoredStore, StoreReads, LeavesStore}
use Rattle.tm_volume.specs.Seen.{Seen as VolumeSeen, StandsOn, stored_on as volume_stored_on}
use Rattle.tm_volume.specs.Stored.{StoredVolume}
use Rattle.tm_world.specs.Disk.{Disk, Image}
use Rattle.tm_world.specs.Log.{Log, now}
use Rattle.tm_world.specs.Outside.{disk, AreApart}
use Rattle.tm_world.specs.Runs.{Runs}
use Rattle.tm_world.specs.declared.world.Side.TheVariants.{Volume as VolumeSide, Store as StoreSide}
use Rattle.tm_world.proofs.Going.{Runs-weaker, Runs-then}
use Rattle.tm_world.proofs.Pairs.{Runs-ends}
use Rattle.tm_machine.specs.Backups.{AnswersBackup, AnswersCopy, IsOneOfStores, LeavesOneOfStores, dated, ends_as, finishes_as, walk_refusal}
use Rattle.tm_machine.specs.Steps.{at_rest, unless_refused}

-- what holds of a store and a volume holds of those that are equal to them
pub moved : (P : ℕ → StoreState → StoredVolume → Type 0) (b c : ℕ) (s t : StoreState) (v w : StoredVolume) → c ≡ b → t ≡ s → w ≡ v → P c t w → P b s v
moved P b c s t v w e f g holds = subst (λ (x : ℕ). P x s v) e (subst (λ (x : StoreState). P c x v) f (subst (λ (x : StoredVolume). P c t x) g holds))

-- the volume's side stays while the store's runs
module _ (P : Disk → Type 0) (start end : Log) (apart : AreApart (now start)) (runs : Runs StoreSide P start end) where
  pub still_apart : AreApart (now end)
  still_apart = (Runs-ends StoreSide P start end apart runs).apart

  there : disk VolumeSide (now end) ≡ disk VolumeSide (now start)
  there = (Runs-ends StoreSide P start end apart runs).there

  pub still_stands : (v : VolumeSeen) → StandsOn v (disk VolumeSide (now start)) → StandsOn v (disk VolumeSide (now end))
  still_stands v stands = subst (λ (d : Disk). StandsOn v d) (sym there) stands

  pub same_volume : (v : VolumeSeen) → volume_stored_on v (disk VolumeSide (now end)).bytes ≡ volume_stored_on v (disk VolumeSide (now start)).bytes
  same_volume v = ap (λ (d : Disk). volume_stored_on v d.bytes) there

-- a store as it stands, a volume, and the date of the backup
module _ (blocks : ℕ) (z : StoredStore) (v : StoredVolume) (date : ℕ) (new : StoreState) where
  abbrev walks : Option Refused
  walks = walk_refusal new blocks z.store v.volume

  abbrev later : List StoredStore
  later = dated z.store date ∷ ends_as new blocks z.store v.volume ∷ []

  first_of : (image : Image) → StoreReads image z → IsOneOfStores z later image
  first_of image reads = record { made = 0; few = omega arith; reads = reads }

  second_of : (image : Image) → StoreReads image (dated z.store date) → IsOneOfStores z later image
  second_of image reads = record { made = 1; few = omega arith; reads = reads }

  third_of : (image : Image) → StoreReads image (ends_as new blocks z.store v.volume) → IsOneOfStores z later image
  third_of image reads = record { made = 2; few = omega arith; reads = reads }

  one_begun : (d : Disk) → LeavesStore z (dated z.store date) d → LeavesOneOfStores z later d
  one_begun d left image is = ⊎_elim (first_of image) (second_of image) (left image is)

  ends_refused : (why : Refused) → walks ≡ Some why → at_rest z.store ≡ ends_as new blocks z.store v.volume
  ends_refused why e = sym (ap (λ (x : Option Refused). unless_refused x (at_rest z.store) (at_rest new)) e)

  one_finished : (d : Disk) → LeavesStore (dated z.store date) (finishes_as new blocks z.store v.volume date) d → LeavesOneOfStores z later d
  one_finished d left image is = ⊎_elim (second_of image) (by_walk walks refl) (left image is)
    where
      by_walk : (w : Option Refused) → walks ≡ w → StoreReads image (finishes_as new blocks z.store v.volume date) → IsOneOfStores z later image
      by_walk None e reads = third_of image (subst (λ (x : StoredStore). StoreReads image x)
          (ap (λ (x : Option Refused). unless_refused x (dated z.store date) (at_rest new)) e
          ∙ sym (ap (λ (x : Option Refused). unless_refused x (at_rest z.store) (at_rest new)) e)) reads)
      by_walk (Some why) e reads = second_of image (subst (λ (x : StoredStore). StoreReads image x)
          (ap (λ (x : Option Refused). unless_refused x (dated z.store date) (at_rest new)) e) reads)

  one_cancelled : (why : Refused) → walks ≡ Some why → (old : StoredStore) → old ≡ dated z.store date → (d : Disk) → LeavesStore old (record { store = old.store; running = None }) d → LeavesOneOfStores z later d
  one_cancelled why refused old same d left image is = ⊎_elim
      (λ reads. second_of image (subst (λ (x : StoredStore). StoreReads image x) same reads))
      (λ reads. third_of image (subst (λ (x : StoredStore). StoreReads image x) (ap (λ (x : StoredStore). at_rest x.store) same ∙ ends_refused why refused) reads))
      (left image is)

  -- ---- at each moment

  pub begin_moments : (start end : Log) → Runs StoreSide (LeavesStore z (dated z.store date)) start end → Runs StoreSide (LeavesOneOfStores z later) start end
  begin_moments start end runs = Runs-weaker StoreSide (LeavesStore z (dated z.store date)) (LeavesOneOfStores z later) start end one_begun runs

  pub finish_moments : (start mid end : Log) → Runs StoreSide (LeavesStore z (dated z.store date)) start mid
      → Runs StoreSide (LeavesStore (dated z.store date) (finishes_as new blocks z.store v.volume date)) mid end → Runs StoreSide (LeavesOneOfStores z later) start end
  finish_moments start mid end first second = Runs-then StoreSide (LeavesOneOfStores z later) start mid end (begin_moments start mid first)
      (Runs-weaker StoreSide (LeavesStore (dated z.store date) (finishes_as new blocks z.store v.volume date)) (LeavesOneOfStores z later) mid end one_finished second)

  pub cancel_moments : (start mid last end : Log) (old : StoredStore) (why : Refused) → Runs StoreSide (LeavesStore z (dated z.store date)) start mid
      → Runs StoreSide (LeavesStore (dated z.store date) (finishes_as new blocks z.store v.volume date)) mid last
      → AnswersCopy new blocks z.store v date old (Err (RefusedFor why)) → Runs StoreSide (LeavesStore old (record { store = old.store; running = None })) last end
      → Runs StoreSide (LeavesOneOfStores z later) start end
  cancel_moments start mid last end old why first second answers third = Runs-then StoreSide (LeavesOneOfStores z later) start last end (finish_moments start mid last first second)
      (Runs-weaker StoreSide (LeavesStore old (record { store = old.store; running = None })) (LeavesOneOfStores z later) last end (one_cancelled why answers.0 old answers.1) third)

  -- ---- the answer

  pub done_answers : (after : StoredStore) (found : List ReplyRow) → AnswersCopy new blocks z.store v date after (Ok found) → AnswersBackup new blocks z.store v date after (Ok found)
  done_answers after found answers = answers

  pub refused_answers : (old after : StoredStore) (why : Refused) → AnswersCopy new blocks z.store v date old (Err (RefusedFor why)) → after.store ≡ old.store → after.running ≡ None
      → AnswersBackup new blocks z.store v date after (Err (RefusedFor why))
  refused_answers old after why answers same idle = (answers.0, (λ i. record { store = (same ∙ ap (λ (x : StoredStore). x.store) answers.1) i; running = idle i }))
