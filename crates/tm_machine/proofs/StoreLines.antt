-- Lines that commit on the store's side.
use Rattle.std.proofs.Common.{◌≡◌, ◌⊎◌, ⊎_elim, ℕ, ◌<◌, ◌≤◌, Bool, true, false, Option, Some, None, is_some, nat_lt, Result, Ok, Err, List, [], ◌∷◌, ◌++◌, length, take, refl, sym, ◌∙◌, ap, subst, arith, cond, zero, suc}
use Rattle.std.proofs.lemmas.Bool.Decides.{nat_tests}
use Rattle.std.proofs.lemmas.Option.{none-some}
use Rattle.tm_base.specs.declared.refused.LineFault.{LineFault}
use Rattle.tm_base.specs.declared.refused.LineFault.TheVariants.{Refused as RefusedFor, Fault, Memory}
use Rattle.tm_base.specs.declared.refused.Refused.{Refused}
use Rattle.tm_base.specs.declared.refused.Refused.TheVariants.{Already, Small}
use Rattle.tm_base.specs.Limits.{min_blocks}
use Rattle.tm_reply.specs.declared.row.ReplyRow.{ReplyRow}
use Rattle.tm_text.specs.declared.line.Line.TheVariants as line
use Rattle.tm_tree.specs.Refusing.{Tests, first_refused}
use Rattle.tm_tree.specs.States.{StoreState, new_store}
use Rattle.tm_store.specs.Answers.{IfRefused, IsSmallRefusal}
use Rattle.tm_store.specs.Sides.{StoreSideReads}
use Rattle.tm_store_records.specs.Held.{Held, store_stored_on}
use Rattle.tm_store_records.specs.States.{StoredStore}
use Rattle.tm_image.specs.Seen.{Stands}
use Rattle.tm_volume.specs.Reads.{SideReads, LeavesSide}
use Rattle.tm_volume.specs.Seen.{Seen as VolumeSeen}
use Rattle.tm_volume.specs.Stored.{StoredVolume}
use Rattle.tm_world.specs.Disk.{Disk, Image, IsLeft}
use Rattle.tm_world.specs.Log.{Log, now, Passes}
use Rattle.tm_world.specs.Outside.{disk, AreApart}
use Rattle.tm_world.specs.Runs.{Runs}
use Rattle.tm_world.specs.declared.world.Side.{Side}
use Rattle.tm_world.specs.declared.world.Side.TheVariants.{Volume as VolumeSide, Store as StoreSide}
use Rattle.tm_world.proofs.Going.{Passes-weaker}
use Rattle.tm_world.proofs.Pairs.{Runs-ends}
use Rattle.tm_machine.specs.Backups.{walk_refusal, ends_as, dated, IsOneOfStores, LeavesOneOfStores, AnswersBackup}
use Rattle.tm_machine.specs.Commits as commits
use Rattle.tm_machine.specs.Commits.{last_from}
use Rattle.tm_machine.specs.Session.{Seen, state_on, VolumeStands, Standing, IsIdle, IsOpen, Effect, effect, Replies, Does}
use Rattle.tm_machine.specs.States.{State, Stored, kept}
use Rattle.tm_machine.specs.Steps.{at_rest, ended, new_store_tests, changeless_after_refused, rows, start_tests, unless_refused, walk_by}
use Rattle.tm_machine.specs.Stops.{HaveNoStore, PairReads, IsAmong, LeavesCommits}
use Rattle.tm_machine.proofs.Resting.{runs_framed, stored_in, seen, state, pair, LeavesEitherStore, store_moments, none_made, one_made, some_store}
use Rattle.tm_machine.proofs.VolumeLines.{failed_replies, failed_replied, is_none_of}

-- ---- after a run on the store's side

module _ (P : Disk → Type 0) (start end : Log) (apart : AreApart (now start)) (runs : Runs StoreSide P start end) where
  there : disk VolumeSide (now end) ≡ disk VolumeSide (now start)
  there = (Runs-ends StoreSide P start end apart runs).there

  pub stored_there : (v : Option VolumeSeen) → stored_in (disk VolumeSide (now end)).bytes v ≡ stored_in (disk VolumeSide (now start)).bytes v
  stored_there v = ap (λ (d : Disk). stored_in d.bytes v) there

  pub store_standing : (n k : ℕ) (v : Option VolumeSeen) (h : Held) (moment : Option ℕ) → VolumeStands v (disk VolumeSide (now start)) → Stands h.image (disk StoreSide (now end))
      → Standing (seen n k v (Some h) moment) (now end)
  store_standing n k v h moment volume_stands stands = record {
    apart = (Runs-ends StoreSide P start end apart runs).apart;
    volume_side = subst (VolumeStands v) (sym there) volume_stands;
    store_side = stands;
  }

-- ---- a new store

format_among : (why : Option Refused) (made : StoredStore) (v : Option StoredVolume) (u w : Image) → why ≡ None → SideReads u v → StoreSideReads w None ⊎ StoreSideReads w (Some made)
    → IsAmong (pair v None) (unless_refused why [] (pair v (Some made) ∷ [])) u w
format_among None made v u w none reads h = ⊎_elim (λ is. none_made v None _ u w reads is) (λ is. one_made (pair v None) v (Some made) [] u w reads is) h
format_among (Some why) made v u w none reads h = cc

-- the tests of a new store
abbrev tests_at : ℕ → Tests
tests_at k = (false, Already) ∷ (nat_lt k min_blocks, Small) ∷ []

tests_pass : (k : ℕ) → min_blocks ≤ k → first_refused (tests_at k) ≡ None
tests_pass k large = let t : nat_lt k min_blocks ≡ false = not_small k large in ap (λ (b : Bool). first_refused ((false, Already) ∷ (b, Small) ∷ [])) t
  where
    not_small : (n : ℕ) → min_blocks ≤ n → nat_lt n min_blocks ≡ false
    not_small n h = grind (arith, nat_tests)

module _ (m : Seen) (n k : ℕ) (v : Option VolumeSeen) (w : Option Held) (moment : Option ℕ) (machine : List ℕ) (start end : Log)
    (is : seen n k v w moment ≡ m) (none : is_some w ≡ false) (large : min_blocks ≤ k)
    (standing : Standing m (now start)) (rests : LeavesSide (state_on m (now start)).volume (disk VolumeSide (now start)))
    (runs : Runs StoreSide (LeavesEitherStore None (Some (at_rest (new_store machine)))) start end) where
  abbrev DoesAt : Seen → Seen → Result (List ReplyRow) LineFault → Type 0
  DoesAt x new result =
      let s = state_on x (now start) in let after = record s { store = Some (at_rest (new_store machine)) } in
      Does (effect (new_store_tests s) [] after (kept after ∷ []) s) x new start end result

  was : seen n k v None moment ≡ m
  was = ap (λ (x : Option Held). seen n k v x moment) (is_none_of w none) ∙ is

  abbrev held : Option StoredVolume
  held = stored_in (disk VolumeSide (now start)).bytes v

  rests_at : LeavesSide held (disk VolumeSide (now start))
  rests_at = subst (λ (x : Seen). LeavesSide (state_on x (now start)).volume (disk VolumeSide (now start))) (sym is) rests

  moments_at : Passes start end (LeavesCommits (pair held None) (unless_refused (first_refused (tests_at k)) [] (pair held (Some (at_rest (new_store machine))) ∷ [])) (now start))
  moments_at = store_moments None (Some (at_rest (new_store machine))) held _ start end standing.apart rests_at
      (λ u w a b. format_among (first_refused (tests_at k)) (at_rest (new_store machine)) held u w (tests_pass k large) a b)
      (λ none few. some_store held (at_rest (new_store machine)) []
      (subst (λ (why : Option Refused). HaveNoStore (unless_refused why [] (pair held (Some (at_rest (new_store machine))) ∷ []))) (tests_pass k large) few)) runs

  pub format_does : (new : Held) → Stands new.image (disk StoreSide (now end)) → store_stored_on new (disk StoreSide (now end)).bytes ≡ at_rest (new_store machine)
      → DoesAt m (seen n k v (Some new) moment) (Ok [])
  format_does new stands stored =
      let core : DoesAt (seen n k v None moment) (seen n k v (Some new) moment) (Ok []) = record {
        replies = (tests_pass k large, refl, λ i. record { volume_blocks = n; store_blocks = k; volume = stored_there _ start end standing.apart runs v i; store = Some (stored i); moment = moment });
        standing = store_standing _ start end standing.apart runs n k v new moment (subst (λ (x : Seen). VolumeStands x.volume (disk VolumeSide (now start))) (sym is) standing.volume_side) stands;
        moments = moments_at;
      } in
      subst (λ (x : Seen). DoesAt x (seen n k v (Some new) moment) (Ok [])) was core

  pub format_fails : (new : Seen) (result : Result (List ReplyRow) LineFault) (why : LineFault) → result ≡ Err why → ((r : Refused) → why ≡ RefusedFor r → ⊥) → DoesAt m new result
  format_fails new result why is_why failed =
      let core : DoesAt (seen n k v None moment) new (Err why) = record {
        replies = failed_replies (tests_at k) (state n k held (Some (at_rest (new_store machine))) moment) (state_on new (now end)) (state n k held None moment) (pair held (Some (at_rest (new_store machine))) ∷ []) why failed;
        standing = failed_replied why (Standing new (now end)) failed;
        moments = moments_at;
      } in
      subst (DoesAt m new) (sym is_why) (subst (λ (x : Seen). DoesAt x new (Err why)) was core)

  pub format_open : (new : Held) (blocks after : Side → ℕ) → IsOpen m blocks → after ≡ blocks → IsIdle new k → IsOpen (seen n k v (Some new) moment) after
  format_open new blocks after is_open same idle =
      let at = subst (λ (x : Seen). IsOpen x blocks) (sym is) is_open in
      record {
        count = ap (λ (b : Side → ℕ). b VolumeSide) same ∙ at.count;
        small = at.small;
        sound = at.sound;
        ready = at.ready;
        store_count = ap (λ (b : Side → ℕ). b StoreSide) same ∙ at.store_count;
        store_small = at.store_small;
        idle = idle;
      }

-- an image that is large enough is not refused
pub blank_unrefused : (k : ℕ) (why : LineFault) → 8 ≤ k → IfRefused {A = Unit {0}} (Err why) (λ w. IsSmallRefusal w × (k < 8)) → (r : Refused) → why ≡ RefusedFor r → ⊥
blank_unrefused k (RefusedFor w) large h r e = omega (arith, large, h.1)
blank_unrefused k (Fault side) large h r e = cc
blank_unrefused k Memory large h r e = cc

-- ---- a backup

pub first_none : (a b : Tests) → first_refused a ≡ None → first_refused (a ++ b) ≡ first_refused b
first_none [] b h = refl
first_none ((t, why) ∷ a) b h = by_test t h (first_none a b)
  where
    by_test : (t : Bool) → cond t (Some why) (first_refused a) ≡ None → (first_refused a ≡ None → first_refused (a ++ b) ≡ first_refused b) → cond t (Some why) (first_refused (a ++ b)) ≡ first_refused b
    by_test true h rest = cc
    by_test false h rest = rest h

-- the store's states that follow are the pair's, with the volume as it is
abbrev pairs : Option StoredVolume → List StoredStore → List Stored
pairs v [] = []
pairs v (z ∷ zs) = pair v (Some z) ∷ pairs v zs

pairs_length : (v : Option StoredVolume) (zs : List StoredStore) → length (pairs v zs) ≡ length zs
pairs_length v [] = refl
pairs_length v (z ∷ zs) = omega (arith, pairs_length v zs)

pairs_last : (v : Option StoredVolume) (first : StoredStore) (made : ℕ) (zs : List StoredStore) → last_from (pair v (Some first)) (take made (pairs v zs)) ≡ pair v (Some (last_from first (take made zs)))
pairs_last v first zero zs = refl
pairs_last v first (suc made) [] = refl
pairs_last v first (suc made) (z ∷ zs) = pairs_last v z made zs

one_of_among : (v : Option StoredVolume) (first : StoredStore) (later : List StoredStore) (u w : Image) → SideReads u v → IsOneOfStores first later w → IsAmong (pair v (Some first)) (pairs v later) u w
one_of_among v first later u w reads one = record {
  made = one.made;
  few = omega (arith, one.few, pairs_length v later);
  reads = subst (λ (x : Stored). PairReads x u w) (sym (pairs_last v first one.made later)) (record { volume_reads = reads; store_reads = one.reads });
}

run_moments : (first : StoredStore) (later : List StoredStore) (v : Option StoredVolume) (start end : Log) → AreApart (now start) → LeavesSide v (disk VolumeSide (now start))
    → Runs StoreSide (LeavesOneOfStores first later) start end → Passes start end (LeavesCommits (pair v (Some first)) (pairs v later) (now start))
run_moments first later v start end apart rests runs =
    Passes-weaker start end _ _
    (λ o at. let beside = at.beside in
    record {
      apart = beside.apart;
      framed = at.framed;
      said = beside.said;
      blank = record { volume = λ none few. beside.there; store = λ none few. absurd (none-some first (sym none)) };
      among = λ u w u_left w_left. one_of_among v first later u w (rests u (subst (λ (d : Disk). IsLeft d u) beside.there u_left)) (beside.here w w_left);
    })
    (runs_framed StoreSide (LeavesOneOfStores first later) start end apart runs)

-- a session in which a backup of this date has passed the tests that come first, and which would make `finished` of the store
module _ (n k : ℕ) (v : StoredVolume) (z : StoredStore) (date : ℕ) (finished : StoreState) where
  abbrev at_start : State
  at_start = state n k (Some v) (Some z) (Some date)

  abbrev walks : Option Refused
  walks = walk_refusal finished k z.store v.volume

  abbrev at_end : State
  at_end = state n k (Some v) (Some (at_rest finished)) (Some date)

  -- what it is to do then
  abbrev pub effect_by : Effect
  effect_by = record {
    tested = start_tests at_start ++ walk_by finished k z.store v.volume;
    rows = rows at_start line.StartBackupBlock;
    after = at_end;
    commits = commits.started at_start ∷ kept at_end ∷ [];
    after_refused = changeless_after_refused at_start line.StartBackupBlock;
    undone = commits.changeless_undone at_start line.StartBackupBlock;
  }

  refusal_is : first_refused (start_tests at_start) ≡ None → first_refused effect_by.tested ≡ walks
  refusal_is none = first_none (start_tests at_start) (walk_by finished k z.store v.volume) none

  commits_are : first_refused (start_tests at_start) ≡ None → (w : Option Refused) → first_refused effect_by.tested ≡ w
      → unless_refused (first_refused effect_by.tested) effect_by.undone effect_by.commits
      ≡ pairs (Some v) (dated z.store date ∷ unless_refused w (at_rest z.store) (at_rest finished) ∷ [])
  commits_are none None e = ap (λ (x : Option Refused). unless_refused x effect_by.undone effect_by.commits) e
  commits_are none (Some why) e =
      ap (λ (x : Option Refused). unless_refused x effect_by.undone effect_by.commits) e
      ∙ ap (λ (x : Option Refused). commits.ending x at_start) none

  pub backup_replies : first_refused (start_tests at_start) ≡ None → (new : StoredStore) (result : Result (List ReplyRow) LineFault) → AnswersBackup finished k z.store v date new result
      → Replies effect_by (state n k (Some v) (Some new) (Some date)) result
  backup_replies none new (Ok found) h = (refusal_is none ∙ h.0, h.1, ap (λ (x : StoredStore). state n k (Some v) (Some x) (Some date)) h.2)
  backup_replies none new (Err (RefusedFor why)) h =
      (refusal_is none ∙ h.0, ap (λ (x : StoredStore). state n k (Some v) (Some x) (Some date)) h.1 ∙ sym (ap (λ (x : Option Refused). ended x at_start) none))
  backup_replies none new (Err (Fault side)) h = tt
  backup_replies none new (Err Memory) h = tt

  pub backup_moments : first_refused (start_tests at_start) ≡ None → (start end : Log) → AreApart (now start) → LeavesSide (Some v) (disk VolumeSide (now start))
      → Runs StoreSide (LeavesOneOfStores z (dated z.store date ∷ ends_as finished k z.store v.volume ∷ [])) start end
      → Passes start end (LeavesCommits (kept at_start) (unless_refused (first_refused effect_by.tested) effect_by.undone effect_by.commits) (now start))
  backup_moments none start end apart rests runs =
      subst (λ (cs : List Stored). Passes start end (LeavesCommits (kept at_start) cs (now start))) (sym (commits_are none walks (refusal_is none)))
      (run_moments z (dated z.store date ∷ ends_as finished k z.store v.volume ∷ []) (Some v) start end apart rests runs)
