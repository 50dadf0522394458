-- Lines that commit on the volume's side.
use Rattle.std.proofs.Common.{◌≡◌, ◌≢◌, ◌⊎◌, ⊎_elim, ℕ, ◌≤◌, false, Option, Some, None, is_some, unwrap_or, nat_lt, Result, Ok, Err, List, [], ◌∷◌, ◌++◌, refl, sym, ◌∙◌, ap, subst, arith}
use Rattle.std.proofs.lemmas.Bool.Decides.{nat_tests}
use Rattle.std.proofs.lemmas.Option.{none-some}
use Rattle.tm_base.specs.declared.refused.LineFault.{LineFault}
use Rattle.tm_base.specs.declared.refused.LineFault.TheVariants.{Refused as RefusedFor, Fault, Memory}
use Rattle.tm_base.specs.declared.refused.Refused.{Refused}
use Rattle.tm_base.specs.declared.refused.Refused.TheVariants.{Already, Small, IdTaken}
use Rattle.tm_base.specs.Limits.{min_blocks}
use Rattle.tm_base.specs.LineFaults.{NoFault}
use Rattle.tm_reply.specs.declared.row.ReplyRow.{ReplyRow}
use Rattle.tm_tree.specs.declared.change.Change.{Change}
use Rattle.tm_tree.specs.declared.rows.Touch.{Touch}
use Rattle.tm_tree.specs.Refusing.{Tests, first_refused, needs_moment}
use Rattle.tm_tree.specs.States.{StoreState}
use Rattle.tm_store.specs.Sides.{StoreSideReads, LeavesStoreSide}
use Rattle.tm_store_records.specs.Held.{Held}
use Rattle.tm_store_records.specs.States.{StoredStore}
use Rattle.tm_changes.specs.Answers.{MeetsChange}
use Rattle.tm_changes.specs.Changes as volume
use Rattle.tm_volume.specs.Reads.{SideReads, LeavesEither}
use Rattle.tm_volume.specs.Seen.{Seen as VolumeSeen, IsKept, IsReady, StandsOn, stored_on}
use Rattle.tm_volume.specs.Stored.{StoredVolume, new_stored}
use Rattle.tm_world.specs.Disk.{Disk, Image}
use Rattle.tm_world.specs.Log.{Log, now, Passes}
use Rattle.tm_world.specs.Outside.{disk, AreApart}
use Rattle.tm_world.specs.Runs.{Runs}
use Rattle.tm_world.specs.declared.world.Side.{Side}
use Rattle.tm_world.specs.declared.world.Side.TheVariants.{Volume as VolumeSide, Store as StoreSide}
use Rattle.tm_world.proofs.Pairs.{Runs-ends}
use Rattle.tm_machine.specs.Session.{Seen, state_on, StoreStands, Standing, IsOpen, IfReplied, Effect, effect, Replies, Does}
use Rattle.tm_machine.specs.States.{State, Stored, kept, store_in}
use Rattle.tm_machine.specs.Steps.{changed, change_tests, new_volume_tests, is_taken, unless_refused}
use Rattle.tm_machine.specs.Stops.{HaveNoVolume, IsAmong, LeavesCommits}
use Rattle.tm_machine.proofs.Resting.{held_in, seen, state, pair, volume_moments, none_made, one_made, some_volume}

-- ---- after a run on the volume's side

module _ (P : Disk → Type 0) (start end : Log) (apart : AreApart (now start)) (runs : Runs VolumeSide P start end) where
  there : disk StoreSide (now end) ≡ disk StoreSide (now start)
  there = (Runs-ends VolumeSide P start end apart runs).there

  held_there : (h : Option Held) → held_in (disk StoreSide (now end)).bytes h ≡ held_in (disk StoreSide (now start)).bytes h
  held_there h = ap (λ (d : Disk). held_in d.bytes h) there

  pub volume_standing : (n k : ℕ) (new : VolumeSeen) (h : Option Held) (moment : Option ℕ) → StandsOn new (disk VolumeSide (now end)) → StoreStands h (disk StoreSide (now start))
      → Standing (seen n k (Some new) h moment) (now end)
  volume_standing n k new h moment stands store_stands = record {
    apart = (Runs-ends VolumeSide P start end apart runs).apart;
    volume_side = stands;
    store_side = subst (StoreStands h) (sym there) store_stands;
  }

-- ---- a change

change_among : (why : Option Refused) (old new : StoredVolume) (z : Option StoredStore) (u w : Image) → SideReads u (Some old) ⊎ SideReads u (Some (volume.unless why old new)) → StoreSideReads w z
    → IsAmong (pair (Some old) z) (unless_refused why [] (pair (Some new) z ∷ [])) u w
change_among None old new z u w h reads = ⊎_elim (λ is. none_made (Some old) z _ u w is reads) (λ is. one_made (pair (Some old) z) (Some new) z [] u w is reads) h
change_among (Some why) old new z u w h reads = ⊎_elim (λ is. none_made (Some old) z [] u w is reads) (λ is. none_made (Some old) z [] u w is reads) h

-- by other data lines that are the same
pub does_rows : (d : Effect) (m new : Seen) (start end : Log) (found rows : List ReplyRow) → Does d m new start end (Ok found) → rows ≡ found → Does d m new start end (Ok rows)
does_rows d m new start end found rows does is = subst (λ (x : List ReplyRow). Does d m new start end (Ok x)) (sym is) does

-- the touches of a change are not told
abbrev pub reply_of : Result (List Touch) LineFault → Result (List ReplyRow) LineFault
reply_of (Ok found) = Ok []
reply_of (Err why) = Err why

change_replies : (n k : ℕ) (old new : StoredVolume) (z : Option StoredStore) (moment : Option ℕ) (c : Change) (made : List Stored) (result : Result (List Touch) LineFault)
    → MeetsChange n old c moment new result
    → Replies (effect (volume.change_tests n old c moment) [] (state n k (Some (volume.changed old c moment)) z moment) made (state n k (Some old) z moment)) (state n k (Some new) z moment) (reply_of result)
change_replies n k old new z moment c made (Ok found) h = (h.0, refl, ap (λ (v : StoredVolume). state n k (Some v) z moment) h.2)
change_replies n k old new z moment c made (Err (RefusedFor why)) h = (h.0, ap (λ (v : StoredVolume). state n k (Some v) z moment) h.1)
change_replies n k old new z moment c made (Err (Fault side)) h = tt
change_replies n k old new z moment c made (Err Memory) h = tt

pub change_replied : (result : Result (List Touch) LineFault) (fact : Type 0) → (NoFault result → fact) → IfReplied (reply_of result) fact
change_replied (Ok found) fact h = h (λ side e. cc)
change_replied (Err (RefusedFor why)) fact h = h (λ side e. cc)
change_replied (Err (Fault side)) fact h = tt
change_replied (Err Memory) fact h = tt

-- what a change does, in a session of these parts
abbrev DoesChange : Seen → Seen → Change → Log → Log → Result (List ReplyRow) LineFault → Type 0
DoesChange m new c start end result =
    let s = state_on m (now start) in Does (effect (change_tests s c) [] (changed s c) (kept (changed s c) ∷ []) s) m new start end result

change_does_at : (n k : ℕ) (v new : VolumeSeen) (h : Option Held) (moment : Option ℕ) (c : Change) (start end : Log) (result : Result (List Touch) LineFault)
    → AreApart (now start) → StoreStands h (disk StoreSide (now start)) → LeavesStoreSide (held_in (disk StoreSide (now start)).bytes h) (disk StoreSide (now start))
    → MeetsChange n (stored_on v (disk VolumeSide (now start)).bytes) c moment (stored_on new (disk VolumeSide (now end)).bytes) result
    → (NoFault result → StandsOn new (disk VolumeSide (now end)))
    → Runs VolumeSide (LeavesEither (Some (stored_on v (disk VolumeSide (now start)).bytes)) (Some (volume.after_change n (stored_on v (disk VolumeSide (now start)).bytes) c moment))) start end
    → DoesChange (seen n k (Some v) h moment) (seen n k (Some new) h moment) c start end (reply_of result)
change_does_at n k v new h moment c start end result apart store_stands rests meets stands runs =
    let old = stored_on v (disk VolumeSide (now start)).bytes in
    let z = held_in (disk StoreSide (now start)).bytes h in
    let tested = volume.change_tests n old c moment in
    let made = pair (Some (volume.changed old c moment)) z ∷ [] in
    record {
      replies = subst (λ (x : Option StoredStore). Replies (effect tested [] (state n k (Some (volume.changed old c moment)) z moment) made (state n k (Some old) z moment))
          (state n k (Some (stored_on new (disk VolumeSide (now end)).bytes)) x moment) (reply_of result)) (sym (held_there _ start end apart runs h))
          (change_replies n k old (stored_on new (disk VolumeSide (now end)).bytes) z moment c made result meets);
      standing = change_replied result (Standing (seen n k (Some new) h moment) (now end))
          (λ no_fault. volume_standing _ start end apart runs n k new h moment (stands no_fault) store_stands);
      moments = volume_moments (Some old) (Some (volume.after_change n old c moment)) z (unless_refused (first_refused tested) [] made) start end apart rests
          (change_among (first_refused tested) old (volume.changed old c moment) z) (λ none few. absurd (none-some old (sym none))) runs;
    }

module _ (m : Seen) (n k count : ℕ) (w : Option VolumeSeen) (v new : VolumeSeen) (h : Option Held) (moment : Option ℕ) (c : Change) (start end : Log) (result : Result (List Touch) LineFault)
    (is : seen n k w h moment ≡ m) (some : w ≡ Some v) (counts : count ≡ m.volume_blocks) (standing : Standing m (now start)) where
  was : seen n k (Some v) h moment ≡ m
  was = ap (λ (x : Option VolumeSeen). seen n k x h moment) (sym some) ∙ is

  many : count ≡ n
  many = counts ∙ sym (ap (λ (x : Seen). x.volume_blocks) is)

  abbrev before : StoredVolume
  before = stored_on v (disk VolumeSide (now start)).bytes

  pub change_does : LeavesStoreSide (state_on m (now start)).store (disk StoreSide (now start))
      → MeetsChange count before c moment (stored_on new (disk VolumeSide (now end)).bytes) result
      → (NoFault result → StandsOn new (disk VolumeSide (now end)))
      → Runs VolumeSide (LeavesEither (Some before) (Some (volume.after_change count before c moment))) start end
      → DoesChange m (seen n k (Some new) h moment) c start end (reply_of result)
  change_does rests meets stands runs =
      subst (λ (x : Seen). DoesChange x (seen n k (Some new) h moment) c start end (reply_of result)) was
      (change_does_at n k v new h moment c start end result standing.apart
      (subst (λ (x : Seen). StoreStands x.store (disk StoreSide (now start))) (sym is) standing.store_side)
      (subst (λ (x : Seen). LeavesStoreSide (state_on x (now start)).store (disk StoreSide (now start))) (sym is) rests)
      (subst (λ (j : ℕ). MeetsChange j before c moment (stored_on new (disk VolumeSide (now end)).bytes) result) many meets) stands
      (subst (λ (j : ℕ). Runs VolumeSide (LeavesEither (Some before) (Some (volume.after_change j before c moment))) start end) many runs))

pub change_open : (m : Seen) (n k : ℕ) (w : Option VolumeSeen) (v new : VolumeSeen) (h : Option Held) (moment : Option ℕ) (blocks after : Side → ℕ) (result : Result (List Touch) LineFault)
    → seen n k w h moment ≡ m → IsOpen m blocks → after ≡ blocks → IsKept new → (NoFault result → IsReady new (blocks VolumeSide))
    → IfReplied (reply_of result) (IsOpen (seen n k (Some new) h moment) after)
change_open m n k w v new h moment blocks after result is is_open same sound ready =
    let at = subst (λ (x : Seen). IsOpen x blocks) (sym is) is_open in
    change_replied result (IsOpen (seen n k (Some new) h moment) after) (λ no_fault. record {
      count = ap (λ (b : Side → ℕ). b VolumeSide) same ∙ at.count;
      small = at.small;
      sound = sound;
      ready = subst (λ (j : ℕ). IsReady new j) at.count (ready no_fault);
      store_count = ap (λ (b : Side → ℕ). b StoreSide) same ∙ at.store_count;
      store_small = at.store_small;
      idle = at.idle;
    })

-- ---- a new volume

format_among : (why : Option Refused) (made : StoredVolume) (z : Option StoredStore) (u w : Image) → why ≡ None → SideReads u None ⊎ SideReads u (Some made) → StoreSideReads w z
    → IsAmong (pair None z) (unless_refused why [] (pair (Some made) z ∷ [])) u w
format_among None made z u w none h reads = ⊎_elim (λ is. none_made None z _ u w is reads) (λ is. one_made (pair None z) (Some made) z [] u w is reads) h
format_among (Some why) made z u w none h reads = cc

pub failed_replies : (tested : Tests) (after new left : State) (made : List Stored) (why : LineFault) → ((r : Refused) → why ≡ RefusedFor r → ⊥) → Replies (effect tested [] after made left) new (Err why)
failed_replies tested after new left made (RefusedFor r) h = absurd (h r refl)
failed_replies tested after new left made (Fault side) h = tt
failed_replies tested after new left made Memory h = tt

pub failed_replied : (why : LineFault) (fact : Type 0) → ((r : Refused) → why ≡ RefusedFor r → ⊥) → IfReplied {A = List ReplyRow} (Err why) fact
failed_replied (RefusedFor r) fact h = absurd (h r refl)
failed_replied (Fault side) fact h = tt
failed_replied Memory fact h = tt

pub is_none_of : {A : Type 0} (w : Option A) → is_some w ≡ false → None ≡ w
is_none_of None h = refl
is_none_of (Some v) h = cc

-- the tests of a new volume
abbrev tests_at : ℕ → Option StoreState → Option ℕ → ℕ → Tests
tests_at n store moment id = (false, Already) ∷ (nat_lt n min_blocks, Small) ∷ needs_moment moment ++ (is_taken store id, IdTaken) ∷ []

not_small : (n : ℕ) → min_blocks ≤ n → nat_lt n min_blocks ≡ false
not_small n h = grind (arith, nat_tests)

tests_pass : (n : ℕ) (store : Option StoreState) (d id : ℕ) → nat_lt n min_blocks ≡ false → is_taken store id ≡ false → first_refused (tests_at n store (Some d) id) ≡ None
tests_pass n store d id large free = rw (large, free) refl

module _ (m : Seen) (n k : ℕ) (w : Option VolumeSeen) (h : Option Held) (moment : Option ℕ) (d : ℕ) (name : List ℕ) (id events : ℕ) (start end : Log)
    (is : seen n k w h moment ≡ m) (none : is_some w ≡ false) (large : min_blocks ≤ n) (dated : moment ≡ Some d) (free : is_taken (store_in (state_on m (now start)).store) id ≡ false)
    (standing : Standing m (now start)) (rests : LeavesStoreSide (state_on m (now start)).store (disk StoreSide (now start)))
    (runs : Runs VolumeSide (LeavesEither None (Some (new_stored name id events d))) start end) where
  abbrev made : Option ℕ → StoredVolume
  made mo = new_stored name id events (unwrap_or mo 0)

  abbrev DoesAt : Seen → Seen → Result (List ReplyRow) LineFault → Type 0
  DoesAt x new result =
      let s = state_on x (now start) in let after = record s { volume = Some (made x.moment) } in
      Does (effect (new_volume_tests s id) [] after (kept after ∷ []) s) x new start end result

  was_blank : seen n k None h moment ≡ m
  was_blank = ap (λ (x : Option VolumeSeen). seen n k x h moment) (is_none_of w none) ∙ is

  was_at : seen n k None h (Some d) ≡ m
  was_at = ap (λ (x : Option ℕ). seen n k None h x) (sym dated) ∙ was_blank

  abbrev z : Option StoredStore
  z = held_in (disk StoreSide (now start)).bytes h

  pass : first_refused (tests_at n (store_in z) (Some d) id) ≡ None
  pass = tests_pass n (store_in z) d id (not_small n large) (ap (λ (x : Seen). is_taken (store_in (state_on x (now start)).store) id) is ∙ free)

  rests_at : LeavesStoreSide z (disk StoreSide (now start))
  rests_at = subst (λ (x : Seen). LeavesStoreSide (state_on x (now start)).store (disk StoreSide (now start))) (sym is) rests

  moments_at : Passes start end (LeavesCommits (pair None z) (unless_refused (first_refused (tests_at n (store_in z) (Some d) id)) [] (pair (Some (new_stored name id events d)) z ∷ [])) (now start))
  moments_at = volume_moments None (Some (new_stored name id events d)) z _ start end standing.apart rests_at
      (λ u v a b. format_among (first_refused (tests_at n (store_in z) (Some d) id)) (new_stored name id events d) z u v pass a b)
      (λ none few. some_volume (new_stored name id events d) z []
      (subst (λ (why : Option Refused). HaveNoVolume (unless_refused why [] (pair (Some (new_stored name id events d)) z ∷ []))) pass few)) runs

  pub format_does : (new : VolumeSeen) → StandsOn new (disk VolumeSide (now end)) → stored_on new (disk VolumeSide (now end)).bytes ≡ new_stored name id events d
      → DoesAt m (seen n k (Some new) h moment) (Ok [])
  format_does new stands stored =
      let core : DoesAt (seen n k None h (Some d)) (seen n k (Some new) h (Some d)) (Ok []) = record {
        replies = (pass, refl, λ i. record { volume_blocks = n; store_blocks = k; volume = Some (stored i); store = held_there _ start end standing.apart runs h i; moment = Some d });
        standing = volume_standing _ start end standing.apart runs n k new h (Some d) stands (subst (λ (x : Seen). StoreStands x.store (disk StoreSide (now start))) (sym is) standing.store_side);
        moments = moments_at;
      } in
      subst (λ (x : Seen). DoesAt x (seen n k (Some new) h moment) (Ok [])) was_at
      (subst (λ (mo : Option ℕ). DoesAt (seen n k None h (Some d)) (seen n k (Some new) h mo) (Ok [])) (sym dated) core)

  pub format_fails : (new : Seen) (result : Result (List ReplyRow) LineFault) (why : LineFault) → result ≡ Err why → ((r : Refused) → why ≡ RefusedFor r → ⊥) → DoesAt m new result
  format_fails new result why is_why failed =
      let core : DoesAt (seen n k None h (Some d)) new (Err why) = record {
        replies = failed_replies (tests_at n (store_in z) (Some d) id) (state n k (Some (made (Some d))) z (Some d)) (state_on new (now end)) (state n k None z (Some d)) (pair (Some (made (Some d))) z ∷ []) why failed;
        standing = failed_replied why (Standing new (now end)) failed;
        moments = moments_at;
      } in
      subst (DoesAt m new) (sym is_why) (subst (λ (x : Seen). DoesAt x new (Err why)) was_at core)

  pub format_open : (new : VolumeSeen) (blocks after : Side → ℕ) → IsOpen m blocks → after ≡ blocks → IsKept new → IsReady new n → IsOpen (seen n k (Some new) h moment) after
  format_open new blocks after is_open same sound ready =
      let at = subst (λ (x : Seen). IsOpen x blocks) (sym is) is_open in
      record {
        count = ap (λ (b : Side → ℕ). b VolumeSide) same ∙ at.count;
        small = at.small;
        sound = sound;
        ready = ready;
        store_count = ap (λ (b : Side → ℕ). b StoreSide) same ∙ at.store_count;
        store_small = at.store_small;
        idle = at.idle;
      }
