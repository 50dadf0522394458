-- When a backup may start.
use Rattle.std.proofs.Common.{◌≡◌, ⊎_elim, ℕ, ◌+◌, ◌-◌, ◌^◌, ◌<◌, ◌≤◌, Bool, true, false, cond, nat_lt, nat_le, Option, Some, None, List, [], ◌∷◌, ◌++◌, length, map, zero, suc, refl, sym, ◌∙◌, ap, subst, arith}
use Rattle.std.specs.Prelude.{slice_get}
use Rattle.std.specs.List.{All}
use Rattle.std.specs.Option.{option_map}
use Rattle.std.proofs.lemmas.Bool.Decides.{nat_tests}
use Rattle.std.proofs.lemmas.Bool.{cases_lt}
use Rattle.tm_base.specs.declared.refused.Refused.{Refused}
use Rattle.tm_base.specs.declared.refused.Refused.TheVariants.{DateNotLater, IdsSpent, TooMany}
use Rattle.tm_base.specs.Limits.{max_snapshots}
use Rattle.tm_tree.specs.Refusing.{first_refused, needs_moment, too_many}
use Rattle.tm_tree.specs.States.{Snapshot}
use Rattle.tm_store_records.specs.declared.snapshot.Snapshot.{Snapshot as Row}
use Rattle.tm_store_records.specs.Found.{snapshot_key}
use Rattle.tm_store_records.specs.Held.{Held, IsWhole, MayFinish, files_of, store_on}
use Rattle.tm_store_records.specs.States.{snapshot_on}
use Rattle.tm_machine.specs.Steps.{backup_tests, date_tests}
use Rattle.tm_machine.proofs.StoredLemmas.{last_is, latest_is}

same_length : {X Y : Type 0} (f : X → Y) (xs : List X) → length (map f xs) ≡ length xs
same_length f [] = refl
same_length f (x ∷ xs) = ap suc (same_length f xs)

module _ (h : Held) (bytes : ℕ → List ℕ) (date : ℕ) (few : length h.snapshots < max_snapshots) where
  abbrev told : Row → Snapshot
  told s = snapshot_on (files_of h.image.records bytes) h.nodes s

  -- the tests where the latest snapshot is this
  abbrev why_with : ℕ → Option Snapshot → Option Refused
  why_with n found = first_refused (too_many max_snapshots (n + 1) ++ date_tests found (Some date) ++ needs_moment (Some date) ++ (nat_le (2 ^ 40) h.number, IdsSpent) ∷ [])

  abbrev spent : Option Refused
  spent = cond (nat_le (2 ^ 40) h.number) (Some IdsSpent) None

  not_many : nat_lt max_snapshots (length h.snapshots + 1) ≡ false
  not_many = grind (arith, nat_tests)

  why_is : (o : Option Row) → slice_get h.snapshots (length h.snapshots - 1) ≡ o → first_refused (backup_tests (store_on h bytes) (Some date)) ≡ why_with (length h.snapshots) (option_map told o)
  why_is o last = (λ i. why_with (same_length told h.snapshots i) ((latest_is h bytes ∙ ap (option_map told) (sym (last_is h.snapshots) ∙ last)) i))

  with_none : why_with (length h.snapshots) None ≡ spent
  with_none = ap (λ (b : Bool). cond b (Some (TooMany (length h.snapshots + 1))) spent) not_many

  with_some : (s : Row) (b : Bool) → nat_le date s.date ≡ b → why_with (length h.snapshots) (Some (told s)) ≡ cond b (Some (DateNotLater s.date)) spent
  with_some s b e =
      ap (λ (t : Bool). cond t (Some (TooMany (length h.snapshots + 1))) (cond (nat_le date s.date) (Some (DateNotLater s.date)) spent)) not_many
      ∙ ap (λ (t : Bool). cond t (Some (DateNotLater s.date)) spent) e

  pub not_later : (s : Row) → slice_get h.snapshots (length h.snapshots - 1) ≡ Some s → date ≤ s.date → first_refused (backup_tests (store_on h bytes) (Some date)) ≡ Some (DateNotLater s.date)
  not_later s last le = why_is (Some s) last ∙ with_some s true (grind (arith, nat_tests))

  spent_or : (o : Option Row) → slice_get h.snapshots (length h.snapshots - 1) ≡ o → ((s : Row) → o ≡ Some s → s.date < date) → first_refused (backup_tests (store_on h bytes) (Some date)) ≡ spent
  spent_or None last later = why_is None last ∙ with_none
  spent_or (Some s) last later = let lt = later s refl in why_is (Some s) last ∙ with_some s false (grind (arith, nat_tests))

  pub is_spent : ((s : Row) → slice_get h.snapshots (length h.snapshots - 1) ≡ Some s → s.date < date) → 2 ^ 40 ≤ h.number → first_refused (backup_tests (store_on h bytes) (Some date)) ≡ Some IdsSpent
  is_spent later most = spent_or _ refl later ∙ ap (λ (b : Bool). cond b (Some IdsSpent) None) (let t : nat_le (2 ^ 40) h.number ≡ true = grind (arith, nat_tests) in t)

  pub may_start : ((s : Row) → slice_get h.snapshots (length h.snapshots - 1) ≡ Some s → s.date < date) → h.number < 2 ^ 40 → first_refused (backup_tests (store_on h bytes) (Some date)) ≡ None
  may_start later most = spent_or _ refl later ∙ ap (λ (b : Bool). cond b (Some IdsSpent) None) (let t : nat_le (2 ^ 40) h.number ≡ false = grind (arith, nat_tests) in t)

-- ---- later than all

rising : (h : Held) → IsWhole h → (i j : ℕ) (x y : Row) → i < j → slice_get h.snapshots i ≡ Some x → slice_get h.snapshots j ≡ Some y → x.date < y.date
rising h whole i j x y lt at_i at_j = subst (λ (ss : List Row). slice_get ss i ≡ Some x → slice_get ss j ≡ Some y → x.date < y.date) (sym whole.snapshots_are)
    (λ a b. ((whole.good (snapshot_key y.number)).snapshot j y b refl).later i x lt a) at_i at_j

place_low : {X : Type 0} (xs : List X) (i : ℕ) (x : X) → slice_get xs i ≡ Some x → i < length xs
place_low [] i x is = absurd (cc is)
place_low (y ∷ xs) zero x is = omega arith
place_low (y ∷ xs) (suc i) x is = let rest = place_low xs i x is in omega (arith, rest)

there_is : {X : Type 0} (xs : List X) (i : ℕ) → i < length xs → (x : X) × (slice_get xs i ≡ Some x)
there_is [] i lt = absurd (omega (arith, lt))
there_is (x ∷ xs) zero lt = (x, refl)
there_is (x ∷ xs) (suc i) lt = there_is xs i (omega (arith, lt))

all_places : {X : Type 0} (P : X → Type 0) (xs : List X) → ((i : ℕ) (x : X) → slice_get xs i ≡ Some x → P x) → All P xs
all_places P [] f k d low = absurd (omega (arith, low))
all_places P (x ∷ xs) f zero d low = f 0 x refl
all_places P (x ∷ xs) f (suc k) d low = all_places P xs (λ i y is. f (suc i) y is) k d (omega (arith, low))

pub may_finish : (h : Held) (date : ℕ) → IsWhole h → length h.snapshots < max_snapshots → ((s : Row) → slice_get h.snapshots (length h.snapshots - 1) ≡ Some s → s.date < date) → h.number < 2 ^ 40 → MayFinish h date
may_finish h date whole few later most = record {
  later = all_places (λ (s : Row). s.date < date) h.snapshots each;
  few = few;
  number = most;
}
  where
    each : (i : ℕ) (x : Row) → slice_get h.snapshots i ≡ Some x → x.date < date
    each i x is =
        let low = place_low h.snapshots i x is in
        let last = there_is h.snapshots (length h.snapshots - 1) (omega (arith, low)) in
        let top = later last.0 last.1 in
        ⊎_elim
        (λ (lt : i < length h.snapshots - 1). let less = rising h whole i (length h.snapshots - 1) x last.0 lt is last.1 in omega (arith, less, top))
        (λ (le : length h.snapshots - 1 ≤ i). let same : i ≡ length h.snapshots - 1 = omega (arith, le, low) in later x (subst (λ j. slice_get h.snapshots j ≡ Some x) same is))
        (cases_lt i (length h.snapshots - 1))
