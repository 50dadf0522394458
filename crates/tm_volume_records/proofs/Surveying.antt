-- The positions of items and the least bad number, a number more.
use Rattle.std.proofs.Common.{◌≡◌, ◌↔◌, ⊎_elim, ℕ, zero, suc, ◌+◌, ◌<◌, ◌≤◌, Bool, true, false, IsTrue, List, [], ◌∷◌, ◌++◌, length, Option, Some, None, IfSome, refl, sym, ◌∙◌, ap, subst, arith, length-append}
use Rattle.std.specs.List.{slice_get}
use Rattle.std.specs.Option.{option_map}
use Rattle.std.proofs.lemmas.Bool.{cases_lt}
use Rattle.std.proofs.lemmas.Option.{slice_get_past}
use Rattle.tm_records.specs.Records.{Records}
use Rattle.tm_volume_records.specs.declared.positions.Position.{Position}
use Rattle.tm_volume_records.specs.Loads.{row_in, row_of_record, position_at, position_of_row, position_or, IsOwn, KeepsOwn, ArePositionsBelow, IsWorst, NoneBetween}
use Rattle.tm_base.specs.Limits.{max_items}

module _ {X : Type 0} where
  get_before : (xs : List X) (x : X) (k : ℕ) → k < length xs → slice_get (xs ++ x ∷ []) k ≡ slice_get xs k
  get_before [] x k lt = absurd (omega (arith, lt))
  get_before (y ∷ xs) x zero lt = refl
  get_before (y ∷ xs) x (suc k) lt = get_before xs x k (omega (arith, lt))

  get_last : (xs : List X) (x : X) (k : ℕ) → k ≡ length xs → slice_get (xs ++ x ∷ []) k ≡ Some x
  get_last [] x zero e = refl
  get_last [] x (suc k) e = absurd (omega (arith, e))
  get_last (y ∷ xs) x zero e = absurd (omega (arith, e))
  get_last (y ∷ xs) x (suc k) e = get_last xs x k (omega (arith, e))

-- an empty place more changes nothing
pub none_pushed : (xs : List (Option Position)) (m : ℕ) → position_at (xs ++ None ∷ []) m ≡ position_at xs m
none_pushed xs m = ⊎_elim
    (λ (before : m < length xs). ap position_or (get_before xs None m before))
    (λ (from : length xs ≤ m). ⊎_elim
    (λ (past : length xs < m). ap position_or (slice_get_past (xs ++ None ∷ []) m (omega (arith, past, length-append xs (None ∷ [])))) ∙ sym (ap position_or (slice_get_past xs m from)))
    (λ (here : m ≤ length xs). ap position_or (get_last xs None m (omega (arith, here, from))) ∙ sym (ap position_or (slice_get_past xs m from)))
    (cases_lt (length xs) m))
    (cases_lt m (length xs))

pub last_position : (xs : List (Option Position)) (position : Option Position) (n : ℕ) → length xs ≡ n → position_at (xs ++ position ∷ []) n ≡ position
last_position xs position n many = ap position_or (get_last xs position n (sym many)) ∙ position_itself position
  where
    position_itself : (o : Option Position) → position_or (Some o) ≡ o
    position_itself o = refl

pub position_before : (xs : List (Option Position)) (position : Option Position) (m : ℕ) → m < length xs → position_at (xs ++ position ∷ []) m ≡ position_at xs m
position_before xs position m lt = ap position_or (get_before xs position m lt)

pub positions_none : (records : Records) → ArePositionsBelow records 1 []
positions_none records = record { many = omega arith; none = refl; each = λ m low high. absurd (omega (arith, low, high)) }

-- numbers that no item has
pub positions_past : (records : Records) (from n : ℕ) (positions : List (Option Position)) → from ≤ n → ArePositionsBelow records from positions → NoneBetween records from n → ArePositionsBelow records n positions
positions_past records from n positions up old none = record {
  many = omega (arith, old.many, up);
  none = old.none;
  each = λ m least lt. ⊎_elim
      (λ (before : m < from). old.each m least before)
      (λ (gap : from ≤ m). ap position_or (slice_get_past positions m (omega (arith, old.many, gap))) ∙ sym (ap (λ o. option_map position_of_row (row_of_record o)) (none m gap lt)))
      (cases_lt m from);
}

-- and one that an item has
pub positions_more : (records : Records) (n : ℕ) (positions new : List (Option Position)) (position : Option Position) → 1 ≤ n → ArePositionsBelow records n positions → position ≡ option_map position_of_row (row_in records n)
    → length new ≡ n + 1 → position_at new n ≡ position → ((m : ℕ) → m < n → position_at new m ≡ position_at positions m) → ArePositionsBelow records (n + 1) new
positions_more records n positions new position low old is many here others = record {
  many = omega (arith, many);
  none = others 0 (omega (arith, low)) ∙ old.none;
  each = λ m least lt. ⊎_elim
      (λ (before : m < n). others m before ∙ old.each m least before)
      (λ (last : n ≤ m). let same : n ≡ m = omega (arith, lt, last) in subst (λ k. position_at new k ≡ option_map position_of_row (row_in records k)) same (here ∙ is))
      (cases_lt m n);
}

pub worst_none : (records : Records) (next : ℕ) → IsWorst records next 1 (max_items + 1)
worst_none records next = record {
  least = omega arith;
  most = omega arith;
  below = λ m low high lt. absurd (omega (arith, low, high));
  bad = λ lt. absurd (omega (arith, lt));
  high = λ le. refl;
}

-- numbers that no item has are not bad
pub worst_past : (records : Records) (next from n worst : ℕ) → from ≤ n → n ≤ max_items + 1 → IsWorst records next from worst → NoneBetween records from n → IsWorst records next n worst
worst_past records next from n worst up few old none = record {
  least = old.least;
  most = old.most;
  below = λ m least lt under. ⊎_elim
      (λ (before : m < from). old.below m least before under)
      (λ (gap : from ≤ m). subst (λ o. IfSome o (IsOwn next)) (sym (none m gap lt)) tt)
      (cases_lt m from);
  bad = λ lt own. ⊎_elim
      (λ (before : worst < from). old.bad before own)
      (λ (gap : from ≤ worst). absurd (omega (arith, old.high gap, lt, few)))
      (cases_lt worst from);
  high = λ le. old.high (omega (arith, le, up));
}

module _ (records : Records) (next n worst worst2 : ℕ) (few : n < max_items + 1) (low : 1 ≤ n) (old : IsWorst records next n worst) where
  good_more : KeepsOwn records next n → worst2 ≡ worst → IsWorst records next (n + 1) worst2
  good_more own same = subst (λ w. IsWorst records next (n + 1) w) (sym same) (record {
    least = old.least;
    most = old.most;
    below = λ m least lt under. ⊎_elim
        (λ (before : m < n). old.below m least before under)
        (λ (here : n ≤ m). let e : n ≡ m = omega (arith, lt, here) in subst (λ k. KeepsOwn records next k) e own)
        (cases_lt m n);
    bad = λ lt k. ⊎_elim
        (λ (before : worst < n). old.bad before k)
        (λ (here : n ≤ worst). omega (arith, old.high here, lt, here, few))
        (cases_lt worst n);
    high = λ le. old.high (omega (arith, le));
  })

  bad_more : (KeepsOwn records next n → ⊥) → (worst ≤ n → worst2 ≡ worst) × (n < worst → worst2 ≡ n) → IsWorst records next (n + 1) worst2
  bad_more broken first = ⊎_elim
      (λ (before : worst < n). subst (λ w. IsWorst records next (n + 1) w) (sym (first.0 (omega (arith, before)))) (record {
        least = old.least;
        most = old.most;
        below = λ m least lt under. old.below m least (omega (arith, under, before)) under;
        bad = λ lt k. old.bad before k;
        high = λ le. absurd (omega (arith, le, before));
      }))
      (λ (here : n ≤ worst). subst (λ w. IsWorst records next (n + 1) w) (sym (first.1 (omega (arith, old.high here, few)))) (record {
        least = low;
        most = omega (arith, few);
        below = λ m least lt under. old.below m least under (omega (arith, under, here));
        bad = λ lt k. broken k;
        high = λ le. absurd (omega (arith, le));
      }))
      (cases_lt worst n)

  pub worst_more : (good : Bool) → (IsTrue good ↔ KeepsOwn records next n) → (good ≡ true → worst2 ≡ worst) → (good ≡ false → (worst ≤ n → worst2 ≡ worst) × (n < worst → worst2 ≡ n)) → IsWorst records next (n + 1) worst2
  worst_more true both kept first = good_more (both.0 refl) (kept refl)
  worst_more false both kept first = bad_more (λ k. let bad : false ≡ true = both.1 k in cc) (first refl)
