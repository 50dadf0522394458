-- Touches and drops leave rows that an image may keep.
use Rattle.std.proofs.Common.{suc, ◌≡◌, ℕ, ◌+◌, ◌<◌, ◌≤◌, inl, inr, Bool, true, false, not, cond, List, [], ◌∷◌, ◌++◌, filter, length, nat_lt, refl, subst, arith, get_or}
use Rattle.std.specs.List.{All}
use Rattle.std.proofs.lemmas.Bool.Decides.{Decides-ltb}
use Rattle.std.proofs.lemmas.List.Elements.{All-append, All-filter}
use Rattle.tm_base.proofs.Facts.{all_one}
use Rattle.tm_tree.specs.declared.rows.Row.{Row}
use Rattle.tm_journal.specs.Rows.{replaces, root_row, add_touch, add_touches, row_of}
use Rattle.tm_journal.specs.Keepable.{AreFlags, AreKeepable, TouchesStayKeepable, DropStaysKeepable, LaterStaysKeepable, KeepableAreAboveZero}
use Rattle.tm_journal.proofs.ByPath.{filter_all}
use Rattle.tm_journal.proofs.ById.{less_not, all_from, rising_from, rising_to, rising_filter, rising_push}

all_more : (P Q : Row → Type 0) (rows : List Row) → ((row : Row) → P row → Q row) → All P rows → All Q rows
all_more P Q rows f h k d l = f _ (h k d l)

pub later_stays_keepable : LaterStaysKeepable
later_stays_keepable capacity next later rows le h =
    record { rising = h.rising; few = h.few; low = h.low; below = all_more (λ row. row.id < next) (λ row. row.id < later) rows (λ row l. omega (arith, l, le)) h.below; flags = h.flags }

-- one row at the root
root_keepable : (capacity id flags : ℕ) → 1 ≤ capacity → 1 ≤ id → AreFlags flags → AreKeepable capacity (id + 1) (root_row id flags)
root_keepable capacity id flags some low are =
    let row : Row = record { id = id; path = []; flags = flags } in
    record {
      rising = rising_to (root_row id flags) (tt, tt);
      few = omega (arith, some);
      low = all_one (λ (r : Row). 1 ≤ r.id) row low;
      below = all_one (λ (r : Row). r.id < id + 1) row (omega arith);
      flags = all_one (λ (r : Row). AreFlags r.flags) row are;
    }

pub drop_stays_keepable : DropStaysKeepable
drop_stays_keepable capacity id some low = root_keepable capacity id 5 some low (inr (inr (inr refl)))

abbrev left_with : List Row → Row → List Row
left_with rows touch = filter (λ row. not (replaces touch row)) rows ++ touch ∷ []

pub touch_stays_keepable : (capacity : ℕ) (rows : List Row) (touch : Row) → 1 ≤ capacity → 1 ≤ touch.id → AreFlags touch.flags → AreKeepable capacity touch.id rows → AreKeepable capacity (touch.id + 1) (add_touch capacity rows touch)
touch_stays_keepable capacity rows touch some low are h = by_test (nat_lt capacity (length (left_with rows touch))) refl
  where
    by_test : (b : Bool) → nat_lt capacity (length (left_with rows touch)) ≡ b → AreKeepable capacity (touch.id + 1) (cond b (root_row touch.id 3) (left_with rows touch))
    by_test true e = root_keepable capacity touch.id 3 some low (inr (inr (inl refl)))
    by_test false e =
        record {
          rising = rising_to (left_with rows touch) (rising_push (filter (λ row. not (replaces touch row)) rows) touch (rising_filter _ rows (rising_from rows h.rising)) (all_from _ _ (All-filter _ (λ row. row.id < touch.id) rows h.below)));
          few = less_not capacity (length (left_with rows touch)) e;
          low = All-append (λ (r : Row). 1 ≤ r.id) _ _ (All-filter _ (λ (r : Row). 1 ≤ r.id) rows h.low) (all_one (λ (r : Row). 1 ≤ r.id) touch low);
          below = All-append (λ (r : Row). r.id < touch.id + 1) _ _ (All-filter _ (λ (r : Row). r.id < touch.id + 1) rows (all_more (λ row. row.id < touch.id) (λ row. row.id < touch.id + 1) rows (λ row l. omega (arith, l)) h.below)) (all_one (λ (r : Row). r.id < touch.id + 1) touch (omega arith));
          flags = All-append (λ (r : Row). AreFlags r.flags) _ _ (All-filter _ (λ (r : Row). AreFlags r.flags) rows h.flags) (all_one (λ (r : Row). AreFlags r.flags) touch are);
        }

pub touches_stay_keepable : TouchesStayKeepable
touches_stay_keepable capacity next rows [] some low are h = subst (λ n. AreKeepable capacity n rows) (let e : next ≡ next + 0 = omega arith in e) h
touches_stay_keepable capacity next rows (t ∷ ts) some low are h =
    let one = touch_stays_keepable capacity rows (row_of next t) some low (are 0 t (omega arith)) h in
    let rest = touches_stay_keepable capacity (next + 1) (add_touch capacity rows (row_of next t)) ts some (omega arith) (λ k d l. are (suc k) d (omega (arith, l))) one in
    subst (λ n. AreKeepable capacity n (add_touches capacity (next + 1) (add_touch capacity rows (row_of next t)) ts)) (let e : next + 1 + length ts ≡ next + length (t ∷ ts) = omega arith in e) rest

-- touches have ids below the next number
pub below_next : (capacity next : ℕ) (rows : List Row) (touch : Row) → touch.id < next → All (λ row. row.id < touch.id) rows → All (λ row. row.id < next) (add_touch capacity rows touch)
below_next capacity next rows touch l h = by_test (nat_lt capacity (length (left_with rows touch)))
  where
    by_test : (b : Bool) → All (λ row. row.id < next) (cond b (root_row touch.id 3) (left_with rows touch))
    by_test true = all_one (λ (r : Row). r.id < next) (record { id = touch.id; path = []; flags = 3 }) l
    by_test false =
        All-append (λ (r : Row). r.id < next) _ _ (All-filter _ (λ (r : Row). r.id < next) rows (all_more (λ row. row.id < touch.id) (λ row. row.id < next) rows (λ row m. omega (arith, m, l)) h))
        (all_one (λ (r : Row). r.id < next) touch l)

pub keepable_are_above_zero : KeepableAreAboveZero
keepable_are_above_zero capacity next rows h = filter_all (λ row. nat_lt 0 row.id) rows (λ k d l. let low = h.low k d l in (Decides-ltb 0 (get_or rows k d).id).1 (omega (arith, low)))
