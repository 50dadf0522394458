-- A walk to a place some bytes on.
use Rattle.std.proofs.Common.{◌≡◌, ⊎_elim, ℕ, ◌+◌, ◌<◌, ◌≤◌, [], ◌∷◌, ◌++◌, length, refl, sym, ◌∙◌, ap, subst, arith, length-append, append-nil}
use Rattle.std.specs.List.{AllByRecursion}
use Rattle.std.specs.List.Sorted.{IsStrictlySortedBy}
use Rattle.std.specs.Ordering.{nat_cmp}
use Rattle.std.specs.declared.cmp.Ordering.TheVariants.{Less}
use Rattle.std.specs.Map.{keys_of}
use Rattle.std.proofs.lemmas.Bool.{cases_lt}
use Rattle.std.proofs.lemmas.Map.Keys.{sorted_head, sorted_tail}
use Rattle.tm_records.specs.declared.record.Record.{Record}
use Rattle.tm_records.specs.Records.{Records}
use Rattle.tm_table.specs.Text.{record_text, table_text}
use Rattle.tm_runs.specs.declared.holder.Holder.{Holder}
use Rattle.tm_runs.specs.Marks.{below, rest, part, one, place}
use Rattle.tm_runs.proofs.Stretches.{below_lt, below_le, rest_lt, rest_le, below_rest, below_split, table-append}
use Rattle.tm_runs.proofs.Encoding.{less_lt, table-one, rest_sorted, one_is}

last_above : (P : ℕ → Type 0) (ys tail : Records) (e : ℕ × Record) → AllByRecursion P (keys_of (ys ++ (e ∷ tail))) → P e.0
last_above P [] tail e h = h.0
last_above P (y ∷ ys) tail e h = last_above P ys tail e h.1

passed_sorted : (ys tail : Records) (e : ℕ × Record) → IsStrictlySortedBy nat_cmp (keys_of (ys ++ (e ∷ tail))) → (more : Records) → below e.0 (ys ++ more) ≡ ys ++ below e.0 more
passed_sorted [] tail e s more = refl
passed_sorted (y ∷ ys) tail e s more =
    let lt : y.0 < e.0 = less_lt y.0 e.0 (last_above (λ k. nat_cmp y.0 k ≡ Less) ys tail e (sorted_head nat_cmp y.0 (keys_of (ys ++ (e ∷ tail))) s)) in
    below_lt e.0 y (ys ++ more) lt ∙ ap (λ (t : Records). y ∷ t) (passed_sorted ys tail e (sorted_tail nat_cmp y.0 (keys_of (ys ++ (e ∷ tail))) s) more)

rest_up : (low : ℕ) (es tail : Records) (e : ℕ × Record) → rest low es ≡ e ∷ tail → low ≤ e.0
rest_up low [] tail e is = cc
rest_up low (d ∷ es) tail e is = ⊎_elim
    (λ (lt : d.0 < low). rest_up low es tail e (sym (rest_lt low d es lt) ∙ is))
    (λ (le : low ≤ d.0). let same : d ∷ es ≡ e ∷ tail = sym (rest_le low d es le) ∙ is in let first : d ≡ e = cc in omega (arith, le, ap (λ (x : ℕ × Record). x.0) first))
    (cases_lt d.0 low)

up_to_last : (low : ℕ) (es ys tail : Records) (e : ℕ × Record) → IsStrictlySortedBy nat_cmp (keys_of (ys ++ (e ∷ tail))) → rest low es ≡ ys ++ (e ∷ tail) → low ≤ e.0
up_to_last low es [] tail e s is = rest_up low es tail e is
up_to_last low es (y ∷ ys) tail e s is =
    let lt : y.0 < e.0 = less_lt y.0 e.0 (last_above (λ k. nat_cmp y.0 k ≡ Less) ys tail e (sorted_head nat_cmp y.0 (keys_of (ys ++ (e ∷ tail))) s)) in
    omega (arith, lt, rest_up low es (ys ++ (e ∷ tail)) y is)

module _ (from : Holder) (by left : ℕ) (es ys tail : Records) (e : ℕ × Record) (s : IsStrictlySortedBy nat_cmp (keys_of es)) (is : rest from.key es ≡ ys ++ (e ∷ tail)) (gone : left + length (table_text ys) ≡ from.skip + by) where
  sorted_rest : IsStrictlySortedBy nat_cmp (keys_of (ys ++ (e ∷ tail)))
  sorted_rest = subst (λ (t : Records). IsStrictlySortedBy nat_cmp (keys_of t)) is (rest_sorted from.key es s)

  low_le : from.key ≤ e.0
  low_le = up_to_last from.key es ys tail e sorted_rest is

  pub found_place : length (table_text (below e.0 es)) + left ≡ place es from + by
  found_place =
      let mid : part from.key e.0 es ≡ ys = ap (below e.0) is ∙ passed_sorted ys tail e sorted_rest (e ∷ tail) ∙ ap (λ t. ys ++ t) (below_le e.0 e tail (omega arith)) ∙ append-nil ys in
      let whole : table_text (below e.0 es) ≡ table_text (below from.key es) ++ table_text (part from.key e.0 es) = ap table_text (below_split from.key e.0 es low_le) ∙ table-append (below from.key es) (part from.key e.0 es) in
      omega (arith, gone, ap length whole, length-append (table_text (below from.key es)) (table_text (part from.key e.0 es)), ap (λ t. length (table_text t)) mid)

  pub found_inside : left < length (record_text e) → left < length (table_text (one e.0 es))
  found_inside lt =
      let here : one e.0 es ≡ e ∷ [] = one_is from.key e.0 0 es ys (passed_sorted ys tail e sorted_rest) low_le e tail is (omega arith) s refl in
      omega (arith, lt, ap (λ t. length (table_text t)) here, ap length (table-one e))

-- the walk doesn't come to the end
pub never_end : (from : Holder) (by left : ℕ) (es ys : Records) → rest from.key es ≡ ys ++ [] → left + length (table_text ys) ≡ from.skip + by → place es from + by < length (table_text es) → ⊥
never_end from by left es ys is gone within =
    let whole : table_text es ≡ table_text (below from.key es) ++ table_text (rest from.key es) = ap table_text (sym (below_rest from.key es)) ∙ table-append (below from.key es) (rest from.key es) in
    absurd (omega (arith, within, gone, ap length whole, length-append (table_text (below from.key es)) (table_text (rest from.key es)), ap (λ t. length (table_text t)) (is ∙ append-nil ys)))

pub gone_more : (ys grown : Records) (e : ℕ × Record) (left left2 count total : ℕ) → grown ≡ ys ++ e ∷ [] → left + length (table_text ys) ≡ total → count ≡ length (record_text e) → left ≡ left2 + count → left2 + length (table_text grown) ≡ total
gone_more ys grown e left left2 count total is gone long less =
    let whole : table_text grown ≡ table_text ys ++ table_text (e ∷ []) = ap table_text is ∙ table-append ys (e ∷ []) in
    omega (arith, gone, long, less, ap length whole, length-append (table_text ys) (table_text (e ∷ [])), ap length (table-one e))

pub entry_short : (low : ℕ) (es ys tail : Records) (e : ℕ × Record) → rest low es ≡ ys ++ (e ∷ tail) → length (record_text e) ≤ length (table_text es)
entry_short low es ys tail e is =
    let one_more : table_text (ys ++ (e ∷ tail)) ≡ table_text ys ++ table_text (e ∷ tail) = table-append ys (e ∷ tail) in
    let first : table_text ((e ∷ []) ++ tail) ≡ table_text (e ∷ []) ++ table_text tail = table-append (e ∷ []) tail in
    let whole : table_text es ≡ table_text (below low es) ++ table_text (rest low es) = ap table_text (sym (below_rest low es)) ∙ table-append (below low es) (rest low es) in
    omega (
      arith,
      ap length whole,
      ap (λ t. length (table_text t)) is,
      ap length one_more,
      ap length first,
      ap length (table-one e),
      length-append (table_text (below low es)) (table_text (rest low es)),
      length-append (table_text ys) (table_text (e ∷ tail)),
      length-append (table_text (e ∷ [])) (table_text tail),
    )
