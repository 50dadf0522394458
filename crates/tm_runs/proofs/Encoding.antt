-- A walk over the records between two places.
use Rattle.std.proofs.Common.{◌≡◌, ⊎_elim, ℕ, ◌+◌, ◌<◌, ◌≤◌, List, [], ◌∷◌, ◌++◌, length, take, true, false, not, ◌&&◌, cond, refl, sym, ◌∙◌, ap, subst, arith, length-append, append_assoc, append-nil, Bool, IsTrue, ◌↔◌}
use Rattle.std.specs.List.{filter, All, AllByRecursion}
use Rattle.std.specs.List.Sorted.{IsStrictlySortedBy}
use Rattle.std.specs.Ordering.{nat_cmp, is_le}
use Rattle.std.specs.Cmp.{nat_cmp_is}
use Rattle.std.specs.declared.cmp.Ordering.TheVariants.{Less, Equal, Greater}
use Rattle.std.specs.Map.{keys_of}
use Rattle.std.proofs.lemmas.Bool.{cases_lt}
use Rattle.std.proofs.lemmas.List.{get_or_at, append_cancel_left, take_all}
use Rattle.std.proofs.lemmas.Map.Keys.{sorted_head, sorted_tail}
use Rattle.tm_records.specs.declared.record.Record.{Record}
use Rattle.tm_records.specs.Records.{Records}
use Rattle.tm_table.specs.Text.{record_text, table_text}
use Rattle.tm_runs.specs.Marks.{below, rest, part, one}
use Rattle.tm_runs.proofs.Stretches.{below_lt, below_le, rest_lt, rest_le, below_rest, rest_twice, table-none}

pub table-one : (e : ℕ × Record) → table_text (e ∷ []) ≡ record_text e
unfolding table_text
table-one e = append-nil (record_text e)

take_nothing : (n : ℕ) → take {A = ℕ} n [] ≡ []
take_nothing n = take_all n [] (omega arith)

pub less_lt : (a b : ℕ) → nat_cmp a b ≡ Less → a < b
less_lt a b less = ⊎_elim
    (λ (lt : a < b). lt)
    (λ (le : b ≤ a). ⊎_elim
    (λ (lt : b < a). let bad : Less ≡ Greater = sym less ∙ sym (nat_cmp_is a b Greater lt) in cc)
    (λ (ge : a ≤ b). let bad : Less ≡ Equal = sym less ∙ sym (nat_cmp_is a b Equal (omega arith)) in cc)
    (cases_lt b a))
    (cases_lt a b)

is_from : (low x : ℕ) → low ≤ x → is_le (nat_cmp low x) ≡ true
is_from low x le = ⊎_elim
    (λ (lt : low < x). ap is_le (sym (nat_cmp_is low x Less lt)))
    (λ (ge : x ≤ low). ap is_le (sym (nat_cmp_is low x Equal (omega arith))))
    (cases_lt low x)

is_before : (low x : ℕ) → x < low → is_le (nat_cmp low x) ≡ false
is_before low x lt = ap is_le (sym (nat_cmp_is low x Greater lt))

abbrev pub from_on : ℕ → Records → Records
from_on low es = filter (λ e. is_le (nat_cmp low e.0) && not false) es

all_from : (low k : ℕ) (es : Records) → low ≤ k → AllByRecursion (λ y. nat_cmp k y ≡ Less) (keys_of es) → from_on low es ≡ es
all_from low k [] le h = refl
all_from low k (e ∷ es) le h =
    let up = less_lt k e.0 h.0 in
    ap (λ b. cond (b && not false) (e ∷ from_on low es) (from_on low es)) (is_from low e.0 (omega arith)) ∙ ap (λ (t : Records). e ∷ t) (all_from low k es le h.1)

-- what a range gives
pub range_is : (low : ℕ) (es : Records) → IsStrictlySortedBy nat_cmp (keys_of es) → from_on low es ≡ rest low es
range_is low [] s = refl
range_is low (e ∷ es) s = ⊎_elim
    (λ (lt : e.0 < low). ap (λ b. cond (b && not false) (e ∷ from_on low es) (from_on low es)) (is_before low e.0 lt) ∙ range_is low es (sorted_tail nat_cmp e.0 (keys_of es) s) ∙ sym (rest_lt low e es lt))
    (λ (le : low ≤ e.0). ap (λ b. cond (b && not false) (e ∷ from_on low es) (from_on low es)) (is_from low e.0 le)
    ∙ ap (λ (t : Records). e ∷ t) (all_from low e.0 es le (sorted_head nat_cmp e.0 (keys_of es) s)) ∙ sym (rest_le low e es le))
    (cases_lt e.0 low)

pub rest_sorted : (k : ℕ) (es : Records) → IsStrictlySortedBy nat_cmp (keys_of es) → IsStrictlySortedBy nat_cmp (keys_of (rest k es))
rest_sorted k [] s = s
rest_sorted k (e ∷ es) s = ⊎_elim
    (λ (lt : e.0 < k). subst (λ (t : Records). IsStrictlySortedBy nat_cmp (keys_of t)) (sym (rest_lt k e es lt)) (rest_sorted k es (sorted_tail nat_cmp e.0 (keys_of es) s)))
    (λ (le : k ≤ e.0). subst (λ (t : Records). IsStrictlySortedBy nat_cmp (keys_of t)) (sym (rest_le k e es le)) s)
    (cases_lt e.0 k)

none_below : (k high : ℕ) (es : Records) → high ≤ k + 1 → AllByRecursion (λ y. nat_cmp k y ≡ Less) (keys_of es) → below high es ≡ []
none_below k high [] le h = refl
none_below k high (e ∷ es) le h = let up = less_lt k e.0 h.0 in below_le high e es (omega arith)

-- the entry of a step is one of all
pub entry_in : (P : ℕ × Record → Type 0) (low : ℕ) (es ys tail : Records) (e : ℕ × Record) → All P es → rest low es ≡ ys ++ (e ∷ tail) → P e
entry_in P low es ys tail e all is =
    let front : Records = below low es ++ ys in
    let whole : es ≡ front ++ (e ∷ tail) = sym (below_rest low es) ∙ ap (λ t. below low es ++ t) is ∙ sym (append_assoc (below low es) ys (e ∷ tail)) in
    let every : All P (front ++ (e ∷ tail)) = subst (All P) whole all in
    subst P (get_or_at front e tail e (length front) refl) (every (length front) e (omega (arith, length-append front (e ∷ tail))))

-- the text from the record at a key on to before a place
abbrev pub text_to : ℕ → ℕ → ℕ → Records → List ℕ
text_to low high skip es = table_text (part low high es) ++ take skip (table_text (one high es))

module _ (low high skip : ℕ) (es ys : Records) (passed : (more : Records) → below high (ys ++ more) ≡ ys ++ below high more) (order : low ≤ high) where
  rest_passed : (xs : Records) → rest high (ys ++ xs) ≡ rest high xs
  rest_passed xs = append_cancel_left (ys ++ below high xs) (rest high (ys ++ xs)) (rest high xs)
      (ap (λ t. t ++ rest high (ys ++ xs)) (sym (passed xs)) ∙ below_rest high (ys ++ xs) ∙ ap (λ t. ys ++ t) (sym (below_rest high xs)) ∙ sym (append_assoc ys (below high xs) (rest high xs)))

  rest_high : (xs : Records) → rest low es ≡ ys ++ xs → rest high es ≡ rest high xs
  rest_high xs is = sym (rest_twice low high es order) ∙ ap (rest high) is ∙ rest_passed xs

  abbrev goal_text : List ℕ
  goal_text = text_to low high skip es

  pub spelled_end : rest low es ≡ ys ++ [] → table_text ys ≡ goal_text
  spelled_end is =
      let parts : part low high es ≡ ys = ap (below high) is ∙ passed [] ∙ append-nil ys in
      let none : one high es ≡ [] = ap (below (high + 1)) (rest_high [] is) in
      let nothing : take skip (table_text (one high es)) ≡ [] = ap (λ t. take skip (table_text t)) none ∙ ap (take skip) table-none ∙ take_nothing skip in
      sym (ap (λ t. table_text t ++ take skip (table_text (one high es))) parts ∙ ap (λ t. table_text ys ++ t) nothing ∙ append-nil (table_text ys))

  module _ (e : ℕ × Record) (tail : Records) (is : rest low es ≡ ys ++ (e ∷ tail)) (behind : high ≤ e.0) where
    part_is : part low high es ≡ ys
    part_is = ap (below high) is ∙ passed (e ∷ tail) ∙ ap (λ t. ys ++ t) (below_le high e tail behind) ∙ append-nil ys

    rest_is : rest high es ≡ e ∷ tail
    rest_is = rest_high (e ∷ tail) is ∙ rest_le high e tail behind

    pub one_is : IsStrictlySortedBy nat_cmp (keys_of es) → e.0 ≡ high → one high es ≡ e ∷ []
    one_is s same =
        let up = sorted_head nat_cmp e.0 (keys_of tail) (subst (λ (t : Records). IsStrictlySortedBy nat_cmp (keys_of t)) rest_is (rest_sorted high es s)) in
        ap (below (high + 1)) rest_is ∙ below_lt (high + 1) e tail (omega (arith, same)) ∙ ap (λ (t : Records). e ∷ t) (none_below e.0 (high + 1) tail (omega (arith, same)) up)

    one_none : high < e.0 → one high es ≡ []
    one_none lt = ap (below (high + 1)) rest_is ∙ below_le (high + 1) e tail (omega arith)

    pub spelled_break : IsStrictlySortedBy nat_cmp (keys_of es) → (count : ℕ) → (e.0 ≡ high → count ≡ skip) → (high < e.0 → count ≡ 0) → table_text ys ++ take count (record_text e) ≡ goal_text
    spelled_break s count here later = sym (ap (λ t. table_text t ++ take skip (table_text (one high es))) part_is ∙ ap (λ t. table_text ys ++ t) (⊎_elim
        (λ (lt : high < e.0). ap (λ t. take skip (table_text t)) (one_none lt) ∙ ap (take skip) table-none ∙ take_nothing skip ∙ sym (ap (λ n. take n (record_text e)) (later lt)))
        (λ (le : e.0 ≤ high).
        let same : e.0 ≡ high = omega arith in
        ap (λ t. take skip (table_text t)) (one_is s same) ∙ ap (take skip) (table-one e) ∙ ap (λ n. take n (record_text e)) (sym (here same)))
        (cases_lt high e.0)))

-- what is left at a step, and at the end
pub stands : (low : ℕ) (es range first ys left tail : Records) (e : ℕ × Record) → IsStrictlySortedBy nat_cmp (keys_of es) → range ≡ from_on low es → first ≡ range → first ≡ ys ++ left → left ≡ e ∷ tail → rest low es ≡ ys ++ (e ∷ tail)
stands low es range first ys left tail e s between gives so_far step = sym (range_is low es s) ∙ sym between ∙ sym gives ∙ so_far ∙ ap (λ t. ys ++ t) step

pub stands_end : (low : ℕ) (es range first ys left : Records) → IsStrictlySortedBy nat_cmp (keys_of es) → range ≡ from_on low es → first ≡ range → first ≡ ys ++ left → left ≡ [] → rest low es ≡ ys ++ []
stands_end low es range first ys left s between gives so_far step = sym (range_is low es s) ∙ sym between ∙ sym gives ∙ so_far ∙ ap (λ t. ys ++ t) step

pub not_below : (b : Bool) (k high : ℕ) → b ≡ false → IsTrue b ↔ (k < high) → high ≤ k
not_below b k high fails tells = ⊎_elim (λ (lt : k < high). let bad : true ≡ false = sym (tells.1 lt) ∙ fails in cc) (λ (le : high ≤ k). le) (cases_lt k high)

pub is_below_then : (b : Bool) (k high : ℕ) → b ≡ true → IsTrue b ↔ (k < high) → k < high
is_below_then b k high passes tells = tells.0 passes
