-- Rows by rising id, in whatever order they are kept.
use Rattle.std.proofs.Common.{zero, suc, ◌≡◌, ℕ, ◌+◌, ◌<◌, ◌≤◌, ◌⊎◌, ⊎_elim, inl, inr, Bool, true, false, cond, List, [], ◌∷◌, ◌++◌, filter, map, refl, sym, ap, ◌∙◌, subst, nat_lt, arith, ◌==◌}
use Rattle.std.specs.Ordering.{nat_cmp}
use Rattle.std.specs.declared.cmp.Ordering.TheVariants.{Less}
use Rattle.std.specs.List.{All, AllByRecursion, sum_by}
use Rattle.std.specs.List.Sorted.{IsStrictlySortedBy, IsPermutation}
use Rattle.std.proofs.lemmas.Bool.Decides.{Decides-ltb, Decides-eqb}
use Rattle.std.proofs.lemmas.Cmp.{ranked}
use Rattle.std.proofs.lemmas.List.Sorted.{IsPermutation-refl, IsPermutation-cons, IsPermutation-trans, IsPermutation-sym, IsPermutation-middle, All-permutation, sum_by-IsPermutation}
use Rattle.std.proofs.lemmas.List.Sums.{sum_by-cons}
use Rattle.tm_base.proofs.Facts.{false_true, true_false}
use Rattle.tm_tree.specs.declared.rows.Row.{Row}
use Rattle.tm_journal.specs.Rows.{AreRising}
use Rattle.tm_journal.specs.Kept.{put_by_id, by_id}

by_test : {P : Type 0} (b : Bool) → (b ≡ true → P) → (b ≡ false → P) → P
by_test true f g = f refl
by_test false f g = g refl

is_less : (a b : ℕ) → a < b → nat_lt a b ≡ true
is_less a b l = (Decides-ltb a b).1 l

less_is : (a b : ℕ) → nat_lt a b ≡ true → a < b
less_is a b e = (Decides-ltb a b).0 e

not_less : (a b : ℕ) → b ≤ a → nat_lt a b ≡ false
not_less a b l = by_test (nat_lt a b) (λ e. let m = less_is a b e in absurd (omega (arith, m))) (λ e. e)

pub less_not : (a b : ℕ) → nat_lt a b ≡ false → b ≤ a
less_not a b e = ⊎_elim (λ (l : b ≤ a). l) (λ (l : a < b). false_true (sym e ∙ is_less a b l)) (cases a b)
  where
    cases : (a b : ℕ) → (b ≤ a) ⊎ (a < b)
    cases a b = by_test (nat_lt a b) (λ e. inr (less_is a b e)) (λ e. inl (grind (arith, Decides-ltb a b)))

-- ---- one in its place

put_on : (row next : Row) (rows : List Row) → nat_lt next.id row.id ≡ true → put_by_id row (next ∷ rows) ≡ next ∷ put_by_id row rows
put_on row next rows e = rw e refl

put_here : (row next : Row) (rows : List Row) → nat_lt next.id row.id ≡ false → put_by_id row (next ∷ rows) ≡ row ∷ next ∷ rows
put_here row next rows e = rw e refl

-- one above all others goes to the end
pub put_last : (rows : List Row) (row : Row) → AllByRecursion (λ other. other.id < row.id) rows → put_by_id row rows ≡ rows ++ row ∷ []
put_last [] row h = refl
put_last (next ∷ rows) row h = put_on row next rows (is_less next.id row.id h.0) ∙ ap (λ l. next ∷ l) (put_last rows row h.1)

-- one not above another goes to the front
put_first : (rows : List Row) (row : Row) → AllByRecursion (λ other. row.id ≤ other.id) rows → put_by_id row rows ≡ row ∷ rows
put_first [] row h = refl
put_first (next ∷ rows) row h = put_here row next rows (not_less next.id row.id h.0)

put_both_up : (a b : Row) (rows : List Row) → a.id < b.id → put_by_id a (put_by_id b rows) ≡ put_by_id b (put_by_id a rows)
put_both_up a b [] l = put_here a b [] (not_less b.id a.id (omega (arith, l))) ∙ sym (put_on b a [] (is_less a.id b.id l))
put_both_up a b (next ∷ rows) l =
    by_test (nat_lt next.id a.id)
    (λ low.
    let low_b : nat_lt next.id b.id ≡ true = (let m = less_is next.id a.id low in is_less next.id b.id (omega (arith, m, l))) in
    ap (put_by_id a) (put_on b next rows low_b) ∙ put_on a next (put_by_id b rows) low ∙ ap (λ u. next ∷ u) (put_both_up a b rows l)
    ∙ sym (ap (put_by_id b) (put_on a next rows low) ∙ put_on b next (put_by_id a rows) low_b))
    (λ high. by_test (nat_lt next.id b.id)
    (λ low_b. ap (put_by_id a) (put_on b next rows low_b) ∙ put_here a next (put_by_id b rows) high
    ∙ sym (ap (put_by_id b) (put_here a next rows high) ∙ put_on b a (next ∷ rows) (is_less a.id b.id l) ∙ ap (λ u. a ∷ u) (put_on b next rows low_b)))
    (λ high_b. ap (put_by_id a) (put_here b next rows high_b) ∙ put_here a b (next ∷ rows) (not_less b.id a.id (omega (arith, l)))
    ∙ sym (ap (put_by_id b) (put_here a next rows high) ∙ put_on b a (next ∷ rows) (is_less a.id b.id l) ∙ ap (λ u. a ∷ u) (put_here b next rows high_b))))

-- a row above those in front of it may be put after the others
pub by_id_middle : (front : List Row) (row : Row) (back : List Row) → AllByRecursion (λ other. other.id < row.id) front → by_id (front ++ row ∷ back) ≡ put_by_id row (by_id (front ++ back))
by_id_middle [] row back h = refl
by_id_middle (x ∷ front) row back h = ap (put_by_id x) (by_id_middle front row back h.1) ∙ put_both_up x row (by_id (front ++ back)) h.0

-- ---- in order

abbrev pub NonDec : List Row → Type 0
NonDec [] = Unit {0}
NonDec (row ∷ rows) = AllByRecursion (λ later. row.id ≤ later.id) rows × NonDec rows

abbrev pub Rising : List Row → Type 0
Rising [] = Unit {0}
Rising (row ∷ rows) = AllByRecursion (λ later. row.id < later.id) rows × Rising rows

all_put : (P : Row → Type 0) (row : Row) (rows : List Row) → P row → AllByRecursion P rows → AllByRecursion P (put_by_id row rows)
all_put P row [] p h = (p, tt)
all_put P row (next ∷ rows) p h =
    by_test (nat_lt next.id row.id) (λ e. subst (AllByRecursion P) (sym (put_on row next rows e)) (h.0, all_put P row rows p h.1))
    (λ e. subst (AllByRecursion P) (sym (put_here row next rows e)) (p, h))

all_more : (P Q : Row → Type 0) (rows : List Row) → ((row : Row) → P row → Q row) → AllByRecursion P rows → AllByRecursion Q rows
all_more P Q [] f h = tt
all_more P Q (row ∷ rows) f h = (f row h.0, all_more P Q rows f h.1)

pub all_filter : (P : Row → Type 0) (p : Row → Bool) (rows : List Row) → AllByRecursion P rows → AllByRecursion P (filter p rows)
all_filter P p [] h = tt
all_filter P p (row ∷ rows) h = elim (p row) as (λ b. AllByRecursion P (cond b (row ∷ filter p rows) (filter p rows))) [ true ↦ (h.0, all_filter P p rows h.1) | false ↦ all_filter P p rows h.1 ]

non_dec_put : (row : Row) (rows : List Row) → NonDec rows → NonDec (put_by_id row rows)
non_dec_put row [] h = (tt, tt)
non_dec_put row (next ∷ rows) h =
    by_test (nat_lt next.id row.id)
    (λ e. subst NonDec (sym (put_on row next rows e)) (all_put _ row rows (let m = less_is next.id row.id e in omega (arith, m)) h.0, non_dec_put row rows h.1))
    (λ e. let m = less_not next.id row.id e in subst NonDec (sym (put_here row next rows e)) ((m, all_more _ _ rows (λ other n. omega (arith, m, n)) h.0), h))

pub non_dec_by_id : (rows : List Row) → NonDec (by_id rows)
non_dec_by_id [] = tt
non_dec_by_id (row ∷ rows) = non_dec_put row (by_id rows) (non_dec_by_id rows)

-- ---- filters

filter_put : (p : Row → Bool) (row : Row) (rows : List Row) → NonDec rows → filter p (put_by_id row rows) ≡ cond (p row) (put_by_id row (filter p rows)) (filter p rows)
filter_put p row [] h = refl
filter_put p row (next ∷ rows) h =
    by_test (nat_lt next.id row.id)
    (λ e. ap (filter p) (put_on row next rows e) ∙ ap (λ l. cond (p next) (next ∷ l) l) (filter_put p row rows h.1) ∙ on e (p row) (p next))
    (λ e.
    let m = less_not next.id row.id e in
    let rest : List Row = filter p (next ∷ rows) in
    ap (filter p) (put_here row next rows e) ∙ ap (λ l. cond (p row) l rest) (sym (put_first rest row (all_filter _ p (next ∷ rows) (m, all_more _ _ rows (λ other n. omega (arith, m, n)) h.0)))))
  where
    on : nat_lt next.id row.id ≡ true → (a b : Bool)
        → cond b (next ∷ cond a (put_by_id row (filter p rows)) (filter p rows)) (cond a (put_by_id row (filter p rows)) (filter p rows))
        ≡ cond a (put_by_id row (cond b (next ∷ filter p rows) (filter p rows))) (cond b (next ∷ filter p rows) (filter p rows))
    on e true true = sym (put_on row next (filter p rows) e)
    on e true false = refl
    on e false true = refl
    on e false false = refl

pub filter_by_id : (p : Row → Bool) (rows : List Row) → filter p (by_id rows) ≡ by_id (filter p rows)
filter_by_id p [] = refl
filter_by_id p (row ∷ rows) =
    filter_put p row (by_id rows) (non_dec_by_id rows)
    ∙ elim (p row) as (λ b. cond b (put_by_id row (filter p (by_id rows))) (filter p (by_id rows)) ≡ by_id (cond b (row ∷ filter p rows) (filter p rows))) [
      | true ↦ ap (put_by_id row) (filter_by_id p rows)
      | false ↦ filter_by_id p rows
    ]

-- ---- the same rows

perm_put : (row : Row) (rows : List Row) → IsPermutation (row ∷ rows) (put_by_id row rows)
perm_put row [] = IsPermutation-refl (row ∷ [])
perm_put row (next ∷ rows) =
    by_test (nat_lt next.id row.id)
    (λ e. subst (IsPermutation (row ∷ next ∷ rows)) (sym (put_on row next rows e))
    (IsPermutation-trans _ _ _ (IsPermutation-sym _ _ (IsPermutation-middle (next ∷ []) row rows)) (IsPermutation-cons next _ _ (perm_put row rows))))
    (λ e. subst (IsPermutation (row ∷ next ∷ rows)) (sym (put_here row next rows e)) (IsPermutation-refl _))

pub perm_by_id : (rows : List Row) → IsPermutation rows (by_id rows)
perm_by_id [] = IsPermutation-refl []
perm_by_id (row ∷ rows) = IsPermutation-trans _ _ _ (IsPermutation-cons row _ _ (perm_by_id rows)) (perm_put row (by_id rows))

pub all_from : (P : Row → Type 0) (rows : List Row) → All P rows → AllByRecursion P rows
all_from P [] h = tt
all_from P (row ∷ rows) h = (h 0 row (omega arith), all_from P rows (λ k d l. h (suc k) d (omega (arith, l))))

pub all_to : (P : Row → Type 0) (rows : List Row) → AllByRecursion P rows → All P rows
all_to P [] h k d l = absurd (omega (arith, l))
all_to P (row ∷ rows) h zero d l = h.0
all_to P (row ∷ rows) h (suc k) d l = all_to P rows h.1 k d (omega (arith, l))

pub all_moved : (P : Row → Type 0) (xs ys : List Row) → IsPermutation xs ys → AllByRecursion P xs → AllByRecursion P ys
all_moved P xs ys m h = all_from P ys (All-permutation P xs ys m (all_to P xs h))

-- how many have an id
abbrev count : ℕ → List Row → ℕ
count id rows = sum_by (λ row. cond (row.id == id) 1 0) rows

count_cons : (id : ℕ) (row : Row) (rows : List Row) → count id (row ∷ rows) ≡ cond (row.id == id) 1 0 + count id rows
count_cons id row rows = sum_by-cons (λ row. cond (row.id == id) 1 0) row rows

count_own : (b : Bool) (n m : ℕ) → m ≡ cond b 1 0 + n → b ≡ true → m ≡ 1 + n
count_own true n m e t = e
count_own false n m e t = false_true t

count_other : (b : Bool) (n m : ℕ) → m ≡ cond b 1 0 + n → b ≡ false → m ≡ n
count_other true n m e t = true_false t
count_other false n m e t = omega (arith, e)

count_none : (id : ℕ) (rows : List Row) → AllByRecursion (λ row. id < row.id) rows → count id rows ≡ 0
count_none id [] h = refl
count_none id (row ∷ rows) h =
    let no : (row.id == id) ≡ false = by_test (row.id == id) (λ e. let same = (Decides-eqb row.id id).0 e in let up = h.0 in absurd (omega (arith, same, up))) (λ e. e) in
    count_other (row.id == id) _ _ (count_cons id row rows) no ∙ count_none id rows h.1

count_rising : (id : ℕ) (rows : List Row) → Rising rows → count id rows ≤ 1
count_rising id [] h = omega arith
count_rising id (row ∷ rows) h =
    by_test (row.id == id)
    (λ e.
    let same : row.id ≡ id = (Decides-eqb row.id id).0 e in
    let none : count id rows ≡ 0 = count_none id rows (subst (λ n. AllByRecursion (λ later. n < later.id) rows) same h.0) in
    let all = count_own (row.id == id) _ _ (count_cons id row rows) e in omega (arith, none, all))
    (λ e. let all = count_other (row.id == id) _ _ (count_cons id row rows) e in let rest = count_rising id rows h.1 in omega (arith, all, rest))

above_none : (id : ℕ) (rows : List Row) → AllByRecursion (λ later. id ≤ later.id) rows → count id rows ≡ 0 → AllByRecursion (λ later. id < later.id) rows
above_none id [] h z = tt
above_none id (row ∷ rows) h z =
    by_test (row.id == id)
    (λ e. let all = count_own (row.id == id) _ _ (count_cons id row rows) e in absurd (omega (arith, all, z)))
    (λ e. (apart row.id h.0 e, above_none id rows h.1 (sym (count_other (row.id == id) _ _ (count_cons id row rows) e) ∙ z)))
  where
    apart : (a : ℕ) → id ≤ a → (a == id) ≡ false → id < a
    apart a l e = by_test (nat_lt id a) (λ f. less_is id a f) (λ f. let m = less_not id a f in let same : a ≡ id = omega (arith, l, m) in true_false (sym ((Decides-eqb a id).1 same) ∙ e))

rises : (rows : List Row) → NonDec rows → ((id : ℕ) → count id rows ≤ 1) → Rising rows
rises [] h c = tt
rises (row ∷ rows) h c = (
  above_none row.id rows h.0
      (let most = c row.id in let all = count_own (row.id == row.id) _ _ (count_cons row.id row rows) ((Decides-eqb row.id row.id).1 refl) in omega (arith, most, all)),
  rises rows h.1 (λ id. less id (row.id == id) refl),
)
  where
    less : (id : ℕ) (b : Bool) → (row.id == id) ≡ b → count id rows ≤ 1
    less id true e = let most = c id in let all = count_own (row.id == id) _ _ (count_cons id row rows) e in omega (arith, most, all)
    less id false e = let most = c id in let all = count_other (row.id == id) _ _ (count_cons id row rows) e in omega (arith, most, all)

-- ---- lists with the same rows in the same order are the same

abbrev In : Row → List Row → Type 0
In row [] = ⊥
In row (x ∷ rows) = (row ≡ x) ⊎ In row rows

in_has : (P : Row → Type 0) (row : Row) (rows : List Row) → In row rows → AllByRecursion P rows → P row
in_has P row [] i h = absurd i
in_has P row (x ∷ rows) i h = ⊎_elim (λ (e : row ≡ x). subst P (sym e) h.0) (λ (j : In row rows). in_has P row rows j h.1) i

all_in : (rows : List Row) → AllByRecursion (λ row. In row rows) rows
all_in [] = tt
all_in (x ∷ rows) = (inl refl, all_more _ _ rows (λ row i. inr i) (all_in rows))

only_rest : (x : Row) (rows others : List Row) → AllByRecursion (λ row. In row (x ∷ rows)) others → AllByRecursion (λ row. x.id < row.id) others → AllByRecursion (λ row. In row rows) others
only_rest x rows [] h up = tt
only_rest x rows (y ∷ others) h up =
    (⊎_elim (λ (e : y ≡ x). let less = subst (λ (r : Row). x.id < r.id) e up.0 in absurd (omega (arith, less))) (λ (i : In y rows). i) h.0, only_rest x rows others h.1 up.1)

same_rows : (xs ys : List Row) → Rising xs → Rising ys → AllByRecursion (λ row. In row xs) ys → AllByRecursion (λ row. In row ys) xs → ys ≡ xs
same_rows [] [] a b f g = refl
same_rows [] (y ∷ ys) a b f g = absurd f.0
same_rows (x ∷ xs) [] a b f g = absurd g.0
same_rows (x ∷ xs) (y ∷ ys) a b f g =
    let e : y ≡ x = ⊎_elim (λ (e : y ≡ x). e)
    (λ (i : In y xs). ⊎_elim (λ (e : x ≡ y). sym e)
    (λ (j : In x ys). let up = in_has (λ row. x.id < row.id) y xs i a.0 in let down = in_has (λ row. y.id < row.id) x ys j b.0 in absurd (omega (arith, up, down))) g.0) f.0 in
    let up : AllByRecursion (λ row. x.id < row.id) ys = subst (λ (r : Row). AllByRecursion (λ row. r.id < row.id) ys) e b.0 in
    let rest : ys ≡ xs = same_rows xs ys a.1 b.1 (only_rest x xs ys f.1 up) (only_rest y ys xs g.1 (subst (λ (r : Row). AllByRecursion (λ row. r.id < row.id) xs) (sym e) a.0)) in
    ap (λ r. r ∷ ys) e ∙ ap (λ l. x ∷ l) rest

pub sorted_is : (xs ys : List Row) → Rising xs → NonDec ys → IsPermutation xs ys → ys ≡ xs
sorted_is xs ys a b m =
    let few : (id : ℕ) → count id ys ≤ 1 = λ id. subst (λ n. n ≤ 1) (sym (sum_by-IsPermutation (λ row. cond (row.id == id) 1 0) xs ys m)) (count_rising id xs a) in
    same_rows xs ys a (rises ys b few) (all_moved (λ row. In row xs) xs ys m (all_in xs)) (all_moved (λ row. In row ys) ys xs (IsPermutation-sym xs ys m) (all_in ys))

-- ---- rising ids as clauses have them

less_from : (a b : ℕ) → nat_cmp a b ≡ Less → a < b
less_from a b e = ranked a b Less (sym e)

less_to : (a b : ℕ) → a < b → nat_cmp a b ≡ Less
less_to a b l = rw (is_less a b l) refl

pub rising_from : (rows : List Row) → AreRising rows → Rising rows
unfolding IsStrictlySortedBy
rising_from [] h = tt
rising_from (row ∷ rows) h = (above rows h.0, rising_from rows h.1)
  where
    above : (rows : List Row) → AllByRecursion (λ y. nat_cmp row.id y ≡ Less) (map (λ r. r.id) rows) → AllByRecursion (λ later. row.id < later.id) rows
    above [] h = tt
    above (next ∷ rows) h = (less_from row.id next.id h.0, above rows h.1)

pub rising_to : (rows : List Row) → Rising rows → AreRising rows
unfolding IsStrictlySortedBy
rising_to [] h = tt
rising_to (row ∷ rows) h = (above rows h.0, rising_to rows h.1)
  where
    above : (rows : List Row) → AllByRecursion (λ later. row.id < later.id) rows → AllByRecursion (λ y. nat_cmp row.id y ≡ Less) (map (λ r. r.id) rows)
    above [] h = tt
    above (next ∷ rows) h = (less_to row.id next.id h.0, above rows h.1)

pub rising_filter : (p : Row → Bool) (rows : List Row) → Rising rows → Rising (filter p rows)
rising_filter p [] h = tt
rising_filter p (row ∷ rows) h = elim (p row) as (λ b. Rising (cond b (row ∷ filter p rows) (filter p rows))) [ true ↦ (all_filter _ p rows h.0, rising_filter p rows h.1) | false ↦ rising_filter p rows h.1 ]

pub rising_push : (rows : List Row) (row : Row) → Rising rows → AllByRecursion (λ other. other.id < row.id) rows → Rising (rows ++ row ∷ [])
rising_push [] row h up = (tt, tt)
rising_push (x ∷ rows) row h up = (all_push rows h.0, rising_push rows row h.1 up.1)
  where
    all_push : (rest : List Row) → AllByRecursion (λ later. x.id < later.id) rest → AllByRecursion (λ later. x.id < later.id) (rest ++ row ∷ [])
    all_push [] h = (up.0, tt)
    all_push (y ∷ rest) h = (h.0, all_push rest h.1)
