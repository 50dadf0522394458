-- Rows by rising path: where those stand that a touch takes away.
use Rattle.std.proofs.Common.{zero, suc, ◌≡◌, ℕ, ◌<◌, ◌≤◌, Bool, true, false, not, cond, ◌&&◌, ◌||◌, List, [], ◌∷◌, ◌++◌, filter, length, drop, take, get_or, refl, sym, ap, ◌∙◌, subst, arith, ◌==◌, append-nil}
use Rattle.std.specs.Cmp.{IsStrictWeakOrder, IsTotalOrder}
use Rattle.std.specs.Cmp.Lexicographic.{nat_list_cmp_total}
use Rattle.std.specs.Ordering.{is_lt, is_eq, ordering_then, ordering_reverse}
use Rattle.std.specs.declared.cmp.Ordering.{Ordering}
use Rattle.std.specs.declared.cmp.Ordering.TheVariants.{Less, Equal, Greater}
use Rattle.std.specs.List.{All, AllByRecursion, AllWithin, insert, remove}
use Rattle.std.specs.List.Sorted.{IsPartitionedBy, IsSortedBy}
use Rattle.std.proofs.lemmas.List.Sorted.{ranks_by, sorted_far}
use Rattle.std.proofs.lemmas.Cmp.{tied_itself}
use Rattle.std.proofs.lemmas.Map.Text.{is_eq-slice_cmp}
use Rattle.std.proofs.lemmas.Slice.Eq.{bytes_eq-Decides}
use Rattle.tm_base.specs.Paths.{Names, path_cmp, name_cmp, is_prefix, same_path, path_ties}
use Rattle.tm_base.proofs.Facts.{false_true, true_false}
use Rattle.tm_base.proofs.PathLemmas.{same_path_decides, is_prefix_of_append, prefix_is, path_cmp-append}
use Rattle.tm_tree.proofs.Order.{path_total}
use Rattle.tm_tree.specs.declared.rows.Row.{Row}
use Rattle.tm_journal.specs.Rows.{must_scan, replaces}
use Rattle.tm_journal.specs.Cover.{covers}
use Rattle.tm_journal.proofs.ById.{all_to, all_from, all_filter}
use Rattle.tm_journal.specs.Kept.{is_before, reaches, IsByPath}

all_at : (P : Row → Type 0) (rows : List Row) → AllByRecursion P rows → (k : ℕ) (d : Row) → k < length rows → P (get_or rows k d)
all_at P rows h = all_to P rows h

by_test : {P : Type 0} (b : Bool) → (b ≡ true → P) → (b ≡ false → P) → P
by_test true f g = f refl
by_test false f g = g refl

paths : IsStrictWeakOrder (λ (p q : Names). is_lt (path_cmp p q))
paths = ranks_by path_total (λ (p : Names). p)

-- ---- paths

prefix_of_same : (p q : Names) → p ≡ q → is_prefix p q ≡ true
prefix_of_same p q e = is_prefix_of_append p q [] (sym e ∙ sym (append-nil p))

not_before_prefix : (p q : Names) → is_prefix p q ≡ true → is_lt (path_cmp q p) ≡ false
not_before_prefix p q h =
    let rest : Names = drop (length p) q in
    ap is_lt (ap (λ (x : Names). path_cmp x p) (prefix_is p q h) ∙ ap (λ (x : Names). path_cmp (p ++ rest) x) (sym (append-nil p)) ∙ path_cmp-append p rest []) ∙ end rest
  where
    end : (r : Names) → is_lt (path_cmp r []) ≡ false
    end [] = refl
    end (n ∷ r) = refl

-- neither is before the other
tied : {K : Type 0} {R : K → K → Ordering} → IsTotalOrder R → (a b : K) → is_lt (R a b) ≡ false → is_lt (R b a) ≡ false → R a b ≡ Equal
tied {K} {R} o a b f g = by_order (R a b) (R b a) (o.antisymm a b) f g
  where
    by_order : (x y : Ordering) → x ≡ ordering_reverse y → is_lt x ≡ false → is_lt y ≡ false → x ≡ Equal
    by_order Less y e f g = true_false f
    by_order Equal y e f g = refl
    by_order Greater Less e f g = true_false g
    by_order Greater Equal e f g = cc
    by_order Greater Greater e f g = cc

name_is : (a b : List ℕ) → name_cmp a b ≡ Equal → a ≡ b
name_is a b e = (bytes_eq-Decides a b).0 (sym (is_eq-slice_cmp a b) ∙ ap is_eq e)

path_is : (p q : Names) → path_cmp p q ≡ Equal → p ≡ q
path_is p q e = (same_path_decides p q).0 (path_ties p q ∙ ap is_eq e)

-- a path between one and what is beneath it is beneath it
between : (p rest a : Names) → is_lt (path_cmp a p) ≡ false → is_lt (path_cmp (p ++ rest) a) ≡ false → is_prefix p a ≡ true
between [] rest a f g = is_prefix_of_append [] a a refl
between (n ∷ p) rest [] f g = true_false f
between (n ∷ p) rest (k ∷ a) f g =
    let tied : name_cmp k n ≡ Equal = tied nat_list_cmp_total k n (first (name_cmp k n) (path_cmp a p) f) (first (name_cmp n k) (path_cmp (p ++ rest) a) g) in
    let same : k ≡ n = name_is k n tied in
    let back : name_cmp n k ≡ Equal = nat_list_cmp_total.antisymm n k ∙ ap ordering_reverse tied in
    let under : is_prefix p a ≡ true = between p rest a (ap (λ o. is_lt (ordering_then o (path_cmp a p))) (sym tied) ∙ f) (ap (λ o. is_lt (ordering_then o (path_cmp (p ++ rest) a))) (sym back) ∙ g) in
    is_prefix_of_append (n ∷ p) (k ∷ a) (drop (length p) a) (ap (λ m. m ∷ a) same ∙ ap (λ (l : Names). n ∷ l) (prefix_is p a under))
  where
    first : (x y : Ordering) → is_lt (ordering_then x y) ≡ false → is_lt x ≡ false
    first Less y h = h
    first Equal y h = refl
    first Greater y h = refl

-- a path between a path and one that a touch covers is covered
covered_between : (touch : Row) (a b : Names) → is_lt (path_cmp a touch.path) ≡ false → is_lt (path_cmp b a) ≡ false → covers touch b ≡ true → covers touch a ≡ true
covered_between touch a b f g h =
    elim (must_scan touch.flags) as (λ s. cond s (is_prefix touch.path b) (same_path touch.path b) ≡ true → cond s (is_prefix touch.path a) (same_path touch.path a) ≡ true) [
      | true ↦ λ c. between touch.path (drop (length touch.path) b) a f (subst (λ (x : Names). is_lt (path_cmp x a) ≡ false) (prefix_is touch.path b c) g)
      | false ↦ λ c. let e : touch.path ≡ b = (same_path_decides touch.path b).0 c in
          (same_path_decides touch.path a).1 (path_is touch.path a (tied path_total touch.path a (subst (λ (x : Names). is_lt (path_cmp x a) ≡ false) (sym e) g) f))
    ] h

covers_not_before : (touch : Row) (p : Names) → covers touch p ≡ true → is_lt (path_cmp p touch.path) ≡ false
covers_not_before touch p h =
    elim (must_scan touch.flags) as (λ s. cond s (is_prefix touch.path p) (same_path touch.path p) ≡ true → is_lt (path_cmp p touch.path) ≡ false) [
      | true ↦ λ c. not_before_prefix touch.path p c
      | false ↦ λ c. not_before_prefix touch.path p (prefix_of_same touch.path p ((same_path_decides touch.path p).0 c))
    ] h

-- what a touch takes away it covers
replaced_covered : (touch row : Row) → replaces touch row ≡ true → covers touch row.path ≡ true
replaced_covered touch row h =
    elim (must_scan touch.flags) as (λ s. ((same_path touch.path row.path && (row.flags == 0)) || (s && is_prefix touch.path row.path)) ≡ true → cond s (is_prefix touch.path row.path) (same_path touch.path row.path) ≡ true) [
      | true ↦ λ r. by_either (same_path touch.path row.path) (row.flags == 0) (is_prefix touch.path row.path) r (λ e. prefix_of_same touch.path row.path ((same_path_decides touch.path row.path).0 e))
      | false ↦ λ r. by_same (same_path touch.path row.path) (row.flags == 0) r
    ] h
  where
    by_either : (a b c : Bool) → ((a && b) || c) ≡ true → (a ≡ true → c ≡ true) → c ≡ true
    by_either a b true r f = refl
    by_either true b false r f = f refl
    by_either false b false r f = r

    by_same : (a b : Bool) → ((a && b) || false) ≡ true → a ≡ true
    by_same true b r = refl
    by_same false b r = r

kept_where_not_covered : (touch row : Row) → covers touch row.path ≡ false → not (replaces touch row) ≡ true
kept_where_not_covered touch row h = by_test (replaces touch row) (λ e. true_false (sym (replaced_covered touch row e) ∙ h)) (λ e. ap not e)

-- with MustScanSubDirs a touch takes away what it covers
pub scan_replaces : (touch row : Row) → must_scan touch.flags ≡ true → covers touch row.path ≡ true → not (replaces touch row) ≡ false
scan_replaces touch row s h = by_scan (must_scan touch.flags) s h
  where
    either : (a b : Bool) → b ≡ true → not (a || b) ≡ false
    either true b e = refl
    either false b e = ap not e

    by_scan : (b : Bool) → b ≡ true → cond b (is_prefix touch.path row.path) (same_path touch.path row.path) ≡ true
        → not ((same_path touch.path row.path && (row.flags == 0)) || (b && is_prefix touch.path row.path)) ≡ false
    by_scan true e c = either (same_path touch.path row.path && (row.flags == 0)) (is_prefix touch.path row.path) c
    by_scan false e c = false_true e

-- ---- places in the list

far : (rows : List Row) → IsByPath rows → (i j : ℕ) (d : Row) → i ≤ j → j < length rows → is_before (get_or rows j d) (get_or rows i d).path ≡ false
far [] h i j d le l = absurd (omega (arith, l))
far (row ∷ rows) h zero zero d le l = itself row.path
  where
    itself : (p : Names) → is_lt (path_cmp p p) ≡ false
    itself p = ap is_lt (tied_itself path_total p)
far (row ∷ rows) h zero (suc j) d le l = all_at (λ later. is_before later row.path ≡ false) rows h.0 j d (omega (arith, l))
far (row ∷ rows) h (suc i) zero d le l = absurd (omega (arith, le))
far (row ∷ rows) h (suc i) (suc j) d le l = far rows h.1 i j d (omega (arith, le)) (omega (arith, l))

less_through : (path : Names) (a b : Row) → is_before b a.path ≡ false → is_before b path ≡ true → is_before a path ≡ true
less_through path a b f t = by_test (is_before a path) (λ e. e) (λ e. true_false (sym t ∙ paths.chain b.path a.path path f e))

-- tests that pass what is before one that passes
pub is_before_splits : (rows : List Row) (path : Names) → IsByPath rows → IsPartitionedBy (λ row. is_before row path) rows
is_before_splits rows path h i j d le l t = less_through path (get_or rows i d) (get_or rows j d) (far rows h i j d le l) t

pub reaches_splits : (rows : List Row) (touch : Row) → IsByPath rows → IsPartitionedBy (λ row. reaches touch row) rows
reaches_splits rows touch h i j d le l t =
    let a : Row = get_or rows i d in
    let b : Row = get_or rows j d in
    let up = far rows h i j d le l in
    by_test (is_before a touch.path) (λ e. or_left _ _ e)
    (λ e. or_right (is_before a touch.path) _ (covered_between touch a.path b.path e up (by_test (is_before b touch.path) (λ g. true_false (sym (less_through touch.path a b up g) ∙ e)) (λ g. only_right _ _ g t))))
  where
    or_left : (a b : Bool) → a ≡ true → (a || b) ≡ true
    or_left a b e = rw e

    or_right : (a b : Bool) → b ≡ true → (a || b) ≡ true
    or_right true b e = refl
    or_right false b e = e

    only_right : (a b : Bool) → a ≡ false → (a || b) ≡ true → b ≡ true
    only_right true b e h = true_false e
    only_right false b e h = h

-- ---- what a touch does to a row that it reaches

pub place_covered : (touch row : Row) → is_before row touch.path ≡ false → reaches touch row ≡ true → covers touch row.path ≡ true
place_covered touch row f h = by_first (is_before row touch.path) f h
  where
    by_first : (b : Bool) → b ≡ false → (b || covers touch row.path) ≡ true → covers touch row.path ≡ true
    by_first true e h = true_false e
    by_first false e h = h

pub before_kept : (touch row : Row) → is_before row touch.path ≡ true → replaces touch row ≡ false
before_kept touch row h = by_test (replaces touch row) (λ e. true_false (sym h ∙ covers_not_before touch row.path (replaced_covered touch row e))) (λ e. e)

pub past_kept : (touch row : Row) → reaches touch row ≡ false → replaces touch row ≡ false
past_kept touch row h = by_test (replaces touch row) (λ e. true_false (sym (by_second (is_before row touch.path) (covers touch row.path) (replaced_covered touch row e)) ∙ h)) (λ e. e)
  where
    by_second : (a b : Bool) → b ≡ true → (a || b) ≡ true
    by_second true b e = refl
    by_second false b e = e

pub plain_replaces : (touch row : Row) → must_scan touch.flags ≡ false → covers touch row.path ≡ true → (row.flags == 0) ≡ true → replaces touch row ≡ true
plain_replaces touch row s h z = by_scan (must_scan touch.flags) s h
  where
    by_scan : (b : Bool) → b ≡ false → cond b (is_prefix touch.path row.path) (same_path touch.path row.path) ≡ true
        → ((same_path touch.path row.path && (row.flags == 0)) || (b && is_prefix touch.path row.path)) ≡ true
    by_scan true e c = true_false e
    by_scan false e c = rw (c, z) refl

pub plain_keeps : (touch row : Row) → must_scan touch.flags ≡ false → (row.flags == 0) ≡ false → replaces touch row ≡ false
plain_keeps touch row s z = by_scan (must_scan touch.flags) (same_path touch.path row.path) s
  where
    by_scan : (b same : Bool) → b ≡ false → ((same && (row.flags == 0)) || (b && is_prefix touch.path row.path)) ≡ false
    by_scan true same e = true_false e
    by_scan false true e = rw z refl
    by_scan false false e = refl

-- ---- edits

all_insert : (P : Row → Type 0) (rows : List Row) (i : ℕ) (row : Row) → P row → AllByRecursion P rows → AllByRecursion P (insert rows i row)
all_insert P [] zero row p h = (p, tt)
all_insert P [] (suc i) row p h = (p, tt)
all_insert P (x ∷ rows) zero row p h = (p, h)
all_insert P (x ∷ rows) (suc i) row p h = (h.0, all_insert P rows i row p h.1)

within_from : (P : Row → Type 0) (rows : List Row) → AllWithin P rows 0 (length rows) → AllByRecursion P rows
within_from P rows h = all_from P rows (λ k d l. h k d (omega arith) l)

pub by_path_insert : (rows : List Row) (i : ℕ) (row : Row) → IsByPath rows → i ≤ length rows
    → AllWithin (λ other. is_before other row.path ≡ true) rows 0 i → AllWithin (λ other. is_before other row.path ≡ false) rows i (length rows) → IsByPath (insert rows i row)
by_path_insert [] zero row h le low high = (tt, tt)
by_path_insert [] (suc i) row h le low high = (tt, tt)
by_path_insert (x ∷ rows) zero row h le low high = (within_from _ (x ∷ rows) high, h)
by_path_insert (x ∷ rows) (suc i) row h le low high = (
  all_insert (λ later. is_before later x.path ≡ false) rows i row (paths.one_way x.path row.path (low 0 x (omega arith) (omega arith))) h.0,
  by_path_insert rows i row h.1 (omega (arith, le)) (λ k d f l. low (suc k) d (omega arith) (omega (arith, l))) (λ k d f l. high (suc k) d (omega (arith, f)) (omega (arith, l))),
)

all_remove : (P : Row → Type 0) (rows : List Row) (i : ℕ) → AllByRecursion P rows → AllByRecursion P (remove rows i)
all_remove P [] zero h = tt
all_remove P [] (suc i) h = tt
all_remove P (x ∷ rows) zero h = h.1
all_remove P (x ∷ rows) (suc i) h = (h.0, all_remove P rows i h.1)

pub by_path_remove : (rows : List Row) (i : ℕ) → IsByPath rows → IsByPath (remove rows i)
by_path_remove [] zero h = tt
by_path_remove [] (suc i) h = tt
by_path_remove (x ∷ rows) zero h = h.1
by_path_remove (x ∷ rows) (suc i) h = (all_remove _ rows i h.0, by_path_remove rows i h.1)

pub by_path_filter : (p : Row → Bool) (rows : List Row) → IsByPath rows → IsByPath (filter p rows)
by_path_filter p [] h = tt
by_path_filter p (row ∷ rows) h = elim (p row) as (λ b. IsByPath (cond b (row ∷ filter p rows) (filter p rows))) [ true ↦ (all_filter _ p rows h.0, by_path_filter p rows h.1) | false ↦ by_path_filter p rows h.1 ]

-- one that doesn't pass may go before a filter
pub filter_remove : (p : Row → Bool) (rows : List Row) (i : ℕ) → i < length rows → ((d : Row) → p (get_or rows i d) ≡ false) → filter p (remove rows i) ≡ filter p rows
filter_remove p [] i l h = absurd (omega (arith, l))
filter_remove p (x ∷ rows) zero l h = let no = h x in rw no refl
filter_remove p (x ∷ rows) (suc i) l h = ap (λ r. cond (p x) (x ∷ r) r) (filter_remove p rows i (omega (arith, l)) h)

-- what passes stands in front and at the end
pub filter_ends : (p : Row → Bool) (rows : List Row) (i j : ℕ) → i ≤ j → j ≤ length rows
    → AllWithin (λ row. p row ≡ true) rows 0 i → AllWithin (λ row. p row ≡ false) rows i j → AllWithin (λ row. p row ≡ true) rows j (length rows)
    → filter p rows ≡ take i rows ++ drop j rows
filter_ends p [] zero zero a b f g h = refl
filter_ends p [] zero (suc j) a b f g h = refl
filter_ends p [] (suc i) zero a b f g h = refl
filter_ends p [] (suc i) (suc j) a b f g h = refl
filter_ends p (x ∷ rows) zero zero a b f g h =
    let yes = h 0 x (omega arith) (omega arith) in
    rw yes (ap (λ l. x ∷ l) (filter_ends p rows 0 0 (omega arith) (omega arith) (λ k d l m. absurd (omega (arith, m))) (λ k d l m. absurd (omega (arith, m))) (λ k d l m. h (suc k) d (omega arith) (omega (arith, m)))))
filter_ends p (x ∷ rows) zero (suc j) a b f g h =
    let no = g 0 x (omega arith) (omega arith) in
    rw no (filter_ends p rows 0 j (omega arith) (omega (arith, b)) (λ k d l m. absurd (omega (arith, m))) (λ k d l m. g (suc k) d (omega arith) (omega (arith, m))) (λ k d l m. h (suc k) d (omega (arith, l)) (omega (arith, m))))
filter_ends p (x ∷ rows) (suc i) zero a b f g h = absurd (omega (arith, a))
filter_ends p (x ∷ rows) (suc i) (suc j) a b f g h =
    let yes = f 0 x (omega arith) (omega arith) in
    rw yes (ap (λ l. x ∷ l) (filter_ends p rows i j (omega (arith, a)) (omega (arith, b)) (λ k d l m. f (suc k) d (omega arith) (omega (arith, m))) (λ k d l m. g (suc k) d (omega (arith, l)) (omega (arith, m))) (λ k d l m. h (suc k) d (omega (arith, l)) (omega (arith, m)))))

pub filter_all : (p : Row → Bool) (rows : List Row) → All (λ row. p row ≡ true) rows → filter p rows ≡ rows
filter_all p [] h = refl
filter_all p (x ∷ rows) h = let yes = h 0 x (omega arith) in rw yes (ap (λ l. x ∷ l) (filter_all p rows (λ k d l. h (suc k) d (omega (arith, l)))))

-- ---- sorted anew

from_far : (rows : List Row) → ((i j : ℕ) (d : Row) → i ≤ j → j < length rows → is_before (get_or rows j d) (get_or rows i d).path ≡ false) → IsByPath rows
from_far [] f = tt
from_far (row ∷ rows) f =
    (all_from _ rows (λ k d l. f 0 (suc k) d (omega arith) (omega (arith, l))), from_far rows (λ i j d a b. f (suc i) (suc j) d (omega (arith, a)) (omega (arith, b))))

pub rows_order : IsStrictWeakOrder (λ (a b : Row). is_lt (path_cmp a.path b.path))
rows_order = ranks_by path_total (λ (row : Row). row.path)

pub by_path_from : (rows : List Row) → IsSortedBy (λ (a b : Row). is_lt (path_cmp a.path b.path)) rows → IsByPath rows
by_path_from rows h = from_far rows (λ i j d a b. sorted_far (λ (a b : Row). is_lt (path_cmp a.path b.path)) rows_order rows h i j d a b)
