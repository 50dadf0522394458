-- What edits of the rows keep.
use Rattle.std.proofs.Common.{suc, ◌≡◌, ℕ, ◌+◌, ◌<◌, ◌≤◌, Bool, true, false, not, List, [], ◌∷◌, ◌++◌, filter, length, drop, take, get_or, refl, sym, ap, ◌∙◌, subst, arith, append_assoc, Option, Some, None, option_to_list, ⊎_elim, ◌||◌}
use Rattle.std.specs.List.{All, AllByRecursion, insert}
use Rattle.std.specs.List.Sorted.{IsPermutation, IsNonDecreasingBy, IsPartitionPoint}
use Rattle.std.proofs.lemmas.Bool.{cases_lt}
use Rattle.std.proofs.lemmas.List.{take-append-drop}
use Rattle.std.proofs.lemmas.List.Elements.{filter-append}
use Rattle.std.proofs.lemmas.List.Filters.{length-filter_both}
use Rattle.std.proofs.lemmas.List.Sorted.{length_permutation, IsPermutation-sym, IsPermutation-trans}
use Rattle.tm_base.specs.Paths.{Names}
use Rattle.tm_base.proofs.Facts.{false_true, true_false}
use Rattle.tm_tree.specs.declared.rows.Row.{Row}
use Rattle.tm_journal.specs.Rows.{AreRising, must_scan, replaces, root_row}
use Rattle.tm_journal.specs.Cover.{covers}
use Rattle.tm_journal.specs.Journals.{IsInOrder}
use Rattle.tm_journal.specs.Kept.{is_before, reaches, IsByPath, by_id, put_by_id, IsKept}
use Rattle.tm_journal.proofs.ById.{NonDec, all_from, all_moved, put_last, by_id_middle, filter_by_id, non_dec_by_id, perm_by_id, sorted_is, rising_from, rising_to, rising_filter, rising_push}
use Rattle.tm_journal.proofs.ByPath.{by_path_filter, filter_ends, before_kept, past_kept, place_covered, scan_replaces}

-- ---- in order

pub none_in_order : (capacity : ℕ) → 1 ≤ capacity → IsInOrder capacity []
none_in_order capacity some = record { some = some; few = omega arith; rising = rising_to [] tt }

pub root_in_order : (capacity id flags : ℕ) → 1 ≤ capacity → IsInOrder capacity (root_row id flags)
root_in_order capacity id flags some = record { some = some; few = omega (arith, some); rising = rising_to (root_row id flags) (tt, tt) }

pub filter_in_order : (capacity : ℕ) (p : Row → Bool) (rows : List Row) → IsInOrder capacity rows → IsInOrder capacity (filter p rows)
filter_in_order capacity p rows h =
    let less = length-filter_both p (λ row. not (p row)) (λ row. refl) rows in
    let few = h.few in
    record { some = h.some; few = omega (arith, less, few); rising = rising_to _ (rising_filter p rows (rising_from rows h.rising)) }

pub push_in_order : (capacity : ℕ) (rows : List Row) (row : Row) → IsInOrder capacity rows → length rows < capacity → All (λ other. other.id < row.id) rows → IsInOrder capacity (rows ++ row ∷ [])
push_in_order capacity rows row h few above =
    record { some = h.some; few = more rows few; rising = rising_to _ (rising_push rows row (rising_from rows h.rising) (all_from _ rows above)) }
  where
    longer : (l : List Row) → length (l ++ row ∷ []) ≡ length l + 1
    longer [] = refl
    longer (x ∷ l) = let e = longer l in omega (arith, e)

    more : (l : List Row) → length l < capacity → length (l ++ row ∷ []) ≤ capacity
    more l lt = let e = longer l in omega (arith, e, lt)

-- ---- kept rows as they are seen

pub forgotten_are : (touch : Row) (root rows root_left rows_left : List Row)
    → root_left ≡ filter (λ row. not (replaces touch row)) root → rows_left ≡ filter (λ row. not (replaces touch row)) rows
    → by_id (root_left ++ rows_left) ≡ filter (λ row. not (replaces touch row)) (by_id (root ++ rows))
forgotten_are touch root rows root_left rows_left e f =
    let p : Row → Bool = λ row. not (replaces touch row) in
    ap by_id (ap (λ l. l ++ rows_left) e ∙ ap (λ l. filter p root ++ l) f ∙ sym (filter-append p root rows)) ∙ sym (filter_by_id p (root ++ rows))

pub forgotten_kept : (capacity : ℕ) (touch : Row) (root rows root_left rows_left : List Row)
    → root_left ≡ filter (λ row. not (replaces touch row)) root → rows_left ≡ filter (λ row. not (replaces touch row)) rows
    → IsKept capacity root rows → IsKept capacity root_left rows_left
forgotten_kept capacity touch root rows root_left rows_left e f h =
    record {
      in_order = subst (IsInOrder capacity) (sym (forgotten_are touch root rows root_left rows_left e f)) (filter_in_order capacity (λ row. not (replaces touch row)) (by_id (root ++ rows)) h.in_order);
      by_path = subst IsByPath (sym f) (by_path_filter (λ row. not (replaces touch row)) rows h.by_path);
    }

pub inserted_are : (root rows : List Row) (i : ℕ) (row : Row) → All (λ other. other.id < row.id) (by_id (root ++ rows)) → by_id (root ++ insert rows i row) ≡ by_id (root ++ rows) ++ row ∷ []
inserted_are root rows i row above =
    let kept : AllByRecursion (λ other. other.id < row.id) (root ++ rows) = all_moved _ (by_id (root ++ rows)) (root ++ rows) (IsPermutation-sym _ _ (perm_by_id (root ++ rows))) (all_from _ _ above) in
    let parts : root ++ rows ≡ (root ++ take i rows) ++ drop i rows = ap (λ l. root ++ l) (sym (take-append-drop i rows)) ∙ sym (append_assoc root (take i rows) (drop i rows)) in
    let front : AllByRecursion (λ other. other.id < row.id) (root ++ take i rows) = all_front (root ++ take i rows) (drop i rows) (subst (AllByRecursion (λ other. other.id < row.id)) parts kept) in
    ap by_id (sym (append_assoc root (take i rows) (row ∷ drop i rows))) ∙ by_id_middle (root ++ take i rows) row (drop i rows) front ∙ ap (λ l. put_by_id row (by_id l)) (sym parts)
    ∙ put_last (by_id (root ++ rows)) row (all_from _ _ above)
  where
    all_front : (a b : List Row) → AllByRecursion (λ other. other.id < row.id) (a ++ b) → AllByRecursion (λ other. other.id < row.id) a
    all_front [] b h = tt
    all_front (x ∷ a) b h = (h.0, all_front a b h.1)

pub length_by_id : (rows : List Row) → length (by_id rows) ≡ length rows
length_by_id rows = length_permutation rows (by_id rows) (perm_by_id rows)

-- rows that were kept by rising id, in another order
pub sorted_back : (rows sorted : List Row) → AreRising rows → IsPermutation rows sorted → by_id sorted ≡ rows
sorted_back rows sorted h m = sorted_is rows (by_id sorted) (rising_from rows h) (non_dec_by_id sorted) (IsPermutation-trans _ _ _ m (perm_by_id sorted))

-- rows above a cursor, sorted by id
pub sorted_out : (p : Row → Bool) (rows sorted : List Row) → AreRising (by_id rows) → IsPermutation (filter p rows) sorted → IsNonDecreasingBy (λ row. row.id) sorted → sorted ≡ filter p (by_id rows)
sorted_out p rows sorted h m up =
    sorted_is (filter p (by_id rows)) sorted (rising_filter p (by_id rows) (rising_from (by_id rows) h)) (non_dec sorted up)
    (IsPermutation-trans _ _ _ (IsPermutation-sym _ _ (subst (IsPermutation (filter p rows)) (sym (filter_by_id p rows)) (perm_by_id (filter p rows)))) m)
  where
    non_dec : (l : List Row) → IsNonDecreasingBy (λ row. row.id) l → NonDec l
    non_dec [] f = tt
    non_dec (row ∷ l) f = (all_from _ l (λ k d m. f 0 (suc k) d (omega arith) (omega (arith, m))), non_dec l (λ i j d a b. f (suc i) (suc j) d (omega (arith, a)) (omega (arith, b))))

-- ---- what a touch with MustScanSubDirs leaves

pub scan_leaves : (touch : Row) (rows : List Row) (start end : ℕ) → must_scan touch.flags ≡ true → start ≤ end → end ≤ length rows
    → IsPartitionPoint (λ row. is_before row touch.path ≡ true) (λ row. is_before row touch.path ≡ false) rows start
    → IsPartitionPoint (λ row. reaches touch row ≡ true) (λ row. reaches touch row ≡ false) rows end
    → filter (λ row. not (replaces touch row)) rows ≡ take start rows ++ drop end rows
scan_leaves touch rows start end s le within first past =
    filter_ends (λ row. not (replaces touch row)) rows start end le within
    (λ k d l m. ap not (before_kept touch (get_or rows k d) (first.0 k d l m)))
    (λ k d l m. scan_replaces touch (get_or rows k d) s (place_covered touch (get_or rows k d) (first.1 k d l (omega (arith, m, within))) (past.0 k d (omega arith) m)))
    (λ k d l m. ap not (past_kept touch (get_or rows k d) (past.1 k d l m)))

-- the places of what a touch covers are in order
pub start_before_end : (touch : Row) (rows : List Row) (start end : ℕ) → start ≤ length rows → end ≤ length rows
    → IsPartitionPoint (λ row. is_before row touch.path ≡ true) (λ row. is_before row touch.path ≡ false) rows start
    → IsPartitionPoint (λ row. reaches touch row ≡ true) (λ row. reaches touch row ≡ false) rows end
    → start ≤ end
start_before_end touch rows start end low high first past =
    ⊎_elim (λ (l : end < start). clash touch (get_or rows end touch) (first.0 end touch (omega arith) l) (past.1 end touch (omega arith) (omega (arith, l, low)))) (λ (l : start ≤ end). l) (cases_lt end start)
  where
    both : {P : Type 0} (a b : Bool) → a ≡ true → (a || b) ≡ false → P
    both true b e f = true_false f
    both false b e f = false_true e

    clash : {P : Type 0} (touch row : Row) → is_before row touch.path ≡ true → reaches touch row ≡ false → P
    clash touch row a b = both (is_before row touch.path) (covers touch row.path) a b

-- ---- what is kept of few rows

pub none_kept : (capacity : ℕ) (rows : List Row) → 1 ≤ capacity → rows ≡ [] → IsKept capacity [] rows
none_kept capacity rows some e = subst (IsKept capacity []) (sym e) (record { in_order = none_in_order capacity some; by_path = tt })

pub root_kept : (capacity id flags : ℕ) (path : Names) (rows : List Row) → 1 ≤ capacity → path ≡ [] → rows ≡ [] → IsKept capacity (record { id = id; path = path; flags = flags } ∷ []) rows
root_kept capacity id flags path rows some e f =
    subst (λ (p : Names). IsKept capacity (record { id = id; path = p; flags = flags } ∷ []) rows) (sym e)
    (subst (IsKept capacity (root_row id flags)) (sym f) (record { in_order = root_in_order capacity id flags some; by_path = tt }))

pub sorted_kept : (capacity : ℕ) (rows sorted : List Row) → IsInOrder capacity rows → IsPermutation rows sorted → IsByPath sorted → IsKept capacity [] sorted
sorted_kept capacity rows sorted h m up = record { in_order = subst (IsInOrder capacity) (sym (sorted_back rows sorted h.rising m)) h; by_path = up }

pub put_are : (root rows put : List Row) (row : Row) → All (λ other. other.id < row.id) (by_id (root ++ rows)) → ((i : ℕ) × (put ≡ insert rows i row)) → by_id (root ++ put) ≡ by_id (root ++ rows) ++ row ∷ []
put_are root rows put row above is = ap (λ l. by_id (root ++ l)) is.1 ∙ inserted_are root rows is.0 row above

pub inserted_kept : (capacity : ℕ) (root rows put : List Row) (row : Row) → IsKept capacity root rows → length (by_id (root ++ rows)) < capacity
    → All (λ other. other.id < row.id) (by_id (root ++ rows)) → ((i : ℕ) × (put ≡ insert rows i row)) → IsByPath put → IsKept capacity root put
inserted_kept capacity root rows put row h few above is up =
    record {
      in_order = subst (IsInOrder capacity) (sym (put_are root rows put row above is)) (push_in_order capacity (by_id (root ++ rows)) row h.in_order few above);
      by_path = up;
    }

pub none_count : (root : Option Row) (rows : List Row) → root ≡ None → length rows ≡ length (by_id (option_to_list root ++ rows))
none_count root rows e = sym (length_by_id rows) ∙ ap (λ r. length (by_id (option_to_list r ++ rows))) (sym e)

pub some_count : (root : Option Row) (row : Row) (rows : List Row) → root ≡ Some row → length rows + 1 ≡ length (by_id (option_to_list root ++ rows))
some_count root row rows e = let all : length rows + 1 ≡ length (row ∷ rows) = omega arith in all ∙ sym (length_by_id (row ∷ rows)) ∙ ap (λ r. length (by_id (option_to_list r ++ rows))) (sym e)
