-- Touches and drops never cover less.
use Rattle.std.proofs.Common.{◌≡◌, ℕ, ◌+◌, ◌<◌, Bool, true, false, not, ◌&&◌, ◌||◌, cond, List, [], ◌∷◌, ◌++◌, filter, length, refl, sym, ◌∙◌, subst, nat_lt, arith, ◌==◌, ◌%◌}
use Rattle.std.proofs.lemmas.Bool.Decides.{Decides-ltb, Decides-eqb}
use Rattle.std.proofs.lemmas.List.{append-nil}
use Rattle.tm_base.specs.Paths.{Names, is_prefix, same_path}
use Rattle.tm_base.proofs.Facts.{false_true, both_true}
use Rattle.tm_base.proofs.PathLemmas.{same_path_decides, is_prefix_of_append}
use Rattle.tm_tree.proofs.CopyProofs.{is_prefix_trans}
use Rattle.tm_tree.specs.declared.rows.Row.{Row}
use Rattle.tm_journal.specs.Rows.{must_scan, replaces, add_touch, row_of, rows_above, root_row}
use Rattle.tm_journal.specs.Cover.{covers, are_covering, covered_since, touched, TouchStaysCovered, TouchesStayCovered, DropCoversAll}

-- ---- truth values

or_left : (a b : Bool) → a ≡ true → (a || b) ≡ true
or_left a b h = rw h

or_right : (a b : Bool) → b ≡ true → (a || b) ≡ true
or_right true b h = refl
or_right false b h = h

or_case : {P : Type 0} (a b : Bool) → (a || b) ≡ true → (a ≡ true → P) → (b ≡ true → P) → P
or_case true b h f g = f refl
or_case false b h f g = g h

by_test : {P : Type 0} (b : Bool) → (b ≡ true → P) → (b ≡ false → P) → P
by_test true f g = f refl
by_test false f g = g refl

-- ---- one row

prefix_of_same : (p q : Names) → p ≡ q → is_prefix p q ≡ true
prefix_of_same p q e = subst (λ (x : Names). is_prefix p x ≡ true) e (is_prefix_of_append p p [] (sym (append-nil p)))

covers_own : (row : Row) (p : Names) → row.path ≡ p → covers row p ≡ true
covers_own row p e =
    elim (must_scan row.flags) as (λ b. cond b (is_prefix row.path p) (same_path row.path p) ≡ true) [ true ↦ prefix_of_same row.path p e | false ↦ (same_path_decides row.path p).1 e ]

covers_beneath : (row : Row) (p : Names) → covers row p ≡ true → is_prefix row.path p ≡ true
covers_beneath row p h =
    elim (must_scan row.flags) as (λ b. cond b (is_prefix row.path p) (same_path row.path p) ≡ true → is_prefix row.path p ≡ true) [
      | true ↦ λ g. g
      | false ↦ λ g. prefix_of_same row.path p ((same_path_decides row.path p).0 g)
    ] h

covers_scan : (row : Row) (p : Names) → must_scan row.flags ≡ true → is_prefix row.path p ≡ true → covers row p ≡ true
covers_scan row p s h = rw s h

-- a row without flags covers its own path alone
covers_plain : (row : Row) (p : Names) → (row.flags == 0) ≡ true → covers row p ≡ true → row.path ≡ p
covers_plain row p z h =
    elim (must_scan row.flags) as (λ b. must_scan row.flags ≡ b → cond b (is_prefix row.path p) (same_path row.path p) ≡ true → row.path ≡ p) [
      | true ↦ λ e. absurd (odd row.flags z e)
      | false ↦ λ e g. (same_path_decides row.path p).0 g
    ] refl h
  where
    odd : (n : ℕ) → (n == 0) ≡ true → (n % 2 == 1) ≡ true → ⊥
    odd n z e = false_true (subst (λ (x : ℕ). (x % 2 == 1) ≡ true) ((Decides-eqb n 0).0 z) e)

-- what a touch takes away it covers
replaced : (touch row : Row) (p : Names) → replaces touch row ≡ true → covers row p ≡ true → covers touch p ≡ true
replaced touch row p r h =
    or_case (same_path touch.path row.path && (row.flags == 0)) (must_scan touch.flags && is_prefix touch.path row.path) r
    (λ same. covers_own touch p ((same_path_decides touch.path row.path).0 (both_true _ _ same).0 ∙ covers_plain row p (both_true (same_path touch.path row.path) _ same).1 h))
    (λ over. covers_scan touch p (both_true _ _ over).0 (is_prefix_trans touch.path row.path p (both_true (must_scan touch.flags) _ over).1 (covers_beneath row p h)))

-- ---- lists of rows

module _ (cursor : ℕ) (p : Names) where
  -- one row more in front
  in_front : (row : Row) (old new : List Row) → (are_covering old p ≡ true → are_covering new p ≡ true) → are_covering (cond (nat_lt cursor row.id) (row ∷ old) old) p ≡ true → are_covering (cond (nat_lt cursor row.id) (row ∷ new) new) p ≡ true
  in_front row old new f h =
      elim (nat_lt cursor row.id) as (λ b. are_covering (cond b (row ∷ old) old) p ≡ true → are_covering (cond b (row ∷ new) new) p ≡ true) [
        | true ↦ λ g. or_case (covers row p) (are_covering old p) g (λ a. or_left (covers row p) _ a) (λ a. or_right (covers row p) _ (f a))
        | false ↦ f
      ] h

  skipped : (row : Row) (old : List Row) → are_covering old p ≡ true → are_covering (cond (nat_lt cursor row.id) (row ∷ old) old) p ≡ true
  skipped row old h = elim (nat_lt cursor row.id) as (λ b. are_covering (cond b (row ∷ old) old) p ≡ true) [ true ↦ or_right (covers row p) _ h | false ↦ h ]

  at_end : (rows : List Row) (touch : Row) → nat_lt cursor touch.id ≡ true → covers touch p ≡ true → covered_since cursor (rows ++ touch ∷ []) p ≡ true
  at_end [] touch l h = rw l (or_left (covers touch p) _ h)
  at_end (row ∷ rows) touch l h = skipped row (rows_above cursor (rows ++ touch ∷ [])) (at_end rows touch l h)

  kept : (rows : List Row) (touch : Row) → nat_lt cursor touch.id ≡ true → covered_since cursor rows p ≡ true → covered_since cursor (filter (λ row. not (replaces touch row)) rows ++ touch ∷ []) p ≡ true
  kept [] touch l h = false_true h
  kept (row ∷ rows) touch l h =
      let rest : List Row = filter (λ row. not (replaces touch row)) rows in
      elim (replaces touch row) as (λ r. replaces touch row ≡ r → covered_since cursor (cond (not r) (row ∷ rest) rest ++ touch ∷ []) p ≡ true) [
        | true ↦ λ e. by_test (covers touch p) (λ c. at_end rest touch l c)
            (λ c. kept rows touch l (only_rest row (rows_above cursor rows) (λ g. false_true (sym c ∙ replaced touch row p e g)) h))
        | false ↦ λ e. in_front row (rows_above cursor rows) (rows_above cursor (rest ++ touch ∷ [])) (λ g. kept rows touch l g) h
      ] refl
    where
      only_rest : (row : Row) (old : List Row) → (covers row p ≡ true → ⊥) → are_covering (cond (nat_lt cursor row.id) (row ∷ old) old) p ≡ true → are_covering old p ≡ true
      only_rest row old n h =
          elim (nat_lt cursor row.id) as (λ b. are_covering (cond b (row ∷ old) old) p ≡ true → are_covering old p ≡ true) [
            | true ↦ λ g. or_case (covers row p) (are_covering old p) g (λ a. absurd (n a)) (λ a. a)
            | false ↦ λ g. g
          ] h

  root_covers : (id flags : ℕ) → must_scan flags ≡ true → cursor < id → covered_since cursor (root_row id flags) p ≡ true
  root_covers id flags s l = rw ((Decides-ltb cursor id).1 l) (or_left (covers (record { id = id; path = []; flags = flags }) p) _ (covers_scan (record { id = id; path = []; flags = flags }) p s refl))

pub touch_stays_covered : TouchStaysCovered
touch_stays_covered capacity cursor rows touch p l h =
    let all : List Row = filter (λ row. not (replaces touch row)) rows ++ touch ∷ [] in
    let less : nat_lt cursor touch.id ≡ true = (Decides-ltb cursor touch.id).1 l in
    elim (nat_lt capacity (length all)) as (λ b. covered_since cursor (cond b (root_row touch.id 3) all) p ≡ true) [
      | true ↦ root_covers cursor p touch.id 3 refl l
      | false ↦ or_case (covered_since cursor rows p) (covers touch p) h (λ a. kept cursor p rows touch less a) (λ a. at_end cursor p (filter (λ row. not (replaces touch row)) rows) touch less a)
    ]

pub touches_stay_covered : TouchesStayCovered
touches_stay_covered capacity cursor next rows [] p l h = or_case (covered_since cursor rows p) false h (λ a. a) (λ a. false_true a)
touches_stay_covered capacity cursor next rows (t ∷ ts) p l h =
    touches_stay_covered capacity cursor (next + 1) (add_touch capacity rows (row_of next t)) ts p (omega arith)
    (or_case (covered_since cursor rows p) (touched (t ∷ ts) p) h
    (λ a. or_left _ (touched ts p) (touch_stays_covered capacity cursor rows (row_of next t) p l (or_left _ (covers (row_of next t) p) a)))
    (λ a. or_case (covers (row_of 0 t) p) (touched ts p) a
    (λ c. or_left _ (touched ts p) (touch_stays_covered capacity cursor rows (row_of next t) p l (or_right (covered_since cursor rows p) _ c)))
    (λ c. or_right (covered_since cursor (add_touch capacity rows (row_of next t)) p) _ c)))

pub drop_covers_all : DropCoversAll
drop_covers_all cursor id p l = root_covers cursor p id 5 refl l
