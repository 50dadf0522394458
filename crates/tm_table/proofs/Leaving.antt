-- The records without some keys.
use Rattle.std.proofs.Common.{◌≡◌, ◌≢◌, ⊎_elim, ℕ, ◌<◌, ◌≤◌, ◌==◌, List, [], ◌∷◌, length, get_or, Bool, true, false, not, ◌||◌, cond, refl, sym, ◌∙◌, ap, subst, arith, Result, Ok, Err}
use Rattle.std.specs.List.{filter, list_any, AllByRecursion}
use Rattle.std.specs.List.Sorted.{IsStrictlySortedBy, IsStrictlyIncreasing, IsBinarySearchResult}
use Rattle.std.specs.Ordering.{nat_cmp, is_eq}
use Rattle.std.specs.Cmp.{nat_cmp_is}
use Rattle.std.specs.declared.cmp.Ordering.TheVariants.{Less, Equal, Greater}
use Rattle.std.specs.BTreeMap.{is_at}
use Rattle.std.specs.Map.{remove_entry, keys_of}
use Rattle.std.specs.Result.{is_ok}
use Rattle.std.proofs.lemmas.Bool.{cases_eq, cases_lt, eq-eqb, ne_eqb}
use Rattle.std.proofs.lemmas.Map.Keys.{sorted_head, sorted_tail, non_decreasing_from_sorted, sorted_from_strictly_increasing}
use Rattle.std.proofs.lemmas.List.Kept.{IsStrictlySortedBy-filter}
use Rattle.std.proofs.lemmas.List.{get_or_default}
use Rattle.std.proofs.lemmas.List.Sorted.{searched}
use Rattle.std.proofs.lemmas.List.Folds.{list_any_at, list_any_none}
use Rattle.tm_records.specs.Records.{Records}
use Rattle.tm_records.specs.Removes.{without}
use Rattle.tm_table.proofs.Writing.{without_keys, is_left}

-- what a search in rising keys finds
pub among_is : (keys : List ℕ) (key : ℕ) (r : Result ℕ ℕ) → IsStrictlyIncreasing keys → IsBinarySearchResult (λ y. nat_cmp y key) keys r → is_ok r ≡ list_any (λ k. k == key) keys
among_is keys key (Ok i) rise found =
    let h = searched keys key (Ok i) found (λ m n le lt. non_decreasing_from_sorted keys (sorted_from_strictly_increasing keys rise) m n 0 le lt) in
    sym (list_any_at (λ k. k == key) keys i 0 h.0 (eq-eqb (get_or keys i 0) key h.1))
among_is keys key (Err i) rise found =
    let h = searched keys key (Err i) found (λ m n le lt. non_decreasing_from_sorted keys (sorted_from_strictly_increasing keys rise) m n 0 le lt) in
    let not_at : (k d : ℕ) → k < length keys → get_or keys k d ≢ key = λ k d lt e. ⊎_elim
    (λ (low : k < i). absurd (omega (arith, h.1 k low, get_or_default keys k d 0 lt, e)))
    (λ (high : i ≤ k). absurd (omega (arith, h.2 k high lt, get_or_default keys k d 0 lt, e)))
    (cases_lt k i) in
    sym (list_any_none (λ k. k == key) keys (λ k d lt. ne_eqb (get_or keys k d) key (not_at k d lt)))

at_same : (k x : ℕ) → k ≡ x → is_eq (nat_cmp k x) ≡ true
at_same k x e = ap is_eq (sym (nat_cmp_is k x Equal e))

at_other : (k x : ℕ) → k ≢ x → is_eq (nat_cmp k x) ≡ false
at_other k x ne = ⊎_elim
    (λ (lt : k < x). ap is_eq (sym (nat_cmp_is k x Less lt)))
    (λ (le : x ≤ k). ap is_eq (sym (nat_cmp_is k x Greater (omega (arith, ne)))))
    (cases_lt k x)

apart : (k x : ℕ) → nat_cmp k x ≡ Less → (k == x) ≡ false
apart k x less = ⊎_elim
    (λ (e : k ≡ x). let bad : Less ≡ Equal = sym less ∙ sym (nat_cmp_is k x Equal e) in cc)
    (λ (ne : k ≢ x). ne_eqb k x ne)
    (cases_eq k x)

abbrev is_other : ℕ → ℕ → Bool
is_other k x = not (k == x)

keep_above : (k : ℕ) (es : Records) → AllByRecursion (λ y. nat_cmp k y ≡ Less) (keys_of es) → filter (λ e. is_other k e.0) es ≡ es
keep_above k [] h = refl
keep_above k (e ∷ es) h = ap (λ b. cond (not b) (e ∷ filter (λ x. is_other k x.0) es) (filter (λ x. is_other k x.0) es)) (apart k e.0 h.0) ∙ ap (λ (t : Records). e ∷ t) (keep_above k es h.1)

-- one key taken out of rising ones
remove_is : (k : ℕ) (es : Records) → IsStrictlySortedBy nat_cmp (keys_of es) → remove_entry (is_at (nat_cmp k)) es ≡ filter (λ e. is_other k e.0) es
remove_is k [] s = refl
remove_is k (e ∷ es) s = ⊎_elim
    (λ (same : k ≡ e.0). ap (λ b. cond b es (e ∷ remove_entry (is_at (nat_cmp k)) es)) (at_same k e.0 same)
    ∙ sym (ap (λ b. cond (not b) (e ∷ filter (λ x. is_other k x.0) es) (filter (λ x. is_other k x.0) es)) (eq-eqb k e.0 same)
    ∙ ap (λ j. filter (λ x. is_other j x.0) es) same ∙ keep_above e.0 es (sorted_head nat_cmp e.0 (keys_of es) s)))
    (λ (ne : k ≢ e.0). ap (λ b. cond b es (e ∷ remove_entry (is_at (nat_cmp k)) es)) (at_other k e.0 ne)
    ∙ ap (λ (t : Records). e ∷ t) (remove_is k es (sorted_tail nat_cmp e.0 (keys_of es) s))
    ∙ sym (ap (λ b. cond (not b) (e ∷ filter (λ x. is_other k x.0) es) (filter (λ x. is_other k x.0) es)) (ne_eqb k e.0 ne)))
    (cases_eq k e.0)

pub keys-filter : (p : ℕ → Bool) (es : Records) → keys_of (filter (λ e. p e.0) es) ≡ filter p (keys_of es)
keys-filter p [] = refl
keys-filter p (e ∷ es) =
    elim (p e.0) as (λ b. keys_of (cond b (e ∷ filter (λ x. p x.0) es) (filter (λ x. p x.0) es)) ≡ cond b (e.0 ∷ filter p (keys_of es)) (filter p (keys_of es))) [
      | true ↦ ap (λ (t : List ℕ). e.0 ∷ t) (keys-filter p es)
      | false ↦ keys-filter p es
    ]

left-none : (es : Records) → without_keys [] es ≡ es
left-none [] = refl
left-none (e ∷ es) = ap (λ (t : Records). e ∷ t) (left-none es)

left-cons : (k : ℕ) (ks : List ℕ) (es : Records) → without_keys (k ∷ ks) es ≡ without_keys ks (filter (λ e. is_other k e.0) es)
left-cons k ks [] = refl
left-cons k ks (e ∷ es) =
    elim (k == e.0) as (λ b. cond (not (b || list_any (λ x. x == e.0) ks)) (e ∷ without_keys (k ∷ ks) es) (without_keys (k ∷ ks) es) ≡ without_keys ks (cond (not b) (e ∷ filter (λ x. is_other k x.0) es) (filter (λ x. is_other k x.0) es))) [
      | true ↦ left-cons k ks es
      | false ↦ ap (λ (t : Records). cond (is_left ks e) (e ∷ t) t) (left-cons k ks es)
    ]

-- taken out one by one, or left out at once
pub without-left : (ks : List ℕ) (es : Records) → IsStrictlySortedBy nat_cmp (keys_of es) → without ks es ≡ without_keys ks es
without-left [] es s = sym (left-none es)
without-left (k ∷ ks) es s =
    ap (without ks) (remove_is k es s)
    ∙ without-left ks (filter (λ e. is_other k e.0) es) (subst (IsStrictlySortedBy nat_cmp) (sym (keys-filter (is_other k) es)) (IsStrictlySortedBy-filter nat_cmp (is_other k) (keys_of es) s))
    ∙ sym (left-cons k ks es)
