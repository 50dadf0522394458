-- The test by prefixes is one over the fixed paths, and one over the marks.
use Rattle.std.proofs.Common.{◌≡◌, ℕ, ◌+◌, ◌<◌, ◌≤◌, Bool, true, false, ◌||◌, List, [], ◌∷◌, ◌++◌, length, take, drop, get_or, refl, sym, ap, ◌∙◌, subst, arith, ◌⊎◌, inl, inr, length-append, take-append-drop}
use Rattle.std.proofs.lemmas.List.{get_or_default}
use Rattle.std.proofs.lemmas.List.FromFn.{length-range_with_len, get_or-range_with_len}
use Rattle.std.proofs.lemmas.List.Folds.{Any-from_list_any, list_any_at}
use Rattle.std.specs.BTreeMap.{is_at}
use Rattle.std.specs.List.{list_any}
use Rattle.tm_base.specs.Paths.{Names, path_cmp, is_prefix}
use Rattle.tm_base.proofs.PathLemmas.{prefix_is, is_prefix_of_append}
use Rattle.tm_tree.specs.Contents.{is_fixed}
use Rattle.tm_tree.proofs.CopyProofs.{at_is}
use Rattle.tm_exclude.specs.Exclusions.{is_excluded, prefix_lengths}

pub same_bool : (a b : Bool) → (a ≡ true → b ≡ true) → (b ≡ true → a ≡ true) → a ≡ b
same_bool true b f g = sym (f refl)
same_bool false true f g = g refl
same_bool false false f g = refl

pub either : (a b : Bool) → (a || b) ≡ true → (a ≡ true) ⊎ (b ≡ true)
either true b h = inl refl
either false b h = inr h

pub left_true : (a b : Bool) → a ≡ true → (a || b) ≡ true
left_true a b h = rw h refl

pub right_true : (a b : Bool) → b ≡ true → (a || b) ≡ true
right_true true b h = refl
right_true false b h = h

-- the first names of a path lead to it
pub first_leads : (n : ℕ) (p : Names) → is_prefix (take n p) p ≡ true
first_leads n p = is_prefix_of_append (take n p) p (drop n p) (sym (take-append-drop n p))

-- a path that leads to p is its first names
pub leads_as_first : (over p : Names) → is_prefix over p ≡ true → (length over ≤ length p) × (take (length over) p ≡ over)
leads_as_first over p h =
    let is = prefix_is over p h in
    let rest = drop (length over) p in (
      omega (arith, length-append over rest, ap (λ (x : Names). length x) is),
      ap (take (length over)) is ∙ first_of over rest,
    )
  where
    first_of : (a b : Names) → take (length a) (a ++ b) ≡ a
    first_of [] b = refl
    first_of (x ∷ a) b = ap (λ (y : Names). x ∷ y) (first_of a b)

-- a prefix that is fixed is among the fixed paths that lead to p
fixed_leads : (fixed : List Names) (n : ℕ) (p : Names) → is_fixed fixed (take n p) ≡ true → list_any (λ over. is_prefix over p) fixed ≡ true
fixed_leads [] n p h = h
fixed_leads (f ∷ fixed) n p h =
    elim (either (is_at (path_cmp (take n p)) f) (is_fixed fixed (take n p)) h) [
      | inl here ↦ left_true (is_prefix f p) _ (subst (λ (x : Names). is_prefix x p ≡ true) ((at_is (take n p) f).0 here) (first_leads n p))
      | inr later ↦ right_true (is_prefix f p) _ (fixed_leads fixed n p later)
    ]

-- the number of names of a fixed path that leads to p
record FixedAt (fixed : List Names) (p : Names) : Type 0 where
  count : ℕ
  few : count ≤ length p
  is : is_fixed fixed (take count p) ≡ true

leads_fixed : (fixed : List Names) (p : Names) → list_any (λ over. is_prefix over p) fixed ≡ true → FixedAt fixed p
leads_fixed [] p h = absurd (cc h)
leads_fixed (f ∷ fixed) p h =
    elim (either (is_prefix f p) (list_any (λ over. is_prefix over p) fixed) h) [
      | inl here ↦
          let first = leads_as_first f p here in
          record { count = length f; few = first.0; is = left_true (is_at (path_cmp (take (length f) p)) f) _ ((at_is (take (length f) p) f).1 first.1) }
      | inr later ↦
          let rest = leads_fixed fixed p later in
          record { count = rest.count; few = rest.few; is = right_true (is_at (path_cmp (take rest.count p)) f) _ rest.is }
    ]

-- a prefix that passes a test
pub record Passing (test : ℕ → Bool) (p : Names) : Type 0 where
  pub count : ℕ
  pub few : count < length p + 1
  pub passes : test count ≡ true

pub passing : (test : ℕ → Bool) (p : Names) → list_any test (prefix_lengths p) ≡ true → Passing test p
passing test p h =
    let any = Any-from_list_any test (prefix_lengths p) h in
    let k = any.0 in
    let few : k < length p + 1 = omega (arith, any.2, length-range_with_len 0 (length p + 1)) in
    let start : k ≡ 0 + k = omega arith in
    let is : k ≡ any.1 = start ∙ sym (get_or-range_with_len 0 (length p + 1) k any.1 few) ∙ any.3 in
    record { count = k; few = few; passes = ap test is ∙ any.4 }

pub passes : (test : ℕ → Bool) (p : Names) (n : ℕ) → n < length p + 1 → test n ≡ true → list_any test (prefix_lengths p) ≡ true
passes test p n few h =
    let start : 0 + n ≡ n = omega arith in
    list_any_at test (prefix_lengths p) n 0 (omega (arith, few, length-range_with_len 0 (length p + 1))) (ap test (get_or-range_with_len 0 (length p + 1) n 0 few ∙ start) ∙ h)

-- by its prefixes, or by the fixed paths and the marks
pub by_lists : (fixed : List Names) (marked : List Bool) (p : Names) → length marked ≡ length p + 1
    → (list_any (λ over. is_prefix over p) fixed || list_any (λ mark. mark) marked) ≡ is_excluded fixed marked p
by_lists fixed marked p one = same_bool _ _ into onto
  where
    test : ℕ → Bool
    test n = is_fixed fixed (take n p) || get_or marked n false

    into : (list_any (λ over. is_prefix over p) fixed || list_any (λ mark. mark) marked) ≡ true → is_excluded fixed marked p ≡ true
    into h =
        elim (either (list_any (λ over. is_prefix over p) fixed) (list_any (λ mark. mark) marked) h) [
          | inl leads ↦
              let at = leads_fixed fixed p leads in
              passes (λ n. is_fixed fixed (take n p) || get_or marked n false) p at.count (omega (arith, at.few)) (left_true (is_fixed fixed (take at.count p)) _ at.is)
          | inr has ↦
              let any = Any-from_list_any (λ (mark : Bool). mark) marked has in
              passes (λ n. is_fixed fixed (take n p) || get_or marked n false) p any.0 (omega (arith, any.2, one))
              (right_true (is_fixed fixed (take any.0 p)) _ (get_or_default marked any.0 false any.1 any.2 ∙ any.3 ∙ any.4))
        ]

    onto : is_excluded fixed marked p ≡ true → (list_any (λ over. is_prefix over p) fixed || list_any (λ mark. mark) marked) ≡ true
    onto h =
        let at = passing (λ n. is_fixed fixed (take n p) || get_or marked n false) p h in
        elim (either (is_fixed fixed (take at.count p)) (get_or marked at.count false) at.passes) [
          | inl is ↦ left_true _ (list_any (λ mark. mark) marked) (fixed_leads fixed at.count p is)
          | inr is ↦ right_true (list_any (λ over. is_prefix over p) fixed) _ (list_any_at (λ (mark : Bool). mark) marked at.count false (omega (arith, at.few, one)) is)
        ]
