-- Walks that leave the records at some keys out.
use Rattle.std.proofs.Common.{◌≡◌, ⊎_elim, ℕ, ◌<◌, ◌≤◌, ◌==◌, List, [], ◌∷◌, ◌++◌, map, true, false, not, cond, refl, sym, ◌∙◌, ap, subst, arith, append_assoc, append-nil, Bor}
use Rattle.std.specs.List.{list_any, AllByRecursion}
use Rattle.std.specs.List.Sorted.{IsStrictlySortedBy}
use Rattle.std.specs.Ordering.{nat_cmp}
use Rattle.std.specs.declared.cmp.Ordering.TheVariants.{Less}
use Rattle.std.specs.Map.{keys_of}
use Rattle.std.specs.Map.Iter.{deref_pair}
use Rattle.std.proofs.lemmas.Bool.{cases_lt}
use Rattle.std.proofs.lemmas.List.Elements.{filter-append}
use Rattle.std.proofs.lemmas.List.Kept.{IsStrictlySortedBy-filter}
use Rattle.std.proofs.lemmas.Map.Keys.{sorted_head, sorted_tail}
use Rattle.tm_records.specs.declared.record.Record.{Record}
use Rattle.tm_records.specs.Records.{Records}
use Rattle.tm_table.proofs.Writing.{without_keys, is_left, left-push, filter-one}
use Rattle.tm_table.proofs.Leaving.{keys-filter}
use Rattle.tm_runs.specs.Marks.{below, rest}
use Rattle.tm_runs.proofs.Stretches.{rest_lt, rest_le, below_lt}
use Rattle.tm_runs.proofs.Encoding.{less_lt}

module _ (keys : List ℕ) where
  pub left_sorted : (es : Records) → IsStrictlySortedBy nat_cmp (keys_of es) → IsStrictlySortedBy nat_cmp (keys_of (without_keys keys es))
  left_sorted es s = subst (IsStrictlySortedBy nat_cmp) (sym (keys-filter (λ x. not (list_any (λ k. k == x) keys)) es)) (IsStrictlySortedBy-filter nat_cmp (λ x. not (list_any (λ k. k == x) keys)) (keys_of es) s)

  -- nothing goes where all keys are high enough
  rest_high : (low key : ℕ) (es : Records) → low ≤ key → AllByRecursion (λ y. nat_cmp key y ≡ Less) (keys_of es) → rest low (without_keys keys es) ≡ without_keys keys es
  rest_high low key [] le h = refl
  rest_high low key (e ∷ es) le h =
      let up = less_lt key e.0 h.0 in
      let after = rest_high low key es le h.1 in
      elim (is_left keys e) as (λ b. rest low (cond b (e ∷ without_keys keys es) (without_keys keys es)) ≡ cond b (e ∷ without_keys keys es) (without_keys keys es)) [
        | true ↦ rest_le low e (without_keys keys es) (omega arith)
        | false ↦ after
      ]

  rest_left : (low : ℕ) (es : Records) → IsStrictlySortedBy nat_cmp (keys_of es) → rest low (without_keys keys es) ≡ without_keys keys (rest low es)
  rest_left low [] s = refl
  rest_left low (e ∷ es) s = ⊎_elim
      (λ (lt : e.0 < low).
      let first : rest low (without_keys keys (e ∷ es)) ≡ rest low (without_keys keys es) = elim (is_left keys e) as (λ b. rest low (cond b (e ∷ without_keys keys es) (without_keys keys es)) ≡ rest low (without_keys keys es)) [
        | true ↦ rest_lt low e (without_keys keys es) lt
        | false ↦ refl
      ] in
      first ∙ rest_left low es (sorted_tail nat_cmp e.0 (keys_of es) s) ∙ ap (without_keys keys) (sym (rest_lt low e es lt)))
      (λ (le : low ≤ e.0).
      let none : rest low (without_keys keys es) ≡ without_keys keys es = rest_high low e.0 es le (sorted_head nat_cmp e.0 (keys_of es) s) in
      let first : rest low (without_keys keys (e ∷ es)) ≡ without_keys keys (e ∷ es) = elim (is_left keys e) as (λ b. rest low (cond b (e ∷ without_keys keys es) (without_keys keys es)) ≡ cond b (e ∷ without_keys keys es) (without_keys keys es)) [
        | true ↦ rest_le low e (without_keys keys es) le
        | false ↦ none
      ] in
      first ∙ ap (without_keys keys) (sym (rest_le low e es le)))
      (cases_lt e.0 low)

  -- what is left at a step that keeps its record, and at the end
  pub stands_left : (low : ℕ) (es ys tail : Records) (e : ℕ × Record) → IsStrictlySortedBy nat_cmp (keys_of es) → rest low es ≡ ys ++ (e ∷ tail) → is_left keys e ≡ true → rest low (without_keys keys es) ≡ without_keys keys ys ++ (e ∷ without_keys keys tail)
  stands_left low es ys tail e s is stays =
      rest_left low es s ∙ ap (without_keys keys) is ∙ filter-append (is_left keys) ys (e ∷ tail) ∙ ap (λ b. without_keys keys ys ++ cond b (e ∷ without_keys keys tail) (without_keys keys tail)) stays

  pub ends_left : (low : ℕ) (es ys : Records) → IsStrictlySortedBy nat_cmp (keys_of es) → rest low es ≡ ys ++ [] → rest low (without_keys keys es) ≡ without_keys keys ys ++ []
  ends_left low es ys s is = rest_left low es s ∙ ap (without_keys keys) (is ∙ append-nil ys) ∙ sym (append-nil (without_keys keys ys))

  -- one record more in a walk
  module _ (ys : List (Bor ℕ × Bor Record)) (e : Bor ℕ × Bor Record) where
    abbrev this : ℕ × Record
    this = (e.0.now, e.1.now)

    abbrev before : Records
    before = without_keys keys (map deref_pair ys)

    pub left_kept : is_left keys this ≡ true → without_keys keys (map deref_pair (ys ++ e ∷ [])) ≡ before ++ this ∷ []
    left_kept stays = left-push keys ys e ∙ ap (λ t. before ++ t) (filter-one (is_left keys) this true stays)

    pub left_skipped : is_left keys this ≡ false → without_keys keys (map deref_pair (ys ++ e ∷ [])) ≡ before
    left_skipped goes = left-push keys ys e ∙ ap (λ t. before ++ t) (filter-one (is_left keys) this false goes) ∙ append-nil before

    pub passed_kept : (high : ℕ) → ((more : Records) → below high (before ++ more) ≡ before ++ below high more) → e.0.now < high → is_left keys this ≡ true
        → (more : Records) → below high (without_keys keys (map deref_pair (ys ++ e ∷ [])) ++ more) ≡ without_keys keys (map deref_pair (ys ++ e ∷ [])) ++ below high more
    passed_kept high passed lt stays more =
        ap (λ t. below high (t ++ more)) (left_kept stays) ∙ ap (below high) (append_assoc before (this ∷ []) more) ∙ passed (this ∷ more) ∙ ap (λ t. before ++ t) (below_lt high this more lt)
        ∙ sym (append_assoc before (this ∷ []) (below high more)) ∙ ap (λ t. t ++ below high more) (sym (left_kept stays))

    pub passed_skipped : (high : ℕ) → ((more : Records) → below high (before ++ more) ≡ before ++ below high more) → is_left keys this ≡ false
        → (more : Records) → below high (without_keys keys (map deref_pair (ys ++ e ∷ [])) ++ more) ≡ without_keys keys (map deref_pair (ys ++ e ∷ [])) ++ below high more
    passed_skipped high passed goes more = ap (λ t. below high (t ++ more)) (left_skipped goes) ∙ passed more ∙ ap (λ t. t ++ below high more) (sym (left_skipped goes))
