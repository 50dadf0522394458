-- What the records of a volume weigh together: the head, the journal, and the items.
use Rattle.std.proofs.Common.{◌≡◌, ◌⊎◌, inl, inr, ℕ, ◌+◌, ◌-◌, ◌^◌, true, false, cond, List, [], ◌∷◌, ◌++◌, refl, sym, ap, ◌∙◌, subst, Some, None, arith}
use Rattle.std.specs.Option.{option_map_or}
use Rattle.std.specs.Ordering.{nat_cmp}
use Rattle.std.specs.BTreeMap.{is_at}
use Rattle.std.specs.List.{AllByRecursion, sum_by}
use Rattle.std.specs.Map.{lookup, values_of}
use Rattle.std.proofs.lemmas.List.Sums.{sum_by-cons}
use Rattle.tm_records.specs.declared.record.Record.{Record}
use Rattle.tm_records.specs.Records.{Records, at}
use Rattle.tm_image.specs.Reads.{entry_of}
use Rattle.tm_items.specs.Placings.{Placed}
use Rattle.tm_items.specs.Computed.{Placings}
use Rattle.tm_items.proofs.Reading.{number_decides}
use Rattle.tm_volume_records.specs.Records.{is_item_key, placed_of, numbered}
use Rattle.tm_volume_records.proofs.Slots.{Rising, rising_tail, once_there, at_itself, placings_on, placings_cons, placings_nil, key_range}
use Rattle.tm_base.proofs.Facts.{none_some}

-- what is found by its key is each record
module _ {X : Type 0} (P : ℕ × X → Type 0) where
  pub each_found : (es : List (ℕ × X)) → Rising es → ((k : ℕ) (r : X) → lookup (is_at (nat_cmp k)) es ≡ Some r → P (k, r)) → AllByRecursion P es
  each_found [] s all = tt
  each_found (e ∷ es) s all = (
    all e.0 e.1 (ap (λ b. cond b (Some e.1) (lookup (is_at (nat_cmp e.0)) es)) (at_itself e.0)),
    each_found es (rising_tail e es s) (λ k r is. all k r (behind k r is)),
  )
    where
      behind : (k : ℕ) (r : X) → lookup (is_at (nat_cmp k)) es ≡ Some r → cond (is_at (nat_cmp k) e.0) (Some e.1) (lookup (is_at (nat_cmp k)) es) ≡ Some r
      behind k r is = elim (is_at (nat_cmp k) e.0) as (λ b. is_at (nat_cmp k) e.0 ≡ b → cond b (Some e.1) (lookup (is_at (nat_cmp k)) es) ≡ Some r) [
        | true ↦ λ here. let none : lookup (is_at (nat_cmp k)) es ≡ None = once_there k e es s here in none_some (sym none ∙ is)
        | false ↦ λ off. is
      ] refl

module _ (bytes : ℕ → List ℕ) (cost : Record → ℕ) (weight : Placed → ℕ) where
  -- an item's record, which costs what its item weighs
  pub record IsWeighed (key : ℕ) (r : Record) : Type 0 where
    pub is_key : is_item_key key ≡ true
    pub placed : Placed
    pub is : placed_of (entry_of bytes r) ≡ Some placed
    pub costs : cost r ≡ weight placed

  abbrev pub Fits : ℕ × Record → Type 0
  Fits e = (e.0 ≡ 1) ⊎ (e.0 ≡ 2) ⊎ IsWeighed e.0 e.1

  abbrev Total : Records → Placings → Type 0
  Total es ps = sum_by cost (values_of es) ≡ option_map_or cost (at 1 es) 0 + option_map_or cost (at 2 es) 0 + sum_by (λ row. weight row.1) ps

  unplaced : (k : ℕ) (r : Record) (es : Records) → is_item_key k ≡ false → placings_on bytes ((k, r) ∷ es) ≡ placings_on bytes es
  unplaced k r es out = placings_cons bytes (k, r) es ∙ ap (λ b. cond b (numbered (k - 2 ^ 62) (placed_of (entry_of bytes r))) [] ++ placings_on bytes es) out

  at_one : (r : Record) (es : Records) → at 1 es ≡ None → Total es (placings_on bytes es) → Total ((1, r) ∷ es) (placings_on bytes ((1, r) ∷ es))
  at_one r es none more =
      let left = sum_by-cons cost r (values_of es) in
      subst (λ (ps : Placings). Total ((1, r) ∷ es) ps) (sym (unplaced 1 r es refl)) (omega (arith, left, more, ap (λ o. option_map_or cost o 0) none))

  at_two : (r : Record) (es : Records) → at 2 es ≡ None → Total es (placings_on bytes es) → Total ((2, r) ∷ es) (placings_on bytes ((2, r) ∷ es))
  at_two r es none more =
      let left = sum_by-cons cost r (values_of es) in
      subst (λ (ps : Placings). Total ((2, r) ∷ es) ps) (sym (unplaced 2 r es refl)) (omega (arith, left, more, ap (λ o. option_map_or cost o 0) none))

  other : (j k : ℕ) → j + 1 ≡ 2 ⊎ (j ≡ 2) → is_item_key k ≡ true → is_at (nat_cmp j) k ≡ false
  other j k low key = elim (is_at (nat_cmp j) k) as (λ b. is_at (nat_cmp j) k ≡ b → b ≡ false) [
    | true ↦ λ here. let e : j ≡ k = (number_decides j k).0 here in let range = key_range k key in elim low [ inl one ↦ absurd (omega (arith, range.0)) | inr two ↦ absurd (omega (arith, range.0)) ]
    | false ↦ λ _. refl
  ] refl

  at_item : (k : ℕ) (r : Record) (es : Records) → IsWeighed k r → Total es (placings_on bytes es) → Total ((k, r) ∷ es) (placings_on bytes ((k, r) ∷ es))
  at_item k r es w more =
      let left = sum_by-cons cost r (values_of es) in
      let one = ap (λ b. option_map_or cost (cond b (Some r) (at 1 es)) 0) (other 1 k (inl refl) w.is_key) in
      let two = ap (λ b. option_map_or cost (cond b (Some r) (at 2 es)) 0) (other 2 k (inr refl) w.is_key) in
      let here : placings_on bytes ((k, r) ∷ es) ≡ (k - 2 ^ 62, w.placed) ∷ placings_on bytes es
      = placings_cons bytes (k, r) es ∙ ap (λ b. cond b (numbered (k - 2 ^ 62) (placed_of (entry_of bytes r))) [] ++ placings_on bytes es) w.is_key
      ∙ ap (λ o. numbered (k - 2 ^ 62) o ++ placings_on bytes es) w.is in
      let right = sum_by-cons (λ (row : ℕ × Placed). weight row.1) (k - 2 ^ 62, w.placed) (placings_on bytes es) in
      let costs = w.costs in
      subst (λ (ps : Placings). Total ((k, r) ∷ es) ps) (sym here) (omega (arith, left, more, one, two, right, costs))

  pub weigh_records : (es : Records) → Rising es → AllByRecursion Fits es → Total es (placings_on bytes es)
  weigh_records [] s all = omega (arith, ap (λ (ps : Placings). sum_by (λ (row : ℕ × Placed). weight row.1) ps) (placings_nil bytes))
  weigh_records (e ∷ es) s all =
      let more : Total es (placings_on bytes es) = weigh_records es (rising_tail e es s) all.1 in
      elim all.0 [
        | inl one ↦ let none : at 1 es ≡ None = once_there 1 e es s ((number_decides 1 e.0).1 (sym one)) in subst (λ (k : ℕ). Total ((k, e.1) ∷ es) (placings_on bytes ((k, e.1) ∷ es))) (sym one) (at_one e.1 es none more)
        | inr later ↦ elim later [
          | inl two ↦ let none : at 2 es ≡ None = once_there 2 e es s ((number_decides 2 e.0).1 (sym two)) in
              subst (λ (k : ℕ). Total ((k, e.1) ∷ es) (placings_on bytes ((k, e.1) ∷ es))) (sym two) (at_two e.1 es none more)
          | inr item ↦ at_item e.0 e.1 es item more
        ]
      ]
