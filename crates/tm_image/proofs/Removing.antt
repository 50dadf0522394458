-- How many blocks removed records have.
use Rattle.std.proofs.Common.{◌≡◌, ⊎_elim, ℕ, suc, ◌+◌, ◌<◌, ◌≤◌, List, [], ◌∷◌, length, get_or, take, refl, sym, ◌∙◌, ap, subst, arith, Some, true, false, cond}
use Rattle.std.specs.List.Sorted.{IsStrictlyIncreasing}
use Rattle.std.specs.Option.{option_map, unwrap_or}
use Rattle.std.specs.Ordering.{nat_cmp, is_eq}
use Rattle.std.specs.Cmp.{nat_cmp_is}
use Rattle.std.specs.declared.cmp.Ordering.TheVariants.{Less, Greater}
use Rattle.std.specs.BTreeMap.{is_at}
use Rattle.std.specs.Map.{remove_entry}
use Rattle.std.proofs.lemmas.Bool.{cases_lt}
use Rattle.std.proofs.lemmas.List.{length-take-le, get_or-take}
use Rattle.std.proofs.lemmas.Map.Entries.{sum_by-remove_entry}
use Rattle.std.proofs.lemmas.Map.Keys.{below_from_sorted, sorted_from_strictly_increasing}
use Rattle.tm_records.specs.declared.record.Record.{Record}
use Rattle.tm_records.specs.Records.{Records, at}
use Rattle.tm_records.specs.Removes.{without}
use Rattle.tm_records.proofs.Putting.{without_more}
use Rattle.tm_image.specs.Reads.{data_len, blocks_of}

is_other : (k j : ℕ) → k < j → is_eq (nat_cmp k j) ≡ false
is_other k j lt = ap is_eq (sym (nat_cmp_is k j Less lt))

is_other_above : (k j : ℕ) → j < k → is_eq (nat_cmp k j) ≡ false
is_other_above k j lt = ap is_eq (sym (nat_cmp_is k j Greater lt))

equal_keys : (j k : ℕ) → is_eq (nat_cmp j k) ≡ true → j ≡ k
equal_keys j k e = ⊎_elim
    (λ (lt : j < k). let bad : true ≡ false = sym e ∙ is_other j k lt in cc)
    (λ (le : k ≤ j). ⊎_elim
    (λ (lt : k < j). let bad : true ≡ false = sym e ∙ is_other_above j k lt in cc)
    (λ (ge : j ≤ k). omega arith)
    (cases_lt k j))
    (cases_lt j k)

-- another key is found as before
at_removed : (j k : ℕ) (es : Records) → j < k → at k (remove_entry (is_at (nat_cmp j)) es) ≡ at k es
at_removed j k [] lt = refl
at_removed j k (e ∷ es) lt =
    elim (is_eq (nat_cmp j e.0)) as (λ b. is_eq (nat_cmp j e.0) ≡ b → at k (cond b es (e ∷ remove_entry (is_at (nat_cmp j)) es)) ≡ at k (e ∷ es)) [
      | true ↦ λ p. let same : j ≡ e.0 = equal_keys j e.0 p in sym (ap (λ b. cond b (Some e.1) (at k es)) (is_other_above k e.0 (omega (arith, same, lt))))
      | false ↦ λ p. ap (λ o. cond (is_eq (nat_cmp k e.0)) (Some e.1) o) (at_removed j k es lt)
    ] refl

at_without : (ks : List ℕ) (k : ℕ) (es : Records) → ((i : ℕ) → i < length ks → get_or ks i 0 < k) → at k (without ks es) ≡ at k es
at_without [] k es above = refl
at_without (j ∷ ks) k es above = at_without ks k (remove_entry (is_at (nat_cmp j)) es) (λ i lt. above (suc i) (omega arith)) ∙ at_removed j k es (above 0 (omega arith))

-- one key more
pub removed_more : (keys : List ℕ) (i count more : ℕ) (es : Records) → IsStrictlyIncreasing keys → i < length keys → count + data_len (without (take i keys) es) ≡ data_len es → more ≡ count + blocks_of (at (get_or keys i 0) es)
    → more + data_len (without (take (i + 1) keys) es) ≡ data_len es
removed_more keys i count more es rise lt so_far is =
    let k : ℕ = get_or keys i 0 in
    let before : (j : ℕ) → j < length (take i keys) → get_or (take i keys) j 0 < k = λ j low.
    let under : j < i = omega (arith, low, length-take-le i keys (omega (arith, lt))) in
    subst (λ (x : ℕ). x < k) (sym (get_or-take i keys j 0 under)) (below_from_sorted keys j i 0 (sorted_from_strictly_increasing keys rise) under lt) in
    let found : at k (without (take i keys) es) ≡ at k es = at_without (take i keys) k es before in
    omega (arith, so_far, is, ap data_len (without_more keys i es lt), sum_by-remove_entry (λ (r : Record). length r.blocks) (is_at (nat_cmp k)) (without (take i keys) es), ap (λ o. unwrap_or (option_map (λ (r : Record). length r.blocks) o) 0) found)

pub no_data : (count : ℕ) (es : Records) → count ≡ 0 → count + data_len es ≡ data_len es
no_data count es is = omega (arith, is)
