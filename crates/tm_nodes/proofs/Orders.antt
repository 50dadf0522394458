-- Lists in which each value is above the one before it.
use Rattle.std.proofs.Common.{◌≡◌, Bool, true, false, List, [], ◌∷◌, ◌++◌, map, Option, Some, None, refl, sym, ◌∙◌, ap, All}
use Rattle.std.specs.Prelude.{option_map}
use Rattle.std.specs.List.{AllByRecursion}
use Rattle.std.specs.List.Sorted.{IsStrictlySortedBy}
use Rattle.std.specs.Ordering.{is_lt}
use Rattle.std.specs.BTreeMap.{insert_entry}
use Rattle.std.specs.Ordering.{match_ordering, ordering_reverse}
use Rattle.std.specs.Map.{keys_of}
use Rattle.std.specs.Bool.{OnTrue}
use Rattle.std.specs.Cmp.{IsTotalOrder}
use Rattle.std.specs.declared.cmp.Ordering.{Ordering}
use Rattle.std.specs.declared.cmp.Ordering.TheVariants.{Less, Equal, Greater}
use Rattle.std.proofs.lemmas.List.Elements.{All-from_recursion, recursion_from_All}
use Rattle.tm_nodes.specs.Reading.{is_after}
use Rattle.tm_nodes.proofs.Formats.{Chain}

pub less_from_is_lt : (o : Ordering) → is_lt o ≡ true → o ≡ Less
less_from_is_lt Less e = refl
less_from_is_lt Equal e = cc
less_from_is_lt Greater e = cc

-- above the one before it, where there is one
unfoldable pub IsAfter : {K : Type 0} → (K → K → Ordering) → Option K → K → Type 0
IsAfter cmp None k = Unit {0}
IsAfter cmp (Some before) k = cmp before k ≡ Less

pub is_after-true : {K : Type 0} (cmp : K → K → Ordering) (before : Option K) (k : K) → is_after cmp before k ≡ true → IsAfter cmp before k
unfolding IsAfter
is_after-true cmp None k e = tt
is_after-true cmp (Some before) k e = less_from_is_lt (cmp before k) e

pub is_after-from : {K : Type 0} (cmp : K → K → Ordering) (before : Option K) (k : K) → IsAfter cmp before k → is_after cmp before k ≡ true
unfolding IsAfter
is_after-from cmp None k e = refl
is_after-from cmp (Some before) k e = ap is_lt e

-- keeps its rule, and its key is above that of the one before it
pub record Follows {A K : Type 0} (cmp : K → K → Ordering) (key : A → K) (Keeps : A → Type 0) (before : Option A) (a : A) : Type 0 where
  pub rules : Keeps a
  pub after : IsAfter cmp (option_map key before) (key a)

module _ {A K : Type 0} {cmp : K → K → Ordering} (total : IsTotalOrder cmp) (key : A → K) (Keeps : A → Type 0) where
  above : (low x : K) (ks : List K) → cmp low x ≡ Less → AllByRecursion (λ k. cmp x k ≡ Less) ks → AllByRecursion (λ k. cmp low k ≡ Less) ks
  above low x [] lt all = tt
  above low x (k ∷ ks) lt all = (total.trans low x k lt all.0, above low x ks lt all.1)

  -- a chain is in order, and above what is before it
  pub chain_each : (before : Option A) (xs : List A) → Chain (Follows cmp key Keeps) before xs → AllByRecursion Keeps xs
  unfolding Chain
  chain_each before [] c = tt
  chain_each before (x ∷ xs) c = (c.0.rules, chain_each (Some x) xs c.1)

  chain_above : (low : A) (xs : List A) → Chain (Follows cmp key Keeps) (Some low) xs → AllByRecursion (λ k. cmp (key low) k ≡ Less) (map key xs)
  unfolding Chain IsAfter
  chain_above low [] c = tt
  chain_above low (x ∷ xs) c = (c.0.after, above (key low) (key x) (map key xs) c.0.after (chain_above x xs c.1))

  pub chain_sorted : (before : Option A) (xs : List A) → Chain (Follows cmp key Keeps) before xs → IsStrictlySortedBy cmp (map key xs)
  unfolding Chain IsStrictlySortedBy
  chain_sorted before [] c = tt
  chain_sorted before (x ∷ xs) c = (chain_above x xs c.1, chain_sorted (Some x) xs c.1)

  -- and the way back
  chain_after : (low : A) (xs : List A) → AllByRecursion Keeps xs → AllByRecursion (λ k. cmp (key low) k ≡ Less) (map key xs) → IsStrictlySortedBy cmp (map key xs) → Chain (Follows cmp key Keeps) (Some low) xs
  unfolding Chain IsAfter IsStrictlySortedBy
  chain_after low [] each up sorted = tt
  chain_after low (x ∷ xs) each up sorted = (record { rules = each.0; after = up.0 }, chain_after x xs each.1 sorted.0 sorted.1)

  pub chain_from : (xs : List A) → All Keeps xs → IsStrictlySortedBy cmp (map key xs) → Chain (Follows cmp key Keeps) None xs
  unfolding Chain IsAfter IsStrictlySortedBy
  chain_from [] each sorted = tt
  chain_from (x ∷ xs) each sorted =
      let all = recursion_from_All Keeps (x ∷ xs) each in
      (record { rules = all.0; after = tt }, chain_after x xs all.1 sorted.0 sorted.1)

-- an entry whose key is above all goes to the end
insert_last : {K X : Type 0} (cmp : K → K → Ordering) (es : List (K × X)) (k : K) (v : X) → AllByRecursion (λ e. cmp k e.0 ≡ Greater) es → insert_entry cmp es k v ≡ es ++ (k, v) ∷ []
insert_last cmp [] k v above = refl
insert_last cmp (e ∷ es) k v above = ap (λ o. match_ordering o ((k, v) ∷ e ∷ es) ((e.0, v) ∷ es) (e ∷ insert_entry cmp es k v)) above.0 ∙ ap (λ rest. e ∷ rest) (insert_last cmp es k v above.1)

module _ {K : Type 0} {cmp : K → K → Ordering} (total : IsTotalOrder cmp) where
  not_below : (low k name : K) (o : Ordering) → cmp low k ≡ o → is_lt o ≡ false → cmp low name ≡ Less → cmp name k ≡ Greater
  not_below low k name Less is e lt = cc
  not_below low k name Equal is e lt = total.antisymm name k ∙ ap ordering_reverse (sym (total.congr low k name is) ∙ lt)
  not_below low k name Greater is e lt =
      let back : cmp k low ≡ Less = total.antisymm k low ∙ ap ordering_reverse is in
      total.antisymm name k ∙ ap ordering_reverse (total.trans k low name back lt)

  each_below : {X : Type 0} (low name : K) (es : List (K × X)) → cmp low name ≡ Less → AllByRecursion (λ k. is_lt (cmp low k) ≡ false) (keys_of es) → AllByRecursion (λ e. cmp name e.0 ≡ Greater) es
  each_below low name [] lt all = tt
  each_below low name (e ∷ es) lt all = (not_below low e.0 name (cmp low e.0) refl all.0 lt, each_below low name es lt all.1)

  -- above the greatest key is above all
  pub above_all : {X : Type 0} (low name : K) (es : List (K × X)) → is_lt (cmp low name) ≡ true → All (λ k. is_lt (cmp low k) ≡ false) (keys_of es) → All (λ e. cmp name e.0 ≡ Greater) es
  above_all low name es lt all = All-from_recursion _ es (each_below low name es (less_from_is_lt (cmp low name) lt) (recursion_from_All _ (keys_of es) all))

pub insert_above : {K X : Type 0} (cmp : K → K → Ordering) (es : List (K × X)) (k : K) (v : X) → All (λ e. cmp k e.0 ≡ Greater) es → insert_entry cmp es k v ≡ es ++ (k, v) ∷ []
insert_above cmp es k v above = insert_last cmp es k v (recursion_from_All _ es above)

pub on_true : {P : Type 0} (r b : Bool) → r ≡ b → (b ≡ true → P) → OnTrue r P
on_true true b is then_it = then_it (sym is)
on_true false b is then_it = tt
