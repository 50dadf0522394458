-- Entries put into an ordered map, and taken out again.
use Rattle.std.proofs.Common.{◌≡◌, ℕ, List, [], ◌∷◌, Bool, true, false, cond, refl, sym, ◌∙◌, ap, arith, rules, ◌+◌, Option, Some, None}
use Rattle.std.specs.Option.{option_map, unwrap_or, IsSome}
use Rattle.tm_records.specs.declared.record.Record.{Record}
use Rattle.tm_records.specs.Records.{at, weigh}
use Rattle.tm_records.specs.Undo.{with_meta}
use Rattle.std.specs.Ordering.{nat_cmp, is_eq, match_ordering}
use Rattle.std.specs.Cmp.{nat_cmp_total, tied_itself}
use Rattle.std.specs.declared.cmp.Ordering.TheVariants.{Less, Equal, Greater}
use Rattle.std.specs.BTreeMap.{insert_entry, is_at}
use Rattle.std.specs.Map.{lookup, remove_entry, keys_of}
use Rattle.std.specs.List.Sorted.{IsStrictlySortedBy}
use Rattle.std.proofs.lemmas.Map.{lookup-none}
use Rattle.std.proofs.lemmas.Map.Entries.{none_below_head, sum_by-insert_entry}
use Rattle.std.specs.List.{sum_by}
use Rattle.std.proofs.lemmas.Map.Keys.{sorted_tail}

pub same_key : (k : ℕ) → nat_cmp k k ≡ Equal
same_key k = tied_itself nat_cmp_total k

module _ {X : Type 0} where
  -- the second of two at one key stays
  pub insert_twice : (es : List (ℕ × X)) (k : ℕ) (v w : X) → insert_entry nat_cmp (insert_entry nat_cmp es k v) k w ≡ insert_entry nat_cmp es k w
  insert_twice [] k v w = ap (λ r. match_ordering r ((k, w) ∷ (k, v) ∷ []) ((k, w) ∷ []) ((k, v) ∷ insert_entry nat_cmp [] k w)) (same_key k)
  insert_twice (e ∷ es) k v w =
      elim (nat_cmp k e.0) as (λ r. nat_cmp k e.0 ≡ r → insert_entry nat_cmp (match_ordering r ((k, v) ∷ e ∷ es) ((e.0, v) ∷ es) (e ∷ insert_entry nat_cmp es k v)) k w
      ≡ match_ordering r ((k, w) ∷ e ∷ es) ((e.0, w) ∷ es) (e ∷ insert_entry nat_cmp es k w)) [
        | Less ↦ λ p. ap (λ r. match_ordering r ((k, w) ∷ (k, v) ∷ e ∷ es) ((k, w) ∷ e ∷ es) ((k, v) ∷ insert_entry nat_cmp (e ∷ es) k w)) (same_key k)
        | Equal ↦ λ p. ap (λ r. match_ordering r ((k, w) ∷ (e.0, v) ∷ es) ((e.0, w) ∷ es) ((e.0, v) ∷ insert_entry nat_cmp es k w)) p
        | Greater ↦ λ p. ap (λ r. match_ordering r ((k, w) ∷ e ∷ insert_entry nat_cmp es k v) ((e.0, w) ∷ insert_entry nat_cmp es k v) (e ∷ insert_entry nat_cmp (insert_entry nat_cmp es k v) k w)) p
            ∙ ap (λ (t : List (ℕ × X)). e ∷ t) (insert_twice es k v w)
      ] refl

  -- what is there, put there, changes nothing
  pub insert_found : (es : List (ℕ × X)) (k : ℕ) (v : X) → IsStrictlySortedBy nat_cmp (keys_of es) → lookup (is_at (nat_cmp k)) es ≡ Some v → insert_entry nat_cmp es k v ≡ es
  insert_found [] k v s h = cc
  insert_found (e ∷ es) k v s h =
      elim (nat_cmp k e.0) as (λ r. nat_cmp k e.0 ≡ r → match_ordering r ((k, v) ∷ e ∷ es) ((e.0, v) ∷ es) (e ∷ insert_entry nat_cmp es k v) ≡ e ∷ es) [
        | Less ↦ λ p. let none : lookup (is_at (nat_cmp k)) (e ∷ es) ≡ None = lookup-none (is_at (nat_cmp k)) (e ∷ es) (none_below_head nat_cmp_total k e es s p) in cc
        | Equal ↦ λ p. let here : Some e.1 ≡ Some v = sym (ap (λ r. cond (is_eq r) (Some e.1) (lookup (is_at (nat_cmp k)) es)) p) ∙ h in
            let same : e.1 ≡ v = cc in
            λ i. (e.0, sym same i) ∷ es
        | Greater ↦ λ p. ap (λ (t : List (ℕ × X)). e ∷ t) (insert_found es k v (sorted_tail nat_cmp e.0 (keys_of es) s)
            (sym (ap (λ r. cond (is_eq r) (Some e.1) (lookup (is_at (nat_cmp k)) es)) p) ∙ h))
      ] refl

  -- a new key taken out again
  pub remove_inserted : (es : List (ℕ × X)) (k : ℕ) (v : X) → lookup (is_at (nat_cmp k)) es ≡ None → remove_entry (is_at (nat_cmp k)) (insert_entry nat_cmp es k v) ≡ es
  remove_inserted [] k v h = ap (λ r. cond (is_eq r) [] ((k, v) ∷ [])) (same_key k)
  remove_inserted (e ∷ es) k v h =
      elim (nat_cmp k e.0) as (λ r. nat_cmp k e.0 ≡ r → remove_entry (is_at (nat_cmp k)) (match_ordering r ((k, v) ∷ e ∷ es) ((e.0, v) ∷ es) (e ∷ insert_entry nat_cmp es k v)) ≡ e ∷ es) [
        | Less ↦ λ p. ap (λ r. cond (is_eq r) (e ∷ es) ((k, v) ∷ remove_entry (is_at (nat_cmp k)) (e ∷ es))) (same_key k)
        | Equal ↦ λ p. let here : Some e.1 ≡ None = sym (ap (λ r. cond (is_eq r) (Some e.1) (lookup (is_at (nat_cmp k)) es)) p) ∙ h in cc
        | Greater ↦ λ p. ap (λ r. cond (is_eq r) (insert_entry nat_cmp es k v) (e ∷ remove_entry (is_at (nat_cmp k)) (insert_entry nat_cmp es k v))) p
            ∙ ap (λ (t : List (ℕ × X)). e ∷ t) (remove_inserted es k v (sym (ap (λ r. cond (is_eq r) (Some e.1) (lookup (is_at (nat_cmp k)) es)) p) ∙ h))
      ] refl

-- what an insertion brings and what it lets go
pub balance_insert : (es new : List (ℕ × Record)) (k : ℕ) (v : Record) (o : Option Record) → IsStrictlySortedBy nat_cmp (keys_of es) → o ≡ lookup (is_at (nat_cmp k)) es → new ≡ insert_entry nat_cmp es k v
    → (w : ℕ → ℕ) → weigh w new + unwrap_or (option_map (λ (r : Record). sum_by w r.blocks) o) 0 ≡ weigh w es + sum_by w v.blocks
balance_insert es new k v o s was is w =
    let f : Record → ℕ = λ r. sum_by w r.blocks in
    let e = sum_by-insert_entry f nat_cmp_total es k v s in
    omega (arith, e, ap (weigh w) is, ap (λ q. unwrap_or (option_map f q) 0) was)

-- a change of the meta alone
module _ (es1 : List (ℕ × Record)) (k : ℕ) (old : Record) (meta : List ℕ) (was : at k es1 ≡ Some old) where
  pub with_meta_is : (es2 es3 : List (ℕ × Record)) (blank : Record) → es2 ≡ insert_entry nat_cmp es1 k blank → es3 ≡ insert_entry nat_cmp es2 k (record { meta = meta; length = old.length; blocks = old.blocks })
      → es3 ≡ with_meta k meta (at k es1) es1
  with_meta_is es2 es3 blank e2 e3 = e3 ∙ ap (λ es. insert_entry nat_cmp es k (record { meta = meta; length = old.length; blocks = old.blocks })) e2
      ∙ insert_twice es1 k blank (record { meta = meta; length = old.length; blocks = old.blocks }) ∙ ap (λ o. with_meta k meta o es1) (sym was)

  module _ (now : List (ℕ × Record)) (is : now ≡ with_meta k meta (at k es1) es1) where
    pub meta_entries : now ≡ insert_entry nat_cmp es1 k (record { meta = meta; length = old.length; blocks = old.blocks })
    meta_entries = is ∙ ap (λ o. with_meta k meta o es1) was

    pub meta_back : IsStrictlySortedBy nat_cmp (keys_of es1) → at k now ≡ Some (record { meta = meta; length = old.length; blocks = old.blocks }) → with_meta k old.meta (at k now) now ≡ es1
    meta_back s here = ap (λ o. with_meta k old.meta o now) here ∙ ap (λ es. insert_entry nat_cmp es k old) meta_entries
        ∙ insert_twice es1 k (record { meta = meta; length = old.length; blocks = old.blocks }) old ∙ insert_found es1 k old s was

    pub meta_balance : IsStrictlySortedBy nat_cmp (keys_of es1) → (w : ℕ → ℕ) → weigh w now ≡ weigh w es1
    meta_balance s w = omega (arith, balance_insert es1 now k (record { meta = meta; length = old.length; blocks = old.blocks }) (Some old) s (sym was) meta_entries w)

some_cond : {X : Type 0} (b : Bool) (x : X) (o : Option X) → IsSome o → IsSome (cond b (Some x) o)
some_cond true x o h = search rules
some_cond false x o h = h

some_other : {X : Type 0} (b : Bool) (x y : X) (o : Option X) → IsSome (cond b (Some x) o) → IsSome (cond b (Some y) o)
some_other true x y o h = search rules
some_other false x y o h = h

some_on : {X : Type 0} (b : Bool) (x : X) (o p : Option X) → (IsSome o → IsSome p) → IsSome (cond b (Some x) o) → IsSome (cond b (Some x) p)
some_on true x o p f h = h
some_on false x o p f h = f h

-- what is there stays there
pub stays_there : {X : Type 0} (es : List (ℕ × X)) (j : ℕ) (v : X) (k : ℕ) → IsSome (lookup (is_at (nat_cmp k)) es) → IsSome (lookup (is_at (nat_cmp k)) (insert_entry nat_cmp es j v))
stays_there [] j v k h = some_cond (is_eq (nat_cmp k j)) v None h
stays_there (e ∷ es) j v k h =
    elim (nat_cmp j e.0) as (λ r. IsSome (lookup (is_at (nat_cmp k)) (match_ordering r ((j, v) ∷ e ∷ es) ((e.0, v) ∷ es) (e ∷ insert_entry nat_cmp es j v)))) [
      | Less ↦ some_cond (is_eq (nat_cmp k j)) v _ h
      | Equal ↦ some_other (is_eq (nat_cmp k e.0)) e.1 v _ h
      | Greater ↦ some_on (is_eq (nat_cmp k e.0)) e.1 _ _ (stays_there es j v k) h
    ]
