-- Records and their items after one record is put or removed.
use Rattle.std.proofs.Common.{◌≡◌, ◌⊎◌, inl, inr, ⊎_elim, ℕ, ◌<◌, ◌≤◌, Bool, true, false, cond, List, [], ◌∷◌, refl, sym, ap, ◌∙◌, subst, Option, Some, None, arith}
use Rattle.std.specs.Ordering.{nat_cmp, is_eq, match_ordering, ordering_reverse}
use Rattle.std.specs.Cmp.{nat_cmp_total}
use Rattle.std.specs.declared.cmp.Ordering.TheVariants.{Less, Equal, Greater}
use Rattle.std.specs.BTreeMap.{is_at, insert_entry}
use Rattle.std.specs.List.{AllByRecursion}
use Rattle.std.specs.List.Sorted.{IsStrictlySortedBy}
use Rattle.std.specs.Map.{keys_of, lookup, remove_entry}
use Rattle.std.proofs.lemmas.Bool.{cases_lt}
use Rattle.tm_records.specs.declared.record.Record.{Record}
use Rattle.tm_records.specs.Records.{Records, at}
use Rattle.tm_image.specs.Reads.{entry_of}
use Rattle.tm_items.specs.Placings.{Placed}
use Rattle.tm_items.specs.Changes.{with_item, without_item}
use Rattle.tm_items.proofs.Counting.{with_set, without_set}
use Rattle.tm_items.proofs.Reading.{number_decides}
use Rattle.tm_volume_records.specs.Records.{item_key, placed_of, items_in}
use Rattle.tm_volume_records.proofs.Slots.{Rising, rising_tail, once_there, items_at, items_out, placed_rec}
use Rattle.tm_base.specs.Limits.{max_items}

-- ---- what is found

apart_from : (j k l : ℕ) → is_at (nat_cmp k) l ≡ false → is_at (nat_cmp j) l ≡ true → is_at (nat_cmp j) k ≡ false
apart_from j k l off here = elim (is_at (nat_cmp j) k) as (λ b. is_at (nat_cmp j) k ≡ b → b ≡ false) [
  | true ↦ λ there. let same : k ≡ l = sym ((number_decides j k).0 there) ∙ (number_decides j l).0 here in sym ((number_decides k l).1 same) ∙ off
  | false ↦ λ _. refl
] refl

module _ {X : Type 0} where
  hit_twice : (b : Bool) (v w : X) (o : Option X) → cond b (Some v) o ≡ cond b (Some v) (cond b (Some w) o)
  hit_twice true v w o = refl
  hit_twice false v w o = refl

  either_hit : (a b : Bool) (v w : X) (o : Option X) → (a ≡ true → b ≡ false) → cond a (Some w) (cond b (Some v) o) ≡ cond b (Some v) (cond a (Some w) o)
  either_hit true b v w o apart = sym (ap (λ c. cond c (Some v) (Some w)) (apart refl))
  either_hit false b v w o apart = refl

  either_gone : (a b : Bool) (w : X) (o : Option X) → (a ≡ true → b ≡ false) → cond a (Some w) (cond b None o) ≡ cond b None (cond a (Some w) o)
  either_gone true b w o apart = sym (ap (λ c. cond c None (Some w)) (apart refl))
  either_gone false b w o apart = refl

  pub at_insert : (es : List (ℕ × X)) (k : ℕ) (v : X) (j : ℕ) → lookup (is_at (nat_cmp j)) (insert_entry nat_cmp es k v) ≡ cond (is_at (nat_cmp j) k) (Some v) (lookup (is_at (nat_cmp j)) es)
  at_insert [] k v j = refl
  at_insert (e ∷ es) k v j =
      elim (nat_cmp k e.0) as (λ r. nat_cmp k e.0 ≡ r → lookup (is_at (nat_cmp j)) (match_ordering r ((k, v) ∷ e ∷ es) ((e.0, v) ∷ es) (e ∷ insert_entry nat_cmp es k v))
      ≡ cond (is_at (nat_cmp j) k) (Some v) (cond (is_at (nat_cmp j) e.0) (Some e.1) (lookup (is_at (nat_cmp j)) es))) [
        | Less ↦ λ is. refl
        | Equal ↦ λ is.
            let same : k ≡ e.0 = (number_decides k e.0).0 (ap is_eq is) in
            subst (λ (x : ℕ). cond (is_at (nat_cmp j) e.0) (Some v) (lookup (is_at (nat_cmp j)) es) ≡ cond (is_at (nat_cmp j) x) (Some v) (cond (is_at (nat_cmp j) e.0) (Some e.1) (lookup (is_at (nat_cmp j)) es))) (sym same)
            (hit_twice (is_at (nat_cmp j) e.0) v e.1 (lookup (is_at (nat_cmp j)) es))
        | Greater ↦ λ is.
            ap (λ (o : Option X). cond (is_at (nat_cmp j) e.0) (Some e.1) o) (at_insert es k v j)
            ∙ either_hit (is_at (nat_cmp j) e.0) (is_at (nat_cmp j) k) v e.1 (lookup (is_at (nat_cmp j)) es) (apart_from j k e.0 (ap is_eq is))
      ] refl

  pub at_remove : (es : List (ℕ × X)) (k j : ℕ) → Rising es → lookup (is_at (nat_cmp j)) (remove_entry (is_at (nat_cmp k)) es) ≡ cond (is_at (nat_cmp j) k) None (lookup (is_at (nat_cmp j)) es)
  at_remove [] k j s = none_both (is_at (nat_cmp j) k)
    where
      none_both : (b : Bool) → ◌≡◌ {A = Option X} None (cond b None None)
      none_both true = refl
      none_both false = refl
  at_remove (e ∷ es) k j s =
      elim (is_at (nat_cmp k) e.0) as (λ b. is_at (nat_cmp k) e.0 ≡ b → lookup (is_at (nat_cmp j)) (cond b es (e ∷ remove_entry (is_at (nat_cmp k)) es))
      ≡ cond (is_at (nat_cmp j) k) None (cond (is_at (nat_cmp j) e.0) (Some e.1) (lookup (is_at (nat_cmp j)) es))) [
        | true ↦ λ here.
            let same : k ≡ e.0 = (number_decides k e.0).0 here in
            subst (λ (x : ℕ). lookup (is_at (nat_cmp j)) es ≡ cond (is_at (nat_cmp j) x) None (cond (is_at (nat_cmp j) e.0) (Some e.1) (lookup (is_at (nat_cmp j)) es))) (sym same)
            (gone_here (is_at (nat_cmp j) e.0) (lookup (is_at (nat_cmp j)) es) e.1 (λ there. once_there j e es s there))
        | false ↦ λ off.
            ap (λ (o : Option X). cond (is_at (nat_cmp j) e.0) (Some e.1) o) (at_remove es k j (rising_tail e es s))
            ∙ either_gone (is_at (nat_cmp j) e.0) (is_at (nat_cmp j) k) e.1 (lookup (is_at (nat_cmp j)) es) (apart_from j k e.0 off)
      ] refl
    where
      gone_here : (b : Bool) (o : Option X) (w : X) → (b ≡ true → o ≡ None) → o ≡ cond b None (cond b (Some w) o)
      gone_here true o w none = none refl
      gone_here false o w none = refl

  -- ---- their order

  below_insert : (q k : ℕ) (v : X) (es : List (ℕ × X)) → nat_cmp q k ≡ Less → AllByRecursion (λ j. nat_cmp q j ≡ Less) (keys_of es) → AllByRecursion (λ j. nat_cmp q j ≡ Less) (keys_of (insert_entry nat_cmp es k v))
  below_insert q k v [] l h = (l, tt)
  below_insert q k v (e ∷ es) l h =
      elim (nat_cmp k e.0) as (λ r. AllByRecursion (λ j. nat_cmp q j ≡ Less) (keys_of (match_ordering r ((k, v) ∷ e ∷ es) ((e.0, v) ∷ es) (e ∷ insert_entry nat_cmp es k v)))) [
        | Less ↦ (l, h)
        | Equal ↦ (h.0, h.1)
        | Greater ↦ (h.0, below_insert q k v es l h.1)
      ]

  above_all : (p q : ℕ) (es : List (ℕ × X)) → nat_cmp p q ≡ Less → AllByRecursion (λ j. nat_cmp q j ≡ Less) (keys_of es) → AllByRecursion (λ j. nat_cmp p j ≡ Less) (keys_of es)
  above_all p q [] l h = tt
  above_all p q (e ∷ es) l h = (nat_cmp_total.trans p q e.0 l h.0, above_all p q es l h.1)

  pub rising_insert : (es : List (ℕ × X)) (k : ℕ) (v : X) → Rising es → Rising (insert_entry nat_cmp es k v)
  unfolding IsStrictlySortedBy
  rising_insert [] k v h = (tt, tt)
  rising_insert (e ∷ es) k v h =
      elim (nat_cmp k e.0) as (λ r. nat_cmp k e.0 ≡ r → Rising (match_ordering r ((k, v) ∷ e ∷ es) ((e.0, v) ∷ es) (e ∷ insert_entry nat_cmp es k v))) [
        | Less ↦ λ is. ((is, above_all k e.0 es is h.0), h)
        | Equal ↦ λ is. h
        | Greater ↦ λ is. (below_insert e.0 k v es (nat_cmp_total.antisymm e.0 k ∙ ap ordering_reverse is) h.0, rising_insert es k v h.1)
      ] refl

  below_remove : (q k : ℕ) (es : List (ℕ × X)) → AllByRecursion (λ j. nat_cmp q j ≡ Less) (keys_of es) → AllByRecursion (λ j. nat_cmp q j ≡ Less) (keys_of (remove_entry (is_at (nat_cmp k)) es))
  below_remove q k [] h = h
  below_remove q k (e ∷ es) h = elim (is_at (nat_cmp k) e.0) as (λ b. AllByRecursion (λ j. nat_cmp q j ≡ Less) (keys_of (cond b es (e ∷ remove_entry (is_at (nat_cmp k)) es)))) [
    | true ↦ h.1
    | false ↦ (h.0, below_remove q k es h.1)
  ]

  pub rising_remove : (es : List (ℕ × X)) (k : ℕ) → Rising es → Rising (remove_entry (is_at (nat_cmp k)) es)
  unfolding IsStrictlySortedBy
  rising_remove [] k h = h
  rising_remove (e ∷ es) k h = elim (is_at (nat_cmp k) e.0) as (λ b. Rising (cond b es (e ∷ remove_entry (is_at (nat_cmp k)) es))) [
    | true ↦ h.1
    | false ↦ (below_remove e.0 k es h.0, rising_remove es k h.1)
  ]

-- ---- the items

number_keys : (n m : ℕ) → is_at (nat_cmp (item_key m)) (item_key n) ≡ is_at (nat_cmp n) m
number_keys n m = elim (is_at (nat_cmp n) m) as (λ b. is_at (nat_cmp n) m ≡ b → is_at (nat_cmp (item_key m)) (item_key n) ≡ b) [
  | true ↦ λ here. let same : n ≡ m = (number_decides n m).0 here in (number_decides (item_key m) (item_key n)).1 (ap item_key (sym same))
  | false ↦ λ off. elim (is_at (nat_cmp (item_key m)) (item_key n)) as (λ b. is_at (nat_cmp (item_key m)) (item_key n) ≡ b → b ≡ false) [
    | true ↦ λ there. let same : item_key m ≡ item_key n = (number_decides (item_key m) (item_key n)).0 there in let e : n ≡ m = omega arith in sym ((number_decides n m).1 e) ∙ off
    | false ↦ λ _. refl
  ] refl
] refl

other_number : (n m : ℕ) → 1 ≤ n → n ≤ max_items → (m < 1) ⊎ (max_items < m) → is_at (nat_cmp n) m ≡ false
other_number n m lo hi out = elim (is_at (nat_cmp n) m) as (λ b. is_at (nat_cmp n) m ≡ b → b ≡ false) [
  | true ↦ λ here. let same : n ≡ m = (number_decides n m).0 here in elim out [ inl low ↦ absurd (omega arith) | inr high ↦ absurd (omega arith) ]
  | false ↦ λ _. refl
] refl

-- a number is from 1 to 65,536, or it is not
ranged : (m : ℕ) (P : Type 0) → (1 ≤ m → m ≤ max_items → P) → ((m < 1) ⊎ (max_items < m) → P) → P
ranged m P inside outside = ⊎_elim (λ (low : m < 1). outside (inl low)) (λ (le : 1 ≤ m). ⊎_elim (λ (high : max_items < m). outside (inr high)) (λ (within : m ≤ max_items). inside le within) (cases_lt max_items m)) (cases_lt m 1)

module _ (bytes : ℕ → List ℕ) (es : Records) (s : Rising es) where
  module _ (n : ℕ) (lo : 1 ≤ n) (hi : n ≤ max_items) where
    -- a record put at a number
    pub items_put : (v : Record) (x : Placed) → placed_of (entry_of bytes v) ≡ Some x → items_in (insert_entry nat_cmp es (item_key n) v) bytes ≡ with_item (items_in es bytes) n x
    items_put v x is = with_set n x (items_in es bytes) (items_in (insert_entry nat_cmp es (item_key n) v) bytes)
        (λ m. ranged m (items_in (insert_entry nat_cmp es (item_key n) v) bytes m ≡ cond (is_at (nat_cmp n) m) (Some x) (items_in es bytes m))
        (λ low high.
        items_at bytes (insert_entry nat_cmp es (item_key n) v) m low high (rising_insert es (item_key n) v s)
        ∙ ap (placed_rec bytes) (at_insert es (item_key n) v (item_key m)) ∙ put_there (is_at (nat_cmp (item_key m)) (item_key n)) (at (item_key m) es)
        ∙ ap (λ b. cond b (Some x) (placed_rec bytes (at (item_key m) es))) (number_keys n m)
        ∙ ap (λ (o : Option Placed). cond (is_at (nat_cmp n) m) (Some x) o) (sym (items_at bytes es m low high s)))
        (λ out. items_out bytes (insert_entry nat_cmp es (item_key n) v) m out ∙ sym (items_out bytes es m out) ∙ ap (λ b. cond b (Some x) (items_in es bytes m)) (sym (other_number n m lo hi out))))
      where
        put_there : (b : Bool) (o : Option Record) → placed_rec bytes (cond b (Some v) o) ≡ cond b (Some x) (placed_rec bytes o)
        put_there true o = is
        put_there false o = refl

    -- and taken away
    pub items_remove : items_in (remove_entry (is_at (nat_cmp (item_key n))) es) bytes ≡ without_item (items_in es bytes) n
    items_remove = without_set n (items_in es bytes) (items_in (remove_entry (is_at (nat_cmp (item_key n))) es) bytes)
        (λ m. ranged m (items_in (remove_entry (is_at (nat_cmp (item_key n))) es) bytes m ≡ cond (is_at (nat_cmp n) m) None (items_in es bytes m))
        (λ low high.
        items_at bytes (remove_entry (is_at (nat_cmp (item_key n))) es) m low high (rising_remove es (item_key n) s)
        ∙ ap (placed_rec bytes) (at_remove es (item_key n) (item_key m) s) ∙ gone_there (is_at (nat_cmp (item_key m)) (item_key n)) (at (item_key m) es)
        ∙ ap (λ b. cond b None (placed_rec bytes (at (item_key m) es))) (number_keys n m)
        ∙ ap (λ (o : Option Placed). cond (is_at (nat_cmp n) m) None o) (sym (items_at bytes es m low high s)))
        (λ out. items_out bytes (remove_entry (is_at (nat_cmp (item_key n))) es) m out ∙ sym (items_out bytes es m out) ∙ ap (λ b. cond b None (items_in es bytes m)) (sym (other_number n m lo hi out))))
      where
        gone_there : (b : Bool) (o : Option Record) → placed_rec bytes (cond b None o) ≡ cond b None (placed_rec bytes o)
        gone_there true o = refl
        gone_there false o = refl

  -- a record that is no item's
  module _ (k : ℕ) (low : k ≤ 2) where
    other_key : (m : ℕ) → is_at (nat_cmp (item_key m)) k ≡ false
    other_key m = elim (is_at (nat_cmp (item_key m)) k) as (λ b. is_at (nat_cmp (item_key m)) k ≡ b → b ≡ false) [
      | true ↦ λ here. let same : item_key m ≡ k = (number_decides (item_key m) k).0 here in absurd (omega arith)
      | false ↦ λ _. refl
    ] refl

    pub items_beside : (v : Record) → items_in (insert_entry nat_cmp es k v) bytes ≡ items_in es bytes
    items_beside v =
        let each : (m : ℕ) → items_in (insert_entry nat_cmp es k v) bytes m ≡ items_in es bytes m = λ m. ranged m (items_in (insert_entry nat_cmp es k v) bytes m ≡ items_in es bytes m)
        (λ lo hi. items_at bytes (insert_entry nat_cmp es k v) m lo hi (rising_insert es k v s) ∙ ap (placed_rec bytes) (at_insert es k v (item_key m) ∙ ap (λ b. cond b (Some v) (at (item_key m) es)) (other_key m))
        ∙ sym (items_at bytes es m lo hi s))
        (λ out. items_out bytes (insert_entry nat_cmp es k v) m out ∙ sym (items_out bytes es m out)) in
        λ i m. each m i

    pub items_without : items_in (remove_entry (is_at (nat_cmp k)) es) bytes ≡ items_in es bytes
    items_without =
        let each : (m : ℕ) → items_in (remove_entry (is_at (nat_cmp k)) es) bytes m ≡ items_in es bytes m = λ m. ranged m (items_in (remove_entry (is_at (nat_cmp k)) es) bytes m ≡ items_in es bytes m)
        (λ lo hi. items_at bytes (remove_entry (is_at (nat_cmp k)) es) m lo hi (rising_remove es k s) ∙ ap (placed_rec bytes) (at_remove es k (item_key m) s ∙ ap (λ b. cond b None (at (item_key m) es)) (other_key m))
        ∙ sym (items_at bytes es m lo hi s))
        (λ out. items_out bytes (remove_entry (is_at (nat_cmp k)) es) m out ∙ sym (items_out bytes es m out)) in
        λ i m. each m i
