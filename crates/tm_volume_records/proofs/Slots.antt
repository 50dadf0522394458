-- The items of records, by number.
use Rattle.std.proofs.Common.{◌≡◌, ◌⊎◌, inl, inr, ℕ, ◌+◌, ◌-◌, ◌^◌, ◌<◌, ◌≤◌, nat_le, Bool, true, false, cond, ◌&&◌, List, [], ◌∷◌, ◌++◌, refl, sym, ap, ◌∙◌, subst, Option, Some, None, arith}
use Rattle.std.specs.Option.{option_map}
use Rattle.std.specs.declared.cmp.Ordering.TheVariants.{Less}
use Rattle.std.specs.Ordering.{nat_cmp, is_eq, MatchOrdering}
use Rattle.std.specs.Cmp.{nat_cmp_is, ranks, nat_cmp_total, tied_itself}
use Rattle.std.specs.BTreeMap.{is_at}
use Rattle.std.specs.List.{AllByRecursion}
use Rattle.std.specs.List.Sorted.{IsStrictlySortedBy}
use Rattle.std.specs.Map.{keys_of, lookup}
use Rattle.std.proofs.lemmas.Bool.Decides.{nat_tests}
use Rattle.tm_records.specs.declared.record.Record.{Record}
use Rattle.tm_records.specs.Records.{Records, at}
use Rattle.tm_image.specs.Reads.{entry_of, entries_of}
use Rattle.tm_items.specs.Placings.{Placed}
use Rattle.tm_items.specs.Computed.{Placings, items_of, AreNumbered}
use Rattle.std.specs.Bool.{one_answer}
use Rattle.tm_items.proofs.Reading.{number_decides}
use Rattle.tm_volume_records.specs.Records.{item_key, is_item_key, entry_at, placed_of, numbered, placing_of, placings_of}
use Rattle.tm_base.proofs.Facts.{both_true}
use Rattle.tm_base.specs.Limits.{max_items}

abbrev pub Rising : {X : Type 0} → List (ℕ × X) → Type 0
Rising es = IsStrictlySortedBy nat_cmp (keys_of es)

-- the item of a record
abbrev pub placed_rec : (ℕ → List ℕ) → Option Record → Option Placed
placed_rec bytes None = None
placed_rec bytes (Some r) = placed_of (entry_of bytes r)

-- ---- keys

pub less_is : (a b : ℕ) → a < b → nat_cmp a b ≡ Less
less_is a b h = sym (nat_cmp_is a b Less h)

pub is_less : (a b : ℕ) → nat_cmp a b ≡ Less → a < b
is_less a b h = subst (λ r. MatchOrdering r (a < b) (a ≡ b) (b < a)) h (ranks a b)

pub at_itself : (k : ℕ) → is_at (nat_cmp k) k ≡ true
at_itself k = ap is_eq (tied_itself nat_cmp_total k)

same_test : (a b c d : ℕ) → a + d ≡ b + c → is_at (nat_cmp a) b ≡ is_at (nat_cmp c) d
same_test a b c d h = one_answer (is_at (nat_cmp a) b) (is_at (nat_cmp c) d) (number_decides a b)
    (λ t. let e : c ≡ d = (number_decides c d).0 t in omega arith, λ e. (number_decides c d).1 (let f : c ≡ d = omega arith in f))

pub key_range : (k : ℕ) → is_item_key k ≡ true → (2 ^ 62 + 1 ≤ k) × (k ≤ 2 ^ 62 + max_items)
key_range k h =
    let lo = (both_true (nat_le (2 ^ 62 + 1) k) (nat_le k (2 ^ 62 + max_items)) h).0 in
    let hi = (both_true (nat_le (2 ^ 62 + 1) k) (nat_le k (2 ^ 62 + max_items)) h).1 in
    (grind (arith, nat_tests), grind (arith, nat_tests))

pub range_key : (k : ℕ) → 2 ^ 62 + 1 ≤ k → k ≤ 2 ^ 62 + max_items → is_item_key k ≡ true
range_key k lo hi = grind (arith, nat_tests)

module _ {X : Type 0} where
  -- nothing stands at a key below all
  pub past_none : (k : ℕ) (es : List (ℕ × X)) → AllByRecursion (λ j. nat_cmp k j ≡ Less) (keys_of es) → lookup (is_at (nat_cmp k)) es ≡ None
  past_none k [] h = refl
  past_none k (e ∷ es) h = ap (λ r. cond (is_eq r) (Some e.1) (lookup (is_at (nat_cmp k)) es)) h.0 ∙ past_none k es h.1

  -- nothing stands behind a key at it again
  pub once_there : (k : ℕ) (e : ℕ × X) (es : List (ℕ × X)) → Rising (e ∷ es) → is_at (nat_cmp k) e.0 ≡ true → lookup (is_at (nat_cmp k)) es ≡ None
  unfolding IsStrictlySortedBy
  once_there k e es s h = subst (λ (j : ℕ). lookup (is_at (nat_cmp j)) es ≡ None) (sym ((number_decides k e.0).0 h)) (past_none e.0 es s.0)

  pub rising_tail : (e : ℕ × X) (es : List (ℕ × X)) → Rising (e ∷ es) → Rising es
  unfolding IsStrictlySortedBy
  rising_tail e es s = s.1

-- ---- entries

pub entry_is : (bytes : ℕ → List ℕ) (k : ℕ) (es : Records) → entry_at k (entries_of bytes es) ≡ option_map (entry_of bytes) (at k es)
entry_is bytes k [] = refl
entry_is bytes k (e ∷ es) =
    elim (is_at (nat_cmp k) e.0) as (λ b. cond b (Some (entry_of bytes e.1)) (entry_at k (entries_of bytes es)) ≡ option_map (entry_of bytes) (cond b (Some e.1) (at k es))) [
      | true ↦ refl
      | false ↦ entry_is bytes k es
    ]

-- ---- the items

numbered_here : (n k : ℕ) (o : Option Placed) (rest : Placings) → is_at (nat_cmp n) k ≡ true → items_of rest n ≡ None → items_of (numbered k o ++ rest) n ≡ o
numbered_here n k None rest here none = none
numbered_here n k (Some x) rest here none = ap (λ b. cond b (Some x) (items_of rest n)) here

numbered_past : (n k : ℕ) (o : Option Placed) (rest : Placings) → is_at (nat_cmp n) k ≡ false → items_of (numbered k o ++ rest) n ≡ items_of rest n
numbered_past n k None rest off = refl
numbered_past n k (Some x) rest off = ap (λ b. cond b (Some x) (items_of rest n)) off

module _ (bytes : ℕ → List ℕ) where
  abbrev pub placings_on : Records → Placings
  placings_on es = placings_of (entries_of bytes es)

  pub placings_cons : (e : ℕ × Record) (es : Records) → placings_on (e ∷ es) ≡ placing_of (e.0, entry_of bytes e.1) ++ placings_on es
  unfolding placings_of
  placings_cons e es = refl

  pub placings_nil : placings_on [] ≡ []
  unfolding placings_of
  placings_nil = refl

  abbrev Step : ℕ → ℕ × Record → Records → Bool → Type 0
  Step n e es b = items_of ((cond b (numbered (e.0 - 2 ^ 62) (placed_of (entry_of bytes e.1))) []) ++ placings_on es) n
      ≡ placed_rec bytes (cond (is_at (nat_cmp (item_key n)) e.0) (Some e.1) (at (item_key n) es))

  -- what stands under a number is the item of the record at its key
  pub items_at : (es : Records) (n : ℕ) → 1 ≤ n → n ≤ max_items → Rising es → items_of (placings_on es) n ≡ placed_rec bytes (at (item_key n) es)
  items_at [] n lo hi s = ap (λ (ps : Placings). items_of ps n) placings_nil
  items_at (e ∷ es) n lo hi s =
      let more : items_of (placings_on es) n ≡ placed_rec bytes (at (item_key n) es) = items_at es n lo hi (rising_tail e es s) in
      ap (λ (ps : Placings). items_of ps n) (placings_cons e es)
      ∙ elim (is_item_key e.0) as (λ b. is_item_key e.0 ≡ b → Step n e es b) [
        | true ↦ λ key.
            let range = key_range e.0 key in
            let same : is_at (nat_cmp (item_key n)) e.0 ≡ is_at (nat_cmp n) (e.0 - 2 ^ 62) = same_test (item_key n) e.0 n (e.0 - 2 ^ 62) (omega (arith, range.0)) in
            elim (is_at (nat_cmp (item_key n)) e.0) as (λ b. is_at (nat_cmp (item_key n)) e.0 ≡ b → items_of (numbered (e.0 - 2 ^ 62) (placed_of (entry_of bytes e.1)) ++ placings_on es) n
            ≡ placed_rec bytes (cond b (Some e.1) (at (item_key n) es))) [
              | true ↦ λ here. numbered_here n (e.0 - 2 ^ 62) (placed_of (entry_of bytes e.1)) (placings_on es) (sym same ∙ here)
                  (more ∙ ap (placed_rec bytes) (once_there (item_key n) e es s here))
              | false ↦ λ off. numbered_past n (e.0 - 2 ^ 62) (placed_of (entry_of bytes e.1)) (placings_on es) (sym same ∙ off) ∙ more
            ] refl
        | false ↦ λ out.
            let off : is_at (nat_cmp (item_key n)) e.0 ≡ false = other n e.0 lo hi out in
            more ∙ ap (λ b. placed_rec bytes (cond b (Some e.1) (at (item_key n) es))) (sym off)
      ] refl
    where
      other : (n k : ℕ) → 1 ≤ n → n ≤ max_items → is_item_key k ≡ false → is_at (nat_cmp (item_key n)) k ≡ false
      other n k lo hi out = elim (is_at (nat_cmp (item_key n)) k) as (λ b. is_at (nat_cmp (item_key n)) k ≡ b → b ≡ false) [
        | true ↦ λ here. let e : item_key n ≡ k = (number_decides (item_key n) k).0 here in let yes : is_item_key k ≡ true = range_key k (omega (arith, e)) (omega (arith, e)) in sym yes ∙ out
        | false ↦ λ _. refl
      ] refl

  high_placed : (a : ℕ) (es : Records) → AllByRecursion (λ k. nat_cmp (2 ^ 62 + a) k ≡ Less) (keys_of es) → AllByRecursion (λ k. nat_cmp a k ≡ Less) (keys_of (placings_on es))
  high_placed a [] h = subst (λ (ps : Placings). AllByRecursion (λ k. nat_cmp a k ≡ Less) (keys_of ps)) (sym placings_nil) tt
  high_placed a (e ∷ es) h =
      let more = high_placed a es h.1 in
      subst (λ (ps : Placings). AllByRecursion (λ k. nat_cmp a k ≡ Less) (keys_of ps)) (sym (placings_cons e es))
      (elim (is_item_key e.0) as (λ b. is_item_key e.0 ≡ b → AllByRecursion (λ k. nat_cmp a k ≡ Less) (keys_of ((cond b (numbered (e.0 - 2 ^ 62) (placed_of (entry_of bytes e.1))) []) ++ placings_on es))) [
        | true ↦ λ key. let low = is_less (2 ^ 62 + a) e.0 h.0 in placed_too a (e.0 - 2 ^ 62) (placings_on es) (placed_of (entry_of bytes e.1)) (less_is a (e.0 - 2 ^ 62) (omega arith)) more
        | false ↦ λ out. more
      ] refl)
    where
      placed_too : (a k : ℕ) (rest : Placings) (o : Option Placed) → nat_cmp a k ≡ Less → AllByRecursion (λ j. nat_cmp a j ≡ Less) (keys_of rest) → AllByRecursion (λ j. nat_cmp a j ≡ Less) (keys_of (numbered k o ++ rest))
      placed_too a k rest None low more = more
      placed_too a k rest (Some x) low more = (low, more)

  -- the items stand by rising number
  pub numbered_on : (es : Records) → Rising es → AreNumbered (placings_on es)
  unfolding IsStrictlySortedBy
  numbered_on [] s = subst (λ (ps : Placings). AreNumbered ps) (sym placings_nil) tt
  numbered_on (e ∷ es) s =
      let more = numbered_on es s.1 in
      subst (λ (ps : Placings). AreNumbered ps) (sym (placings_cons e es))
      (elim (is_item_key e.0) as (λ b. is_item_key e.0 ≡ b → AreNumbered ((cond b (numbered (e.0 - 2 ^ 62) (placed_of (entry_of bytes e.1))) []) ++ placings_on es)) [
        | true ↦ λ key.
            let range = key_range e.0 key in
            let is : e.0 ≡ 2 ^ 62 + (e.0 - 2 ^ 62) = omega (arith, range.0) in
            placed_first (e.0 - 2 ^ 62) (placings_on es) (placed_of (entry_of bytes e.1)) (high_placed (e.0 - 2 ^ 62) es (subst (λ (j : ℕ). AllByRecursion (λ k. nat_cmp j k ≡ Less) (keys_of es)) is s.0)) more
        | false ↦ λ out. more
      ] refl)
    where
      placed_first : (k : ℕ) (rest : Placings) (o : Option Placed) → AllByRecursion (λ j. nat_cmp k j ≡ Less) (keys_of rest) → AreNumbered rest → AreNumbered (numbered k o ++ rest)
      placed_first k rest None low more = more
      placed_first k rest (Some x) low more = (low, more)

  -- nothing stands under other numbers
  pub items_out : (es : Records) (n : ℕ) → (n < 1) ⊎ (max_items < n) → items_of (placings_on es) n ≡ None
  items_out [] n out = ap (λ (ps : Placings). items_of ps n) placings_nil
  items_out (e ∷ es) n out =
      ap (λ (ps : Placings). items_of ps n) (placings_cons e es)
      ∙ elim (is_item_key e.0) as (λ b. is_item_key e.0 ≡ b → items_of ((cond b (numbered (e.0 - 2 ^ 62) (placed_of (entry_of bytes e.1))) []) ++ placings_on es) n ≡ None) [
        | true ↦ λ key. numbered_past n (e.0 - 2 ^ 62) (placed_of (entry_of bytes e.1)) (placings_on es) (outside n e.0 (key_range e.0 key) out) ∙ items_out es n out
        | false ↦ λ off. items_out es n out
      ] refl
    where
      outside : (n k : ℕ) → (2 ^ 62 + 1 ≤ k) × (k ≤ 2 ^ 62 + max_items) → (n < 1) ⊎ (max_items < n) → is_at (nat_cmp n) (k - 2 ^ 62) ≡ false
      outside n k range out = elim (is_at (nat_cmp n) (k - 2 ^ 62)) as (λ b. is_at (nat_cmp n) (k - 2 ^ 62) ≡ b → b ≡ false) [
        | true ↦ λ here. let e : n ≡ k - 2 ^ 62 = (number_decides n (k - 2 ^ 62)).0 here in
            elim out [ inl low ↦ absurd (omega (arith, range.0)) | inr high ↦ absurd (omega (arith, range.0, range.1)) ]
        | false ↦ λ _. refl
      ] refl
