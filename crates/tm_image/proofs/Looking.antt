-- What stands at a key after changes.
use Rattle.std.proofs.Common.{◌≡◌, ⊎_elim, ℕ, ◌<◌, ◌≤◌, ◌==◌, List, [], ◌∷◌, map, Option, Some, None, Bool, true, false, ◌||◌, cond, refl, sym, ◌∙◌, ap, subst, arith}
use Rattle.std.specs.List.{list_any, AllByRecursion}
use Rattle.std.specs.List.Sorted.{IsStrictlySortedBy, IsStrictlyIncreasing}
use Rattle.std.specs.Option.{option_map}
use Rattle.std.specs.Ordering.{nat_cmp, is_eq, match_ordering}
use Rattle.std.specs.Cmp.{nat_cmp_is}
use Rattle.std.specs.declared.cmp.Ordering.{Ordering}
use Rattle.std.specs.declared.cmp.Ordering.TheVariants.{Less, Equal, Greater}
use Rattle.std.specs.BTreeMap.{insert_entry, is_at}
use Rattle.std.specs.Map.{keys_of, remove_entry, lookup}
use Rattle.std.proofs.lemmas.Bool.{cases_lt, cases_eq, eq-eqb, ne_eqb}
use Rattle.std.proofs.lemmas.Map.Keys.{sorted_from_strictly_increasing}
use Rattle.tm_chain.specs.Blob.{bytes_in}
use Rattle.tm_records.specs.declared.record.Record.{Record}
use Rattle.tm_records.specs.declared.record.Put.{Put}
use Rattle.tm_records.specs.declared.record.Body.{Body}
use Rattle.tm_records.specs.declared.record.Body.TheVariants.{Kept, Empty, New}
use Rattle.tm_records.specs.Records.{Records, at}
use Rattle.tm_records.specs.Puts.{put_record, with_puts}
use Rattle.tm_records.specs.Removes.{without}
use Rattle.tm_image.specs.Reads.{Entry, entry_of, entries_of}
use Rattle.tm_image.specs.Commit.{changed}
use Rattle.tm_image.specs.Lookups.{entry_at, put_at, record_with, body_bytes, entry_with, unless_removed}

-- the order of numbers, by what it says
lt_is : (a b : ℕ) → a < b → nat_cmp a b ≡ Less
lt_is a b lt = sym (nat_cmp_is a b Less lt)

gt_is : (a b : ℕ) → b < a → nat_cmp a b ≡ Greater
gt_is a b lt = sym (nat_cmp_is a b Greater lt)

eq_is : (a b : ℕ) → a ≡ b → nat_cmp a b ≡ Equal
eq_is a b e = sym (nat_cmp_is a b Equal e)

-- a test of a key
tested : (q k : ℕ) → is_eq (nat_cmp q k) ≡ (k == q)
tested q k = ⊎_elim
    (λ (lt : q < k). ap is_eq (lt_is q k lt) ∙ sym (ne_eqb k q (λ e. absurd (omega (arith, e, lt)))))
    (λ (le : k ≤ q). ⊎_elim
    (λ (gt : k < q). ap is_eq (gt_is q k gt) ∙ sym (ne_eqb k q (λ e. absurd (omega (arith, e, gt)))))
    (λ (ge : q ≤ k). ap is_eq (eq_is q k (omega arith)) ∙ sym (eq-eqb k q (omega arith)))
    (cases_lt k q))
    (cases_lt q k)

-- three ways that two numbers lie
data Order (a b : ℕ) : Type 0 where
  is_below : a < b → Order a b
  is_same : a ≡ b → Order a b
  is_above : b < a → Order a b

order : (a b : ℕ) → Order a b
order a b = ⊎_elim
    (λ (lt : a < b). is_below lt)
    (λ (le : b ≤ a). ⊎_elim (λ (gt : b < a). is_above gt) (λ (ge : a ≤ b). is_same (omega arith)) (cases_lt b a))
    (cases_lt a b)

cond_true : {X : Type 0} (a b : ℕ) (x y : X) → a ≡ b → cond (a == b) x y ≡ x
cond_true a b x y e = ap (λ t. cond t x y) (eq-eqb a b e)

cond_false : {X : Type 0} (a b : ℕ) (x y : X) → (a ≡ b → ⊥) → cond (a == b) x y ≡ y
cond_false a b x y ne = ap (λ t. cond t x y) (ne_eqb a b ne)

-- below, by the order
less_lt : (x y : ℕ) → nat_cmp x y ≡ Less → x < y
less_lt x y less = elim (order x y) [
  | is_below lt ↦ lt
  | is_same same ↦ absurd (let bad : Less ≡ Equal = sym less ∙ eq_is x y same in cc)
  | is_above gt ↦ absurd (let bad : Less ≡ Greater = sym less ∙ gt_is x y gt in cc)
]

greater_lt : (x y : ℕ) → nat_cmp x y ≡ Greater → y < x
greater_lt x y greater = elim (order x y) [
  | is_below lt ↦ absurd (let bad : Greater ≡ Less = sym greater ∙ lt_is x y lt in cc)
  | is_same same ↦ absurd (let bad : Greater ≡ Equal = sym greater ∙ eq_is x y same in cc)
  | is_above gt ↦ gt
]

below_all : (k x : ℕ) (ys : List ℕ) → k < x → AllByRecursion (λ y. nat_cmp x y ≡ Less) ys → AllByRecursion (λ y. nat_cmp k y ≡ Less) ys
below_all k x [] lt all = tt
below_all k x (y ∷ ys) lt all = (lt_is k y (omega (arith, lt, less_lt x y all.0)), below_all k x ys lt all.1)

module _ {X : Type 0} where
  abbrev look : ℕ → List (ℕ × X) → Option X
  look q es = lookup (is_at (nat_cmp q)) es

  look_cons : (q : ℕ) (e : ℕ × X) (es : List (ℕ × X)) → look q (e ∷ es) ≡ cond (e.0 == q) (Some e.1) (look q es)
  look_cons q e es = ap (λ t. cond t (Some e.1) (look q es)) (tested q e.0)

  -- a value at the key of the first, and one at a key above it
  at_same : (q k j : ℕ) (v w : X) (o : Option X) → k ≡ j → cond (j == q) (Some v) o ≡ cond (k == q) (Some v) (cond (j == q) (Some w) o)
  at_same q k j v w o same = ⊎_elim
      (λ (e : k ≡ q). cond_true j q (Some v) o (sym same ∙ e) ∙ sym (cond_true k q (Some v) (cond (j == q) (Some w) o) e))
      (λ (ne : k ≡ q → ⊥). cond_false j q (Some v) o (λ e. ne (same ∙ e)) ∙ sym (cond_false k q (Some v) (cond (j == q) (Some w) o) ne ∙ cond_false j q (Some w) o (λ e. ne (same ∙ e))))
      (cases_eq k q)

  at_above : (q k j : ℕ) (v w : X) (o : Option X) → j < k → cond (j == q) (Some w) (cond (k == q) (Some v) o) ≡ cond (k == q) (Some v) (cond (j == q) (Some w) o)
  at_above q k j v w o lt = ⊎_elim
      (λ (e : k ≡ q). let ne : j ≡ q → ⊥ = λ d. absurd (omega (arith, lt, e, d)) in
      cond_false j q (Some w) (cond (k == q) (Some v) o) ne ∙ cond_true k q (Some v) o e ∙ sym (cond_true k q (Some v) (cond (j == q) (Some w) o) e))
      (λ (ne : k ≡ q → ⊥). ap (cond (j == q) (Some w)) (cond_false k q (Some v) o ne) ∙ sym (cond_false k q (Some v) (cond (j == q) (Some w) o) ne))
      (cases_eq k q)

  abbrev placed : Ordering → ℕ → X → ℕ × X → List (ℕ × X) → List (ℕ × X)
  placed r k v e es = match_ordering r ((k, v) ∷ e ∷ es) ((e.0, v) ∷ es) (e ∷ insert_entry nat_cmp es k v)

  pub look_insert : (q k : ℕ) (v : X) (es : List (ℕ × X)) → look q (insert_entry nat_cmp es k v) ≡ cond (k == q) (Some v) (look q es)
  look_insert q k v [] = look_cons q (k, v) []
  look_insert q k v (e ∷ es) = elim (order k e.0) [
    | is_below lt ↦ ap (λ r. look q (placed r k v e es)) (lt_is k e.0 lt) ∙ look_cons q (k, v) (e ∷ es)
    | is_same same ↦ ap (λ r. look q (placed r k v e es)) (eq_is k e.0 same) ∙ look_cons q (e.0, v) es
        ∙ at_same q k e.0 v e.1 (look q es) same ∙ ap (cond (k == q) (Some v)) (sym (look_cons q e es))
    | is_above gt ↦ ap (λ r. look q (placed r k v e es)) (gt_is k e.0 gt) ∙ look_cons q e (insert_entry nat_cmp es k v)
        ∙ ap (cond (e.0 == q) (Some e.1)) (look_insert q k v es) ∙ at_above q k e.0 v e.1 (look q es) gt ∙ ap (cond (k == q) (Some v)) (sym (look_cons q e es))
  ]

  -- keys stay in order
  above_insert : (x k : ℕ) (v : X) (es : List (ℕ × X)) → nat_cmp x k ≡ Less → AllByRecursion (λ y. nat_cmp x y ≡ Less) (keys_of es) → AllByRecursion (λ y. nat_cmp x y ≡ Less) (keys_of (insert_entry nat_cmp es k v))
  above_insert x k v [] less all = (less, tt)
  above_insert x k v (e ∷ es) less all = elim (nat_cmp k e.0) as (λ r. AllByRecursion (λ y. nat_cmp x y ≡ Less) (keys_of (placed r k v e es))) [
    | Less ↦ (less, all)
    | Equal ↦ all
    | Greater ↦ (all.0, above_insert x k v es less all.1)
  ]

  pub sorted_insert : (k : ℕ) (v : X) (es : List (ℕ × X)) → IsStrictlySortedBy nat_cmp (keys_of es) → IsStrictlySortedBy nat_cmp (keys_of (insert_entry nat_cmp es k v))
  unfolding IsStrictlySortedBy
  sorted_insert k v [] sorted = (tt, tt)
  sorted_insert k v (e ∷ es) sorted = elim (nat_cmp k e.0) as (λ r. nat_cmp k e.0 ≡ r → IsStrictlySortedBy nat_cmp (keys_of (placed r k v e es))) [
    | Less ↦ λ less. ((less, below_all k e.0 (keys_of es) (less_lt k e.0 less) sorted.0), sorted)
    | Equal ↦ λ same. sorted
    | Greater ↦ λ greater. (above_insert e.0 k v es (lt_is e.0 k (greater_lt k e.0 greater)) sorted.0, sorted_insert k v es sorted.1)
  ] refl

  above_remove : (x k : ℕ) (es : List (ℕ × X)) → AllByRecursion (λ y. nat_cmp x y ≡ Less) (keys_of es) → AllByRecursion (λ y. nat_cmp x y ≡ Less) (keys_of (remove_entry (is_at (nat_cmp k)) es))
  above_remove x k [] all = tt
  above_remove x k (e ∷ es) all = elim (is_eq (nat_cmp k e.0)) as (λ b. AllByRecursion (λ y. nat_cmp x y ≡ Less) (keys_of (cond b es (e ∷ remove_entry (is_at (nat_cmp k)) es)))) [
    | true ↦ all.1
    | false ↦ (all.0, above_remove x k es all.1)
  ]

  pub sorted_remove : (k : ℕ) (es : List (ℕ × X)) → IsStrictlySortedBy nat_cmp (keys_of es) → IsStrictlySortedBy nat_cmp (keys_of (remove_entry (is_at (nat_cmp k)) es))
  unfolding IsStrictlySortedBy
  sorted_remove k [] sorted = tt
  sorted_remove k (e ∷ es) sorted = elim (is_eq (nat_cmp k e.0)) as (λ b. IsStrictlySortedBy nat_cmp (keys_of (cond b es (e ∷ remove_entry (is_at (nat_cmp k)) es)))) [
    | true ↦ sorted.1
    | false ↦ (above_remove e.0 k es sorted.0, sorted_remove k es sorted.1)
  ]

  -- none stands below the first
  none_below : (x : ℕ) (es : List (ℕ × X)) → AllByRecursion (λ y. nat_cmp x y ≡ Less) (keys_of es) → look x es ≡ None
  none_below x [] all = refl
  none_below x (e ∷ es) all = look_cons x e es ∙ cond_false e.0 x (Some e.1) (look x es) (λ same. absurd (omega (arith, same, less_lt x e.0 all.0))) ∙ none_below x es all.1

  cond_none : (b : Bool) → (let o : Option X = None in o) ≡ cond b None None
  cond_none true = refl
  cond_none false = refl

  pub look_remove : (q k : ℕ) (es : List (ℕ × X)) → IsStrictlySortedBy nat_cmp (keys_of es) → look q (remove_entry (is_at (nat_cmp k)) es) ≡ cond (k == q) None (look q es)
  unfolding IsStrictlySortedBy
  look_remove q k [] sorted = cond_none (k == q)
  look_remove q k (e ∷ es) sorted = ap (λ t. look q (cond t es (e ∷ remove_entry (is_at (nat_cmp k)) es))) (tested k e.0) ∙ ⊎_elim
      (λ (here : e.0 ≡ k). ap (λ t. look q (cond t es (e ∷ remove_entry (is_at (nat_cmp k)) es))) (eq-eqb e.0 k here) ∙ ⊎_elim
      (λ (same : k ≡ q). subst (λ x. look x es ≡ None) (here ∙ same) (none_below e.0 es sorted.0) ∙ sym (cond_true k q None (look q (e ∷ es)) same))
      (λ (ne : k ≡ q → ⊥). sym (cond_false k q None (look q (e ∷ es)) ne ∙ look_cons q e es ∙ cond_false e.0 q (Some e.1) (look q es) (λ d. ne (sym here ∙ d))))
      (cases_eq k q))
      (λ (other : e.0 ≡ k → ⊥). ap (λ t. look q (cond t es (e ∷ remove_entry (is_at (nat_cmp k)) es))) (ne_eqb e.0 k other) ∙ look_cons q e (remove_entry (is_at (nat_cmp k)) es)
      ∙ ap (cond (e.0 == q) (Some e.1)) (look_remove q k es sorted.1) ∙ ⊎_elim
      (λ (same : k ≡ q). let ne : e.0 ≡ q → ⊥ = λ d. other (d ∙ sym same) in
      cond_false e.0 q (Some e.1) (cond (k == q) None (look q es)) ne ∙ cond_true k q None (look q es) same ∙ sym (cond_true k q None (look q (e ∷ es)) same))
      (λ (ne : k ≡ q → ⊥). ap (cond (e.0 == q) (Some e.1)) (cond_false k q None (look q es) ne) ∙ sym (cond_false k q None (look q (e ∷ es)) ne ∙ look_cons q e es))
      (cases_eq k q))
      (cases_eq e.0 k)

-- keys that are removed
sorted_without : (ks : List ℕ) (es : Records) → IsStrictlySortedBy nat_cmp (keys_of es) → IsStrictlySortedBy nat_cmp (keys_of (without ks es))
sorted_without [] es sorted = sorted
sorted_without (k ∷ ks) es sorted = sorted_without ks (remove_entry (is_at (nat_cmp k)) es) (sorted_remove k es sorted)

cond_or : {X : Type 0} (a b : Bool) (x y : X) → cond b x (cond a x y) ≡ cond (a || b) x y
cond_or true true x y = refl
cond_or true false x y = refl
cond_or false b x y = refl

at_without : (q : ℕ) (ks : List ℕ) (es : Records) → IsStrictlySortedBy nat_cmp (keys_of es) → at q (without ks es) ≡ unless_removed q ks (at q es)
at_without q [] es sorted = refl
at_without q (k ∷ ks) es sorted = at_without q ks (remove_entry (is_at (nat_cmp k)) es) (sorted_remove k es sorted) ∙ ap (unless_removed q ks) (look_remove q k es sorted)
    ∙ cond_or (k == q) (list_any (λ j. j == q) ks) None (at q es)

-- puts, of which no two have one key
no_put : (q : ℕ) (ps : List Put) → AllByRecursion (λ y. nat_cmp q y ≡ Less) (map (λ (p : Put). p.key) ps) → put_at q ps ≡ None
no_put q [] all = refl
no_put q (p ∷ ps) all = cond_false p.key q (Some p) (put_at q ps) (λ same. absurd (omega (arith, same, less_lt q p.key all.0))) ∙ no_put q ps all.1

module _ (q : ℕ) where
  at_puts : (ps : List Put) (es : Records) → IsStrictlySortedBy nat_cmp (map (λ (p : Put). p.key) ps) → at q (with_puts ps es) ≡ record_with (put_at q ps) (at q es)
  unfolding IsStrictlySortedBy
  at_puts [] es rising = refl
  at_puts (p ∷ ps) es rising =
      let v : Record = put_record p.body p.meta (at p.key es) in
      at_puts ps (insert_entry nat_cmp es p.key v) rising.1 ∙ ap (record_with (put_at q ps)) (look_insert q p.key v es) ∙ ⊎_elim
      (λ (same : p.key ≡ q). let none : put_at q ps ≡ None = subst (λ x. put_at x ps ≡ None) same (no_put p.key ps rising.0) in
      ap (λ f. record_with f (cond (p.key == q) (Some v) (at q es))) none ∙ cond_true p.key q (Some v) (at q es) same
      ∙ ap (λ x. Some (put_record p.body p.meta (at x es))) same
      ∙ sym (ap (λ f. record_with f (at q es)) (cond_true p.key q (Some p) (put_at q ps) same)))
      (λ (ne : p.key ≡ q → ⊥). ap (record_with (put_at q ps)) (cond_false p.key q (Some v) (at q es) ne) ∙ sym (ap (λ f. record_with f (at q es)) (cond_false p.key q (Some p) (put_at q ps) ne)))
      (cases_eq p.key q)

sorted_with : (ps : List Put) (es : Records) → IsStrictlySortedBy nat_cmp (keys_of es) → IsStrictlySortedBy nat_cmp (keys_of (with_puts ps es))
sorted_with [] es sorted = sorted
sorted_with (p ∷ ps) es sorted = sorted_with ps (insert_entry nat_cmp es p.key (put_record p.body p.meta (at p.key es))) (sorted_insert p.key (put_record p.body p.meta (at p.key es)) es sorted)

pub changed_at : (k : ℕ) (remove : List ℕ) (put : List Put) (es : Records) → IsStrictlySortedBy nat_cmp (keys_of es) → IsStrictlyIncreasing (map (λ (p : Put). p.key) put)
    → at k (changed remove put es) ≡ unless_removed k remove (record_with (put_at k put) (at k es))
changed_at k remove put es sorted rising = at_without k remove (with_puts put es) (sorted_with put es sorted)
    ∙ ap (unless_removed k remove) (at_puts k put es (sorted_from_strictly_increasing (map (λ (p : Put). p.key) put) rising))

-- the same for entries
pub entry_at_is : (k : ℕ) (bytes : ℕ → List ℕ) (es : Records) → entry_at k (entries_of bytes es) ≡ option_map (entry_of bytes) (at k es)
entry_at_is k bytes [] = refl
entry_at_is k bytes (e ∷ es) = elim (is_eq (nat_cmp k e.0)) as (λ b. cond b (Some (entry_of bytes e.1)) (entry_at k (entries_of bytes es)) ≡ option_map (entry_of bytes) (cond b (Some e.1) (at k es))) [
  | true ↦ refl
  | false ↦ entry_at_is k bytes es
]

body_of : (bytes : ℕ → List ℕ) (body : Body) (meta : List ℕ) (o : Option Record) → entry_of bytes (put_record body meta o) ≡ record { meta = meta; bytes = body_bytes bytes body (option_map (entry_of bytes) o) }
unfolding bytes_in
body_of bytes Kept meta None = refl
body_of bytes Kept meta (Some r) = refl
body_of bytes Empty meta o = refl
body_of bytes (New blob) meta o = refl

entry_is : (bytes : ℕ → List ℕ) (f : Option Put) (o : Option Record) → option_map (entry_of bytes) (record_with f o) ≡ entry_with bytes f (option_map (entry_of bytes) o)
entry_is bytes None o = refl
entry_is bytes (Some p) o = ap (λ (e : Entry). Some e) (body_of bytes p.body p.meta o)

map_unless : {A B : Type 0} (f : A → B) (b : Bool) (o : Option A) → option_map f (cond b None o) ≡ cond b None (option_map f o)
map_unless f true o = refl
map_unless f false o = refl

pub entry_changed_at : (k : ℕ) (bytes : ℕ → List ℕ) (remove : List ℕ) (put : List Put) (es : Records) → IsStrictlySortedBy nat_cmp (keys_of es) → IsStrictlyIncreasing (map (λ (p : Put). p.key) put)
    → entry_at k (entries_of bytes (changed remove put es)) ≡ unless_removed k remove (entry_with bytes (put_at k put) (entry_at k (entries_of bytes es)))
entry_changed_at k bytes remove put es sorted rising = entry_at_is k bytes (changed remove put es) ∙ ap (option_map (entry_of bytes)) (changed_at k remove put es sorted rising)
    ∙ map_unless (entry_of bytes) (list_any (λ j. j == k) remove) (record_with (put_at k put) (at k es)) ∙ ap (unless_removed k remove) (entry_is bytes (put_at k put) (at k es) ∙ ap (entry_with bytes (put_at k put)) (sym (entry_at_is k bytes es)))
