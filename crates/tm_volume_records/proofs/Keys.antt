-- The rules of all keys, one after another.
use Rattle.std.proofs.Common.{◌≡◌, ◌≢◌, ℕ, ◌<◌, ◌≤◌, true, false, not, nat_lt, cond, List, [], ◌∷◌, Option, Some, None, refl, sym, ◌∙◌, ap, subst, arith}
use Rattle.std.specs.BTreeMap.{is_at}
use Rattle.std.specs.List.{AllByRecursion, find}
use Rattle.std.specs.List.Sorted.{IsStrictlySortedBy}
use Rattle.std.specs.Map.{keys_of}
use Rattle.std.specs.Option.{IfSome, IfNone, IsSome}
use Rattle.std.specs.Ordering.{nat_cmp}
use Rattle.std.specs.declared.cmp.Ordering.TheVariants.{Less}
use Rattle.std.proofs.lemmas.Bool.Decides.{nat_tests}
use Rattle.tm_items.proofs.Reading.{number_decides}
use Rattle.tm_records.specs.declared.record.Record.{Record}
use Rattle.tm_records.specs.Records.{Records, at}
use Rattle.tm_volume_records.proofs.Slots.{Rising, less_is, is_less, at_itself, past_none}

-- ---- the first key from another on

pub not_at : (k j : ℕ) → k ≢ j → is_at (nat_cmp k) j ≡ false
not_at k j ne = elim (is_at (nat_cmp k) j) as (λ b. is_at (nat_cmp k) j ≡ b → b ≡ false) [
  | true ↦ λ h. absurd (ne ((number_decides k j).0 h))
  | false ↦ λ h. refl
] refl

skip : (k : ℕ) (e : ℕ × Record) (es : Records) → k ≢ e.0 → at k (e ∷ es) ≡ at k es
skip k e es ne = ap (λ b. cond b (Some e.1) (at k es)) (not_at k e.0 ne)

all_more : (low k : ℕ) (ks : List ℕ) → low < k → AllByRecursion (λ y. nat_cmp k y ≡ Less) ks → AllByRecursion (λ y. nat_cmp low y ≡ Less) ks
all_more low k [] lt h = tt
all_more low k (x ∷ ks) lt h = (less_is low x (let b = is_less k x h.0 in omega arith), all_more low k ks lt h.1)

abbrev pub From : ℕ → Records → Option ℕ → Type 0
From least es found = found ≡ find (λ k. not (nat_lt k least)) (keys_of es)

-- a record stands there, and none before it
pub record IsFirst (least key : ℕ) (es : Records) : Type 0 where
  pub there : IsSome (at key es)
  pub from : least ≤ key
  pub before : (other : ℕ) → least ≤ other → other < key → at other es ≡ None

low_key : (least k : ℕ) → nat_lt k least ≡ true → k < least
low_key least k h = grind (arith, nat_tests)

high_key : (least k : ℕ) → nat_lt k least ≡ false → least ≤ k
high_key least k h = grind (arith, nat_tests)

pub none_from : (least : ℕ) (es : Records) → None ≡ find (λ k. not (nat_lt k least)) (keys_of es) → (key : ℕ) → least ≤ key → at key es ≡ None
none_from least [] is key le = refl
none_from least (e ∷ es) is key le = elim (nat_lt e.0 least) as (λ b. nat_lt e.0 least ≡ b → None ≡ cond (not b) (Some e.0) (find (λ k. not (nat_lt k least)) (keys_of es)) → at key (e ∷ es) ≡ None) [
  | true ↦ λ low h. let lt = low_key least e.0 low in skip key e es (λ same. omega (arith, same, lt, le)) ∙ none_from least es h key le
  | false ↦ λ high h. cc
] refl is

pub some_from : (least key : ℕ) (es : Records) → Rising es → Some key ≡ find (λ k. not (nat_lt k least)) (keys_of es) → IsFirst least key es
unfolding IsStrictlySortedBy
some_from least key [] rising is = cc
some_from least key (e ∷ es) rising is = elim (nat_lt e.0 least) as (λ b. nat_lt e.0 least ≡ b → Some key ≡ cond (not b) (Some e.0) (find (λ k. not (nat_lt k least)) (keys_of es)) → IsFirst least key (e ∷ es)) [
  | true ↦ λ low h.
      let lt = low_key least e.0 low in
      let rest = some_from least key es rising.1 h in
      record {
        there = subst (λ o. IsSome o) (sym (skip key e es (λ same. omega (arith, same, lt, rest.from)))) rest.there;
        from = rest.from;
        before = λ other le under. skip other e es (λ same. omega (arith, same, lt, le)) ∙ rest.before other le under;
      }
  | false ↦ λ high h.
      let same : e.0 ≡ key = cc in
      let here : at e.0 (e ∷ es) ≡ Some e.1 = ap (λ b. cond b (Some e.1) (at e.0 es)) (at_itself e.0) in
      record {
        there = subst (λ (k : ℕ). IsSome (at k (e ∷ es))) same (subst (λ o. IsSome o) (sym here) refl);
        from = let le = high_key least e.0 high in omega (arith, le, same);
        before = λ other le under. past_none other (e ∷ es) (less_is other e.0 (omega (arith, under, same)), all_more other e.0 (keys_of es) (omega (arith, under, same)) rising.0);
      }
] refl is

pub some_parts : (least key : ℕ) (es : Records) → IsFirst least key es → IsSome (at key es) × (least ≤ key) × ((other : ℕ) → least ≤ other → other < key → at other es ≡ None)
some_parts least key es first = (first.there, first.from, first.before)

pub if_none_from : (found : Option ℕ) (least : ℕ) (es : Records) → found ≡ find (λ k. not (nat_lt k least)) (keys_of es) → IfNone found ((key : ℕ) → least ≤ key → at key es ≡ None)
if_none_from None least es is = none_from least es is
if_none_from (Some key) least es is = tt

pub if_some_from : (found : Option ℕ) (least : ℕ) (es : Records) → Rising es → found ≡ find (λ k. not (nat_lt k least)) (keys_of es)
    → IfSome found (λ key. IsSome (at key es) × (least ≤ key) × ((other : ℕ) → least ≤ other → other < key → at other es ≡ None))
if_some_from None least es rising is = tt
if_some_from (Some key) least es rising is = some_parts least key es (some_from least key es rising is)
