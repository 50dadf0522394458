-- Whether a new folder may have its entries.
use Rattle.std.proofs.Common.{◌≡◌, ℕ, ◌+◌, ◌<◌, ◌≤◌, ◌^◌, Bool, true, false, cond, ◌&&◌, ◌↔◌, ◌==◌, IsTrue, Option, Some, None, is_some, List, [], ◌∷◌, length, get_or, map, refl, sym, ap, ◌∙◌, arith, subst, ⊎_elim}
use Rattle.std.specs.declared.cmp.Ordering.{Ordering}
use Rattle.std.specs.declared.cmp.Ordering.TheVariants.{Less, Equal, Greater}
use Rattle.std.specs.Ordering.{is_lt}
use Rattle.std.specs.Option.{option_map, unwrap_or}
use Rattle.std.specs.Cmp.Lexicographic.{nat_list_cmp_total}
use Rattle.std.specs.List.{list_all, IsAllAdjacentAnswer}
use Rattle.std.specs.List.Sorted.{IsStrictlySortedBy}
use Rattle.std.proofs.lemmas.Map.Keys.{sorted_from_all_adjacent}
use Rattle.std.proofs.lemmas.Bool.{cases_eq}
use Rattle.std.proofs.lemmas.Bool.Decides.{nat_tests}
use Rattle.std.proofs.lemmas.List.Sums.{sum_by-cons}
use Rattle.std.proofs.Math.ListN.{get_or-map, length-map}
use Rattle.tm_base.proofs.Facts.{true_both}
use Rattle.tm_base.specs.Paths.{name_cmp}
use Rattle.tm_tree.specs.declared.node.Child.{Child}
use Rattle.tm_tree.specs.declared.node.NodeRow.{NodeRow}
use Rattle.tm_graph.specs.Nodes.{Nodes, NamesRise, MayHold, node, links_of, times, has_room}
use Rattle.tm_graph.proofs.ChildLemmas.{rises}

-- ---- names

rise_from_adjacent : (es : List Child) → ((k : ℕ) (d : Child) → k + 1 < length es → name_cmp (get_or es k d).name (get_or es (k + 1) d).name ≡ Less) → NamesRise es
unfolding IsStrictlySortedBy
rise_from_adjacent [] h = tt
rise_from_adjacent (child ∷ es) h = sorted_from_all_adjacent nat_list_cmp_total (map (λ c. c.name) (child ∷ es)) child.name
    (λ k l. let at = h k child (rw length-map at l) in
    rw (get_or-map (λ (c : Child). c.name) (child ∷ es) k child, get_or-map (λ (c : Child). c.name) (child ∷ es) (k + 1) child) at)

is_less : (r : Ordering) → is_lt r ≡ true → r ≡ Less
is_less Less e = refl
is_less Equal e = cc
is_less Greater e = cc

-- names rise exactly where each is less than the next
pub rises_by_pairs : (es : List Child) (b : Bool) → IsAllAdjacentAnswer (λ x y r. r ≡ is_lt (name_cmp x.name y.name)) es b → IsTrue b ↔ NamesRise es
rises_by_pairs es true h = (λ t. rise_from_adjacent es (λ k d l. is_less _ (sym (h k d l))), λ r. refl)
rises_by_pairs [] false h = absurd (omega (arith, h.1))
rises_by_pairs (child ∷ es) false h = (λ t. absurd (cc t), λ r. let low : h.0 < h.0 + 1 = omega arith in h.2 child ∙ ap is_lt (rises (child ∷ es) h.0 (h.0 + 1) child r low h.1))

-- ---- room

abbrev links_in : Option NodeRow → ℕ
links_in o = unwrap_or (option_map (λ row. row.links) o) 0

room_tells : (count : ℕ) (o : Option NodeRow) → has_room count o ≡ true → (is_some o ≡ true) × (links_in o + count ≤ 2 ^ 62)
room_tells count None e = absurd (cc e)
room_tells count (Some row) e = (refl, grind (arith, nat_tests, e))

room_there : (count : ℕ) (o : Option NodeRow) → is_some o ≡ true → links_in o + count ≤ 2 ^ 62 → has_room count o ≡ true
room_there count None t l = absurd (cc t)
room_there count (Some row) t l = grind (arith, nat_tests, l)

times-cons : (q : ℕ) (child : Child) (es : List Child) → times q (child ∷ es) ≡ cond (child.node == q) 1 0 + times q es
times-cons q child es = sum_by-cons (λ (c : Child). cond (c.node == q) 1 0) child es

-- each of the entries has room exactly where each node that they name has
all_have : (g : Nodes) (count : ℕ → ℕ) (es : List Child) → list_all (λ child. has_room (count child.node) (node g child.node)) es ≡ true → (q : ℕ) → 0 < times q es → has_room (count q) (node g q) ≡ true
all_have g count [] e q h = absurd (omega (arith, h))
all_have g count (child ∷ es) e q h = ⊎_elim
    (λ same. subst (λ k. has_room (count k) (node g k) ≡ true) same (first _ _ e))
    (λ ne. all_have g count es (second _ _ e) q (further ne (times-cons q child es))) (cases_eq child.node q)
  where
    first : (a b : Bool) → (a && b) ≡ true → a ≡ true
    first true b e = refl
    first false b e = e

    second : (a b : Bool) → (a && b) ≡ true → b ≡ true
    second true b e = e
    second false b e = cc

    further : (child.node ≡ q → ⊥) → times q (child ∷ es) ≡ cond (child.node == q) 1 0 + times q es → 0 < times q es
    further ne e = let t : (child.node == q) ≡ false = grind (arith, nat_tests) in let none : ◌≡◌ {A = ℕ} (cond (child.node == q) 1 0) 0 = ap (λ b. cond b 1 0) t in omega (arith, e, none, h)

each_has : (g : Nodes) (count : ℕ → ℕ) (es : List Child) → ((q : ℕ) → 0 < times q es → has_room (count q) (node g q) ≡ true) → list_all (λ child. has_room (count child.node) (node g child.node)) es ≡ true
each_has g count [] h = refl
each_has g count (child ∷ es) h =
    let rest = each_has g count es (λ q l. h q (omega (arith, l, times-cons q child es))) in
    true_both _ _ (h child.node (here (times-cons child.node child es))) rest
  where
    here : times child.node (child ∷ es) ≡ cond (child.node == child.node) 1 0 + times child.node es → 0 < times child.node (child ∷ es)
    here e = let t : (child.node == child.node) ≡ true = grind (arith, nat_tests) in let one : ◌≡◌ {A = ℕ} (cond (child.node == child.node) 1 0) 1 = ap (λ b. cond b 1 0) t in omega (arith, e, one)

-- a folder may have entries whose names rise exactly where each of them has room
pub holds_by_room : (g : Nodes) (count : ℕ → ℕ) (es : List Child) (b : Bool) → NamesRise es → ((q : ℕ) → count q ≡ times q es) → b ≡ list_all (λ child. has_room (count child.node) (node g child.node)) es → IsTrue b ↔ MayHold g es
holds_by_room g count es b rise counts is = (
  λ t. record {
    rises = rise;
    there = λ q h. (tells t q h).0;
    few = λ q h. omega (arith, (tells t q h).1, counts q);
  },
  λ may. is ∙ each_has g count es (λ q h. room_there (count q) (node g q) (may.there q h) (omega (arith, may.few q h, counts q))),
)
  where
    tells : IsTrue b → (q : ℕ) → 0 < times q es → (is_some (node g q) ≡ true) × (links_of g q + count q ≤ 2 ^ 62)
    tells t q h = room_tells (count q) (node g q) (all_have g count es (sym is ∙ t) q h)
