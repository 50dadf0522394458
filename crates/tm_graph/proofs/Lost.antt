-- links lost.
use Rattle.std.proofs.Common.{◌≡◌, ℕ, ◌+◌, ◌≤◌, ◌<◌, true, false, Option, Some, None, List, [], ◌∷◌, ◌++◌, refl, sym, ap, ◌∙◌, arith, nat_eq, sum_by, ◌==◌, ◌||◌, if◌then◌else◌, inl, inr, ◌⊎◌, ◌≢◌, subst, ⊎_elim}
use Rattle.std.specs.declared.cmp.Ordering.TheVariants.{Less}
use Rattle.std.specs.Ordering.{nat_cmp}
use Rattle.std.specs.List.{AllByRecursion, IsDistinct}
use Rattle.std.specs.List.Sorted.{IsStrictlySortedBy}
use Rattle.std.specs.Set.{is_member}
use Rattle.std.proofs.lemmas.Bool.{cases_eq, cases_lt}
use Rattle.std.proofs.lemmas.Bool.Decides.{nat_tests}
use Rattle.std.proofs.lemmas.Grind.{common_steps}
use Rattle.tm_tree.specs.declared.node.NodeRow.{NodeRow}
use Rattle.tm_graph.specs.Nodes.{Nodes, node, names, named, row_names, links_of, root_links, IsGraph, times, entries_of}
use Rattle.tm_graph.specs.Losing.{falling, lost, spends}
use Rattle.tm_graph.proofs.Taken.{sum-without_all, weight}

pub lost_push : (g : Nodes) (root : ℕ) (gone : List ℕ) (n q : ℕ) → lost g root (gone ++ n ∷ []) q ≡ lost g root gone q + names q (node g n)
lost_push g root gone n q = grind (arith, common_steps)

pub member_push : (gone : List ℕ) (n q : ℕ) → is_member nat_eq (gone ++ n ∷ []) q ≡ (is_member nat_eq gone q || nat_eq q n)
member_push [] n q = elim (nat_eq q n) as (λ b. (b || false) ≡ b) [ true ↦ refl | false ↦ refl ]
member_push (x ∷ gone) n q = elim (nat_eq q x) as (λ b. (b || is_member nat_eq (gone ++ n ∷ []) q) ≡ ((b || is_member nat_eq gone q) || nat_eq q n)) [ true ↦ refl | false ↦ member_push gone n q ]

-- one more below all
all_push : (P : ℕ → Type 0) (xs : List ℕ) (y : ℕ) → AllByRecursion P xs → P y → AllByRecursion P (xs ++ y ∷ [])
all_push P [] y h p = (p, tt)
all_push P (x ∷ xs) y h p = (h.0, all_push P xs y h.1 p)

pub falling_push : (xs : List ℕ) (y : ℕ) → IsStrictlySortedBy falling xs → ((q : ℕ) → q ≤ y → is_member nat_eq xs q ≡ false) → IsStrictlySortedBy falling (xs ++ y ∷ [])
unfolding IsStrictlySortedBy
falling_push [] y s h = (tt, tt)
falling_push (x ∷ xs) y s h = (
  all_push _ xs y s.0 (lower x xs (h x)),
  falling_push xs y s.1 (λ q l. past x xs q (h q l)),
)
  where
    lower : (x : ℕ) (xs : List ℕ) → (x ≤ y → (nat_eq x x || is_member nat_eq xs x) ≡ false) → nat_cmp y x ≡ Less
    lower x xs h = grind (arith, nat_tests)

    past : (x : ℕ) (xs : List ℕ) (q : ℕ) → (nat_eq q x || is_member nat_eq xs q) ≡ false → is_member nat_eq xs q ≡ false
    past x xs q h = grind arith

pub distinct_falling : (xs : List ℕ) → IsStrictlySortedBy falling xs → IsDistinct nat_eq xs
unfolding IsStrictlySortedBy IsDistinct
distinct_falling [] s = tt
distinct_falling (x ∷ xs) s = (apart x xs s.0, distinct_falling xs s.1)
  where
    apart : (x : ℕ) (xs : List ℕ) → AllByRecursion (λ y. falling x y ≡ Less) xs → AllByRecursion (λ y. nat_eq x y ≡ false) xs
    apart x [] h = tt
    apart x (y ∷ xs) h = (apart_by x y h.0, apart x xs h.1)
      where
        apart_by : (x y : ℕ) → nat_cmp y x ≡ Less → nat_eq x y ≡ false
        apart_by x y h = grind (arith, nat_tests)

-- what q loses, by whether it is the root
pub lost_root : (g : Nodes) (root : ℕ) (gone : List ℕ) (q : ℕ) → q ≡ root → lost g root gone q ≡ 1 + sum_by (λ m. names q (node g m)) gone
lost_root g root gone q e = grind (arith, nat_tests)

pub lost_other : (g : Nodes) (root : ℕ) (gone : List ℕ) (q : ℕ) → q ≢ root → lost g root gone q ≡ sum_by (λ m. names q (node g m)) gone
lost_other g root gone q ne = grind (arith, nat_tests)

-- no node loses more links than it has
pub lost-le : (g : Nodes) (root : ℕ) (gone : List ℕ) (q : ℕ) → IsGraph g → 0 < root_links g root → IsStrictlySortedBy falling gone → lost g root gone q ≤ links_of g q
lost-le g root gone q is linked falls =
    let some : sum_by (weight (row_names q) g) gone ≤ named g q = omega (arith, sum-without_all (row_names q) gone g is.in_order (distinct_falling gone falls)) in
    by_root some
  where
    by_root : sum_by (weight (row_names q) g) gone ≤ named g q → lost g root gone q ≤ links_of g q
    by_root some = ⊎_elim
        (λ e. let more : named g q < links_of g q = subst (λ (k : ℕ). named g k < links_of g k) (sym e) (omega arith) in omega (arith, lost_root g root gone q e, some))
        (λ ne. omega (arith, lost_other g root gone q ne, is.counted q, some)) (cases_eq q root)

pub lost_none : (g : Nodes) (root : ℕ) (gone : List ℕ) (q : ℕ) → gone ≡ [] → lost g root gone q ≡ (if q == root then 1 else 0)
lost_none g root gone q e = rw e (grind arith)

pub spends_nothing : (count : ℕ) (o : Option NodeRow) → count ≡ 0 → spends count o ≡ false
spends_nothing count None e = refl
spends_nothing count (Some row) e = rw e refl

pub names_at : (g : Nodes) (n q : ℕ) (row : NodeRow) → node g n ≡ Some row → names q (node g n) ≡ times q (entries_of row)
names_at g n q row e = ap (names q) e

pub falling_start : (xs : List ℕ) → xs ≡ [] → IsStrictlySortedBy falling xs
unfolding IsStrictlySortedBy
falling_start xs e = rw e tt

-- after n, which goes, the walk has come to n
pub spent_on : (g : Nodes) (root : ℕ) (gone : List ℕ) (n above q : ℕ) → IsGraph g → n < above → n ≤ q
    → ((q : ℕ) → q < above → is_member nat_eq gone q ≡ false)
    → (above ≤ q → is_member nat_eq gone q ≡ spends (lost g root gone q) (node g q))
    → (n < q → q < above → lost g root gone q ≡ 0)
    → spends (lost g root gone n) (node g n) ≡ true
    → is_member nat_eq (gone ++ n ∷ []) q ≡ spends (lost g root (gone ++ n ∷ []) q) (node g q)
spent_on g root gone n above q is lower le below old none spent =
    member_push gone n q ∙ by_place (cases_eq q n) ∙ sym (ap (λ count. spends count (node g q)) stays)
  where
    stays : lost g root (gone ++ n ∷ []) q ≡ lost g root gone q
    stays = omega (arith, lost_push g root gone n q, is.falls n q le)

    further : n < q → is_member nat_eq gone q ≡ spends (lost g root gone q) (node g q)
    further more = ⊎_elim
        (λ inside. below q inside ∙ sym (spends_nothing (lost g root gone q) (node g q) (none more inside)))
        (λ outside. old outside) (cases_lt q above)

    by_place : (q ≡ n) ⊎ (q ≢ n) → (is_member nat_eq gone q || nat_eq q n) ≡ spends (lost g root gone q) (node g q)
    by_place (inl e) = let m = below q (omega arith) in let s : spends (lost g root gone q) (node g q) ≡ true = subst (λ (k : ℕ). spends (lost g root gone k) (node g k) ≡ true) (sym e) spent in grind (arith, nat_tests, m, s)
    by_place (inr ne) = let m = further (omega arith) in grind (arith, nat_tests, m)

pub start_spent : (g : Nodes) (root : ℕ) (gone : List ℕ) (q : ℕ) → gone ≡ [] → root + 1 ≤ q → is_member nat_eq gone q ≡ spends (lost g root gone q) (node g q)
start_spent g root gone q e h =
    let none : lost g root gone q ≡ 0 = let l = lost_none g root gone q e in grind (arith, nat_tests, l) in
    ap (λ (xs : List ℕ). is_member nat_eq xs q) e ∙ sym (spends_nothing (lost g root gone q) (node g q) none)

pub not_here : (gone : List ℕ) (n q : ℕ) → is_member nat_eq gone q ≡ false → q < n → is_member nat_eq (gone ++ n ∷ []) q ≡ false
not_here gone n q m l = member_push gone n q ∙ grind (arith, nat_tests, m)
