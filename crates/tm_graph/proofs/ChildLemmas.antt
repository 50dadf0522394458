-- A search by halves finds the entry of a name.
use Rattle.std.proofs.Common.{zero, suc, ◌≡◌, ℕ, ◌+◌, ◌<◌, Some, None, List, [], ◌∷◌, length, get_or, map, refl, sym, ap, ◌∙◌, arith, subst, ⊎_elim}
use Rattle.std.specs.declared.cmp.Ordering.TheVariants.{Less, Equal, Greater}
use Rattle.std.specs.Ordering.{nat_cmp, ordering_reverse, is_lt, ordering_index, eq_by_cmp}
use Rattle.std.specs.Cmp.Rules.{comparing}
use Rattle.std.specs.Cmp.Lexicographic.{lists_ties, nat_list_cmp_total}
use Rattle.std.specs.FinMap.{slice_cmp-IsAntisymmetric, nat_cmp-IsAntisymmetric}
use Rattle.std.specs.List.{AllByRecursion}
use Rattle.std.specs.List.Sorted.{IsStrictlySortedBy, IsSortedBy, IsNonDecreasingBy, IsPartitionPoint}
use Rattle.std.proofs.lemmas.List.Sorted.{searchable_from_sorted}
use Rattle.std.proofs.lemmas.Bool.{cases_lt}
use Rattle.std.proofs.Common.{rules}
use Rattle.tm_base.specs.Paths.{name_cmp, same_name}
use Rattle.tm_tree.specs.declared.node.Child.{Child}
use Rattle.tm_graph.specs.Nodes.{NamesRise}
use Rattle.tm_graph.specs.Walks.{child_named}

-- names that tie are the same
pub name_ties : (a b : List ℕ) → same_name a b ≡ eq_by_cmp name_cmp a b
name_ties = lists_ties nat_cmp (search (comparing, rules))

pub name_is : (a b : List ℕ) → name_cmp a b ≡ Equal → a ≡ b
name_is a b e = slice_cmp-IsAntisymmetric nat_cmp-IsAntisymmetric a b e

-- names that rise, case by case
abbrev pub RiseEach : List Child → Type 0
RiseEach [] = Unit {0}
RiseEach (child ∷ es) = AllByRecursion (λ other. name_cmp child.name other.name ≡ Less) es × RiseEach es

pub rise_each : (es : List Child) → NamesRise es → RiseEach es
unfolding IsStrictlySortedBy
rise_each [] h = tt
rise_each (child ∷ es) h = (each es h.0, rise_each es h.1)
  where
    each : (es : List Child) → AllByRecursion (λ name. name_cmp child.name name ≡ Less) (map (λ c. c.name) es) → AllByRecursion (λ other. name_cmp child.name other.name ≡ Less) es
    each [] h = tt
    each (c ∷ es) h = (h.0, each es h.1)

-- entries further on have greater names
pub rises : (es : List Child) (i j : ℕ) (d : Child) → NamesRise es → i < j → j < length es → name_cmp (get_or es i d).name (get_or es j d).name ≡ Less
unfolding IsStrictlySortedBy
rises [] i j d h l m = absurd (omega arith)
rises (child ∷ es) i zero d h l m = absurd (omega arith)
rises (child ∷ es) zero (suc j) d h l m = at es j h.0 (omega arith)
  where
    at : (es : List Child) (j : ℕ) → AllByRecursion (λ name. name_cmp child.name name ≡ Less) (map (λ c. c.name) es) → j < length es → name_cmp child.name (get_or es j d).name ≡ Less
    at [] j h m = absurd (omega arith)
    at (c ∷ es) zero h m = h.0
    at (c ∷ es) (suc j) h m = at es j h.1 (omega arith)
rises (child ∷ es) (suc i) (suc j) d h l m = rises es i j d h.1 (omega arith) (omega arith)

-- so a search by name may go by halves
pub searchable : (es : List Child) (name : List ℕ) → NamesRise es → IsNonDecreasingBy (λ child. ordering_index (name_cmp child.name name)) es
searchable es name h = searchable_from_sorted nat_list_cmp_total (λ child. child.name) es name sorted
  where
    sorted : IsSortedBy (λ a b. is_lt (name_cmp a.name b.name)) es
    sorted k d l m =
        let low : k < k + 1 = omega arith in
        let less = rises es k (k + 1) d h low m in
        ap is_lt (nat_list_cmp_total.antisymm (get_or es (k + 1) d).name (get_or es k d).name ∙ ap ordering_reverse less)

-- an entry of the name is the one that is found
pub child_found : (es : List Child) (name : List ℕ) (i : ℕ) (d : Child) → NamesRise es → i < length es → name_cmp (get_or es i d).name name ≡ Equal → child_named es name ≡ Some (get_or es i d).node
unfolding IsStrictlySortedBy
child_found [] name i d h l e = absurd (omega arith)
child_found (child ∷ es) name zero d h l e = let t = name_ties child.name name in rw (t, e) refl
child_found (child ∷ es) name (suc i) d h l e =
    let low : 0 < suc i = omega arith in
    let before = rises (child ∷ es) zero (suc i) d h low l in
    let less : name_cmp child.name name ≡ Less = subst (λ n. name_cmp child.name n ≡ Less) (name_is _ _ e) before in
    rw (name_ties child.name name, less) (child_found es name i d h.1 (omega arith) e)

-- where no entry has the name, none is found
child_absent : (es : List Child) (name : List ℕ) → ((i : ℕ) (d : Child) → i < length es → name_cmp (get_or es i d).name name ≡ Equal → ⊥) → child_named es name ≡ None
child_absent [] name h = refl
child_absent (child ∷ es) name h =
    let rest = child_absent es name (λ i d l. h (suc i) d (omega arith)) in
    elim (name_cmp child.name name) as (λ r. name_cmp child.name name ≡ r → child_named (child ∷ es) name ≡ None) [
      | Less ↦ λ e. rw (name_ties child.name name, e) rest
      | Equal ↦ λ e. absurd (h zero child (omega arith) e)
      | Greater ↦ λ e. rw (name_ties child.name name, e) rest
    ] refl

-- so it is where the names before a place are less and those from there on greater
pub child_between : (es : List Child) (name : List ℕ) (place : ℕ) → IsPartitionPoint (λ child. name_cmp child.name name ≡ Less) (λ child. name_cmp child.name name ≡ Greater) es place → child_named es name ≡ None
child_between es name place part = child_absent es name (λ i d l e. ⊎_elim
    (λ before. let less = part.0 i d (omega arith) before in apart _ (sym less ∙ e))
    (λ after. let greater = part.1 i d after l in apart_too _ (sym greater ∙ e)) (cases_lt i place))
  where
    apart : (A : Type 0) → Less ≡ Equal → A
    apart A e = cc

    apart_too : (A : Type 0) → Greater ≡ Equal → A
    apart_too A e = cc
