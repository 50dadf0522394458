-- What stands at a path of a node's rows.
use Rattle.std.proofs.Common.{zero, suc, ◌≡◌, ℕ, ◌<◌, ◌≤◌, Bool, true, false, cond, Option, Some, None, List, [], ◌∷◌, ◌++◌, map, refl, sym, ap, ◌∙◌, arith, subst, nat_eq, ⊎_elim}
use Rattle.std.specs.declared.cmp.Ordering.{Ordering}
use Rattle.std.specs.declared.cmp.Ordering.TheVariants.{Less, Equal, Greater}
use Rattle.std.specs.Bool.{Decides}
use Rattle.std.specs.Ordering.{nat_cmp, is_eq}
use Rattle.std.specs.Cmp.Lexicographic.{slice_cmp, nat_list_cmp_total, pointwise_decides}
use Rattle.std.specs.Cmp.{tied_itself}
use Rattle.std.specs.List.{flat_map, AllByRecursion}
use Rattle.std.specs.List.Sorted.{IsStrictlySortedBy}
use Rattle.std.specs.Option.{option_map}
use Rattle.std.specs.BTreeMap.{is_at}
use Rattle.std.proofs.lemmas.Bool.Decides.{same_from_decides, nat_tests, Decides-eqb}
use Rattle.std.proofs.lemmas.Bool.{cases_lt}
use Rattle.std.proofs.lemmas.List.Sums.{sum_by-cons}
use Rattle.std.proofs.lemmas.Map.Lookups.{exact_bytes}
use Rattle.tm_base.specs.Paths.{Names, path_cmp, same_name}
use Rattle.tm_tree.specs.declared.node.Child.{Child}
use Rattle.tm_tree.specs.declared.node.NodeRow.{NodeRow}
use Rattle.tm_graph.specs.Nodes.{Nodes, node, entries_of, names, times, IsGraph, Descends, NamesRise}
use Rattle.tm_graph.specs.Walks.{child_named}
use Rattle.tm_tree.specs.Trees.{at}
use Rattle.tm_graph.specs.Trees.{child_of, and_then, value_at, number_at, number, under, rows_with, rows_to, rows_of}

-- ---- names

pub cmp_decides : (x y : List ℕ) → Decides (is_at (slice_cmp nat_cmp x) y) (y ≡ x)
cmp_decides x y = (λ h. sym (exact_bytes x y (equal (slice_cmp nat_cmp x y) h)), λ e. subst (λ z. is_at (slice_cmp nat_cmp x) z ≡ true) (sym e) (ap is_eq (tied_itself nat_list_cmp_total x)))
  where
    equal : (o : Ordering) → is_eq o ≡ true → o ≡ Equal
    equal Less h = cc
    equal Equal h = refl
    equal Greater h = cc

pub name_is : (x y : List ℕ) → same_name y x ≡ is_at (slice_cmp nat_cmp x) y
name_is x y = same_from_decides (same_name y x) (is_at (slice_cmp nat_cmp x) y) (pointwise_decides Decides-eqb y x) (cmp_decides x y)

-- ---- look-ups

module _ {X : Type 0} where
  abbrev pub or_else : Option X → Option X → Option X
  or_else None b = b
  or_else (Some x) b = Some x

  pub at-append : (t u : List (Names × X)) (p : Names) → at (t ++ u) p ≡ or_else (at t p) (at u p)
  at-append [] u p = refl
  at-append (row ∷ t) u p = elim (is_at (path_cmp p) row.0) as (λ b. cond b (Some row.1) (at (t ++ u) p) ≡ or_else (cond b (Some row.1) (at t p)) (at u p)) [ true ↦ refl | false ↦ at-append t u p ]

  pub at-under_root : (name : List ℕ) (t : List (Names × X)) → at (under name t) [] ≡ None
  at-under_root name [] = refl
  at-under_root name (row ∷ t) = at-under_root name t

  -- beneath an entry of the name o compares to
  by_order : (o : Ordering) (name x : List ℕ) (p : Names) → slice_cmp nat_cmp x name ≡ o → (t : List (Names × X)) → at (under name t) (x ∷ p) ≡ cond (is_eq o) (at t p) None
  by_order Less name x p e [] = refl
  by_order Equal name x p e [] = refl
  by_order Greater name x p e [] = refl
  by_order Less name x p e (row ∷ t) = rw e (by_order Less name x p e t)
  by_order Equal name x p e (row ∷ t) = rw e (ap (cond (is_at (path_cmp p) row.0) (Some row.1)) (by_order Equal name x p e t))
  by_order Greater name x p e (row ∷ t) = rw e (by_order Greater name x p e t)

  pub at-under : (name x : List ℕ) (t : List (Names × X)) (p : Names) → at (under name t) (x ∷ p) ≡ cond (is_at (slice_cmp nat_cmp x) name) (at t p) None
  at-under name x t p = by_order (slice_cmp nat_cmp x name) name x p refl t

-- ---- a folder's children

module _ {X : Type 0} (rows : ℕ → List (Names × X)) where
  abbrev pub of_children : List Child → List (Names × X)
  of_children entries = flat_map (λ child. under child.name (rows child.node)) entries

  none_at_root : (entries : List Child) → at (of_children entries) [] ≡ None
  none_at_root [] = refl
  none_at_root (child ∷ entries) = at-append (under child.name (rows child.node)) (of_children entries) [] ∙ ap (λ o. or_else o (at (of_children entries) [])) (at-under_root child.name (rows child.node)) ∙ none_at_root entries

  -- names that rise above x aren't x
  none_named : (x : List ℕ) (p : Names) (entries : List Child) → AllByRecursion (λ other. slice_cmp nat_cmp x other ≡ Less) (map (λ child. child.name) entries) → at (of_children entries) (x ∷ p) ≡ None
  none_named x p [] h = refl
  none_named x p (child ∷ entries) h =
      at-append (under child.name (rows child.node)) (of_children entries) (x ∷ p)
      ∙ ap (λ o. or_else o (at (of_children entries) (x ∷ p))) (at-under child.name x (rows child.node) p ∙ ap (λ o. cond (is_eq o) (at (rows child.node) p) None) h.0)
      ∙ none_named x p entries h.1

  at-children : (find : ℕ → Option X) (x : List ℕ) (p : Names) (entries : List Child) → NamesRise entries → AllByRecursion (λ child. at (rows child.node) p ≡ find child.node) entries
      → at (of_children entries) (x ∷ p) ≡ and_then (child_named entries x) find
  unfolding IsStrictlySortedBy
  at-children find x p [] rise is = refl
  at-children find x p (child ∷ entries) rise is =
      at-append (under child.name (rows child.node)) (of_children entries) (x ∷ p)
      ∙ ap (λ o. or_else o (at (of_children entries) (x ∷ p))) (at-under child.name x (rows child.node) p)
      ∙ by_name (same_name child.name x) (sym (name_is x child.name)) (at-children find x p entries rise.1 is.1)
    where
      or_none : (o : Option X) → or_else o None ≡ o
      or_none None = refl
      or_none (Some m) = refl

      by_name : (b : Bool) → is_at (slice_cmp nat_cmp x) child.name ≡ b → at (of_children entries) (x ∷ p) ≡ and_then (child_named entries x) find
          → or_else (cond (is_at (slice_cmp nat_cmp x) child.name) (at (rows child.node) p) None) (at (of_children entries) (x ∷ p)) ≡ and_then (cond b (Some child.node) (child_named entries x)) find
      by_name true e rest =
          let same : child.name ≡ x = (cmp_decides x child.name).0 e in
          let above = subst (λ (y : List ℕ). AllByRecursion (λ other. slice_cmp nat_cmp y other ≡ Less) (map (λ child. child.name) entries)) same rise.0 in
          ap (λ b. or_else (cond b (at (rows child.node) p) None) (at (of_children entries) (x ∷ p))) e
          ∙ ap (or_else (at (rows child.node) p)) (none_named x p entries above) ∙ or_none (at (rows child.node) p) ∙ is.0
      by_name false e rest = ap (λ b. or_else (cond b (at (rows child.node) p) None) (at (of_children entries) (x ∷ p))) e ∙ rest

-- ---- children stand lower

pub lower : (n : ℕ) (entries : List Child) → ((q : ℕ) → n ≤ q → times q entries ≡ 0) → AllByRecursion (λ child. child.node < n) entries
lower n [] h = tt
lower n (child ∷ entries) h = (
  ⊎_elim (λ l. l) (λ l. absurd (once (h child.node l))) (cases_lt child.node n),
  lower n entries (λ q l. omega (arith, h q l, sum_by-cons (λ (c : Child). cond (nat_eq c.node q) 1 0) child entries)),
)
  where
    once : times child.node (child ∷ entries) ≡ 0 → ⊥
    once e = let s = sum_by-cons (λ (c : Child). cond (nat_eq c.node child.node) 1 0) child entries in grind (arith, nat_tests, s, e)

pub descends : (g : Nodes) → IsGraph g → Descends g
descends g is = record { rises = is.rises; falls = is.falls }

module _ (g : Nodes) (is : Descends g) where
  each : {P Q : Child → Type 0} (entries : List Child) → ((child : Child) → P child → Q child) → AllByRecursion P entries → AllByRecursion Q entries
  each [] f h = tt
  each (child ∷ entries) f h = (f child h.0, each entries f h.1)

  module _ {X : Type 0} (v : ℕ → NodeRow → X) where
    pub place_at : (depth n : ℕ) (p : Names) → n < depth → at (rows_to v depth g n) p ≡ value_at v g n p
    place_at zero n p l = absurd (omega arith)
    place_at (suc depth) n [] l =
        elim (node g n) as (λ o. at (rows_with v o n (rows_to v depth g)) [] ≡ option_map (v n) o) [ None ↦ refl | Some row ↦ refl ]
    place_at (suc depth) n (x ∷ p) l =
        elim (node g n) as (λ o. node g n ≡ o → at (rows_with v o n (rows_to v depth g)) (x ∷ p) ≡ and_then (child_of o x) (λ m. value_at v g m p)) [
          | None ↦ λ e. refl
          | Some row ↦ λ e. at-children (rows_to v depth g) (λ m. value_at v g m p) x p (entries_of row) (is.rises n row e)
              (each (entries_of row) (λ child below. place_at depth child.node p (omega arith)) (lower n (entries_of row) (λ q le. sym (ap (names q) e) ∙ is.falls n q le)))
        ] refl

    -- what the tree has at a path is what the way down comes to
    pub rows_at : (n : ℕ) (p : Names) → at (rows_of v g n) p ≡ value_at v g n p
    rows_at n p = place_at (suc n) n p (omega arith)

-- what v reads there is what it reads of the node of the number there
pub value_is : {X : Type 0} (v : ℕ → NodeRow → X) (g : Nodes) (n : ℕ) (p : Names) → value_at v g n p ≡ and_then (number_at g n p) (λ m. option_map (v m) (node g m))
value_is v g n [] = elim (node g n) as (λ o. node g n ≡ o → option_map (v n) o ≡ and_then (option_map (number n) o) (λ m. option_map (v m) (node g m))) [ None ↦ λ e. refl | Some row ↦ λ e. sym (ap (option_map (v n)) e) ] refl
value_is v g n (x ∷ p) = elim (child_of (node g n) x) as (λ o. and_then o (λ m. value_at v g m p) ≡ and_then (and_then o (λ m. number_at g m p)) (λ m. option_map (v m) (node g m))) [ None ↦ refl | Some m ↦ value_is v g m p ]
