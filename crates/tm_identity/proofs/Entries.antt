-- The entries of a folder's node are what stands in the folder.
use Rattle.std.proofs.Common.{zero, suc, ◌≡◌, ℕ, ◌-◌, ◌<◌, ◌&&◌, Bool, true, false, not, cond, Option, Some, None, is_some, List, [], ◌∷◌, ◌++◌, length, take, filter, map, refl, sym, ap, ◌∙◌, arith, subst, append-nil}
use Rattle.std.specs.Prelude.{slice_index_or}
use Rattle.std.specs.declared.cmp.Ordering.TheVariants.{Less}
use Rattle.std.specs.Ordering.{nat_cmp, is_eq}
use Rattle.std.specs.Cmp.Lexicographic.{slice_cmp}
use Rattle.std.specs.List.{AllByRecursion, filter_map, cons_option}
use Rattle.std.specs.List.Sorted.{IsStrictlySortedBy}
use Rattle.std.specs.Option.{option_map}
use Rattle.std.proofs.lemmas.Bool.Decides.{nat_tests}
use Rattle.std.proofs.lemmas.List.{map-append}
use Rattle.std.proofs.lemmas.List.Elements.{filter-append}
use Rattle.tm_base.specs.Paths.{Names, is_root, parent_of, same_name, same_path}
use Rattle.tm_tree.specs.declared.node.Child.{Child}
use Rattle.tm_tree.specs.declared.node.NodeRow.{NodeRow}
use Rattle.tm_tree.specs.Trees.{last_of, is_child, children}
use Rattle.tm_graph.specs.Nodes.{Nodes, node, entries_of, names, IsGraph, NamesRise}
use Rattle.tm_graph.specs.Walks.{child_named}
use Rattle.tm_graph.specs.Trees.{child_of, and_then, number_at, number, under, rows_with, rows_to, rows_of}
use Rattle.tm_graph.proofs.PlaceAt.{of_children, name_is, cmp_decides, lower}
use Rattle.tm_graph.proofs.WaysFound.{child_there}
use Rattle.tm_identity.specs.Entries.{EntriesStand}
use Rattle.tm_identity.proofs.Others as others

-- ---- paths beneath a name

whole : (y : List ℕ) (q : Names) → is_root (y ∷ q) ≡ false
whole y q = grind (arith, nat_tests)

longer : (x y : List ℕ) (q : Names) → length (x ∷ y ∷ q) - 1 ≡ suc (length (y ∷ q) - 1)
longer x y q = omega arith

child-under : (name x : List ℕ) (p q : Names) → is_child (x ∷ p) (name ∷ q) ≡ (same_name name x && is_child p q)
child-under name x p [] = elim (same_name name x) as (λ b. false ≡ (b && false)) [ true ↦ refl | false ↦ refl ]
child-under name x p (y ∷ q) =
    (λ i. not (whole name (y ∷ q) i) && same_path (take (longer name y q i) (name ∷ y ∷ q)) (x ∷ p))
    ∙ (λ i. same_name name x && (not (sym (whole y q) i) && same_path (parent_of (y ∷ q)) p))

last-under : (name : List ℕ) (p q : Names) → is_child p q ≡ true → last_of (name ∷ q) ≡ last_of q
last-under name p [] h = absurd (cc h)
last-under name p (y ∷ q) h = λ i. slice_index_or (name ∷ y ∷ q) (longer name y q i) []

root-under : (name : List ℕ) (q : Names) → is_child [] (name ∷ q) ≡ is_root q
root-under name [] = refl
root-under name (y ∷ q) = (λ i. not (whole name (y ∷ q) i) && same_path (take (longer name y q i) (name ∷ y ∷ q)) []) ∙ sym (whole y q)

root_last : (name : List ℕ) (q : Names) → is_root q ≡ true → last_of (name ∷ q) ≡ name
root_last name [] h = refl
root_last name (y ∷ q) h = absurd (let bad : true ≡ false = sym h ∙ whole y q in cc)

-- ---- what is seen in a folder

cons-one : {Y : Type 0} (o : Option Y) (ys : List Y) → cons_option o [] ++ ys ≡ cons_option o ys
cons-one None ys = refl
cons-one (Some y) ys = refl

-- the rows of the root itself
abbrev roots : {X : Type 0} → List (Names × X) → List (Names × X)
roots t = filter (λ row. is_root row.0) t

-- h looks at names and at what has them
module _ {X Y : Type 0} (h : List ℕ → X → Y) where
  abbrev pub seen_in : List (Names × X) → Names → List Y
  seen_in t p = map (λ row. h (last_of row.0) row.1) (children t p)

  seen-append : (t u : List (Names × X)) (p : Names) → seen_in (t ++ u) p ≡ seen_in t p ++ seen_in u p
  seen-append t u p = ap (map (λ row. h (last_of row.0) row.1)) (filter-append (λ row. is_child p row.0) t u) ∙ map-append (λ row. h (last_of row.0) row.1) (children t p) (children u p)

  seen-under : (name x : List ℕ) (p : Names) (b : Bool) → same_name name x ≡ b → (t : List (Names × X)) → seen_in (under name t) (x ∷ p) ≡ cond b (seen_in t p) []
  seen-under name x p true e [] = refl
  seen-under name x p false e [] = refl
  seen-under name x p true e (row ∷ t) =
      ap (λ b. map (λ row. h (last_of row.0) row.1) (cond b ((name ∷ row.0, row.1) ∷ children (under name t) (x ∷ p)) (children (under name t) (x ∷ p)))) (child-under name x p row.0 ∙ ap (λ b. b && is_child p row.0) e)
      ∙ by_child (is_child p row.0) refl (seen-under name x p true e t)
    where
      by_child : (b : Bool) → is_child p row.0 ≡ b → seen_in (under name t) (x ∷ p) ≡ seen_in t p
          → map (λ row. h (last_of row.0) row.1) (cond b ((name ∷ row.0, row.1) ∷ children (under name t) (x ∷ p)) (children (under name t) (x ∷ p))) ≡ map (λ row. h (last_of row.0) row.1) (cond b (row ∷ children t p) (children t p))
      by_child true c rest = λ i. h (last-under name p row.0 c i) row.1 ∷ rest i
      by_child false c rest = rest
  seen-under name x p false e (row ∷ t) =
      ap (λ b. map (λ row. h (last_of row.0) row.1) (cond b ((name ∷ row.0, row.1) ∷ children (under name t) (x ∷ p)) (children (under name t) (x ∷ p)))) (child-under name x p row.0 ∙ ap (λ b. b && is_child p row.0) e)
      ∙ seen-under name x p false e t

  -- right beneath the root
  seen-root : (name : List ℕ) (t : List (Names × X)) → seen_in (under name t) [] ≡ map (λ row. h name row.1) (roots t)
  seen-root name [] = refl
  seen-root name (row ∷ t) =
      ap (λ b. map (λ row. h (last_of row.0) row.1) (cond b ((name ∷ row.0, row.1) ∷ children (under name t) []) (children (under name t) []))) (root-under name row.0)
      ∙ by_root (is_root row.0) refl (seen-root name t)
    where
      by_root : (b : Bool) → is_root row.0 ≡ b → seen_in (under name t) [] ≡ map (λ row. h name row.1) (roots t)
          → map (λ row. h (last_of row.0) row.1) (cond b ((name ∷ row.0, row.1) ∷ children (under name t) []) (children (under name t) [])) ≡ map (λ row. h name row.1) (cond b (row ∷ roots t) (roots t))
      by_root true c rest = λ i. h (root_last name row.0 c i) row.1 ∷ rest i
      by_root false c rest = rest

  -- ---- a folder's children

  module _ (rows : ℕ → List (Names × X)) where
    -- each child has one root, or none
    root_seen : (want : Child → Option Y) (es : List Child) → AllByRecursion (λ c. map (λ row. h c.name row.1) (roots (rows c.node)) ≡ cons_option (want c) []) es → seen_in (of_children rows es) [] ≡ filter_map want es
    root_seen want [] each = refl
    root_seen want (c ∷ es) each =
        seen-append (under c.name (rows c.node)) (of_children rows es) []
        ∙ (λ i. (seen-root c.name (rows c.node) ∙ each.0) i ++ root_seen want es each.1 i)
        ∙ cons-one (want c) (filter_map want es)

    seen_none : (x : List ℕ) (p : Names) (es : List Child) → AllByRecursion (λ other. slice_cmp nat_cmp x other ≡ Less) (map (λ child. child.name) es) → seen_in (of_children rows es) (x ∷ p) ≡ []
    seen_none x p [] above = refl
    seen_none x p (c ∷ es) above =
        seen-append (under c.name (rows c.node)) (of_children rows es) (x ∷ p)
        ∙ (λ i. seen-under c.name x p false (name_is x c.name ∙ ap is_eq above.0) (rows c.node) i ++ seen_none x p es above.1 i)

    seen-child : (x : List ℕ) (p : Names) (k : ℕ) (es : List Child) → NamesRise es → child_named es x ≡ Some k → seen_in (of_children rows es) (x ∷ p) ≡ seen_in (rows k) p
    unfolding IsStrictlySortedBy
    seen-child x p k [] rise is = absurd (cc is)
    seen-child x p k (c ∷ es) rise is =
        seen-append (under c.name (rows c.node)) (of_children rows es) (x ∷ p) ∙ by_name (same_name c.name x) refl is (seen-child x p k es rise.1)
      where
        by_name : (b : Bool) → same_name c.name x ≡ b → cond b (Some c.node) (child_named es x) ≡ Some k → (child_named es x ≡ Some k → seen_in (of_children rows es) (x ∷ p) ≡ seen_in (rows k) p)
            → seen_in (under c.name (rows c.node)) (x ∷ p) ++ seen_in (of_children rows es) (x ∷ p) ≡ seen_in (rows k) p
        by_name true e found rest =
            let name : c.name ≡ x = (cmp_decides x c.name).0 (sym (name_is x c.name) ∙ e) in
            let above = subst (λ (y : List ℕ). AllByRecursion (λ other. slice_cmp nat_cmp y other ≡ Less) (map (λ child. child.name) es)) name rise.0 in
            let same : c.node ≡ k = cc in
            (λ i. seen-under c.name x p true e (rows c.node) i ++ seen_none x p es above i) ∙ append-nil (seen_in (rows c.node) p) ∙ ap (λ n. seen_in (rows n) p) same
        by_name false e found rest = ap (λ (ns : List Y). ns ++ seen_in (of_children rows es) (x ∷ p)) (seen-under c.name x p false e (rows c.node)) ∙ rest found

no_roots-under : {X : Type 0} (name : List ℕ) (t : List (Names × X)) → roots (under name t) ≡ []
no_roots-under name [] = refl
no_roots-under name (row ∷ t) = ap (λ b. cond b ((name ∷ row.0, row.1) ∷ roots (under name t)) (roots (under name t))) (whole name row.0) ∙ no_roots-under name t

no_roots : {X : Type 0} (rows : ℕ → List (Names × X)) (es : List Child) → roots (of_children rows es) ≡ []
no_roots rows [] = refl
no_roots rows (c ∷ es) = filter-append (λ row. is_root row.0) (under c.name (rows c.node)) (of_children rows es) ∙ (λ i. no_roots-under c.name (rows c.node) i ++ no_roots rows es i)

-- what has a name among lower entries is lower
named_low : (n : ℕ) (x : List ℕ) (k : ℕ) (es : List Child) → child_named es x ≡ Some k → AllByRecursion (λ c. c.node < n) es → k < n
named_low n x k [] found less = absurd (cc found)
named_low n x k (c ∷ es) found less = by_name (same_name c.name x) found (λ f. named_low n x k es f less.1)
  where
    by_name : (b : Bool) → cond b (Some c.node) (child_named es x) ≡ Some k → (child_named es x ≡ Some k → k < n) → k < n
    by_name true f rest = let same : c.node ≡ k = cc in let l = less.0 in omega (arith, same, l)
    by_name false f rest = rest f

-- ---- the tree of a node

module _ {X Y : Type 0} (h : List ℕ → X → Y) (v : ℕ → NodeRow → X) (g : Nodes) (is : IsGraph g) where
  -- what h sees of an entry
  abbrev pub entry_seen : Child → Option Y
  entry_seen c = option_map (λ k. h c.name (v c.node k)) (node g c.node)

  one_root : (depth n : ℕ) (name : List ℕ) → n < depth → map (λ (row : Names × X). h name row.1) (roots (rows_to v depth g n)) ≡ cons_option (option_map (λ k. h name (v n k)) (node g n)) []
  one_root zero n name low = absurd (omega (arith, low))
  one_root (suc depth) n name low = by_node (node g n)
    where
      by_node : (o : Option NodeRow) → map (λ (row : Names × X). h name row.1) (roots (rows_with v o n (rows_to v depth g))) ≡ cons_option (option_map (λ k. h name (v n k)) o) []
      by_node None = refl
      by_node (Some row) = ap (λ (t : List (Names × X)). h name (v n row) ∷ map (λ (row : Names × X). h name row.1) t) (no_roots (rows_to v depth g) (entries_of row))

  each_root : (n depth : ℕ) → n < suc depth → (es : List Child) → AllByRecursion (λ c. c.node < n) es
      → AllByRecursion (λ c. map (λ (row : Names × X). h c.name row.1) (roots (rows_to v depth g c.node)) ≡ cons_option (entry_seen c) []) es
  each_root n depth low [] below = tt
  each_root n depth low (c ∷ es) below = (one_root depth c.node c.name (let b = below.0 in omega (arith, b, low)), each_root n depth low es below.1)

  children_low : (n : ℕ) (row : NodeRow) → node g n ≡ Some row → AllByRecursion (λ c. c.node < n) (entries_of row)
  children_low n row e = lower n (entries_of row) (λ q le. sym (ap (names q) e) ∙ is.falls n q le)

  -- in the tree at a path is what the entries of the node there name
  seen_to : (depth n m : ℕ) (p : Names) (row : NodeRow) → n < depth → number_at g n p ≡ Some m → node g m ≡ Some row → seen_in h (rows_to v depth g n) p ≡ filter_map entry_seen (entries_of row)
  seen_to zero n m p row low at e = absurd (omega (arith, low))
  seen_to (suc depth) n m [] row low at e = here (by_node (node g n) at)
    where
      by_node : (o : Option NodeRow) → option_map (number n) o ≡ Some m → n ≡ m
      by_node None h = absurd (cc h)
      by_node (Some r) h = cc

      here : n ≡ m → seen_in h (rows_to v (suc depth) g n) [] ≡ filter_map entry_seen (entries_of row)
      here same =
          let there : node g n ≡ Some row = ap (node g) same ∙ e in
          ap (λ o. seen_in h (rows_with v o n (rows_to v depth g)) []) there
          ∙ root_seen h (rows_to v depth g) entry_seen (entries_of row) (each_root n depth low (entries_of row) (children_low n row there))
  seen_to (suc depth) n m (x ∷ p) row low at e = by_node (node g n) refl at (λ k less way. seen_to depth k m p row (omega (arith, less, low)) way e)
    where
      by_child : (r : NodeRow) → node g n ≡ Some r → (o : Option ℕ) → child_named (entries_of r) x ≡ o → and_then o (λ k. number_at g k p) ≡ Some m
          → ((k : ℕ) → k < n → number_at g k p ≡ Some m → seen_in h (rows_to v depth g k) p ≡ filter_map entry_seen (entries_of row))
          → seen_in h (of_children (rows_to v depth g) (entries_of r)) (x ∷ p) ≡ filter_map entry_seen (entries_of row)
      by_child r there None named way rest = absurd (cc way)
      by_child r there (Some k) named way rest =
          let less = named_low n x k (entries_of r) named (children_low n r there) in
          seen-child h (rows_to v depth g) x p k (entries_of r) (is.rises n r there) named ∙ rest k less way

      by_node : (o : Option NodeRow) → node g n ≡ o → and_then (child_of o x) (λ k. number_at g k p) ≡ Some m
          → ((k : ℕ) → k < n → number_at g k p ≡ Some m → seen_in h (rows_to v depth g k) p ≡ filter_map entry_seen (entries_of row))
          → seen_in h (rows_with v (node g n) n (rows_to v depth g)) (x ∷ p) ≡ filter_map entry_seen (entries_of row)
      by_node None there way rest = absurd (cc way)
      by_node (Some r) there way rest = ap (λ o. seen_in h (rows_with v o n (rows_to v depth g)) (x ∷ p)) there ∙ by_child r there (child_named (entries_of r) x) refl way rest

  pub seen_of : (r m : ℕ) (p : Names) (row : NodeRow) → number_at g r p ≡ Some m → node g m ≡ Some row → seen_in h (rows_of v g r) p ≡ filter_map entry_seen (entries_of row)
  seen_of r m p row at e = seen_to (suc r) r m p row (omega arith) at e

pub entries_stand : EntriesStand
entries_stand v g r n p row is at e = seen_of (λ name x. (name, x)) v g is r n p row at e

-- ---- names alone

abbrev pub names_in : {X : Type 0} → List (Names × X) → Names → List (List ℕ)
names_in t p = map (λ row. last_of row.0) (children t p)

module _ {X : Type 0} (v : ℕ → NodeRow → X) (g : Nodes) (is : IsGraph g) where
  all_named : (n : ℕ) (es : List Child) → AllByRecursion (λ c. child_of (node g n) c.name ≡ Some c.node) es → filter_map (entry_seen (λ name x. name) v g is) es ≡ map (λ c. c.name) es
  all_named n [] named = refl
  all_named n (c ∷ es) named = by_node (node g c.node) (child_there g n c.node c.name is named.0) (all_named n es named.1)
    where
      by_node : (o : Option NodeRow) → is_some o ≡ true → filter_map (entry_seen (λ name x. name) v g is) es ≡ map (λ c. c.name) es
          → cons_option (option_map (λ k. c.name) o) (filter_map (entry_seen (λ name x. name) v g is) es) ≡ c.name ∷ map (λ c. c.name) es
      by_node None there rest = absurd (let bad : false ≡ true = there in cc)
      by_node (Some row) there rest = ap (λ (ns : List (List ℕ)). c.name ∷ ns) rest

  pub names_are : (r m : ℕ) (p : Names) (row : NodeRow) → number_at g r p ≡ Some m → node g m ≡ Some row → names_in (rows_of v g r) p ≡ map (λ c. c.name) (entries_of row)
  names_are r m p row at e = seen_of (λ name x. name) v g is r m p row at e ∙ all_named m (entries_of row) (others.children g is m row e)
