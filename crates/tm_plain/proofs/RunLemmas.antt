-- The rows at a path and beneath it stand together in path order.
use Rattle.std.proofs.Common.{◌≡◌, ℕ, Bool, true, false, cond, not, ◌&&◌, List, [], ◌∷◌, filter, nat_eq, refl, sym, ap, ◌∙◌, subst}
use Rattle.std.specs.declared.cmp.Ordering.{Ordering}
use Rattle.std.specs.declared.cmp.Ordering.TheVariants.{Less, Equal, Greater}
use Rattle.std.specs.declared.ops.Bound.TheVariants.{Included, Unbounded}
use Rattle.std.specs.Ordering.{nat_cmp, is_gt, is_le, is_eq, ordering_then, ordering_reverse}
use Rattle.std.specs.BTreeMap.Range.{entries_between}
use Rattle.std.specs.Cmp.Lexicographic.{pointwise, nat_list_cmp_total, texts_ties}
use Rattle.std.specs.List.Sorted.{IsStrictlySortedBy}
use Rattle.std.specs.Cmp.{Equal-is, first_so, second_so}
use Rattle.tm_base.proofs.PathLemmas.{same_bytes}
use Rattle.tm_base.specs.Paths.{Names, name_cmp, path_cmp, is_prefix}
use Rattle.tm_tree.specs.Trees.{beneath}
use Rattle.tm_tree.proofs.Order.{path_total, InOrder, AllPaths}
use Rattle.tm_plain.specs.Runs.{run_beneath}

-- what comes between a path and something beneath it stands beneath it too
pub between : (p q r : Names) → is_prefix p r ≡ true → is_gt (path_cmp p q) ≡ false → path_cmp q r ≡ Less → is_prefix p q ≡ true
between [] q r h low high = refl
between (n ∷ p) q [] h low high = cc
between (n ∷ p) [] (k ∷ r) h low high = cc
between (n ∷ p) (m ∷ q) (k ∷ r) h low high =
    let same : n ≡ k = (same_bytes n k).0 (first_so (pointwise nat_eq n k) (is_prefix p r) h) in
    let back : name_cmp m k ≡ ordering_reverse (name_cmp n m) = ap (name_cmp m) (sym same) ∙ nat_list_cmp_total.antisymm m n in
    let high' : ordering_then (ordering_reverse (name_cmp n m)) (path_cmp q r) ≡ Less = sym (ap (λ o. ordering_then o (path_cmp q r)) back) ∙ high in
    let rest : is_prefix p r ≡ true = second_so (pointwise nat_eq n k) (is_prefix p r) h in
    elim (name_cmp n m) as (λ o. name_cmp n m ≡ o → is_gt (ordering_then o (path_cmp p q)) ≡ false → ordering_then (ordering_reverse o) (path_cmp q r) ≡ Less → (pointwise nat_eq n m && is_prefix p q) ≡ true) [
      | Less ↦ λ is l g. cc
      | Equal ↦ λ is l g. rw (texts_ties n m ∙ ap is_eq is) (between p q r rest l g)
      | Greater ↦ λ is l g. cc
    ] refl low high'

-- a path comes before what is beneath it, or is it
prefix_before : (p q : Names) → is_prefix p q ≡ true → is_le (path_cmp p q) ≡ true
prefix_before [] [] h = refl
prefix_before [] (m ∷ q) h = refl
prefix_before (n ∷ p) [] h = cc
prefix_before (n ∷ p) (m ∷ q) h =
    let tied : name_cmp n m ≡ Equal = (Equal-is (name_cmp n m)).0 (sym (texts_ties n m) ∙ first_so (pointwise nat_eq n m) (is_prefix p q) h) in
    rw tied (prefix_before p q (second_so (pointwise nat_eq n m) (is_prefix p q) h))

off_before : (p q : Names) → path_cmp p q ≡ Greater → is_prefix p q ≡ false
off_before p q is =
    elim (is_prefix p q) as (λ b. is_prefix p q ≡ b → b ≡ false) [
      | true ↦ λ e. let le = prefix_before p q e in cc
      | false ↦ λ e. refl
    ] refl

module _ {X : Type 0} where
  -- once a row from p on isn't beneath p, no later one is
  none_later : (p q : Names) (t : List (Names × X)) → is_gt (path_cmp p q) ≡ false → is_prefix p q ≡ false → AllPaths (λ r. path_cmp q r ≡ Less) t → beneath t p ≡ []
  none_later p q [] low off h = refl
  none_later p q (row ∷ t) low off h =
      elim (is_prefix p row.0) as (λ b. is_prefix p row.0 ≡ b → cond b (row ∷ beneath t p) (beneath t p) ≡ []) [
        | true ↦ λ is. let on = between p q row.0 is low h.0 in cc
        | false ↦ λ is. none_later p q t low off h.1
      ] refl

  abbrev from : Names → List (Names × X) → List (Names × X)
  from p t = entries_between path_cmp (Included p) Unbounded t

  -- the rows from p on begin with those at p and beneath it
  pub run_is_beneath : (p : Names) (t : List (Names × X)) → InOrder t → run_beneath p (from p t) ≡ beneath t p
  unfolding IsStrictlySortedBy
  run_is_beneath p [] h = refl
  run_is_beneath p (row ∷ t) h =
      let at_or_after : is_gt (path_cmp p row.0) ≡ false → cond (is_prefix p row.0) (row ∷ run_beneath p (from p t)) [] ≡ cond (is_prefix p row.0) (row ∷ beneath t p) (beneath t p) =
      λ low. elim (is_prefix p row.0) as (λ b. is_prefix p row.0 ≡ b → cond b (row ∷ run_beneath p (from p t)) [] ≡ cond b (row ∷ beneath t p) (beneath t p)) [
        | true ↦ λ is. ap (λ (u : List (Names × X)). row ∷ u) (run_is_beneath p t h.1)
        | false ↦ λ off. sym (none_later p row.0 t low off h.0)
      ] refl in
      elim (path_cmp p row.0) as (λ o. path_cmp p row.0 ≡ o → run_beneath p (cond (is_le o && true) (row ∷ from p t) (from p t)) ≡ cond (is_prefix p row.0) (row ∷ beneath t p) (beneath t p)) [
        | Less ↦ λ is. at_or_after (ap is_gt is)
        | Equal ↦ λ is. at_or_after (ap is_gt is)
        | Greater ↦ λ is. rw (off_before p row.0 is) (run_is_beneath p t h.1)
      ] refl
