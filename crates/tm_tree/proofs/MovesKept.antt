-- A move keeps a tree a tree.
use Rattle.std.proofs.Common.{◌≡◌, ℕ, ◌-◌, true, false, cond, List, [], ◌∷◌, ◌++◌, length, drop, refl, sym, ap, ◌∙◌, subst, Some, None, is_some, if◌then◌else◌, arith, length-append, length-take, append-nil}
use Rattle.std.proofs.Math.Seq.{drop-append_seam}
use Rattle.std.proofs.lemmas.List.{take-append-drop}
use Rattle.std.proofs.lemmas.Bool.Decides.{nat_tests}
use Rattle.std.specs.BTreeMap.{is_at}
use Rattle.std.specs.List.Sorted.{IsStrictlySortedBy}
use Rattle.tm_base.proofs.PathLemmas.{prefix_is, is_prefix_of_append}
use Rattle.tm_base.specs.Paths.{Names, path_cmp, is_prefix, is_root, parent_of}
use Rattle.tm_tree.specs.declared.item.Item.{Item}
use Rattle.tm_tree.specs.Trees.{Tree, item_at, moved, rekeyed, is_some_folder, folder_at, IsTree}
use Rattle.tm_tree.proofs.AtPaths.{in_order_put_all}
use Rattle.tm_tree.proofs.CopyProofs.{at_is, is_prefix_trans}
use Rattle.tm_tree.proofs.Moves.{item_at-moved}
use Rattle.tm_tree.proofs.Order.{InOrder, AllPaths}
use Rattle.tm_tree.proofs.TreesKept.{clash, empty_is, parent_below, nothing_beneath}

-- what holds wherever something stands holds of all paths
paths_where : (Q : Names → Type 0) (t : Tree) → ((q : Names) → is_some (item_at t q) ≡ true → Q q) → AllPaths Q t
paths_where Q [] f = tt
paths_where Q (row ∷ t) f = (f row.0 (ap (λ b. is_some (cond b (Some row.1) (item_at t row.0))) ((at_is row.0 row.0).1 refl)), paths_where Q t (λ q stands. f q (later q stands)))
  where
    later : (q : Names) → is_some (item_at t q) ≡ true → is_some (cond (is_at (path_cmp q) row.0) (Some row.1) (item_at t q)) ≡ true
    later q stands = elim (is_at (path_cmp q) row.0) as (λ b. is_some (cond b (Some row.1) (item_at t q)) ≡ true) [ true ↦ refl | false ↦ stands ]

-- where nothing stands at b, no path is b or beneath it
free : (t : Tree) (b : Names) → IsTree t → item_at t b ≡ None → AllPaths (λ r. is_prefix b r ≡ false) t
free t b h none =
    paths_where (λ r. is_prefix b r ≡ false) t
    (λ q stands. elim (is_prefix b q) as (λ c. is_prefix b q ≡ c → c ≡ false) [
      | true ↦ λ under. absurd (clash (ap is_some (sym (nothing_beneath t b q h none under)) ∙ stands))
      | false ↦ λ off. refl
    ] refl)

pub moved_at : (t : Tree) (a b q : Names) → IsTree t → item_at t b ≡ None → item_at (moved t a b) q ≡ (if is_prefix b q then item_at t (a ++ drop (length b) q) else if is_prefix a q then None else item_at t q)
moved_at t a b q h none = item_at-moved t a b q h.in_order (free t b h none)

-- ---- prefixes of parents

pub parent_prefix : (q : Names) → is_prefix (parent_of q) q ≡ true
parent_prefix q = is_prefix_of_append (parent_of q) q (drop (length q - 1) q) (sym (take-append-drop (length q - 1) q))

above_parent : (p q : Names) → is_prefix p q ≡ false → is_prefix p (parent_of q) ≡ false
above_parent p q off =
    elim (is_prefix p (parent_of q)) as (λ c. is_prefix p (parent_of q) ≡ c → c ≡ false) [
      | true ↦ λ on. sym (is_prefix_trans p (parent_of q) q on (parent_prefix q)) ∙ off
      | false ↦ λ _. refl
    ] refl

too_short : (b rest : Names) → is_root b ≡ false → parent_of b ≡ b ++ rest → ⊥
too_short b rest out e =
    let long : length (parent_of b) ≡ length (b ++ rest) = ap length e in
    grind (arith, nat_tests, length-append b rest, length-take (length b - 1) b)

own_parent : (b : Names) → is_root b ≡ false → is_prefix b (parent_of b) ≡ false
own_parent b out =
    elim (is_prefix b (parent_of b)) as (λ c. is_prefix b (parent_of b) ≡ c → c ≡ false) [
      | true ↦ λ on. absurd (too_short b (drop (length b) (parent_of b)) out (prefix_is b (parent_of b) on))
      | false ↦ λ _. refl
    ] refl

pub above_root : (p : Names) → is_root p ≡ false → is_prefix p [] ≡ false
above_root [] out = cc
above_root (n ∷ p) out = refl

pub root_is : (p : Names) → is_root p ≡ true → p ≡ []
root_is p h = let none : length p ≡ 0 = grind (arith, nat_tests) in empty_is p none

nothing_in_order : InOrder {X = Item} []
unfolding IsStrictlySortedBy
nothing_in_order = tt

-- ---- the move

module _ (t : Tree) (a b : Names) (h : IsTree t) (none : item_at t b ≡ None) (into : folder_at t (parent_of b) ≡ true) (apart : is_prefix a b ≡ false) where
  out_b : is_root b ≡ false
  out_b =
      elim (is_root b) as (λ c. is_root b ≡ c → c ≡ false) [
        | true ↦ λ is. absurd (clash (ap is_some_folder (sym none) ∙ ap (folder_at t) (root_is b is) ∙ h.rooted))
        | false ↦ λ _. refl
      ] refl

  out_a : is_root a ≡ false
  out_a =
      elim (is_root a) as (λ c. is_root a ≡ c → c ≡ false) [
        | true ↦ λ is. sym (ap (λ (x : Names). is_prefix x b) (root_is a is)) ∙ apart
        | false ↦ λ _. refl
      ] refl

  -- at what is neither beneath b nor beneath a nothing changes
  stays : (q : Names) → is_prefix b q ≡ false → is_prefix a q ≡ false → item_at (moved t a b) q ≡ item_at t q
  stays q off out = moved_at t a b q h none ∙ rw (off, out)

  lands : (q : Names) → is_prefix b q ≡ true → item_at (moved t a b) q ≡ item_at t (a ++ drop (length b) q)
  lands q under = moved_at t a b q h none ∙ rw under

  leaves : (q : Names) → is_prefix b q ≡ false → is_prefix a q ≡ true → item_at (moved t a b) q ≡ None
  leaves q off under = moved_at t a b q h none ∙ rw (off, under)

  -- b itself stands in the folder that holds it
  placed_b : folder_at (moved t a b) (parent_of b) ≡ true
  placed_b = ap is_some_folder (stays (parent_of b) (own_parent b out_b) (above_parent a b apart)) ∙ into

  -- what stands beneath b stood beneath a
  placed_under : (q : Names) (n : List ℕ) (rest : Names) → q ≡ b ++ n ∷ rest → is_some (item_at t (a ++ drop (length b) q)) ≡ true → folder_at (moved t a b) (parent_of q) ≡ true
  placed_under q n rest e stood =
      let left : drop (length b) q ≡ n ∷ rest = ap (drop (length b)) e ∙ drop-append_seam b (n ∷ rest) in
      let up : parent_of q ≡ b ++ parent_of (n ∷ rest) = ap parent_of e ∙ parent_below b (n ∷ rest) (length rest) refl in
      let stood_there : is_some (item_at t (a ++ n ∷ rest)) ≡ true = subst (λ (x : Names). is_some (item_at t (a ++ x)) ≡ true) left stood in
      let out : is_root (a ++ n ∷ rest) ≡ false = grind (arith, nat_tests, length-append a (n ∷ rest)) in
      let folder : folder_at t (a ++ parent_of (n ∷ rest)) ≡ true = subst (λ (x : Names). folder_at t x ≡ true) (parent_below a (n ∷ rest) (length rest) refl) (h.placed (a ++ n ∷ rest) out stood_there) in
      ap (folder_at (moved t a b)) up
      ∙ ap is_some_folder (lands (b ++ parent_of (n ∷ rest)) (is_prefix_of_append b (b ++ parent_of (n ∷ rest)) (parent_of (n ∷ rest)) refl)
      ∙ ap (λ (x : Names). item_at t (a ++ x)) (drop-append_seam b (parent_of (n ∷ rest))))
      ∙ folder

  placed_within : (q rest : Names) → q ≡ b ++ rest → is_some (item_at t (a ++ drop (length b) q)) ≡ true → folder_at (moved t a b) (parent_of q) ≡ true
  placed_within q [] e stood = ap (λ (x : Names). folder_at (moved t a b) (parent_of x)) (e ∙ append-nil b) ∙ placed_b
  placed_within q (n ∷ rest) e stood = placed_under q n rest e stood

  placed_moved : (q : Names) → is_root q ≡ false → is_some (item_at (moved t a b) q) ≡ true → folder_at (moved t a b) (parent_of q) ≡ true
  placed_moved q out there =
      elim (is_prefix b q) as (λ c. is_prefix b q ≡ c → folder_at (moved t a b) (parent_of q) ≡ true) [
        | true ↦ λ under. placed_within q (drop (length b) q) (prefix_is b q under) (ap is_some (sym (lands q under)) ∙ there)
        | false ↦ λ off. elim (is_prefix a q) as (λ d. is_prefix a q ≡ d → folder_at (moved t a b) (parent_of q) ≡ true) [
          | true ↦ λ under. absurd (clash (ap is_some (sym (leaves q off under)) ∙ there))
          | false ↦ λ away.
              ap is_some_folder (stays (parent_of q) (above_parent b q off) (above_parent a q away))
              ∙ h.placed q out (ap is_some (sym (stays q off away)) ∙ there)
        ] refl
      ] refl

  pub moved_kept : IsTree (moved t a b)
  moved_kept = record {
    in_order = in_order_put_all [] (rekeyed a b t) nothing_in_order;
    rooted = ap is_some_folder (stays [] (above_root b out_b) (above_root a out_a)) ∙ h.rooted;
    placed = placed_moved;
  }
