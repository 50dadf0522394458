-- New nodes stand at different paths, where the tree has items: they are at most as many.
use Rattle.std.proofs.Common.{◌≡◌, ℕ, suc, ◌+◌, ◌<◌, ◌≤◌, Bool, true, false, ◌||◌, Option, Some, is_some, List, [], ◌∷◌, length, refl, sym, ap, ◌∙◌, subst, arith}
use Rattle.std.specs.BTreeMap.{is_at}
use Rattle.std.specs.Cmp.{eq_by_cmp_equiv}
use Rattle.std.specs.List.{AllByRecursion, IsDistinct, list_any, slice_get}
use Rattle.std.proofs.lemmas.List.{length-map}
use Rattle.std.proofs.lemmas.List.Elements.{recursion_from_All, All-weaker}
use Rattle.std.proofs.lemmas.Map.Steps.{length-le_from_keys}
use Rattle.tm_base.specs.Paths.{Names, path_cmp}
use Rattle.tm_base.specs.Limits.{max_items}
use Rattle.tm_tree.specs.declared.item.Item.{Item}
use Rattle.tm_tree.specs.declared.node.NodeRow.{NodeRow}
use Rattle.tm_tree.specs.Trees.{Tree, item_at}
use Rattle.tm_tree.specs.Copies.{LabelledTree, bare}
use Rattle.tm_tree.proofs.CopyProofs.{at_is}
use Rattle.tm_tree.proofs.Order.{path_total}
use Rattle.tm_graph.specs.Nodes.{Nodes}
use Rattle.tm_graph.specs.Trees.{number_at}
use Rattle.tm_volume.specs.Seen.{Seen, tree_on}
use Rattle.tm_copy.specs.Building.{Backup, first, all, AreNew}
use Rattle.tm_copy.specs.Driving.{IsPlaced, IsBackedUp}
use Rattle.tm_backup.specs.Taking.{taken, as_taken, view_on}
use Rattle.tm_backup.proofs.Rooted.{view_few}

-- ---- nodes at paths

module _ (number : Names → Option ℕ) (t : Tree) where
  -- the node stands at a path, where the tree has an item
  record StandsInTree (e : ℕ × NodeRow) : Type 0 where
    place : Names
    stands : number place ≡ Some e.0
    there : is_some (item_at t place) ≡ true

  abbrev places : (new : Nodes) → AllByRecursion StandsInTree new → List Names
  places [] h = []
  places (e ∷ new) h = h.0.place ∷ places new h.1

  length-places : (new : Nodes) (h : AllByRecursion StandsInTree new) → length (places new h) ≡ length new
  length-places [] h = refl
  length-places (e ∷ new) h = ap suc (length-places new h.1)

  -- each of the paths is one of the tree's
  in_tree : (new : Nodes) (h : AllByRecursion StandsInTree new) (q : Names) → list_any (is_at (path_cmp q)) (places new h) ≡ true → is_some (item_at t q) ≡ true
  in_tree [] h q is = absurd (cc is)
  in_tree (e ∷ new) h q is = by_at (is_at (path_cmp q) h.0.place) refl (in_tree new h.1 q) is
    where
      by_at : (k : Bool) → is_at (path_cmp q) h.0.place ≡ k → (list_any (is_at (path_cmp q)) (places new h.1) ≡ true → is_some (item_at t q) ≡ true)
          → (k || list_any (is_at (path_cmp q)) (places new h.1)) ≡ true → is_some (item_at t q) ≡ true
      by_at true at rest f = subst (λ (p : Names). is_some (item_at t p) ≡ true) (sym ((at_is q h.0.place).0 at)) h.0.there
      by_at false off rest f = rest f

  -- numbered one by one from this number on
  abbrev Numbered : ℕ → Nodes → Type 0
  Numbered lo new = (place : ℕ) (e : ℕ × NodeRow) → slice_get new place ≡ Some e → e.0 ≡ lo + place

  numbered_tail : (lo : ℕ) (e : ℕ × NodeRow) (new : Nodes) → Numbered lo (e ∷ new) → Numbered (lo + 1) new
  numbered_tail lo e new h place d is = omega (arith, h (suc place) d is)

  -- nodes of different numbers stand at different paths
  differ : (p q : Names) (n m : ℕ) → number p ≡ Some n → number q ≡ Some m → n < m → is_at (path_cmp p) q ≡ false
  differ p q n m one other low = by_at (is_at (path_cmp p) q) refl
    where
      by_at : (k : Bool) → is_at (path_cmp p) q ≡ k → k ≡ false
      by_at true at =
          let alike : Some n ≡ Some m = sym one ∙ ap number ((at_is p q).0 at) ∙ other in
          let same : n ≡ m = cc alike in
          absurd (omega (arith, same, low))
      by_at false off = refl

  apart : (p : Names) (n lo : ℕ) → number p ≡ Some n → n < lo → (new : Nodes) (h : AllByRecursion StandsInTree new) → Numbered lo new → AllByRecursion (λ (q : Names). is_at (path_cmp p) q ≡ false) (places new h)
  apart p n lo one low [] h numbered = tt
  apart p n lo one low (e ∷ new) h numbered = (
    differ p h.0.place n e.0 one h.0.stands (omega (arith, low, numbered 0 e refl)),
    apart p n (lo + 1) one (omega (arith, low)) new h.1 (numbered_tail lo e new numbered),
  )

  distinct : (lo : ℕ) (new : Nodes) (h : AllByRecursion StandsInTree new) → Numbered lo new → IsDistinct (λ (p q : Names). is_at (path_cmp p) q) (places new h)
  unfolding IsDistinct
  distinct lo [] h numbered = tt
  distinct lo (e ∷ new) h numbered = (
    apart h.0.place e.0 (lo + 1) h.0.stands (omega (arith, numbered 0 e refl)) new h.1 (numbered_tail lo e new numbered),
    distinct (lo + 1) new h.1 (numbered_tail lo e new numbered),
  )

  few_stand : (lo : ℕ) (new : Nodes) → AllByRecursion StandsInTree new → Numbered lo new → length new ≤ length t
  few_stand lo new h numbered = omega (arith, length-places new h, length-le_from_keys (eq_by_cmp_equiv path_total) (places new h) t (distinct lo new h numbered) (in_tree new h))

-- ---- the nodes of a backup

-- new nodes are at most as many as the items that are kept
pub few_new : (b : Backup) (new : Nodes) (fresh : ℕ → List ℕ) (root : ℕ) → AreNew b new → IsBackedUp b new fresh root → length new ≤ length b.now
few_new b new fresh root are up =
    few_stand (number_at (all b new) root) b.now (first b) new (recursion_from_All (StandsInTree (number_at (all b new) root) b.now) new
    (All-weaker (IsPlaced b new fresh root) (StandsInTree (number_at (all b new) root) b.now) (λ e placed. record { place = placed.place; stands = placed.stands; there = ap is_some placed.item }) new up.each))
    are.numbered

-- the items that are kept of a volume are at most as many as the volume's
pub taken_few : (prev : LabelledTree) (v : Seen) (bytes : ℕ → List ℕ) → length (tree_on v bytes) ≤ max_items → length (as_taken prev (view_on v bytes)) ≤ max_items
taken_few prev v bytes few = omega (arith, length-map {B = Names × Item} (view_on v bytes) (λ (row : Names × Item). (row.0, taken (item_at (bare prev) row.0) row.1)), view_few v bytes, few)
