-- Where the base's node is kept, and where it isn't.
use Rattle.std.proofs.Common.{◌≡◌, ℕ, ◌<◌, ◌≤◌, true, Option, Some, None, is_some, List, [], ◌∷◌, ◌++◌, length, drop, refl, sym, ap, ◌∙◌, arith}
use Rattle.std.specs.Option.{option_map}
use Rattle.tm_base.specs.Paths.{Names, is_prefix}
use Rattle.tm_base.proofs.PathLemmas.{prefix_is}
use Rattle.tm_tree.specs.declared.item.Item.{Item}
use Rattle.tm_tree.specs.declared.item.Labelled.{Labelled}
use Rattle.tm_tree.specs.declared.node.NodeRow.{NodeRow}
use Rattle.tm_tree.specs.Trees.{item_at}
use Rattle.tm_tree.specs.Copies.{bare, is_same_at}
use Rattle.tm_tree.proofs.Order.{InOrder}
use Rattle.tm_tree.proofs.TreesKept.{nothing_beneath}
use Rattle.tm_graph.specs.Nodes.{Nodes, node, entries_of, IsGraph, Descends}
use Rattle.tm_graph.specs.Trees.{child_of, and_then, number_at}
use Rattle.tm_graph.specs.Walks.{child_named}
use Rattle.tm_graph.proofs.WaysFound.{child_there}
use Rattle.tm_graph.proofs.PlaceAt.{descends}
use Rattle.tm_copy.specs.Reading.{item_of, labelled}
use Rattle.tm_copy.specs.Building.{Backup, prev, base_at, first, all, IsSound, Builds}
use Rattle.tm_copy.proofs.Shared.{same_decides, same_beneath, same_by_entries, item_at-bare, prefix_self}
use Rattle.tm_base.proofs.Facts.{some_there as some_is}
use Rattle.tm_copy.proofs.Ways.{number_there, number_here}
use Rattle.tm_copy.proofs.Copied.{prev_order, prev_at, base_has, base_lacks, under_append, under_there}
use Rattle.tm_copy.proofs.Appended.{number_stays, old_below, there_stays}

module _ (b : Backup) (sound : IsSound b) where
  abbrev down : Descends b.graph
  down = descends b.graph sound.graph

  pub order : InOrder (prev b)
  order = prev_order (labelled b.files) b.graph down b.base

  -- ---- the base

  pub base_there : (p : Names) (n : ℕ) → base_at b p ≡ Some n → is_some (node b.graph n) ≡ true
  base_there p n e = under_there (labelled b.files) b.graph down b.base p n e

  pub base_append : (p q : Names) → base_at b (p ++ q) ≡ and_then (base_at b p) (λ m. number_at b.graph m q)
  base_append p q = under_append (labelled b.files) b.graph down b.base p q

  -- the base's item is what its node reads as
  pub base_item : (p : Names) (n : ℕ) (row : NodeRow) → base_at b p ≡ Some n → node b.graph n ≡ Some row → item_at (bare (prev b)) p ≡ Some (item_of (b.files n) row.body)
  base_item p n row e f =
      item_at-bare (prev b) p
      ∙ ap (option_map (λ (l : Labelled). l.item)) (prev_at (labelled b.files) b.graph down b.base p ∙ ap (λ o. and_then o (λ m. option_map (labelled b.files m) (node b.graph m))) e ∙ ap (option_map (labelled b.files n)) f)

  -- where the base has an item, it has a node
  pub base_node : (p : Names) (e : Item) → item_at (bare (prev b)) p ≡ Some e → (n : ℕ) × (row : NodeRow) × (base_at b p ≡ Some n) × (node b.graph n ≡ Some row) × (item_of (b.files n) row.body ≡ e)
  base_node p e is =
      let n = some_is (base_at b p) (base_has (labelled b.files) b.graph down b.base p (ap is_some is)) in
      let row = some_is (node b.graph n.0) (base_there p n.0 n.1) in
      let read : Some (item_of (b.files n.0) row.0.body) ≡ Some e = sym (base_item p n.0 row.0 n.1 row.1) ∙ is in
      let same : item_of (b.files n.0) row.0.body ≡ e = cc read in
      (n.0, row.0, n.1, row.1, same)

  pub base_none : (p : Names) → item_at (bare (prev b)) p ≡ None → base_at b p ≡ None
  base_none p e = base_lacks (labelled b.files) b.graph down b.base p e

  none_of_base : (p : Names) → base_at b p ≡ None → item_at (bare (prev b)) p ≡ None
  none_of_base p e =
      item_at-bare (prev b) p
      ∙ ap (option_map (λ (l : Labelled). l.item)) (prev_at (labelled b.files) b.graph down b.base p ∙ ap (λ o. and_then o (λ m. option_map (labelled b.files m) (node b.graph m))) e)

  -- a child of the base's node
  pub base_child : (p : Names) (n : ℕ) (row : NodeRow) (x : List ℕ) → base_at b p ≡ Some n → node b.graph n ≡ Some row → base_at b (p ++ x ∷ []) ≡ child_named (entries_of row) x
  base_child p n row x e f =
      base_append p (x ∷ []) ∙ ap (λ o. and_then o (λ m. number_at b.graph m (x ∷ []))) e
      ∙ ap (λ (o : Option NodeRow). and_then (child_of o x) (λ m. number_at b.graph m [])) f
      ∙ by_child (child_named (entries_of row) x) (λ m c. child_there b.graph n m x sound.graph (ap (λ o. child_of o x) f ∙ c))
    where
      by_child : (o : Option ℕ) → ((m : ℕ) → o ≡ Some m → is_some (node b.graph m) ≡ true) → and_then o (λ m. number_at b.graph m []) ≡ o
      by_child None f = refl
      by_child (Some m) f = number_here b.graph m (f m refl)

  -- ---- what is as it was

  pub same_item : (p : Names) → is_same_at (prev b) b.now p ≡ true → item_at (bare (prev b)) p ≡ item_at b.now p
  same_item p same = (same_decides (prev b) b.now p order sound.tree.in_order).0 same p (prefix_self p)

  pub still_same : (p q : Names) → is_same_at (prev b) b.now p ≡ true → is_same_at (prev b) b.now (p ++ q) ≡ true
  still_same p q same = same_beneath (prev b) b.now p q order sound.tree.in_order same

  pub same_from : (p : Names) → item_at (bare (prev b)) p ≡ item_at b.now p → ((x : List ℕ) → is_same_at (prev b) b.now (p ++ x ∷ []) ≡ true) → is_same_at (prev b) b.now p ≡ true
  same_from p here each = (same_by_entries (prev b) b.now p order sound.tree.in_order).1 (here, each)

  -- where nothing is and was, all is as it was
  pub same_none : (p : Names) → base_at b p ≡ None → item_at b.now p ≡ None → is_same_at (prev b) b.now p ≡ true
  same_none p old now = (same_decides (prev b) b.now p order sound.tree.in_order).1 (λ q on.
      none_of_base q (by_prefix q on) ∙ sym (nothing_beneath b.now p q sound.tree now on))
    where
      by_prefix : (q : Names) → is_prefix p q ≡ true → base_at b q ≡ None
      by_prefix q on = let rest = drop (length p) q in ap (base_at b) (prefix_is p q on) ∙ base_append p rest ∙ ap (λ o. and_then o (λ m. number_at b.graph m rest)) old

  -- ---- the base's node is kept where all is as it was

  module _ (new : Nodes) (fresh : ℕ → List ℕ) (lo : ℕ) (low : first b ≤ lo) where
    -- beneath an old node stand old nodes
    pub old_number : (n m : ℕ) (q : Names) → is_some (node b.graph n) ≡ true → number_at (all b new) n q ≡ Some m → (number_at b.graph n q ≡ Some m) × (m < first b)
    old_number n m q t e =
        let same = sym (number_stays b.graph new (λ n m x c. child_there b.graph n m x sound.graph c) q n t) ∙ e in
        (same, old_below b m sound.graph (number_there b.graph n m q same))

    pub kept_builds : (p : Names) (n : ℕ) → is_some (item_at b.now p) ≡ true → base_at b p ≡ Some n → is_same_at (prev b) b.now p ≡ true → Builds b new fresh lo lo p n
    kept_builds p n t e same =
        let there = base_there p n e in record {
          low = low;
          rising = omega arith;
          stood = t;
          there = there_stays b.graph new n there;
          absent = λ q none. number q ∙ base_none (p ++ q) (same_item (p ++ q) (still_same p q same) ∙ none);
          shared = λ q some s. number q;
          own = λ q x is other. absurd (cc (other, still_same p q same));
          below = λ q m f. omega (arith, (old_number n m q there f).1);
          once = λ q r m f g l. absurd (omega (arith, l, (old_number n m q there f).1));
          stands = λ m l k. absurd (omega (arith, l, k));
        }
      where
        number : (q : Names) → number_at (all b new) n q ≡ base_at b (p ++ q)
        number q = number_stays b.graph new (λ n m x c. child_there b.graph n m x sound.graph c) q n (base_there p n e) ∙ sym (base_append p q ∙ ap (λ o. and_then o (λ m. number_at b.graph m q)) e)
