-- What was built may join the graph.
use Rattle.std.proofs.Common.{◌≡◌, ◌⊎◌, inl, inr, ⊎_elim, ℕ, ◌+◌, ◌^◌, ◌<◌, ◌≤◌, ◌==◌, Bool, true, false, cond, Option, Some, None, is_some, List, [], ◌∷◌, length, refl, ap, arith, subst}
use Rattle.std.specs.Prelude.{slice_get}
use Rattle.std.specs.List.{All}
use Rattle.std.specs.List.Sorted.{IsStrictlySortedBy}
use Rattle.std.specs.Ordering.{nat_cmp}
use Rattle.std.specs.BTreeMap.{is_at}
use Rattle.std.specs.Option.{option_map}
use Rattle.std.proofs.lemmas.Option.{slice_get_within, get_or_from_slice_get}
use Rattle.std.proofs.lemmas.Bool.Decides.{nat_tests}
use Rattle.std.proofs.lemmas.Map.Entries.{sum_by-remove_entry}
use Rattle.tm_base.specs.Paths.{Names}
use Rattle.tm_tree.specs.declared.node.NodeBody.{NodeBody}
use Rattle.tm_tree.specs.declared.node.NodeBody.TheVariants.{Folder, Leaf}
use Rattle.tm_tree.specs.declared.node.NodeRow.{NodeRow}
use Rattle.tm_graph.specs.declared.built.Built.{Built}
use Rattle.tm_graph.specs.Nodes.{Nodes, node, entries_of, body_entries, names, row_names, named, links_of, greatest, NamesRise}
use Rattle.tm_graph.specs.Trees.{child_of, and_then, number_at, number}
use Rattle.tm_graph.specs.Growing.{MayGrow, gain}
use Rattle.tm_graph.proofs.Taken.{Sorted}
use Rattle.tm_graph.proofs.Joining.{at_first, at_rest, at_numbered, each_at, sorted_joined}
use Rattle.tm_graph.proofs.Growing.{none_or_there}
use Rattle.tm_graph.proofs.Greatest.{to_greatest}
use Rattle.tm_graph.proofs.WaysFound.{times_named}
use Rattle.tm_nodes.specs.Nodes.{IsNodeTail}
use Rattle.tm_store_records.specs.Held.{Held}
use Rattle.tm_store_records.specs.Built.{IsBuilt, IsNew, all_nodes}
use Rattle.tm_store_records.specs.Found.{roots_of}
use Rattle.tm_store_records.specs.Rules.{is_folder_node}
use Rattle.tm_store_records.proofs.Graphing.{kept}
use Rattle.tm_snapshot.specs.Growth.{MayJoin}
use Rattle.tm_snapshot.proofs.Finishing.{Joining}
use Rattle.tm_snapshot.proofs.Olds.{AreShort, greatest_low, links_few, named_few}

pub all_at : {X : Type 0} (P : X → Type 0) (xs : List X) (i : ℕ) (x : X) → All P xs → slice_get xs i ≡ Some x → P x
all_at P xs i x all is = subst P (get_or_from_slice_get xs i x x is) (all i x (slice_get_within xs i x is))

tail_rises : (body : NodeBody) → IsNodeTail body → NamesRise (body_entries body)
unfolding IsStrictlySortedBy
tail_rises (Folder attrs entries) tail = tail.rising
tail_rises (Leaf leaf) tail = none_rise
  where
    none_rise : NamesRise []
    none_rise = tt

tail_short : (body : NodeBody) → IsNodeTail body → length (body_entries body) < 2 ^ 32
tail_short (Folder attrs entries) tail = tail.few
tail_short (Leaf leaf) tail = omega arith

pub folder_there : (o : Option NodeRow) → is_folder_node o ≡ true → is_some o ≡ true
folder_there None t = cc
folder_there (Some row) t = refl

-- a way ends where it begins, or at a number that is named
named_from : (g : Nodes) (p : Names) (r n : ℕ) → number_at g r p ≡ Some n → (r ≡ n) ⊎ ((f : ℕ) × (0 < names n (node g f)))
named_from g [] r n e = inl (by_node (node g r) e)
  where
    by_node : (o : Option NodeRow) → option_map (number r) o ≡ Some n → r ≡ n
    by_node None h = absurd (cc h)
    by_node (Some row) h = cc
named_from g (x ∷ p) r n e = by_child (child_of (node g r) x) refl e (λ m h. named_from g p m n h)
  where
    names_it : (m : ℕ) (o : Option NodeRow) → child_of o x ≡ Some m → 0 < names m o
    names_it m None c = absurd (cc c)
    names_it m (Some row) c = times_named (entries_of row) x m c

    by_child : (o : Option ℕ) → child_of (node g r) x ≡ o → and_then o (λ m. number_at g m p) ≡ Some n → ((m : ℕ) → number_at g m p ≡ Some n → (m ≡ n) ⊎ ((f : ℕ) × (0 < names n (node g f)))) → (r ≡ n) ⊎ ((f : ℕ) × (0 < names n (node g f)))
    by_child None c h rest = absurd (cc h)
    by_child (Some m) c h rest = ⊎_elim
        (λ (same : m ≡ n). inr (r, subst (λ k. 0 < names k (node g r)) same (names_it m (node g r) c)))
        (λ (later : (f : ℕ) × (0 < names n (node g f))). inr later)
        (rest m h)

none_sorted : Sorted {X = NodeRow} []
unfolding IsStrictlySortedBy
none_sorted = tt

pub new_sorted : (h : Held) (built : Built) → IsBuilt h built → Sorted built.nodes
new_sorted h built is_built = sorted_joined (greatest h.nodes + 1) [] built.nodes none_sorted tt is_built.numbered

module _ (j : Joining) where
  open j use {h, built, is_built, old, few, most}

  abbrev g : Nodes
  g = h.nodes

  abbrev new : Nodes
  new = built.nodes

  pub is_new : (n : ℕ) (row : NodeRow) → node new n ≡ Some row → IsNew h built (n, row)
  is_new n row e = each_at (IsNew h built) new n row is_built.each e

  pub new_short : AreShort new
  new_short place e is = tail_short e.1.body (all_at (IsNew h built) new place e is_built.each is).tail

  -- a new node is above all others, and among so many
  pub new_number : (n : ℕ) → is_some (node new n) ≡ true → (greatest g + 1 ≤ n) × (n < greatest g + 1 + length new)
  new_number n t = at_numbered (greatest g + 1) new n is_built.numbered t

  pub low : greatest g + length new ≤ 2 ^ 61
  low = let high = greatest_low g h.snapshots h.number old in omega (arith, high, few, most)

  links_low : (q : ℕ) → links_of g q + gain new built.root q ≤ 2 ^ 62
  links_low q =
      let links = links_few g h.snapshots h.number old q in
      let times = named_few q new new_short in
      one_more (q == built.root) (omega (arith, links, times, few))
    where
      one_more : (b : Bool) → links_of g q + named new q ≤ 2 ^ 61 → links_of g q + (named new q + cond b 1 0) ≤ 2 ^ 62
      one_more true l = omega (arith, l)
      one_more false l = omega (arith, l)

  pub may_grow : MayGrow g new built.root
  may_grow = record {
    numbered = is_built.numbered;
    each = λ k e l. (let one = is_built.each k e l in record { rises = tail_rises _ one.tail; children = one.children });
    root_there = folder_there (node (all_nodes h built) built.root) is_built.root;
    low = omega (arith, low);
    few = links_low;
  }

  -- what an old node names is old
  old_names : (f n : ℕ) → is_some (node g f) ≡ true → 0 < names n (node g f) → is_some (node g n) ≡ true
  old_names f n t l = by_node (node g f) refl t l
    where
      by_node : (o : Option NodeRow) → node g f ≡ o → is_some o ≡ true → 0 < names n o → is_some (node g n) ≡ true
      by_node None e t l = cc
      by_node (Some row) e t l = ((kept g (roots_of h.snapshots) h.number old.sorted old.good f row e).rules.children n l).1

  pub old_low : (n : ℕ) → is_some (node g n) ≡ true → n ≤ greatest g
  old_low n t = to_greatest g n old.sorted t

  one_named : (q f : ℕ) → 0 < names q (node new f) → 0 < named new q
  one_named q f l = omega (arith, l, sum_by-remove_entry (row_names q) (is_at (nat_cmp f)) new)

  pub gains : (n : ℕ) → is_some (node new n) ≡ true → 0 < gain new built.root n
  gains n t = by_node (node new n) refl t
    where
      rooted : built.root ≡ n → 0 < gain new built.root n
      rooted e = let one : (n == built.root) ≡ true = grind (arith, nat_tests) in let more : ◌≡◌ {A = ℕ} (cond (n == built.root) 1 0) 1 = ap (λ b. cond b 1 0) one in omega (arith, more)

      by_folder : (f : ℕ) → 0 < names n (node (all_nodes h built) f) → 0 < gain new built.root n
      by_folder f l = ⊎_elim
          (λ none. let here = one_named n f (subst (λ (o : Option NodeRow). 0 < names n o) (at_rest g new f none) l) in omega (arith, here))
          (λ there.
          let was = old_names f n there (subst (λ (o : Option NodeRow). 0 < names n o) (at_first g new f there) l) in
          absurd (let above = (new_number n t).0 in let below = old_low n was in omega (arith, above, below)))
          (none_or_there (node g f))

      by_node : (o : Option NodeRow) → node new n ≡ o → is_some o ≡ true → 0 < gain new built.root n
      by_node None e t = cc
      by_node (Some row) e t =
          let one = is_new n row e in
          ⊎_elim rooted (λ (by : (f : ℕ) × (0 < names n (node (all_nodes h built) f))). by_folder by.0 by.1) (named_from (all_nodes h built) one.place built.root n one.stands)

  pub may_join : MayJoin h built
  may_join = record { may = may_grow; linked = old.store.linked; gains = gains }
