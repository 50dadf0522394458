-- A new node is what the backup makes of what stands at its path.
use Rattle.std.proofs.Common.{zero, suc, ◌≡◌, ℕ, ◌+◌, ◌<◌, ◌≤◌, true, false, Option, Some, None, is_some, List, [], ◌∷◌, ◌++◌, length, refl, sym, ap, ◌∙◌, arith, subst, ⊎_elim, ◌⊎◌, inl, inr, append_assoc, append-nil}
use Rattle.std.specs.List.{slice_get}
use Rattle.std.specs.List.Sorted.{IsStrictlySortedBy}
use Rattle.std.proofs.lemmas.Bool.{cases_lt}
use Rattle.std.proofs.lemmas.List.Elements.{All-push}
use Rattle.tm_base.specs.Paths.{Names, name_cmp}
use Rattle.tm_tree.specs.declared.item.Item.{Item}
use Rattle.tm_tree.specs.declared.node.NodeRow.{NodeRow}
use Rattle.tm_tree.specs.Items.{bytes_of}
use Rattle.tm_tree.specs.Trees.{item_at}
use Rattle.tm_tree.specs.Copies.{is_same_at}
use Rattle.tm_tree.proofs.TreesKept.{nothing_beneath}
use Rattle.tm_graph.specs.Nodes.{Nodes, node, entries_of, NamesRise}
use Rattle.tm_graph.specs.Trees.{child_of, and_then, number_at}
use Rattle.tm_graph.specs.Walks.{child_named}
use Rattle.tm_identity.specs.Stored.{node_length}
use Rattle.tm_copy.specs.Reading.{item_of}
use Rattle.tm_copy.specs.Building.{Backup, prev, base_at, first, next, all, IsSound, IsNewNode, AreNew, IsMade, Builds, AreBuilt, AreNamed}
use Rattle.tm_copy.proofs.Shared.{under}
use Rattle.tm_base.proofs.Facts.{some_there as some_is}
use Rattle.tm_copy.proofs.Ways.{number_here}
use Rattle.tm_copy.proofs.Appended.{node_next, new_at, which, new_is}
use Rattle.tm_copy.proofs.Naming.{In, named_some, row_for, listed_rise}
use Rattle.tm_copy.proofs.Among.{built_rise, all_stay, Standing, found_entry, once_among, stands_among, entry_of}

-- ---- one more new node

get_push : (xs : Nodes) (x e : ℕ × NodeRow) (i : ℕ) → slice_get (xs ++ x ∷ []) i ≡ Some e → (slice_get xs i ≡ Some e) ⊎ ((i ≡ length xs) × (x ≡ e))
get_push [] x e zero h = let same : x ≡ e = cc h in inr (refl, same)
get_push [] x e (suc i) h = absurd (cc h)
get_push (y ∷ xs) x e zero h = inl h
get_push (y ∷ xs) x e (suc i) h = ⊎_elim (λ was. inl was) (λ at. inr (omega (arith, at.0), at.1)) (get_push xs x e i h)

pub new_push : (b : Backup) (new : Nodes) (row : NodeRow) → AreNew b new → IsNewNode b (next b new, row) → AreNew b (new ++ (next b new, row) ∷ [])
new_push b new row are is = record {
  numbered = λ place e h. ⊎_elim (λ was. are.numbered place e was) (λ at. numbered e place at.0 at.1) (get_push new (next b new, row) e place h);
  each = All-push (IsNewNode b) new (next b new, row) are.each is;
}
  where
    numbered : (e : ℕ × NodeRow) (place : ℕ) → place ≡ length new → (next b new, row) ≡ e → e.0 ≡ first b + place
    numbered e place at same = let n : next b new ≡ e.0 = ap (λ (x : ℕ × NodeRow). x.0) same in omega (arith, at, n)

-- what a row for e at p is to be
pub record IsRowFor (b : Backup) (bytes : List ℕ) (p : Names) (e : Item) (row : NodeRow) : Type 0 where
  pub label : row.label ≡ b.label
  pub item : item_of bytes row.body ≡ e
  pub size : node_length row ≡ length (bytes_of e)
  pub names : AreNamed b p (entries_of row)

module _ (b : Backup) (sound : IsSound b) (new : Nodes) (are : AreNew b new) (fresh : ℕ → List ℕ) (lo : ℕ) (low : first b ≤ lo) (p : Names) (e : Item) (row : NodeRow)
    (stood : item_at b.now p ≡ Some e) (changed : is_same_at (prev b) b.now p ≡ false) (for : IsRowFor b (fresh (next b new)) p e row) (built : AreBuilt b new fresh p lo (entries_of row) (next b new)) where
  abbrev n : ℕ
  n = next b new

  abbrev more : Nodes
  more = (n, row) ∷ []

  rise : NamesRise (entries_of row)
  rise = subst (λ (names : List (List ℕ)). IsStrictlySortedBy name_cmp names) (sym for.names) (listed_rise b.now p sound.tree.in_order)

  is_new : IsNewNode b (n, row)
  is_new = record {
    label = for.label;
    rises = rise;
    lower = λ q some. (entry_of b sound new are fresh p lo (entries_of row) n q built some).0;
    known = λ q some. known q (entry_of b sound new are fresh p lo (entries_of row) n q built some).1;
  }
    where
      known : (q : ℕ) → is_some (node (all b new) q) ≡ true → (is_some (node b.graph q) ≡ true) ⊎ (first b ≤ q)
      known q there = let s = some_is (node (all b new) q) there in
          ⊎_elim (λ old. inl (ap is_some old)) (λ made. inr (new_is b new are q s.0 made).from) (which b new sound.graph are q s.0 s.1)

  pub are_after : AreNew b (new ++ more)
  are_after = new_push b new row are is_new

  -- the entries, with the node after them
  entries : AreBuilt b (new ++ more) fresh p lo (entries_of row) n
  entries = all_stay b sound new more are fresh fresh p lo (entries_of row) n (λ m l k. refl) built

  here : node (all b (new ++ more)) n ≡ Some row
  here = new_at b (new ++ more) sound.graph are_after n row (node_next b new are row)

  at_root : number_at (all b (new ++ more)) n [] ≡ Some n
  at_root = number_here (all b (new ++ more)) n (ap is_some here)

  beneath : (x : List ℕ) (q : Names) → number_at (all b (new ++ more)) n (x ∷ q) ≡ and_then (child_named (entries_of row) x) (λ m. number_at (all b (new ++ more)) m q)
  beneath x q = ap (λ o. and_then (child_of o x) (λ m. number_at (all b (new ++ more)) m q)) here

  -- a name with an item has an entry
  no_entry : (x : List ℕ) → child_named (entries_of row) x ≡ None → item_at b.now (p ++ x ∷ []) ≡ None
  no_entry x none = by_item (item_at b.now (p ++ x ∷ [])) refl
    where
      by_item : (o : Option Item) → item_at b.now (p ++ x ∷ []) ≡ o → item_at b.now (p ++ x ∷ []) ≡ None
      by_item None h = h
      by_item (Some d) h =
          let named : is_some (child_named (entries_of row) x) ≡ true = named_some (entries_of row) x (subst (λ names. In x names) (sym for.names) (row_for b.now p x (ap is_some h))) in
          absurd (cc (named, none))

  nothing : (x : List ℕ) (q : Names) → child_named (entries_of row) x ≡ None → item_at b.now (p ++ x ∷ q) ≡ None
  nothing x q none = ap (item_at b.now) (sym (append_assoc p (x ∷ []) q)) ∙ nothing_beneath b.now (p ++ x ∷ []) ((p ++ x ∷ []) ++ q) sound.tree (no_entry x none) (under (p ++ x ∷ []) q)

  -- what stands beneath the node is the node, or stands beneath an entry
  to_entry : (x : List ℕ) (q : Names) (m : ℕ) → number_at (all b (new ++ more)) n (x ∷ q) ≡ Some m → (i : ℕ) × (child_named (entries_of row) x ≡ Some i) × (number_at (all b (new ++ more)) i q ≡ Some m)
  to_entry x q m h = by_child (child_named (entries_of row) x) refl (sym (beneath x q) ∙ h)
    where
      by_child : (o : Option ℕ) → child_named (entries_of row) x ≡ o → and_then o (λ m. number_at (all b (new ++ more)) m q) ≡ Some m → (i : ℕ) × (child_named (entries_of row) x ≡ Some i) × (number_at (all b (new ++ more)) i q ≡ Some m)
      by_child None e h = absurd (cc h)
      by_child (Some i) e h = (i, e, h)

  below_entry : (x : List ℕ) (q : Names) (m : ℕ) → number_at (all b (new ++ more)) n (x ∷ q) ≡ Some m → m < n
  below_entry x q m h =
      let c = to_entry x q m h in
      let found = found_entry b sound (new ++ more) are_after fresh p lo (entries_of row) n x c.0 entries c.1 in
      omega (arith, found.built.below q m c.2, found.within)

  -- an entry's facts, at the whole path
  absent_at : (q : Names) → item_at b.now (p ++ q) ≡ None → number_at (all b (new ++ more)) n q ≡ None
  absent_at [] none = absurd (cc (sym (ap (item_at b.now) (append-nil p)) ∙ none, stood))
  absent_at (x ∷ q) none = beneath x q ∙ by_child (child_named (entries_of row) x) refl
    where
      by_child : (o : Option ℕ) → child_named (entries_of row) x ≡ o → and_then o (λ m. number_at (all b (new ++ more)) m q) ≡ None
      by_child None e = refl
      by_child (Some i) e = (found_entry b sound (new ++ more) are_after fresh p lo (entries_of row) n x i entries e).built.absent q (ap (item_at b.now) (append_assoc p (x ∷ []) q) ∙ none)

  shared_at : (q : Names) → is_some (item_at b.now (p ++ q)) ≡ true → is_same_at (prev b) b.now (p ++ q) ≡ true → number_at (all b (new ++ more)) n q ≡ base_at b (p ++ q)
  shared_at [] some same = absurd (cc (changed, sym (ap (λ (r : Names). is_same_at (prev b) b.now r) (append-nil p)) ∙ same))
  shared_at (x ∷ q) some same = beneath x q ∙ by_child (child_named (entries_of row) x) refl
    where
      path : (p ++ x ∷ []) ++ q ≡ p ++ x ∷ q
      path = append_assoc p (x ∷ []) q

      by_child : (o : Option ℕ) → child_named (entries_of row) x ≡ o → and_then o (λ m. number_at (all b (new ++ more)) m q) ≡ base_at b (p ++ x ∷ q)
      by_child None e = absurd (cc (ap is_some (nothing x q e), some))
      by_child (Some i) e =
          (found_entry b sound (new ++ more) are_after fresh p lo (entries_of row) n x i entries e).built.shared q (ap (λ (r : Names). is_some (item_at b.now r)) path ∙ some) (ap (λ (r : Names). is_same_at (prev b) b.now r) path ∙ same)
          ∙ ap (base_at b) path

  abbrev Own : Names → Item → Type 0
  Own q d = (m : ℕ) × (number_at (all b (new ++ more)) n q ≡ Some m) × (lo ≤ m) × IsMade b (new ++ more) fresh m (p ++ q) d

  own_at : (q : Names) (d : Item) → item_at b.now (p ++ q) ≡ Some d → is_same_at (prev b) b.now (p ++ q) ≡ false → Own q d
  own_at [] d is other =
      let same : e ≡ d = cc (stood, sym (ap (item_at b.now) (append-nil p)) ∙ is) in
      let above : lo ≤ n = built_rise b new fresh p lo (entries_of row) n built in (
        n,
        at_root,
        above,
        subst (λ (r : Names). IsMade b (new ++ more) fresh n r d) (sym (append-nil p)) (record {
          row = row;
          there = node_next b new are row;
          item = for.item ∙ same;
          size = for.size ∙ ap (λ x. length (bytes_of x)) same;
          names = for.names;
        }),
      )
  own_at (x ∷ q) d is other = by_child (child_named (entries_of row) x) refl
    where
      path : (p ++ x ∷ []) ++ q ≡ p ++ x ∷ q
      path = append_assoc p (x ∷ []) q

      by_child : (o : Option ℕ) → child_named (entries_of row) x ≡ o → Own (x ∷ q) d
      by_child None e = absurd (cc (nothing x q e, is))
      by_child (Some i) e =
          let found = found_entry b sound (new ++ more) are_after fresh p lo (entries_of row) n x i entries e in
          let o = found.built.own q d (ap (item_at b.now) path ∙ is) (ap (λ (r : Names). is_same_at (prev b) b.now r) path ∙ other) in
          (o.0, beneath x q ∙ ap (λ c. and_then c (λ m. number_at (all b (new ++ more)) m q)) e ∙ o.1, omega (arith, found.above, o.2), subst (λ (r : Names). IsMade b (new ++ more) fresh o.0 r d) path o.3)

  below_at : (q : Names) (m : ℕ) → number_at (all b (new ++ more)) n q ≡ Some m → m < n + 1
  below_at [] m h = let same : n ≡ m = cc (at_root, h) in omega arith
  below_at (x ∷ q) m h = omega (arith, below_entry x q m h)

  once_at : (q r : Names) (m : ℕ) → number_at (all b (new ++ more)) n q ≡ Some m → number_at (all b (new ++ more)) n r ≡ Some m → lo ≤ m → q ≡ r
  once_at [] [] m h g l = refl
  once_at [] (y ∷ r) m h g l = absurd (let same : n ≡ m = cc (at_root, h) in omega (arith, below_entry y r m g, same))
  once_at (x ∷ q) [] m h g l = absurd (let same : n ≡ m = cc (at_root, g) in omega (arith, below_entry x q m h, same))
  once_at (x ∷ q) (y ∷ r) m h g l =
      let c = to_entry x q m h in
      let d = to_entry y r m g in
      once_among b sound (new ++ more) are_after fresh p lo (entries_of row) n x y c.0 d.0 m q r entries low l c.1 c.2 d.1 d.2

  stands_at : (m : ℕ) → lo ≤ m → m < n + 1 → (q : Names) × (number_at (all b (new ++ more)) n q ≡ Some m)
  stands_at m l h = ⊎_elim (λ before. from (stands_among b sound (new ++ more) are_after fresh p lo (entries_of row) n m rise entries l before)) (λ after. ([], last after)) (cases_lt m n)
    where
      last : n ≤ m → number_at (all b (new ++ more)) n [] ≡ Some m
      last after = let same : n ≡ m = omega arith in at_root ∙ ap Some same

      from : Standing b sound (new ++ more) are_after fresh p (entries_of row) m → (q : Names) × (number_at (all b (new ++ more)) n q ≡ Some m)
      from s = (s.name ∷ s.path, beneath s.name s.path ∙ ap (λ c. and_then c (λ m. number_at (all b (new ++ more)) m s.path)) s.entry ∙ s.stands)

  pub made_builds : Builds b (new ++ more) fresh lo (n + 1) p n
  made_builds = record {
    low = low;
    rising = omega (arith, built_rise b new fresh p lo (entries_of row) n built);
    stood = ap is_some stood;
    there = ap is_some here;
    absent = absent_at;
    shared = shared_at;
    own = own_at;
    below = below_at;
    once = once_at;
    stands = stands_at;
  }
