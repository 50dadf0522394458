-- The tests on stamps, attributes and numbers tell where all is as it was.
use Rattle.std.proofs.Common.{◌≡◌, ℕ, ◌+◌, ◌<◌, ◌≤◌, Bool, true, false, cond, ◌==◌, if◌then◌else◌, Option, Some, None, is_some, List, [], ◌∷◌, ◌++◌, refl, sym, ap, ◌∙◌, arith, subst, ◌⊎◌, inl, inr, append-nil}
use Rattle.std.specs.Bool.{Decides}
use Rattle.std.specs.Cmp.{unsigned_Decides}
use Rattle.std.specs.Cmp.Lexicographic.{pointwise_decides}
use Rattle.std.specs.List.Sorted.{IsStrictlySortedBy}
use Rattle.std.proofs.lemmas.Bool.{cases_lt}
use Rattle.std.proofs.lemmas.List.Sums.{sum_by-cons}
use Rattle.tm_base.specs.Paths.{Names, name_cmp, parent_of}
use Rattle.tm_base.proofs.PathLemmas.{same_bytes}
use Rattle.tm_tree.specs.declared.attrs.Attrs.{Attrs}
use Rattle.tm_tree.specs.declared.item.Item.{Item}
use Rattle.tm_tree.specs.declared.item.Item.TheVariants as item
use Rattle.tm_tree.specs.declared.node.Child.{Child}
use Rattle.tm_tree.specs.declared.node.LeafRow.TheVariants.{File, Link}
use Rattle.tm_tree.specs.declared.node.NodeBody.{NodeBody}
use Rattle.tm_tree.specs.declared.node.NodeBody.TheVariants.{Folder, Leaf}
use Rattle.tm_tree.specs.declared.node.NodeRow.{NodeRow}
use Rattle.tm_tree.specs.Items.{is_folder}
use Rattle.tm_tree.specs.Trees.{Tree, item_at, is_some_folder, folder_at, IsTree}
use Rattle.tm_tree.specs.Copies.{bare, is_same_at}
use Rattle.tm_tree.proofs.SameItems.{both, onto, same_attrs_decides}
use Rattle.tm_tree.proofs.TreesKept.{none_from, clash}
use Rattle.tm_graph.specs.Nodes.{Nodes, node, names, times, body_entries, entries_of, NamesRise}
use Rattle.tm_graph.specs.Trees.{child_of}
use Rattle.tm_graph.specs.Walks.{child_named}
use Rattle.tm_graph.proofs.WaysFound.{child_there, named_there}
use Rattle.tm_copy.specs.Reading.{item_of}
use Rattle.tm_copy.specs.Stamps.{alike}
use Rattle.tm_copy.specs.Keeping.{same_child, same_entries, is_file_of, is_link_of, is_folder_of, passes, kept, kept_leaf, kept_folder}
use Rattle.tm_copy.specs.Building.{Backup, prev, base_at, first, all, IsSound, AreNew, Builds, AreBuilt, AreNamed}
use Rattle.tm_base.proofs.Facts.{some_there as some_is}
use Rattle.tm_copy.proofs.Ways.{not_both, number_here}
use Rattle.tm_copy.proofs.BaseNodes.{base_item, base_node, base_none, base_child, same_item, still_same, same_from, same_none, old_number}
use Rattle.tm_copy.proofs.Naming.{In, named_some, no_root, parent_is, row_for, listed_rise, entries_equal}
use Rattle.tm_copy.proofs.Among.{found_entry}

-- ---- a kept node

pub record Kept (test : NodeBody → Bool) (g : Nodes) (base : Option ℕ) (n : ℕ) : Type 0 where
  pub row : NodeRow
  pub is : base ≡ Some n
  pub there : node g n ≡ Some row
  pub passes : test row.body ≡ true

pub kept_is : (test : NodeBody → Bool) (g : Nodes) (base : Option ℕ) (n : ℕ) → kept test g base ≡ Some n → Kept test g base n
kept_is test g None n e = absurd (cc e)
kept_is test g (Some m) n e = by_node (node g m) refl e
  where
    by_test : (row : NodeRow) → node g m ≡ Some row → (t : Bool) → test row.body ≡ t → (if t then Some m else None) ≡ Some n → Kept test g (Some m) n
    by_test row there true passes e = let same : m ≡ n = cc e in record { row = row; is = e; there = subst (λ k. node g k ≡ Some row) same there; passes = passes }
    by_test row there false fails e = absurd (cc e)

    by_node : (o : Option NodeRow) → node g m ≡ o → (if passes test o then Some m else None) ≡ Some n → Kept test g (Some m) n
    by_node None none e = absurd (cc e)
    by_node (Some row) there e = by_test row there (test row.body) refl e

-- a node that passes is kept
pub keeps : (test : NodeBody → Bool) (g : Nodes) (base : Option ℕ) (n : ℕ) (row : NodeRow) → base ≡ Some n → node g n ≡ Some row → test row.body ≡ true → kept test g base ≡ Some n
keeps test g base n row e f t =
    ap (kept test g) e ∙ ap (λ (o : Option NodeRow). if passes test o then Some n else None) f ∙ ap (λ (b : Bool). if b then Some n else None) t

is_false : (b : Bool) → (b ≡ true → ⊥) → b ≡ false
is_false true f = absurd (f refl)
is_false false f = refl

-- ---- files and links

-- a test that tells a file or link by its kind and stamp
record Tells (test : NodeBody → Bool) (e : Item) : Type 0 where
  alone : (body : NodeBody) → test body ≡ true → body_entries body ≡ []
  tells : (bytes : List ℕ) (body : NodeBody) → test body ≡ true → alike (item_of bytes body) e ≡ true
  itself : (bytes : List ℕ) (body : NodeBody) → item_of bytes body ≡ e → test body ≡ true
  leaf : is_folder e ≡ false

file_tells : (attrs : Attrs) (stamp : ℕ) (bytes : List ℕ) → Tells (is_file_of stamp) (item.File attrs stamp bytes)
file_tells attrs stamp bytes = record { alone = alone; tells = tells; itself = itself; leaf = refl }
  where
    alone : (body : NodeBody) → is_file_of stamp body ≡ true → body_entries body ≡ []
    alone (Folder a es) t = absurd (cc t)
    alone (Leaf leaf) t = refl

    tells : (x : List ℕ) (body : NodeBody) → is_file_of stamp body ≡ true → alike (item_of x body) (item.File attrs stamp bytes) ≡ true
    tells x (Folder a es) t = absurd (cc t)
    tells x (Leaf (File a s n)) t = t
    tells x (Leaf (Link a s y)) t = absurd (cc t)

    itself : (x : List ℕ) (body : NodeBody) → item_of x body ≡ item.File attrs stamp bytes → is_file_of stamp body ≡ true
    itself x (Folder a es) t = absurd (cc t)
    itself x (Leaf (File a s n)) t = let same : s ≡ stamp = cc t in (unsigned_Decides s stamp).1 same
    itself x (Leaf (Link a s y)) t = absurd (cc t)

link_tells : (attrs : Attrs) (stamp : ℕ) (target : List ℕ) → Tells (is_link_of stamp) (item.Link attrs stamp target)
link_tells attrs stamp target = record { alone = alone; tells = tells; itself = itself; leaf = refl }
  where
    alone : (body : NodeBody) → is_link_of stamp body ≡ true → body_entries body ≡ []
    alone (Folder a es) t = absurd (cc t)
    alone (Leaf leaf) t = refl

    tells : (x : List ℕ) (body : NodeBody) → is_link_of stamp body ≡ true → alike (item_of x body) (item.Link attrs stamp target) ≡ true
    tells x (Folder a es) t = absurd (cc t)
    tells x (Leaf (File a s n)) t = absurd (cc t)
    tells x (Leaf (Link a s y)) t = t

    itself : (x : List ℕ) (body : NodeBody) → item_of x body ≡ item.Link attrs stamp target → is_link_of stamp body ≡ true
    itself x (Folder a es) t = absurd (cc t)
    itself x (Leaf (File a s n)) t = absurd (cc t)
    itself x (Leaf (Link a s y)) t = let same : s ≡ stamp = cc t in (unsigned_Decides s stamp).1 same

-- in a file or link nothing stands
pub nothing_in : (t : Tree) (p : Names) (e : Item) (x : List ℕ) → IsTree t → item_at t p ≡ Some e → is_folder e ≡ false → item_at t (p ++ x ∷ []) ≡ None
nothing_in t p e x tree is leaf = none_from (item_at t (p ++ x ∷ [])) (λ there.
    let folder : folder_at t (parent_of (p ++ x ∷ [])) ≡ true = tree.placed (p ++ x ∷ []) (no_root p x) there in
    clash (sym leaf ∙ ap is_some_folder (sym is) ∙ ap (folder_at t) (sym (parent_is p x)) ∙ folder))

module _ (b : Backup) (sound : IsSound b) (p : Names) (e : Item) (stood : item_at b.now p ≡ Some e) where
  module _ (test : NodeBody → Bool) (tells : Tells test e) where
    -- a node that passes is that of the same item
    passing_same : (n : ℕ) → Kept test b.graph (base_at b p) n → is_same_at (prev b) b.now p ≡ true
    passing_same n k =
        let was : item_at (bare (prev b)) p ≡ Some (item_of (b.files n) k.row.body) = base_item b sound p n k.row k.is k.there in
        let same : item_of (b.files n) k.row.body ≡ e = sound.stamps p _ e was stood (tells.tells (b.files n) k.row.body k.passes) in
        same_from b sound p (was ∙ ap Some same ∙ sym stood) (λ x. same_none b sound (p ++ x ∷ [])
        (base_child b sound p n k.row x k.is k.there ∙ ap (λ es. child_named es x) (tells.alone k.row.body k.passes))
        (nothing_in b.now p e x sound.tree stood tells.leaf))

    -- where the base has the item, its node passes
    had_passing : item_at (bare (prev b)) p ≡ Some e → (n : ℕ) × (kept test b.graph (base_at b p) ≡ Some n)
    had_passing had =
        let old = base_node b sound p e had in
        (old.0, keeps test b.graph (base_at b p) old.0 old.1 old.2 old.3 (tells.itself (b.files old.0) old.1.body old.4))

    -- and so where all is as it was
    same_passing : is_same_at (prev b) b.now p ≡ true → (n : ℕ) × (kept test b.graph (base_at b p) ≡ Some n)
    same_passing same = had_passing (same_item b sound p same ∙ stood)

    told_same : (n : ℕ) → kept test b.graph (base_at b p) ≡ Some n → (base_at b p ≡ Some n) × (is_same_at (prev b) b.now p ≡ true)
    told_same n h = let k = kept_is test b.graph (base_at b p) n h in (k.is, passing_same n k)

    had_same : item_at (bare (prev b)) p ≡ Some e → is_same_at (prev b) b.now p ≡ true
    had_same had = let n = had_passing had in (told_same n.0 n.1).1

    told_other : kept test b.graph (base_at b p) ≡ None → is_same_at (prev b) b.now p ≡ false
    told_other h = is_false (is_same_at (prev b) b.now p) (λ same. let s = same_passing same in cc (s.1, h))

pub leaf_same : (b : Backup) → IsSound b → (p : Names) (e : Item) (n : ℕ) → item_at b.now p ≡ Some e → kept_leaf b.graph (base_at b p) e ≡ Some n → (base_at b p ≡ Some n) × (is_same_at (prev b) b.now p ≡ true)
leaf_same b sound p (item.Folder a) n stood h = absurd (cc h)
leaf_same b sound p (item.File a s x) n stood h = told_same b sound p (item.File a s x) stood (is_file_of s) (file_tells a s x) n h
leaf_same b sound p (item.Link a s x) n stood h = told_same b sound p (item.Link a s x) stood (is_link_of s) (link_tells a s x) n h

pub leaf_other : (b : Backup) → IsSound b → (p : Names) (e : Item) → item_at b.now p ≡ Some e → is_folder e ≡ false → kept_leaf b.graph (base_at b p) e ≡ None → is_same_at (prev b) b.now p ≡ false
leaf_other b sound p (item.Folder a) stood leaf h = absurd (cc leaf)
leaf_other b sound p (item.File a s x) stood leaf h = told_other b sound p (item.File a s x) stood (is_file_of s) (file_tells a s x) h
leaf_other b sound p (item.Link a s x) stood leaf h = told_other b sound p (item.Link a s x) stood (is_link_of s) (link_tells a s x) h

-- a file or link that the base has is as it was
pub leaf_had : (b : Backup) → IsSound b → (p : Names) (e : Item) → item_at b.now p ≡ Some e → is_folder e ≡ false → item_at (bare (prev b)) p ≡ Some e → is_same_at (prev b) b.now p ≡ true
leaf_had b sound p (item.Folder a) stood leaf had = absurd (cc leaf)
leaf_had b sound p (item.File a s x) stood leaf had = had_same b sound p (item.File a s x) stood (is_file_of s) (file_tells a s x) had
leaf_had b sound p (item.Link a s x) stood leaf had = had_same b sound p (item.Link a s x) stood (is_link_of s) (link_tells a s x) had

-- ---- folders

same_child_decides : (a b : Child) → Decides (same_child a b) (a ≡ b)
same_child_decides a b =
    onto (λ (h : (a.name ≡ b.name) × (a.node ≡ b.node)). λ i. record { name = h.0 i; node = h.1 i }) (λ e. (ap (λ (c : Child). c.name) e, ap (λ (c : Child). c.node) e))
    (both (same_bytes a.name b.name) (unsigned_Decides a.node b.node))

pub same_entries_decides : (a b : List Child) → Decides (same_entries a b) (a ≡ b)
same_entries_decides = pointwise_decides same_child_decides

-- the folder that passes
folder_passes : (attrs : Attrs) (es : List Child) (body : NodeBody) → is_folder_of attrs es body ≡ true → body ≡ Folder attrs es
folder_passes attrs es (Folder a fs) t = let h = (both (same_attrs_decides a attrs) (same_entries_decides fs es)).0 t in λ i. Folder (h.0 i) (h.1 i)
folder_passes attrs es (Leaf leaf) t = absurd (cc t)

passes_itself : (attrs : Attrs) (es : List Child) (body : NodeBody) → body ≡ Folder attrs es → is_folder_of attrs es body ≡ true
passes_itself attrs es body e = ap (is_folder_of attrs es) e ∙ (both (same_attrs_decides attrs attrs) (same_entries_decides es es)).1 (refl, refl)

-- a node that reads as a folder
folder_body : (bytes : List ℕ) (body : NodeBody) (attrs : Attrs) → item_of bytes body ≡ item.Folder attrs → body ≡ Folder attrs (body_entries body)
folder_body bytes (Folder a es) attrs e = let same : a ≡ attrs = cc e in ap (λ x. Folder x es) same
folder_body bytes (Leaf (File a s n)) attrs e = absurd (cc e)
folder_body bytes (Leaf (Link a s y)) attrs e = absurd (cc e)

-- beneath old nodes no new ones stand
no_range : (b : Backup) → IsSound b → (new : Nodes) (fresh : ℕ → List ℕ) (p : Names) (lo : ℕ) (es : List Child) (hi : ℕ) → first b ≤ lo → AreBuilt b new fresh p lo es hi
    → ((q : ℕ) → 0 < times q es → is_some (node b.graph q) ≡ true) → hi ≡ lo
no_range b sound new fresh p lo [] hi low h old = sym h
no_range b sound new fresh p lo (c ∷ es) hi low h old =
    let more = sum_by-cons (λ (e : Child). cond (e.node == c.node) 1 0) c es in
    let here : is_some (node b.graph c.node) ≡ true = old c.node (once more) in
    let empty : h.0 ≡ lo = by_range (cases_lt lo h.0) here in
    let rest = no_range b sound new fresh p h.0 es hi (omega (arith, low, h.1.rising)) h.2 (λ q some. old q (omega (arith, some, sum_by-cons (λ (e : Child). cond (e.node == q) 1 0) c es))) in
    rest ∙ empty
  where
    once : times c.node (c ∷ es) ≡ cond (c.node == c.node) 1 0 + times c.node es → 0 < times c.node (c ∷ es)
    once more = let one : ◌≡◌ {A = ℕ} (cond (c.node == c.node) 1 0) 1 = ap (λ b. cond b 1 0) ((unsigned_Decides c.node c.node).1 refl) in omega (arith, more, one)

    by_range : (lo < h.0) ⊎ (h.0 ≤ lo) → is_some (node b.graph c.node) ≡ true → h.0 ≡ lo
    by_range (inl less) here = absurd (let s = h.1.stands lo (omega arith) less in omega (arith, low, (old_number b sound new fresh lo low c.node lo s.0 here s.1).1))
    by_range (inr most) here = omega (arith, most, h.1.rising)

module _ (b : Backup) (sound : IsSound b) (new : Nodes) (are : AreNew b new) (fresh : ℕ → List ℕ) (lo hi : ℕ) (low : first b ≤ lo) (p : Names) (attrs : Attrs) (es : List Child)
    (stood : item_at b.now p ≡ Some (item.Folder attrs)) (named : AreNamed b p es) (built : AreBuilt b new fresh p lo es hi) where
  -- a name with an item has an entry
  entry_for : (x : List ℕ) → is_some (item_at b.now (p ++ x ∷ [])) ≡ true → is_some (child_named es x) ≡ true
  entry_for x some = named_some es x (subst (λ names. In x names) (sym named) (row_for b.now p x some))

  module _ (n : ℕ) (k : Kept (is_folder_of attrs es) b.graph (base_at b p) n) where
    body : k.row.body ≡ Folder attrs es
    body = folder_passes attrs es k.row.body k.passes

    its : entries_of k.row ≡ es
    its = ap body_entries body

    -- each entry is an old node
    entry_old : (x : List ℕ) (m : ℕ) → child_named es x ≡ Some m → is_some (node b.graph m) ≡ true
    entry_old x m e = child_there b.graph n m x sound.graph (ap (λ o. child_of o x) k.there ∙ ap (λ es. child_named es x) its ∙ e)

    child_same : (x : List ℕ) → is_same_at (prev b) b.now (p ++ x ∷ []) ≡ true
    child_same x = by_entry (child_named es x) refl
      where
        base_is : base_at b (p ++ x ∷ []) ≡ child_named es x
        base_is = base_child b sound p n k.row x k.is k.there ∙ ap (λ es. child_named es x) its

        -- an own node isn't old
        by_same : (m lo hi : ℕ) (t : Bool) (d : Item) → Builds b new fresh lo hi (p ++ x ∷ []) m → is_some (node b.graph m) ≡ true → item_at b.now (p ++ x ∷ []) ≡ Some d → is_same_at (prev b) b.now (p ++ x ∷ []) ≡ t → is_same_at (prev b) b.now (p ++ x ∷ []) ≡ true
        by_same m lo hi true d made old is same = same
        by_same m lo hi false d made old is other =
            let o = made.own [] d (ap (item_at b.now) (append-nil (p ++ x ∷ [])) ∙ is) (ap (λ (r : Names). is_same_at (prev b) b.now r) (append-nil (p ++ x ∷ [])) ∙ other) in
            absurd (omega (arith, o.2, made.low, (old_number b sound new fresh lo made.low m o.0 [] old o.1).1))

        by_entry : (o : Option ℕ) → child_named es x ≡ o → is_same_at (prev b) b.now (p ++ x ∷ []) ≡ true
        by_entry None e = same_none b sound (p ++ x ∷ []) (base_is ∙ e) (none_from (item_at b.now (p ++ x ∷ [])) (λ some. not_both (child_named es x) e (entry_for x some)))
        by_entry (Some m) e =
            let f = found_entry b sound new are fresh p lo es hi x m built e in
            let d = some_is (item_at b.now (p ++ x ∷ [])) f.built.stood in
            by_same m f.from f.to (is_same_at (prev b) b.now (p ++ x ∷ [])) d.0 f.built (entry_old x m e) d.1 refl

    folder_is_same : is_same_at (prev b) b.now p ≡ true
    folder_is_same = same_from b sound p (base_item b sound p n k.row k.is k.there ∙ ap (λ y. Some (item_of (b.files n) y)) body ∙ sym stood) child_same

  -- and then no node was made
  pub folder_range : (n : ℕ) → kept_folder b.graph (base_at b p) attrs es ≡ Some n → hi ≡ lo
  folder_range n h = let k = kept_is (is_folder_of attrs es) b.graph (base_at b p) n h in
      no_range b sound new fresh p lo es hi low built (λ q some. old q some k)
    where
      old : (q : ℕ) → 0 < times q es → Kept (is_folder_of attrs es) b.graph (base_at b p) n → is_some (node b.graph q) ≡ true
      old q some k = named_there b.graph n q sound.graph (subst (λ (o : Option NodeRow). 0 < names q o) (sym k.there) (subst (λ es. 0 < times q es) (sym (its n k)) some))

  pub folder_same : (n : ℕ) → kept_folder b.graph (base_at b p) attrs es ≡ Some n → (base_at b p ≡ Some n) × (is_same_at (prev b) b.now p ≡ true)
  folder_same n h = let k = kept_is (is_folder_of attrs es) b.graph (base_at b p) n h in (k.is, folder_is_same n k)

  -- where all is as it was, the base's folder has the same entries
  same_folder : is_same_at (prev b) b.now p ≡ true → (n : ℕ) × (kept_folder b.graph (base_at b p) attrs es ≡ Some n)
  same_folder same =
      let old = base_node b sound p (item.Folder attrs) (same_item b sound p same ∙ stood) in
      let rise : NamesRise es = subst (λ (names : List (List ℕ)). IsStrictlySortedBy name_cmp names) (sym named) (listed_rise b.now p sound.tree.in_order) in
      let its : entries_of old.1 ≡ es = entries_equal (entries_of old.1) es (sound.graph.rises old.0 old.1 old.3) rise (λ x. sym (base_child b sound p old.0 old.1 x old.2 old.3) ∙ by_entry x (child_named es x) refl) in
      let body : old.1.body ≡ Folder attrs es = folder_body (b.files old.0) old.1.body attrs old.4 ∙ ap (Folder attrs) its in
      (old.0, keeps (is_folder_of attrs es) b.graph (base_at b p) old.0 old.1 old.2 old.3 (passes_itself attrs es old.1.body body))
    where
      by_entry : (x : List ℕ) (o : Option ℕ) → child_named es x ≡ o → base_at b (p ++ x ∷ []) ≡ child_named es x
      by_entry x None e =
          let none : item_at b.now (p ++ x ∷ []) ≡ None = none_from (item_at b.now (p ++ x ∷ [])) (λ some. not_both (child_named es x) e (entry_for x some)) in
          base_none b sound (p ++ x ∷ []) (same_item b sound (p ++ x ∷ []) (still_same b sound p (x ∷ []) same) ∙ none) ∙ sym e
      by_entry x (Some m) e =
          let f = found_entry b sound new are fresh p lo es hi x m built e in
          let nil : (p ++ x ∷ []) ++ [] ≡ p ++ x ∷ [] = append-nil (p ++ x ∷ []) in
          ap (base_at b) (sym nil)
          ∙ sym (f.built.shared [] (ap (λ (r : Names). is_some (item_at b.now r)) nil ∙ f.built.stood) (ap (λ (r : Names). is_same_at (prev b) b.now r) nil ∙ still_same b sound p (x ∷ []) same))
          ∙ number_here (all b new) m f.built.there ∙ sym e

  pub folder_other : kept_folder b.graph (base_at b p) attrs es ≡ None → is_same_at (prev b) b.now p ≡ false
  folder_other h = is_false (is_same_at (prev b) b.now p) (λ same. let s = same_folder same in cc (s.1, h))
