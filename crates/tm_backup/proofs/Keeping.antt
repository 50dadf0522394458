-- What the base keeps of a file or link, and what the walk takes it for.
use Rattle.std.proofs.Common.{◌≡◌, ℕ, Bool, true, false, ◌==◌, if◌then◌else◌, Option, Some, None, is_some, List, refl, ap, ◌∙◌}
use Rattle.std.specs.Option.{option_map}
use Rattle.std.specs.Cmp.{unsigned_Decides}
use Rattle.tm_base.specs.Paths.{Names}
use Rattle.tm_tree.specs.declared.attrs.Attrs.{Attrs}
use Rattle.tm_tree.specs.declared.item.Item.{Item}
use Rattle.tm_tree.specs.declared.item.Item.TheVariants as item
use Rattle.tm_tree.specs.declared.node.LeafRow.TheVariants.{File, Link}
use Rattle.tm_tree.specs.declared.node.NodeBody.{NodeBody}
use Rattle.tm_tree.specs.declared.node.NodeBody.TheVariants.{Folder, Leaf}
use Rattle.tm_tree.specs.Items.{is_folder}
use Rattle.tm_tree.specs.Trees.{Tree, IsTree, item_at}
use Rattle.tm_tree.specs.Copies.{bare}
use Rattle.tm_graph.specs.Nodes.{node, IsGraph}
use Rattle.tm_store_records.specs.Held.{Held}
use Rattle.tm_copy.specs.Reading.{item_of}
use Rattle.tm_copy.specs.Stamps.{alike}
use Rattle.tm_copy.specs.Keeping.{is_file_of, is_link_of, kept_file, kept_link, kept_leaf}
use Rattle.tm_copy.specs.Building.{Backup, prev, base_at, IsSound}
use Rattle.tm_copy.proofs.BaseNodes.{base_item, base_node}
use Rattle.tm_copy.proofs.Choices.{kept_is, keeps}
use Rattle.tm_backup.specs.EntryPlans.{is_file_as_was}
use Rattle.tm_backup.specs.Taking.{taken, prev_on, backup_of}
use Rattle.tm_backup.proofs.Taking.{item_at-taken, taken_tree, taken_tells}

-- a backup is sound
pub sound_of : (s : Held) (files : ℕ → List ℕ) (root : Option ℕ) (t : Tree) → IsGraph s.nodes → ((r : ℕ) → root ≡ Some r → is_some (node s.nodes r) ≡ true) → IsTree t → IsSound (backup_of s files root t)
sound_of s files root t graph based tree = record {
  graph = graph;
  based = based;
  tree = taken_tree (prev_on s files root) t tree;
  stamps = taken_tells (prev_on s files root) t;
}

same_stamp : (a b : ℕ) → (a == b) ≡ true → a ≡ b
same_stamp a b h = (unsigned_Decides a b).0 h

module _ (b : Backup) (sound : IsSound b) (p : Names) where
  -- ---- what a kept node reads as

  file_read : (x : List ℕ) (stamp : ℕ) (body : NodeBody) → is_file_of stamp body ≡ true → is_file_as_was (Some (item_of x body)) stamp ≡ true
  file_read x stamp (Folder a es) h = absurd (cc h)
  file_read x stamp (Leaf (File a s n)) h = h
  file_read x stamp (Leaf (Link a s y)) h = absurd (cc h)

  link_read : (x : List ℕ) (attrs : Attrs) (stamp : ℕ) (target : List ℕ) (body : NodeBody) → is_link_of stamp body ≡ true → alike (item_of x body) (item.Link attrs stamp target) ≡ true
  link_read x attrs stamp target (Folder a es) h = absurd (cc h)
  link_read x attrs stamp target (Leaf (File a s n)) h = absurd (cc h)
  link_read x attrs stamp target (Leaf (Link a s y)) h = h

  read_file : (x : List ℕ) (stamp : ℕ) (body : NodeBody) (d : Item) → item_of x body ≡ d → is_file_as_was (Some d) stamp ≡ true → is_file_of stamp body ≡ true
  read_file x stamp (Folder a es) d e h = absurd (cc (h, ap (λ (i : Item). is_file_as_was (Some i) stamp) e))
  read_file x stamp (Leaf (File a s n)) d e h = ap (λ (i : Item). is_file_as_was (Some i) stamp) e ∙ h
  read_file x stamp (Leaf (Link a s y)) d e h = absurd (cc (h, ap (λ (i : Item). is_file_as_was (Some i) stamp) e))

  read_link : (x : List ℕ) (attrs : Attrs) (stamp : ℕ) (target : List ℕ) (body : NodeBody) (d : Item) → item_of x body ≡ d → alike d (item.Link attrs stamp target) ≡ true → is_link_of stamp body ≡ true
  read_link x attrs stamp target (Folder a es) d e h = absurd (cc (h, ap (λ (i : Item). alike i (item.Link attrs stamp target)) e))
  read_link x attrs stamp target (Leaf (File a s n)) d e h = absurd (cc (h, ap (λ (i : Item). alike i (item.Link attrs stamp target)) e))
  read_link x attrs stamp target (Leaf (Link a s y)) d e h = ap (λ (i : Item). alike i (item.Link attrs stamp target)) e ∙ h

  -- ---- files

  pub kept_was : (stamp n : ℕ) → kept_file b.graph (base_at b p) stamp ≡ Some n → is_file_as_was (item_at (bare (prev b)) p) stamp ≡ true
  kept_was stamp n h =
      let k = kept_is (is_file_of stamp) b.graph (base_at b p) n h in
      ap (λ o. is_file_as_was o stamp) (base_item b sound p n k.row k.is k.there) ∙ file_read (b.files n) stamp k.row.body k.passes

  pub none_was : (stamp : ℕ) → kept_file b.graph (base_at b p) stamp ≡ None → is_file_as_was (item_at (bare (prev b)) p) stamp ≡ false
  none_was stamp h = by_item (item_at (bare (prev b)) p) refl
    where
      by_test : (d : Item) → item_at (bare (prev b)) p ≡ Some d → (t : Bool) → is_file_as_was (Some d) stamp ≡ t → t ≡ false
      by_test d is true e =
          let o = base_node b sound p d is in
          let some = keeps (is_file_of stamp) b.graph (base_at b p) o.0 o.1 o.2 o.3 (read_file (b.files o.0) stamp o.1.body d o.4 e) in
          absurd (cc (some, h))
      by_test d is false e = refl

      by_item : (o : Option Item) → item_at (bare (prev b)) p ≡ o → is_file_as_was o stamp ≡ false
      by_item None is = refl
      by_item (Some d) is = by_test d is (is_file_as_was (Some d) stamp) refl

-- ---- what the walk takes an item for

module _ (s : Held) (files : ℕ → List ℕ) (root : Option ℕ) (t : Tree) (sound : IsSound (backup_of s files root t)) (p : Names) where
  abbrev b : Backup
  b = backup_of s files root t

  abbrev was : Option Item
  was = item_at (bare (prev_on s files root)) p

  now_is : (e : Item) → item_at t p ≡ Some e → item_at b.now p ≡ Some (taken was e)
  now_is e is = item_at-taken (prev_on s files root) t p ∙ ap (option_map (taken was)) is

  -- a file that is kept
  pub file_kept : (a : Attrs) (stamp n : ℕ) (x : List ℕ) → item_at t p ≡ Some (item.File a stamp x) → kept_file b.graph (base_at b p) stamp ≡ Some n
      → (e : Item) × (item_at b.now p ≡ Some e) × (kept_leaf b.graph (base_at b p) e ≡ Some n)
  file_kept a stamp n x is h = by_was was refl (kept_was b sound p stamp n h)
    where
      by_was : (o : Option Item) → was ≡ o → is_file_as_was o stamp ≡ true → (e : Item) × (item_at b.now p ≡ Some e) × (kept_leaf b.graph (base_at b p) e ≡ Some n)
      by_was None w f = absurd (cc f)
      by_was (Some (item.Folder c)) w f = absurd (cc f)
      by_was (Some (item.File c old y)) w f = (
        item.File c old y,
        now_is (item.File a stamp x) is ∙ ap (λ o. Some (taken o (item.File a stamp x))) w ∙ ap (λ (k : Bool). Some (if k then item.File c old y else item.File a stamp x)) f,
        ap (kept_file b.graph (base_at b p)) (same_stamp old stamp f) ∙ h,
      )
      by_was (Some (item.Link c old y)) w f = absurd (cc f)

  -- a file that isn't is taken as it is
  pub file_new : (a : Attrs) (stamp : ℕ) (x : List ℕ) → item_at t p ≡ Some (item.File a stamp x) → kept_file b.graph (base_at b p) stamp ≡ None → item_at b.now p ≡ Some (item.File a stamp x)
  file_new a stamp x is h = now_is (item.File a stamp x) is ∙ by_was was (none_was b sound p stamp h)
    where
      by_was : (o : Option Item) → is_file_as_was o stamp ≡ false → Some (taken o (item.File a stamp x)) ≡ Some (item.File a stamp x)
      by_was None f = refl
      by_was (Some (item.Folder c)) f = refl
      by_was (Some (item.File c old y)) f = ap (λ (k : Bool). Some (if k then item.File c old y else item.File a stamp x)) f
      by_was (Some (item.Link c old y)) f = refl

  -- a link
  pub record IsLinkHere (a : Attrs) (stamp : ℕ) (target : List ℕ) : Type 0 where
    pub found : Item
    pub here : item_at b.now p ≡ Some found
    pub leaf : is_folder found ≡ false
    pub told : kept_leaf b.graph (base_at b p) found ≡ kept_link b.graph (base_at b p) stamp
    pub new : kept_link b.graph (base_at b p) stamp ≡ None → found ≡ item.Link a stamp target

  pub link_here : (a : Attrs) (stamp : ℕ) (target : List ℕ) → item_at t p ≡ Some (item.Link a stamp target) → IsLinkHere a stamp target
  link_here a stamp target is = by_was was refl
    where
      as_is : Some (taken was (item.Link a stamp target)) ≡ Some (item.Link a stamp target) → IsLinkHere a stamp target
      as_is e = record { found = item.Link a stamp target; here = now_is (item.Link a stamp target) is ∙ e; leaf = refl; told = refl; new = λ h. refl }

      by_alike : (c : Attrs) (old : ℕ) (y : List ℕ) → was ≡ Some (item.Link c old y) → (k : Bool) → (old == stamp) ≡ k → IsLinkHere a stamp target
      by_alike c old y w true f = record {
        found = item.Link c old y;
        here = now_is (item.Link a stamp target) is ∙ ap (λ o. Some (taken o (item.Link a stamp target))) w ∙ ap (λ (k : Bool). Some (if k then item.Link c old y else item.Link a stamp target)) f;
        leaf = refl;
        told = ap (kept_link b.graph (base_at b p)) (same_stamp old stamp f);
        new = λ h.
            let o = base_node b sound p (item.Link c old y) w in
            let some = keeps (is_link_of stamp) b.graph (base_at b p) o.0 o.1 o.2 o.3 (read_link b sound p (b.files o.0) a stamp target o.1.body (item.Link c old y) o.4 f) in
            absurd (cc (some, h));
      }
      by_alike c old y w false f = as_is (ap (λ o. Some (taken o (item.Link a stamp target))) w ∙ ap (λ (k : Bool). Some (if k then item.Link c old y else item.Link a stamp target)) f)

      by_was : (o : Option Item) → was ≡ o → IsLinkHere a stamp target
      by_was None w = as_is (ap (λ o. Some (taken o (item.Link a stamp target))) w)
      by_was (Some (item.Folder c)) w = as_is (ap (λ o. Some (taken o (item.Link a stamp target))) w)
      by_was (Some (item.File c old y)) w = as_is (ap (λ o. Some (taken o (item.Link a stamp target))) w)
      by_was (Some (item.Link c old y)) w = by_alike c old y w (old == stamp) refl
