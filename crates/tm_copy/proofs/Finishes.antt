-- What is built is the labelled copy, of the base's nodes and new ones.
use Rattle.std.proofs.Common.{◌≡◌, ℕ, ◌<◌, ◌≤◌, Bool, true, false, nat_lt, if◌then◌else◌, Option, Some, None, is_some, List, [], ◌∷◌, ◌++◌, length, map, get_or, refl, sym, ap, ◌∙◌, arith, subst, ⊎_elim, ◌⊎◌, inl, inr}
use Rattle.std.specs.List.{slice_get}
use Rattle.std.specs.Option.{option_map, unwrap_or}
use Rattle.std.proofs.lemmas.Bool.Decides.{nat_tests}
use Rattle.std.proofs.lemmas.List.{get_or_default}
use Rattle.std.proofs.lemmas.Option.{slice_get_read}
use Rattle.tm_base.specs.Paths.{Names}
use Rattle.tm_tree.specs.declared.item.Item.{Item}
use Rattle.tm_tree.specs.declared.item.Item.TheVariants as item
use Rattle.tm_tree.specs.declared.item.Labelled.{Labelled}
use Rattle.tm_tree.specs.declared.node.LeafRow.TheVariants.{File, Link}
use Rattle.tm_tree.specs.declared.node.NodeBody.{NodeBody}
use Rattle.tm_tree.specs.declared.node.NodeBody.TheVariants.{Folder, Leaf}
use Rattle.tm_tree.specs.declared.node.NodeRow.{NodeRow}
use Rattle.tm_tree.specs.Items.{is_folder, bytes_of}
use Rattle.tm_tree.specs.Trees.{item_at, is_some_folder}
use Rattle.tm_tree.specs.Copies.{is_same_at, copy}
use Rattle.tm_graph.specs.Nodes.{Nodes, node, entries_of, body_entries, greatest, is_folder_body, is_folder as is_folder_row}
use Rattle.tm_graph.specs.Trees.{and_then, child_of, number_at, rows_of}
use Rattle.tm_graph.proofs.WaysFound.{child_there}
use Rattle.tm_identity.specs.Additions.{IsCopied}
use Rattle.tm_identity.specs.Stores.{label_of}
use Rattle.tm_identity.specs.Stored.{body_length, node_length}
use Rattle.tm_tree.specs.declared.node.Child.{Child}
use Rattle.tm_copy.specs.Reading.{item_of, labelled}
use Rattle.tm_copy.specs.Copying.{with_label, tree_under, node_under}
use Rattle.tm_copy.specs.Building.{Backup, prev, base_at, first, next, all, all_files, IsSound, AreNew, IsMade, Builds, AreBuilt, AreNamed}
use Rattle.tm_copy.specs.Driving.{BaseGoesDown, NoneAreNew, LeafIsKept, LeafIsMade, EntryIsBuilt, FolderIsKept, FolderIsMade, LeafIsSame, is_folder_node, IsPlaced, BackupIsBuilt}
use Rattle.tm_base.proofs.Facts.{some_there as some_is}
use Rattle.tm_copy.proofs.Ways.{number_here}
use Rattle.tm_graph.proofs.PlaceAt.{descends as graph_descends, rows_at}
use Rattle.tm_graph.proofs.PlaceOrder.{rows_in_order}
use Rattle.tm_copy.proofs.Copied.{Makes, rows_are_copy, rows_equal}
use Rattle.tm_copy.proofs.Appended.{place_of, found_at, node_stays, new_is, new_there, new_at, descends, old_below, value_stays, number_stays, there_stays, there_after}
use Rattle.tm_copy.proofs.BaseNodes.{base_there, base_item, base_append, same_item, kept_builds}
use Rattle.tm_copy.proofs.Among.{all_stay, built_push}
use Rattle.tm_copy.proofs.Makes.{IsRowFor, are_after, made_builds}
use Rattle.tm_copy.proofs.Choices.{nothing_in, leaf_same, leaf_other, leaf_had, folder_same, folder_other, folder_range}
use Rattle.tm_copy.proofs.Naming.{no_rows}

-- ---- the steps

pub base_goes_down : BaseGoesDown
base_goes_down b sound = (by_base b.base sound.based, λ p name. by_option name (base_at b p) ∙ sym (base_append b sound p (name ∷ [])))
  where
    by_base : (o : Option ℕ) → ((r : ℕ) → o ≡ Some r → is_some (node b.graph r) ≡ true) → and_then o (λ r. number_at b.graph r []) ≡ o
    by_base None f = refl
    by_base (Some r) f = number_here b.graph r (f r refl)

    by_child : (name : List ℕ) (n : ℕ) (o : Option ℕ) → child_of (node b.graph n) name ≡ o → and_then (child_of (node b.graph n) name) (λ m. number_at b.graph m []) ≡ child_of (node b.graph n) name
    by_child name n None e = ap (λ o. and_then o (λ m. number_at b.graph m [])) e ∙ sym e
    by_child name n (Some m) e = ap (λ o. and_then o (λ m. number_at b.graph m [])) e ∙ number_here b.graph m (child_there b.graph n m name sound.graph e) ∙ sym e

    by_option : (name : List ℕ) (o : Option ℕ) → and_then o (λ n. child_of (node b.graph n) name) ≡ and_then o (λ n. number_at b.graph n (name ∷ []))
    by_option name None = refl
    by_option name (Some n) = sym (by_child name n (child_of (node b.graph n) name) refl)

pub none_are_new : NoneAreNew
none_are_new b = record { numbered = λ place e h. absurd (cc h); each = λ i d below. absurd (omega (arith, below)) }

pub leaf_is_kept : LeafIsKept
leaf_is_kept b new fresh lo p e n sound low stood kept =
    let same = leaf_same b sound p e n stood kept in
    kept_builds b sound new fresh lo low p n (ap is_some stood) same.0 same.1

-- a file's or link's node has no entries
leaf_alone : (bytes : List ℕ) (body : NodeBody) (e : Item) → item_of bytes body ≡ e → is_folder e ≡ false → body_entries body ≡ []
leaf_alone bytes (Folder a es) e is leaf = absurd (cc (ap is_folder is, leaf))
leaf_alone bytes (Leaf l) e is leaf = refl

pub leaf_is_same : LeafIsSame
leaf_is_same b p e sound stood leaf had = leaf_had b sound p e stood leaf had

pub leaf_is_made : LeafIsMade
leaf_is_made b new fresh p e row sound are stood leaf kept label is size =
    let alone : entries_of row ≡ [] = leaf_alone (fresh (next b new)) row.body e is leaf in
    let changed = leaf_other b sound p e stood leaf kept in
    let named : AreNamed b p (entries_of row) = ap (λ es. map (λ (c : Child). c.name) es) alone ∙ sym (no_rows b.now p (λ x. nothing_in b.now p e x sound.tree stood leaf)) in
    let for : IsRowFor b (fresh (next b new)) p e row = record { label = label; item = is; size = size; names = named } in
    let none : AreBuilt b new fresh p (next b new) (entries_of row) (next b new) = subst (λ es. AreBuilt b new fresh p (next b new) es (next b new)) (sym alone) refl in
    (are_after b sound new are fresh (next b new) (omega arith) p e row stood changed for none, made_builds b sound new are fresh (next b new) (omega arith) p e row stood changed for none)

pub entry_is_built : EntryIsBuilt
entry_is_built b new more fresh other p lo mid hi es c sound are built same next_built =
    built_push b (new ++ more) other p lo mid hi es c (all_stay b sound new more are fresh other p lo es mid same built) next_built

pub folder_is_kept : FolderIsKept
folder_is_kept b new fresh lo hi p attrs es n sound are low stood named built kept =
    let same = folder_same b sound new are fresh lo hi low p attrs es stood named built n kept in
    let range = folder_range b sound new are fresh lo hi low p attrs es stood named built n kept in
    subst (λ k. Builds b new fresh lo k p n) (sym range) (kept_builds b sound new fresh lo low p n (ap is_some stood) same.0 same.1)

pub folder_is_made : FolderIsMade
folder_is_made b new fresh lo p attrs es row sound are low stood named built kept label body =
    let changed = folder_other b sound new are fresh lo (next b new) low p attrs es stood named built kept in
    let its : entries_of row ≡ es = ap body_entries body in
    let for : IsRowFor b (fresh (next b new)) p (item.Folder attrs) row = record {
      label = label;
      item = ap (item_of (fresh (next b new))) body;
      size = ap body_length body;
      names = ap (λ es. map (λ (c : Child). c.name) es) its ∙ named;
    } in
    let of_row : AreBuilt b new fresh p lo (entries_of row) (next b new) = subst (λ es. AreBuilt b new fresh p lo es (next b new)) (sym its) built in
    (are_after b sound new are fresh lo low p (item.Folder attrs) row stood changed for of_row, made_builds b sound new are fresh lo low p (item.Folder attrs) row stood changed for of_row)

-- ---- the end

-- the node at each place of the list is the one of its number
module _ (b : Backup) (new : Nodes) (are : AreNew b new) where
  node_at : (i : ℕ) (e : ℕ × NodeRow) → slice_get new i ≡ Some e → node new e.0 ≡ Some e.1
  node_at i e at =
      let s = some_is (node new e.0) (found_at new i e at) in
      let other = place_of new e.0 s.0 s.1 in
      let same : other.0 ≡ i = omega (arith, are.numbered i e at, are.numbered other.0 (e.0, s.0) other.1) in
      let pair : ◌≡◌ {A = ℕ × NodeRow} (e.0, s.0) e = some_pair (sym other.1 ∙ ap (slice_get new) same ∙ at) in
      s.1 ∙ ap (λ (x : ℕ × NodeRow). Some x.1) pair
    where
      some_pair : {x y : ℕ × NodeRow} → Some x ≡ Some y → x ≡ y
      some_pair e = cc

module _ (b : Backup) (new : Nodes) (fresh : ℕ → List ℕ) (root : ℕ) (sound : IsSound b) (are : AreNew b new) (built : Builds b new fresh (first b) (next b new) [] root) where
  abbrev h : Nodes
  h = all b new

  abbrev read : ℕ → NodeRow → Labelled
  read = labelled (all_files b fresh)

  old_bytes : (m : ℕ) → is_some (node b.graph m) ≡ true → all_files b fresh m ≡ b.files m
  old_bytes m t = let old = old_below b m sound.graph t in let not : nat_lt (greatest b.graph) m ≡ false = grind (arith, nat_tests) in ap (λ (x : Bool). if x then fresh m else b.files m) not

  new_bytes : (m : ℕ) → first b ≤ m → all_files b fresh m ≡ fresh m
  new_bytes m l = let is : nat_lt (greatest b.graph) m ≡ true = grind (arith, nat_tests) in ap (λ (x : Bool). if x then fresh m else b.files m) is

  shut : (n m : ℕ) (name : List ℕ) → child_of (node b.graph n) name ≡ Some m → is_some (node b.graph m) ≡ true
  shut n m name c = child_there b.graph n m name sound.graph c

  -- the base's tree is the same among all nodes
  prev_is : tree_under read h b.base ≡ prev b
  prev_is = by_base b.base sound.based
    where
      by_base : (o : Option ℕ) → ((r : ℕ) → o ≡ Some r → is_some (node b.graph r) ≡ true) → tree_under read h o ≡ tree_under (labelled b.files) b.graph o
      by_base None f = refl
      by_base (Some r) f = rows_equal (rows_of read h r) (rows_of (labelled b.files) b.graph r)
          (rows_in_order read h (descends b new sound.graph are) r) (rows_in_order (labelled b.files) b.graph (graph_descends b.graph sound.graph) r)
          (λ p. rows_at h (descends b new sound.graph are) read r p
          ∙ value_stays (labelled b.files) read b.graph new shut (λ m row e. ap (λ bytes. record { label = row.label; item = item_of bytes row.body }) (sym (old_bytes m (ap is_some e)))) p r (f r refl)
          ∙ sym (rows_at b.graph (graph_descends b.graph sound.graph) (labelled b.files) r p))

  under_is : (p : Names) → node_under h b.base p ≡ base_at b p
  under_is p = by_base b.base sound.based
    where
      by_base : (o : Option ℕ) → ((r : ℕ) → o ≡ Some r → is_some (node b.graph r) ≡ true) → and_then o (λ r. number_at h r p) ≡ and_then o (λ r. number_at b.graph r p)
      by_base None f = refl
      by_base (Some r) f = number_stays b.graph new shut p r (f r refl)

  makes : Makes read h b.label b.base b.now root
  makes = record {
    absent = built.absent;
    shared = λ p some same. built.shared p some (subst (λ t. is_same_at t b.now p ≡ true) prev_is same) ∙ sym (under_is p);
    own = λ p e is other. own p e (built.own p e is (subst (λ t. is_same_at t b.now p ≡ false) prev_is other));
  }
    where
      own : (p : Names) (e : Item) → (m : ℕ) × (number_at h root p ≡ Some m) × (first b ≤ m) × IsMade b new fresh m p e → and_then (number_at h root p) (λ m. option_map (read m) (node h m)) ≡ Some (with_label b.label e)
      own p e o =
          let label : o.3.row.label ≡ b.label = (new_is b new are o.0 o.3.row o.3.there).is.label in
          let item : item_of (all_files b fresh o.0) o.3.row.body ≡ e = ap (λ bytes. item_of bytes o.3.row.body) (new_bytes o.0 o.2) ∙ o.3.item in
          ap (λ o. and_then o (λ m. option_map (read m) (node h m))) o.1 ∙ ap (option_map (read o.0)) (new_at b new sound.graph are o.0 o.3.row o.3.there)
          ∙ (λ i. Some (record { label = label i; item = item i }))

  tree : rows_of read h root ≡ copy b.label (prev b) b.now
  tree = rows_are_copy read h b.label b.base b.now (descends b new sound.graph are) sound.tree root makes ∙ ap (λ t. copy b.label t b.now) prev_is

  -- ---- the nodes

  -- what stands at p is the base's node there or a new one
  abbrev Sort : Names → ℕ → Type 0
  Sort p n = (base_at b p ≡ Some n) ⊎ ((e : Item) × (item_at b.now p ≡ Some e) × (first b ≤ n) × IsMade b new fresh n p e × (is_same_at (prev b) b.now p ≡ false))

  sort : (p : Names) (n : ℕ) → number_at h root p ≡ Some n → Sort p n
  sort p n at = by_item (item_at b.now p) refl
    where
      by_same : (e : Item) → item_at b.now p ≡ Some e → (t : Bool) → is_same_at (prev b) b.now p ≡ t → Sort p n
      by_same e is true same = inl (sym (built.shared p (ap is_some is) same) ∙ at)
      by_same e is false other = let o = built.own p e is other in let here : o.0 ≡ n = cc (o.1, at) in inr (e, is, subst (λ k. first b ≤ k) here o.2, subst (λ k. IsMade b new fresh k p e) here o.3, other)

      by_item : (o : Option Item) → item_at b.now p ≡ o → Sort p n
      by_item None none = let gone = built.absent p none in absurd (cc (gone, at))
      by_item (Some e) is = by_same e is (is_same_at (prev b) b.now p) refl

  copied : (p : Names) (n : ℕ) → number_at h root p ≡ Some n → IsCopied b.graph h b.label b.base p n
  copied p n at = ⊎_elim (λ old. inl (by_base b.base old)) (λ made. inr (not_old made.2, label made.3.row made.3.there)) (sort p n at)
    where
      by_base : (o : Option ℕ) → and_then o (λ r. number_at b.graph r p) ≡ Some n → (r : ℕ) × (o ≡ Some r) × (number_at b.graph r p ≡ Some n)
      by_base None e = absurd (cc e)
      by_base (Some r) e = (r, refl, e)

      not_old : first b ≤ n → is_some (node b.graph n) ≡ true → ⊥
      not_old l t = omega (arith, l, old_below b n sound.graph t)

      label : (row : NodeRow) → node new n ≡ Some row → label_of h n ≡ b.label
      label row there = ap (λ o. unwrap_or (option_map (λ (r : NodeRow). r.label) o) 0) (new_at b new sound.graph are n row there) ∙ (new_is b new are n row there).is.label

  stood : (p : Names) (n : ℕ) → number_at h root p ≡ Some n → is_some (item_at b.now p) ≡ true
  stood p n at = by_item (item_at b.now p) refl
    where
      by_item : (o : Option Item) → item_at b.now p ≡ o → is_some (item_at b.now p) ≡ true
      by_item None none = let gone = built.absent p none in absurd (cc (gone, at))
      by_item (Some e) is = ap is_some is

  -- a new node is what the tree has at its place
  record Is (n : ℕ) (row : NodeRow) (p : Names) : Type 0 where
    item : item_at b.now p ≡ Some (item_of (fresh n) row.body)
    size : node_length row ≡ length (bytes_of (item_of (fresh n) row.body))
    names : AreNamed b p (entries_of row)
    changed : is_same_at (prev b) b.now p ≡ false

  there_as : (n : ℕ) (row : NodeRow) (p : Names) → number_at h root p ≡ Some n → node new n ≡ Some row → first b ≤ n → Is n row p
  there_as n row p stands there from = ⊎_elim (λ old. absurd (omega (arith, from, old_below b n sound.graph (base_there b sound p n old)))) (λ made. as_made made.0 made.1 made.3 made.4) (sort p n stands)
    where
      as_made : (e : Item) → item_at b.now p ≡ Some e → IsMade b new fresh n p e → is_same_at (prev b) b.now p ≡ false → Is n row p
      as_made e is made other =
          let both : Some made.row ≡ Some row = sym made.there ∙ there in
          let one : made.row ≡ row = cc both in
          let read : item_of (fresh n) row.body ≡ e = ap (λ (r : NodeRow). item_of (fresh n) r.body) (sym one) ∙ made.item in
          record {
            item = is ∙ ap Some (sym read);
            size = ap node_length (sym one) ∙ made.size ∙ ap (λ x. length (bytes_of x)) (sym read);
            names = ap (λ (r : NodeRow). map (λ (c : Child). c.name) (entries_of r)) (sym one) ∙ made.names;
            changed = other;
          }

  placed : (i : ℕ) (e : ℕ × NodeRow) → slice_get new i ≡ Some e → IsPlaced b new fresh root e
  placed i e at =
      let there = node_at b new are i e at in
      let is = new_is b new are e.0 e.1 there in
      let s = built.stands e.0 is.from is.to in
      let m = there_as e.0 e.1 s.0 s.1 there is.from in
      record {
        label = is.is.label;
        children = λ q some. (is.is.lower q some, child q (is.is.known q some) (is.is.lower q some) is.to);
        place = s.0;
        stands = s.1;
        item = m.item;
        size = m.size;
        names = m.names;
        changed = m.changed;
      }
    where
      child : (q : ℕ) → (is_some (node b.graph q) ≡ true) ⊎ (first b ≤ q) → q < e.0 → e.0 < next b new → is_some (node h q) ≡ true
      child q known lower to = ⊎_elim (λ old. there_stays b.graph new q old) (λ from. there_after b.graph new q (new_there b new are q from (omega (arith, lower, to)))) known

  -- ---- the root

  folder_body : (bytes : List ℕ) (body : NodeBody) (e : Item) → item_of bytes body ≡ e → is_some_folder (Some e) ≡ true → is_folder_body body ≡ true
  folder_body bytes (Folder a es) e is t = refl
  folder_body bytes (Leaf (File a s n)) e is t = absurd (cc (ap is_folder is, t))
  folder_body bytes (Leaf (Link a s x)) e is t = absurd (cc (ap is_folder is, t))

  at_root : number_at h root [] ≡ Some root
  at_root = number_here h root built.there

  is_root_folder : (row : NodeRow) → node h root ≡ Some row → is_folder_body row.body ≡ true
  is_root_folder row there = let e = some_is (item_at b.now []) built.stood in
      by_same e.0 e.1 (ap is_some_folder (sym e.1) ∙ sound.tree.rooted) (is_same_at (prev b) b.now []) refl
    where
      by_same : (e : Item) → item_at b.now [] ≡ Some e → is_some_folder (Some e) ≡ true → (t : Bool) → is_same_at (prev b) b.now [] ≡ t → is_folder_body row.body ≡ true
      by_same e is folder true same =
          let old : base_at b [] ≡ Some root = sym (built.shared [] (ap is_some is) same) ∙ at_root in
          let was = some_is (node b.graph root) (base_there b sound [] root old) in
          let both : Some was.0 ≡ Some row = sym (node_stays b.graph new root was.0 was.1) ∙ there in
          let one : was.0 ≡ row = cc both in
          let item : Some (item_of (b.files root) was.0.body) ≡ Some e = sym (base_item b sound [] root was.0 old was.1) ∙ same_item b sound [] same ∙ is in
          let read : item_of (b.files root) was.0.body ≡ e = cc item in
          folder_body (b.files root) row.body e (ap (λ (r : NodeRow). item_of (b.files root) r.body) (sym one) ∙ read) folder
      by_same e is folder false other =
          let o = built.own [] e is other in
          let here : o.0 ≡ root = cc (o.1, at_root) in
          let both : Some o.3.row ≡ Some row = sym (new_at b new sound.graph are o.0 o.3.row o.3.there) ∙ ap (node h) here ∙ there in
          let one : o.3.row ≡ row = cc both in
          folder_body (fresh o.0) row.body e (ap (λ (r : NodeRow). item_of (fresh o.0) r.body) (sym one) ∙ o.3.item) folder

  top : is_folder_node (node h root) ≡ true
  top = let row = some_is (node h root) built.there in ap (λ o. unwrap_or (option_map is_folder_row o) false) row.1 ∙ is_root_folder row.0 row.1

pub backup_is_built : BackupIsBuilt
backup_is_built b new fresh root sound are built = record {
  tree = tree b new fresh root sound are built;
  top = top b new fresh root sound are built;
  each = λ i d below. placed b new fresh root sound are built i (get_or new i d) (slice_get_read new (length new) i (get_or new i d) refl below (sym (get_or_default new i (get_or new i d) d below)));
  copied = copied b new fresh root sound are built;
  once = λ p q n at other above. built.once p q n at other (omega (arith, above));
  stood = stood b new fresh root sound are built;
}
