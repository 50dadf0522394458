-- The base of a backup, in memory and as a tree.
use Rattle.std.proofs.Common.{◌≡◌, ◌⊎◌, inl, inr, ℕ, ◌-◌, suc, Bool, true, false, ◌==◌, if◌then◌else◌, Option, Some, None, is_some, List, [], ◌∷◌, length, map, refl, sym, ap, ◌∙◌, subst, arith}
use Rattle.std.specs.List.{slice_get, last_or}
use Rattle.std.specs.Option.{option_map}
use Rattle.std.specs.Cmp.{unsigned_Decides}
use Rattle.std.proofs.lemmas.Bool.Decides.{nat_tests}
use Rattle.std.proofs.lemmas.List.{length-map}
use Rattle.tm_tree.specs.declared.item.Item.{Item}
use Rattle.tm_tree.specs.declared.node.LeafRow.TheVariants.{File, Link}
use Rattle.tm_tree.specs.declared.node.NodeBody.{NodeBody}
use Rattle.tm_tree.specs.declared.node.NodeBody.TheVariants.{Folder, Leaf}
use Rattle.tm_tree.specs.declared.node.NodeRow.{NodeRow}
use Rattle.tm_tree.specs.States.{tree_of_volume, base}
use Rattle.tm_graph.specs.Nodes.{Nodes, node}
use Rattle.tm_graph.specs.Trees.{rows_of}
use Rattle.tm_copy.specs.Reading.{item_of, labelled}
use Rattle.tm_copy.specs.Copying.{tree_under}
use Rattle.tm_store_records.specs.declared.snapshot.Snapshot.{Snapshot}
use Rattle.tm_store_records.specs.Built.{last_root}
use Rattle.tm_store_records.specs.Found.{roots_of, snapshot_key, snapshots_in}
use Rattle.tm_store_records.specs.Heads.{heads_of}
use Rattle.tm_store_records.specs.Held.{Held, IsWhole, store_on, files_of}
use Rattle.tm_store_records.specs.Rules.{is_folder_node}
use Rattle.tm_store_records.specs.States.{item_on, labelled_on, snapshot_on}
use Rattle.tm_backup.specs.Taking.{root_of_volume, base_root, prev_on}
use Rattle.tm_base.proofs.Facts.{last_there}

-- ---- the last of a list

last_is : {X : Type 0} (xs : List X) → slice_get xs (length xs - 1) ≡ last_or None xs
last_is [] = refl
last_is (x ∷ xs) = let below : suc (length xs) - 1 ≡ length xs = omega arith in ap (slice_get (x ∷ xs)) below ∙ last_there None x xs

last_map : {X Y : Type 0} (f : X → Y) (o : Option X) (xs : List X) → last_or (option_map f o) (map f xs) ≡ option_map f (last_or o xs)
last_map f o [] = refl
last_map f o (x ∷ xs) = last_map f (Some x) xs

last_root_is : (snapshots : List Snapshot) → last_root snapshots ≡ option_map (λ (s : Snapshot). s.root) (last_or None snapshots)
last_root_is snapshots =
    ap (λ (n : ℕ). slice_get (roots_of snapshots) (n - 1)) (sym (length-map snapshots (λ (s : Snapshot). s.root)))
    ∙ last_is (roots_of snapshots) ∙ last_map (λ (s : Snapshot). s.root) None snapshots

-- ---- the root

pub root_of_last : (s : Held) (id : ℕ) (last : Snapshot) → slice_get s.snapshots (length s.snapshots - 1) ≡ Some last → last.id ≡ id → Some last.root ≡ base_root s id
root_of_last s id last at same =
    sym (ap (λ (b : Bool). if b then Some last.root else None) ((unsigned_Decides last.id id).1 same))
    ∙ ap (root_of_volume id) (sym at ∙ last_is s.snapshots)

pub root_of_other : (s : Held) (id : ℕ) (last : Snapshot) → slice_get s.snapshots (length s.snapshots - 1) ≡ Some last → (last.id ≡ id → ⊥) → None ≡ base_root s id
root_of_other s id last at other =
    let test : (last.id == id) ≡ false = grind (arith, nat_tests) in
    sym (ap (λ (b : Bool). if b then Some last.root else None) test)
    ∙ ap (root_of_volume id) (sym at ∙ last_is s.snapshots)

pub last_found : (s : Held) (last : Snapshot) (xs : List Snapshot) → xs ≡ s.snapshots → slice_get xs (length xs - 1) ≡ Some last → slice_get s.snapshots (length s.snapshots - 1) ≡ Some last
last_found s last xs same at = ap (λ (ys : List Snapshot). slice_get ys (length ys - 1)) (sym same) ∙ at

-- none, or the last snapshot's
pub root_over : (s : Held) (id : ℕ) → (base_root s id ≡ None) ⊎ (base_root s id ≡ last_root s.snapshots)
root_over s id = by_last (last_or None s.snapshots) refl
  where
    by_id : (x : Snapshot) (b : Bool) → last_or None s.snapshots ≡ Some x → (if b then Some x.root else None) ≡ base_root s id → (base_root s id ≡ None) ⊎ (base_root s id ≡ last_root s.snapshots)
    by_id x true is e = inr (sym e ∙ ap (option_map (λ (s : Snapshot). s.root)) (sym is) ∙ sym (last_root_is s.snapshots))
    by_id x false is e = inl (sym e)

    by_last : (o : Option Snapshot) → last_or None s.snapshots ≡ o → (base_root s id ≡ None) ⊎ (base_root s id ≡ last_root s.snapshots)
    by_last None is = inl (ap (root_of_volume id) is)
    by_last (Some x) is = by_id x (x.id == id) is (sym (ap (root_of_volume id) is))

folder_there : (o : Option NodeRow) → is_folder_node o ≡ true → is_some o ≡ true
folder_there None h = absurd (cc h)
folder_there (Some row) h = refl

-- the base's root is a node
pub root_based : (s : Held) (id r : ℕ) → IsWhole s → base_root s id ≡ Some r → is_some (node s.nodes r) ≡ true
root_based s id r whole is = by_last (last_or None s.snapshots) refl is
  where
    there : (x : Snapshot) → last_or None s.snapshots ≡ Some x → is_some (node s.nodes x.root) ≡ true
    there x at =
        let place : slice_get (snapshots_in (heads_of s.image.records)) (length s.snapshots - 1) ≡ Some x =
        ap (λ (xs : List Snapshot). slice_get xs (length s.snapshots - 1)) (sym whole.snapshots_are) ∙ last_is s.snapshots ∙ at in
        let good = (whole.good (snapshot_key x.number)).snapshot (length s.snapshots - 1) x place refl in
        folder_there (node s.nodes x.root) (ap (λ (g : Nodes). is_folder_node (node g x.root)) whole.nodes_are ∙ good.root)

    by_id : (x : Snapshot) (b : Bool) → last_or None s.snapshots ≡ Some x → (if b then Some x.root else None) ≡ Some r → is_some (node s.nodes r) ≡ true
    by_id x true at e = let same : x.root ≡ r = cc e in subst (λ (q : ℕ). is_some (node s.nodes q) ≡ true) same (there x at)
    by_id x false at e = absurd (cc e)

    by_last : (o : Option Snapshot) → last_or None s.snapshots ≡ o → base_root s id ≡ Some r → is_some (node s.nodes r) ≡ true
    by_last None at e = absurd (let no = sym (ap (root_of_volume id) at) ∙ e in cc no)
    by_last (Some x) at e = by_id x (x.id == id) at (sym (ap (root_of_volume id) at) ∙ e)

-- ---- the tree

item_same : (bytes : List ℕ) (body : NodeBody) → item_of bytes body ≡ item_on bytes body
item_same bytes (Folder a es) = refl
item_same bytes (Leaf (File a s n)) = refl
item_same bytes (Leaf (Link a s t)) = refl

pub reads_same : (files : ℕ → List ℕ) (n : ℕ) (row : NodeRow) → labelled files n row ≡ labelled_on files n row
reads_same files n row = ap (λ (e : Item). record { label = row.label; item = e }) (item_same (files n) row.body)

pub read_same : (files : ℕ → List ℕ) → labelled files ≡ labelled_on files
read_same files = λ i n row. reads_same files n row i

-- the base's tree is that under the base's root
module _ (files : ℕ → List ℕ) (nodes : Nodes) (id : ℕ) where
  tree_by_id : (x : Snapshot) (b : Bool) → (if b then rows_of (labelled_on files) nodes x.root else []) ≡ tree_under (labelled_on files) nodes (if b then Some x.root else None)
  tree_by_id x true = refl
  tree_by_id x false = refl

  tree_by_last : (o : Option Snapshot) → tree_of_volume id (option_map (snapshot_on files nodes) o) ≡ tree_under (labelled_on files) nodes (root_of_volume id o)
  tree_by_last None = refl
  tree_by_last (Some x) = tree_by_id x (x.id == id)

pub base_tree : (s : Held) (bytes : ℕ → List ℕ) (id : ℕ) → base (store_on s bytes) id ≡ prev_on s (files_of s.image.records bytes) (base_root s id)
base_tree s bytes id =
    ap (tree_of_volume id) (last_map (snapshot_on (files_of s.image.records bytes) s.nodes) None s.snapshots)
    ∙ tree_by_last (files_of s.image.records bytes) s.nodes id (last_or None s.snapshots)
    ∙ (λ i. tree_under (sym (read_same (files_of s.image.records bytes)) i) s.nodes (base_root s id))
