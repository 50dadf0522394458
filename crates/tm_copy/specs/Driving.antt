-- How a backup is built from listings, folder by folder, and what it is in the end.
use Rattle.std.specs.Prelude.{◌≡◌, ℕ, ◌+◌, ◌<◌, ◌≤◌, Bool, true, false, Option, Some, None, is_some, List, [], ◌∷◌, ◌++◌, length}
use Rattle.std.specs.List.{All}
use Rattle.std.specs.Option.{option_map, unwrap_or}
use Rattle.tm_base.specs.Paths.{Names}
use Rattle.tm_tree.specs.declared.attrs.Attrs.{Attrs}
use Rattle.tm_tree.specs.declared.item.Item.{Item}
use Rattle.tm_tree.specs.declared.item.Item.TheVariants as item
use Rattle.tm_tree.specs.declared.node.Child.{Child}
use Rattle.tm_tree.specs.declared.node.NodeBody.TheVariants.{Folder}
use Rattle.tm_tree.specs.declared.node.NodeRow.{NodeRow}
use Rattle.tm_tree.specs.Items.{is_folder, bytes_of}
use Rattle.tm_tree.specs.Trees.{item_at}
use Rattle.tm_tree.specs.Copies.{bare, copy, is_same_at}
use Rattle.tm_graph.specs.Nodes.{Nodes, node, entries_of, times, greatest, is_folder as is_folder_row}
use Rattle.tm_graph.specs.Trees.{and_then, child_of, number_at, rows_of}
use Rattle.tm_identity.specs.Additions.{IsCopied}
use Rattle.tm_identity.specs.Stored.{node_length}
use Rattle.tm_copy.specs.Reading.{item_of, labelled}
use Rattle.tm_copy.specs.Keeping.{kept_leaf, kept_folder}
use Rattle.tm_copy.specs.Building.{Backup, prev, base_at, first, next, all, all_files, IsSound, AreNew, Builds, AreBuilt, AreNamed}

-- ---- the base on the way down

-- the child of that name, of a node that may be none
abbrev pub base_child : Nodes → Option ℕ → List ℕ → Option ℕ
base_child g base name = and_then base (λ n. child_of (node g n) name)

-- the base's node at the root is its root, and at a path's end the child of the one before
abbrev pub BaseGoesDown : Type 0
BaseGoesDown = (b : Backup) → IsSound b → (base_at b [] ≡ b.base) × ((p : Names) (name : List ℕ) → base_child b.graph (base_at b p) name ≡ base_at b (p ++ name ∷ []))

-- ---- at the beginning

abbrev pub NoneAreNew : Type 0
NoneAreNew = (b : Backup) → AreNew b []

-- ---- files and links

-- where the base's node is kept
abbrev pub LeafIsKept : Type 0
LeafIsKept = (b : Backup) (new : Nodes) (fresh : ℕ → List ℕ) (lo : ℕ) (p : Names) (e : Item) (n : ℕ) → IsSound b → first b ≤ lo → item_at b.now p ≡ Some e
    → kept_leaf b.graph (base_at b p) e ≡ Some n → Builds b new fresh lo lo p n

-- where it isn't: a new node with the item's attributes, and its bytes or target
abbrev pub LeafIsMade : Type 0
LeafIsMade = (b : Backup) (new : Nodes) (fresh : ℕ → List ℕ) (p : Names) (e : Item) (row : NodeRow) → IsSound b → AreNew b new → item_at b.now p ≡ Some e → is_folder e ≡ false
    → kept_leaf b.graph (base_at b p) e ≡ None → row.label ≡ b.label → item_of (fresh (next b new)) row.body ≡ e → node_length row ≡ length (bytes_of e)
    → AreNew b (new ++ (next b new, row) ∷ []) × Builds b (new ++ (next b new, row) ∷ []) fresh (next b new) (next b new + 1) p (next b new)

-- a file or link that the base has at its path is as it was
abbrev pub LeafIsSame : Type 0
LeafIsSame = (b : Backup) (p : Names) (e : Item) → IsSound b → item_at b.now p ≡ Some e → is_folder e ≡ false → item_at (bare (prev b)) p ≡ Some e
    → is_same_at (prev b) b.now p ≡ true

-- ---- folders

-- one entry more, made of what stands under its name with new nodes after the others
abbrev pub EntryIsBuilt : Type 0
EntryIsBuilt = (b : Backup) (new more : Nodes) (fresh other : ℕ → List ℕ) (p : Names) (lo mid hi : ℕ) (entries : List Child) (c : Child) → IsSound b → AreNew b new
    → AreBuilt b new fresh p lo entries mid → ((m : ℕ) → first b ≤ m → m < mid → other m ≡ fresh m) → Builds b (new ++ more) other mid hi (p ++ c.name ∷ []) c.node
    → AreBuilt b (new ++ more) other p lo (entries ++ c ∷ []) hi

-- where the base's node is kept
abbrev pub FolderIsKept : Type 0
FolderIsKept = (b : Backup) (new : Nodes) (fresh : ℕ → List ℕ) (lo hi : ℕ) (p : Names) (attrs : Attrs) (entries : List Child) (n : ℕ) → IsSound b → AreNew b new → first b ≤ lo
    → item_at b.now p ≡ Some (item.Folder attrs) → AreNamed b p entries → AreBuilt b new fresh p lo entries hi
    → kept_folder b.graph (base_at b p) attrs entries ≡ Some n → Builds b new fresh lo hi p n

-- where it isn't: a new node with the attributes and these entries
abbrev pub FolderIsMade : Type 0
FolderIsMade = (b : Backup) (new : Nodes) (fresh : ℕ → List ℕ) (lo : ℕ) (p : Names) (attrs : Attrs) (entries : List Child) (row : NodeRow) → IsSound b → AreNew b new → first b ≤ lo
    → item_at b.now p ≡ Some (item.Folder attrs) → AreNamed b p entries → AreBuilt b new fresh p lo entries (next b new)
    → kept_folder b.graph (base_at b p) attrs entries ≡ None → row.label ≡ b.label → row.body ≡ Folder attrs entries
    → AreNew b (new ++ (next b new, row) ∷ []) × Builds b (new ++ (next b new, row) ∷ []) fresh lo (next b new + 1) p (next b new)

-- ---- at the end

abbrev pub is_folder_node : Option NodeRow → Bool
is_folder_node found = unwrap_or (option_map is_folder_row found) false

-- a new node of a finished backup: it stands at one place, where it is what the tree has, and not all is as it was
pub record IsPlaced (b : Backup) (new : Nodes) (fresh : ℕ → List ℕ) (root : ℕ) (e : ℕ × NodeRow) : Type 0 where
  pub label : e.1.label ≡ b.label
  pub children : (q : ℕ) → 0 < times q (entries_of e.1) → (q < e.0) × (is_some (node (all b new) q) ≡ true)
  pub place : Names
  pub stands : number_at (all b new) root place ≡ Some e.0
  pub item : item_at b.now place ≡ Some (item_of (fresh e.0) e.1.body)
  pub changed : is_same_at (prev b) b.now place ≡ false
  pub size : node_length e.1 ≡ length (bytes_of (item_of (fresh e.0) e.1.body))
  pub names : AreNamed b place (entries_of e.1)

-- the tree under the root is the labelled copy, made of the base's nodes, each at its path, and of new ones, each at one
pub record IsBackedUp (b : Backup) (new : Nodes) (fresh : ℕ → List ℕ) (root : ℕ) : Type 0 where
  pub tree : rows_of (labelled (all_files b fresh)) (all b new) root ≡ copy b.label (prev b) b.now
  pub top : is_folder_node (node (all b new) root) ≡ true
  pub each : All (IsPlaced b new fresh root) new
  pub copied : (p : Names) (n : ℕ) → number_at (all b new) root p ≡ Some n → IsCopied b.graph (all b new) b.label b.base p n
  pub once : (p q : Names) (n : ℕ) → number_at (all b new) root p ≡ Some n → number_at (all b new) root q ≡ Some n → greatest b.graph < n → p ≡ q
  pub stood : (p : Names) (n : ℕ) → number_at (all b new) root p ≡ Some n → is_some (item_at b.now p) ≡ true

abbrev pub BackupIsBuilt : Type 0
BackupIsBuilt = (b : Backup) (new : Nodes) (fresh : ℕ → List ℕ) (root : ℕ) → IsSound b → AreNew b new → Builds b new fresh (first b) (next b new) [] root → IsBackedUp b new fresh root
