-- What a backup makes of the items, path by path.
use Rattle.std.specs.Prelude.{◌≡◌, ◌⊎◌, ℕ, ◌+◌, ◌<◌, ◌≤◌, true, false, nat_lt, if◌then◌else◌, Option, Some, None, is_some, List, [], ◌∷◌, ◌++◌, length, map, slice_get}
use Rattle.std.specs.List.{All}
use Rattle.tm_base.specs.Paths.{Names}
use Rattle.tm_tree.specs.declared.item.Item.{Item}
use Rattle.tm_tree.specs.declared.node.Child.{Child}
use Rattle.tm_tree.specs.declared.node.NodeRow.{NodeRow}
use Rattle.tm_tree.specs.Items.{bytes_of}
use Rattle.tm_tree.specs.Listings.{list_rows}
use Rattle.tm_tree.specs.Trees.{Tree, item_at, IsTree}
use Rattle.tm_tree.specs.Copies.{LabelledTree, bare, is_same_at}
use Rattle.tm_graph.specs.Nodes.{Nodes, node, entries_of, times, greatest, IsGraph, NamesRise}
use Rattle.tm_graph.specs.Trees.{number_at}
use Rattle.tm_identity.specs.Stored.{node_length}
use Rattle.tm_copy.specs.Reading.{item_of, labelled}
use Rattle.tm_copy.specs.Copying.{tree_under, node_under}
use Rattle.tm_copy.specs.Stamps.{StampsTell}

-- the nodes of the store, the bytes of the files among them, the root of the base if there is one, the label of new nodes,
-- and the tree that is to be kept
pub record Backup : Type 0 where
  pub graph : Nodes
  pub files : ℕ → List ℕ
  pub base : Option ℕ
  pub label : ℕ
  pub now : Tree

-- the base's tree; none where there is no base
abbrev pub prev : Backup → LabelledTree
prev b = tree_under (labelled b.files) b.graph b.base

-- the base's node at a path
abbrev pub base_at : Backup → Names → Option ℕ
base_at b p = node_under b.graph b.base p

-- the number of the first new node
abbrev pub first : Backup → ℕ
first b = greatest b.graph + 1

-- the nodes of the store, and new ones
abbrev pub all : Backup → Nodes → Nodes
all b new = b.graph ++ new

-- the nodes are a graph with the base's root, the tree is one, and stamps tell what is as it was, path by path
pub record IsSound (b : Backup) : Type 0 where
  pub graph : IsGraph b.graph
  pub based : (r : ℕ) → b.base ≡ Some r → is_some (node b.graph r) ≡ true
  pub tree : IsTree b.now
  pub stamps : StampsTell (bare (prev b)) b.now

-- ---- new nodes

-- a new node: it has the label, its names rise, and its entries name lower nodes, old or new
pub record IsNewNode (b : Backup) (e : ℕ × NodeRow) : Type 0 where
  pub label : e.1.label ≡ b.label
  pub rises : NamesRise (entries_of e.1)
  pub lower : (q : ℕ) → 0 < times q (entries_of e.1) → q < e.0
  pub known : (q : ℕ) → 0 < times q (entries_of e.1) → (is_some (node b.graph q) ≡ true) ⊎ (first b ≤ q)

-- new nodes, numbered one by one after the greatest
pub record AreNew (b : Backup) (new : Nodes) : Type 0 where
  pub numbered : (place : ℕ) (e : ℕ × NodeRow) → slice_get new place ≡ Some e → e.0 ≡ first b + place
  pub each : All (IsNewNode b) new

-- the number of the next one
abbrev pub next : Backup → Nodes → ℕ
next b new = first b + length new

-- ---- what is built

-- the new node m is made of the item e at p: with its attributes, its length and bytes, and the names in it
pub record IsMade (b : Backup) (new : Nodes) (fresh : ℕ → List ℕ) (m : ℕ) (p : Names) (e : Item) : Type 0 where
  pub row : NodeRow
  pub there : node new m ≡ Some row
  pub item : item_of (fresh m) row.body ≡ e
  pub size : node_length row ≡ length (bytes_of e)
  pub names : map (λ c. c.name) (entries_of row) ≡ map (λ r. r.name) (list_rows b.now p)

-- node n with all beneath it is what the backup makes of what stands at p and beneath: the base's nodes where all is as it
-- was, and else new ones, each at one path; those from `lo` to before `hi` all stand there. `fresh` are the bytes of new files
pub record Builds (b : Backup) (new : Nodes) (fresh : ℕ → List ℕ) (lo hi : ℕ) (p : Names) (n : ℕ) : Type 0 where
  pub low : first b ≤ lo
  pub rising : lo ≤ hi
  pub stood : is_some (item_at b.now p) ≡ true
  pub there : is_some (node (all b new) n) ≡ true
  pub absent : (q : Names) → item_at b.now (p ++ q) ≡ None → number_at (all b new) n q ≡ None
  pub shared : (q : Names) → is_some (item_at b.now (p ++ q)) ≡ true → is_same_at (prev b) b.now (p ++ q) ≡ true → number_at (all b new) n q ≡ base_at b (p ++ q)
  pub own : (q : Names) (e : Item) → item_at b.now (p ++ q) ≡ Some e → is_same_at (prev b) b.now (p ++ q) ≡ false
      → (m : ℕ) × (number_at (all b new) n q ≡ Some m) × (lo ≤ m) × IsMade b new fresh m (p ++ q) e
  pub below : (q : Names) (m : ℕ) → number_at (all b new) n q ≡ Some m → m < hi
  pub once : (q r : Names) (m : ℕ) → number_at (all b new) n q ≡ Some m → number_at (all b new) n r ≡ Some m → lo ≤ m → q ≡ r
  pub stands : (m : ℕ) → lo ≤ m → m < hi → (q : Names) × (number_at (all b new) n q ≡ Some m)

-- the entries are what the backup makes of what stands under their names in p, one after the other
abbrev pub AreBuilt : Backup → Nodes → (ℕ → List ℕ) → Names → ℕ → List Child → ℕ → Type 0
AreBuilt b new fresh p lo [] hi = lo ≡ hi
AreBuilt b new fresh p lo (c ∷ entries) hi = (mid : ℕ) × Builds b new fresh lo mid (p ++ c.name ∷ []) c.node × AreBuilt b new fresh p mid entries hi

-- the entries have the names that stand in p
abbrev pub AreNamed : Backup → Names → List Child → Type 0
AreNamed b p entries = map (λ c. c.name) entries ≡ map (λ r. r.name) (list_rows b.now p)

-- the bytes of all files
abbrev pub all_files : Backup → (ℕ → List ℕ) → ℕ → List ℕ
all_files b fresh n = if nat_lt (greatest b.graph) n then fresh n else b.files n
