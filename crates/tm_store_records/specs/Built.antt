-- What a backup adds.
use Rattle.std.specs.Prelude.{◌≡◌, ◌⊎◌, ◌<◌, ◌≤◌, ◌+◌, ◌-◌, ◌^◌, ℕ, true, nat_lt, if◌then◌else◌, is_some, Option, Some, None, List, [], ◌∷◌, ◌++◌, length, map, slice_get}
use Rattle.std.specs.List.{All, filter_map}
use Rattle.std.specs.Ordering.{nat_cmp}
use Rattle.std.specs.BTreeMap.{is_at}
use Rattle.std.specs.Map.{lookup}
use Rattle.std.specs.Option.{option_map, unwrap_or}
use Rattle.tm_base.specs.Limits.{max_file_bytes, max_names}
use Rattle.tm_base.specs.Paths.{Names}
use Rattle.tm_world.specs.declared.bytes.Blob.{Blob}
use Rattle.tm_chain.specs.Blob.{bytes_in, blob_len}
use Rattle.tm_tree.specs.declared.rows.Mark.{Mark}
use Rattle.tm_tree.specs.declared.node.LeafRow.TheVariants.{File, Link}
use Rattle.tm_tree.specs.declared.node.NodeBody.{NodeBody}
use Rattle.tm_tree.specs.declared.node.NodeBody.TheVariants.{Folder, Leaf}
use Rattle.tm_tree.specs.declared.node.NodeRow.{NodeRow}
use Rattle.tm_tree.specs.States.{StoreState}
use Rattle.tm_graph.specs.declared.built.Built.{Built}
use Rattle.tm_graph.specs.Nodes.{Nodes, node, entries_of, times, greatest}
use Rattle.tm_graph.specs.Trees.{number_at}
use Rattle.tm_nodes.specs.Attrs.{IsAttrs}
use Rattle.tm_nodes.specs.Nodes.{node_attrs, IsNodeTail}
use Rattle.tm_identity.specs.Additions.{IsCopied}
use Rattle.tm_identity.specs.Stored.{node_length}
use Rattle.tm_store_records.specs.declared.snapshot.Snapshot.{Snapshot}
use Rattle.tm_store_records.specs.Found.{roots_of}
use Rattle.tm_store_records.specs.Rules.{is_folder_node}
use Rattle.tm_store_records.specs.States.{snapshot_on}
use Rattle.tm_store_records.specs.Held.{Held, files_of, store_on}

-- how far a journal may have been read
pub record IsMark (mark : Mark) : Type 0 where
  pub generation_least : 1 ≤ mark.generation
  pub generation_most : mark.generation < 2 ^ 62
  pub cursor : mark.cursor < 2 ^ 62

-- the nodes with the new ones after them
abbrev pub all_nodes : Held → Built → Nodes
all_nodes h built = h.nodes ++ built.nodes

-- a new node: it has the label, keeps the rules of records, and its entries name lower nodes
pub record IsNew (h : Held) (built : Built) (e : ℕ × NodeRow) : Type 0 where
  pub label : e.1.label ≡ h.number
  pub attrs : IsAttrs (node_attrs e.1.body)
  pub tail : IsNodeTail e.1.body
  pub size : node_length e.1 ≤ max_file_bytes
  pub children : (q : ℕ) → 0 < times q (entries_of e.1) → (q < e.0) × (is_some (node (all_nodes h built) q) ≡ true)
  pub place : Names
  pub stands : number_at (all_nodes h built) built.root place ≡ Some e.0

abbrev pub built_length : NodeBody → Option ℕ
built_length (Folder attrs entries) = None
built_length (Leaf (File attrs stamp size)) = Some size
built_length (Leaf (Link attrs stamp target)) = None

-- the files among nodes, with their lengths
abbrev pub built_lengths : Nodes → List (ℕ × ℕ)
built_lengths nodes = filter_map (λ e. option_map (λ size. (e.0, size)) (built_length e.1.body)) nodes

-- the root of the last snapshot
abbrev pub last_root : List Snapshot → Option ℕ
last_root snapshots = slice_get (roots_of snapshots) (length snapshots - 1)

-- a snapshot may be made of this: its tree is a copy over the last snapshot's tree or over none. The new nodes are numbered
-- one by one after the greatest, and each stands at one path; every other node is the last snapshot's at that path. Each
-- new file has one blob, by rising number
pub record IsBuilt (h : Held) (built : Built) : Type 0 where
  pub base : Option ℕ
  pub over : (base ≡ None) ⊎ (base ≡ last_root h.snapshots)
  pub numbered : (place : ℕ) (e : ℕ × NodeRow) → slice_get built.nodes place ≡ Some e → e.0 ≡ greatest h.nodes + 1 + place
  pub each : All (IsNew h built) built.nodes
  pub root : is_folder_node (node (all_nodes h built) built.root) ≡ true
  pub copied : (p : Names) (n : ℕ) → number_at (all_nodes h built) built.root p ≡ Some n → IsCopied h.nodes (all_nodes h built) h.number base p n
  pub once : (p q : Names) (n : ℕ) → number_at (all_nodes h built) built.root p ≡ Some n → number_at (all_nodes h built) built.root q ≡ Some n → greatest h.nodes < n → p ≡ q
  pub short : (p : Names) (n : ℕ) → number_at (all_nodes h built) built.root p ≡ Some n → length p ≤ max_names
  pub files : map (λ b. (b.0, b.1.length)) built.blobs ≡ built_lengths built.nodes
  pub filled : All (λ b. length b.1.blocks ≡ blob_len b.1.length) built.blobs

-- ---- the store afterwards

-- the bytes of each node, new ones as their blobs have them
abbrev pub bytes_of_blob : (ℕ → List ℕ) → Blob → List ℕ
bytes_of_blob bytes blob = bytes_in blob.blocks bytes 0 blob.length

abbrev pub files_built : Held → Built → (ℕ → List ℕ) → ℕ → List ℕ
files_built h built bytes n =
    if nat_lt (greatest h.nodes) n then unwrap_or (option_map (bytes_of_blob bytes) (lookup (is_at (nat_cmp n)) built.blobs)) []
    else files_of h.image.records bytes n

-- the snapshot that is added
abbrev pub snapshot_built : Held → Built → ℕ → List ℕ → ℕ → Mark → Snapshot
snapshot_built h built date volume id mark = record { number = h.number; date = date; volume = volume; id = id; mark = mark; root = built.root }

-- the store with it: the old snapshots, and one with the tree of what was built
abbrev pub store_completed : Held → Built → ℕ → List ℕ → ℕ → Mark → (ℕ → List ℕ) → StoreState
store_completed h built date volume id mark bytes = let s = store_on h bytes in record {
  machine = s.machine;
  number = s.number + 1;
  snapshots = s.snapshots ++ snapshot_on (files_built h built bytes) (all_nodes h built) (snapshot_built h built date volume id mark) ∷ [];
}
