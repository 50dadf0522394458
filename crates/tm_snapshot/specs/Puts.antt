-- The records that a finished backup puts.
use Rattle.std.specs.Prelude.{ℕ, ◌+◌, Bool, true, false, nat_le, if◌then◌else◌, Option, Some, None, List, [], ◌∷◌, ◌++◌, map}
use Rattle.std.specs.List.{cons_option, filter_map, flat_map, range_with_len}
use Rattle.std.specs.Option.{option_map, unwrap_or}
use Rattle.tm_world.specs.declared.bytes.Blob.{Blob}
use Rattle.tm_tree.specs.declared.node.Child.{Child}
use Rattle.tm_tree.specs.declared.node.LeafRow.{LeafRow}
use Rattle.tm_tree.specs.declared.node.LeafRow.TheVariants.{File, Link}
use Rattle.tm_tree.specs.declared.node.NodeBody.{NodeBody}
use Rattle.tm_tree.specs.declared.node.NodeBody.TheVariants.{Folder, Leaf}
use Rattle.tm_tree.specs.declared.node.NodeRow.{NodeRow}
use Rattle.tm_graph.specs.Nodes.{Nodes, node, entries_of}
use Rattle.tm_nodes.specs.Headers.{snapshot_text}
use Rattle.tm_nodes.specs.Nodes.{node_text}
use Rattle.tm_records.specs.declared.record.Body.{Body}
use Rattle.tm_records.specs.declared.record.Body.TheVariants.{Kept, Empty, New}
use Rattle.tm_records.specs.declared.record.Put.{Put}
use Rattle.tm_store_records.specs.declared.snapshot.Snapshot.{Snapshot}
use Rattle.tm_store_records.specs.Found.{snapshot_key, node_key}
use Rattle.tm_store_records.specs.Room.{row_of_snapshot}

-- the meta of a node's record, as the graph has it
abbrev pub meta_at : Nodes → ℕ → List ℕ
meta_at g n = unwrap_or (option_map node_text (node g n)) []

-- the record of a node, with these data
abbrev pub node_put : Nodes → ℕ → Body → Put
node_put g n body = record { key = node_key n; meta = meta_at g n; body = body }

-- a node that was there before is put again with the data that it has
abbrev pub old_put : Nodes → ℕ → ℕ → Option Put
old_put g last n = if nat_le n last then Some (node_put g n Kept) else None

-- the old ones of a folder's entries
abbrev pub old_puts : Nodes → ℕ → List Child → List Put
old_puts g last entries = filter_map (λ child. old_put g last child.node) entries

-- the root, where it was there before
abbrev pub root_puts : Nodes → ℕ → ℕ → List Put
root_puts g last root = cons_option (old_put g last root) []

abbrev pub leaf_is_file : LeafRow → Bool
leaf_is_file (File attrs stamp size) = true
leaf_is_file (Link attrs stamp target) = false

abbrev pub body_is_file : NodeBody → Bool
body_is_file (Folder attrs entries) = false
body_is_file (Leaf leaf) = leaf_is_file leaf

-- a new node without data; a file's is put with its blob
abbrev pub bare_put : Nodes → ℕ → NodeBody → List Put
bare_put g n body = if body_is_file body then [] else node_put g n Empty ∷ []

abbrev pub puts_at : Nodes → ℕ → ℕ → Option NodeRow → List Put
puts_at g last n None = []
puts_at g last n (Some row) = bare_put g n row.body ++ old_puts g last (entries_of row)

-- new nodes but for the files, and the old ones that they name
abbrev pub tree_puts : Nodes → ℕ → ℕ → List Put
tree_puts g last count = flat_map (λ ps. ps) (map (λ n. puts_at g last n (node g n)) (range_with_len (last + 1) count))

-- new files
abbrev pub file_puts : Nodes → List (ℕ × Blob) → List Put
file_puts g blobs = map (λ b. node_put g b.0 (New b.1)) blobs

abbrev pub snapshot_put : Snapshot → Put
snapshot_put s = record { key = snapshot_key s.number; meta = snapshot_text (row_of_snapshot s); body = Empty }

-- all of them, where g has so many nodes above the last old one
abbrev pub all_puts : Nodes → ℕ → ℕ → List (ℕ × Blob) → Snapshot → List Put
all_puts g last count blobs s = snapshot_put s ∷ root_puts g last s.root ++ tree_puts g last count ++ file_puts g blobs

-- the blocks of all blobs
abbrev pub built_blocks : List (ℕ × Blob) → List ℕ
built_blocks blobs = flat_map (λ x. x.1.blocks) blobs
