-- New nodes, as they are made.
use Rattle.std.specs.Prelude.{◌≡◌, ℕ, ◌+◌, ◌≤◌, ◌^◌, Option, Some, None, List, [], ◌∷◌, ◌++◌, length, map}
use Rattle.std.specs.List.{filter_map}
use Rattle.std.specs.Option.{option_map}
use Rattle.tm_world.specs.declared.bytes.Blob.{Blob}
use Rattle.tm_tree.specs.declared.attrs.Attrs.{Attrs}
use Rattle.tm_tree.specs.declared.node.LeafRow.TheVariants.{File, Link}
use Rattle.tm_tree.specs.declared.node.NodeBody.{NodeBody}
use Rattle.tm_tree.specs.declared.node.NodeBody.TheVariants.{Folder, Leaf}
use Rattle.tm_graph.specs.Nodes.{Nodes, new_node}

-- the label of the new nodes, the first number, the nodes, and the blobs of the files among them
pub record Making : Type 0 where
  pub label : ℕ
  pub first : ℕ
  pub nodes : Nodes
  pub blobs : List (ℕ × Blob)

-- nothing is made yet
abbrev pub begun : ℕ → ℕ → Making
begun label first = record { label = label; first = first; nodes = []; blobs = [] }

-- the number of the next node
abbrev pub next_number : Making → ℕ
next_number m = m.first + length m.nodes

-- one node more, with the label and no links yet
abbrev pub with_node : Making → NodeBody → Making
with_node m body = record m { nodes = m.nodes ++ (next_number m, new_node m.label body) ∷ [] }

-- a file, as long as its blob
abbrev pub file_body : Attrs → ℕ → Blob → NodeBody
file_body attrs stamp blob = Leaf (File attrs stamp blob.length)

-- one file more, with its blob
abbrev pub with_file : Making → Attrs → ℕ → Blob → Making
with_file m attrs stamp blob = record (with_node m (file_body attrs stamp blob)) { blobs = m.blobs ++ (next_number m, blob) ∷ [] }

-- the node that is kept, or else a new one
abbrev pub Adds : Option ℕ → Making → NodeBody → Making → ℕ → Type 0
Adds (Some kept) old body new n = (n ≡ kept) × (new ≡ old)
Adds None old body new n = (n ≡ next_number old) × (new ≡ with_node old body)

abbrev pub file_length : NodeBody → Option ℕ
file_length (Folder attrs entries) = None
file_length (Leaf (File attrs stamp size)) = Some size
file_length (Leaf (Link attrs stamp target)) = None

-- the files among nodes, with their lengths
abbrev pub lengths_of : Nodes → List (ℕ × ℕ)
lengths_of nodes = filter_map (λ e. option_map (λ size. (e.0, size)) (file_length e.1.body)) nodes

-- the first number fits, and each file has its blob, as long as it is
pub record IsMaking (m : Making) : Type 0 where
  pub low : m.first ≤ 2 ^ 62 + 1
  pub files : map (λ b. (b.0, b.1.length)) m.blobs ≡ lengths_of m.nodes
