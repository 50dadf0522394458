-- What stands in a folder.
use Rattle.std.specs.Prelude.{◌≡◌, ℕ, Option, Some, List, map}
use Rattle.std.specs.List.{filter_map}
use Rattle.std.specs.Option.{option_map}
use Rattle.tm_base.specs.Paths.{Names}
use Rattle.tm_tree.specs.declared.item.Labelled.{Labelled}
use Rattle.tm_tree.specs.declared.node.Child.{Child}
use Rattle.tm_tree.specs.declared.node.NodeRow.{NodeRow}
use Rattle.tm_tree.specs.Copies.{LabelledTree}
use Rattle.tm_tree.specs.Trees.{children, last_of}
use Rattle.tm_graph.specs.Nodes.{Nodes, node, entries_of, IsGraph}
use Rattle.tm_graph.specs.Trees.{number_at, rows_of}

-- what stands in the folder at p, by name
abbrev pub standing_in : LabelledTree → Names → List (List ℕ × Labelled)
standing_in t p = map (λ row. (last_of row.0, row.1)) (children t p)

-- an entry's name, with what v reads of its node
abbrev pub entry_read : (ℕ → NodeRow → Labelled) → Nodes → Child → Option (List ℕ × Labelled)
entry_read v g c = option_map (λ row. (c.name, v c.node row)) (node g c.node)

-- the entries of a folder's node are what stands in the folder
abbrev pub EntriesStand : Type 0
EntriesStand = (v : ℕ → NodeRow → Labelled) (g : Nodes) (r n : ℕ) (p : Names) (row : NodeRow) → IsGraph g → number_at g r p ≡ Some n → node g n ≡ Some row
    → standing_in (rows_of v g r) p ≡ filter_map (entry_read v g) (entries_of row)
