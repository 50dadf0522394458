-- Nodes that come together, above all others.
use Rattle.std.specs.Prelude.{◌≡◌, ℕ, ◌+◌, ◌<◌, ◌≤◌, ◌^◌, ◌==◌, if◌then◌else◌, is_some, true, Some, List, ◌++◌, map, length, slice_get}
use Rattle.std.specs.Option.{option_map}
use Rattle.std.specs.List.{All}
use Rattle.tm_tree.specs.declared.node.NodeRow.{NodeRow}
use Rattle.tm_graph.specs.Nodes.{Nodes, node, entries_of, times, named, links_of, root_links, with_links, greatest, NamesRise, IsGraph, IsLinked}
use Rattle.tm_graph.specs.Losing.{IsGone, after_loss}

-- the links that a node gains by these nodes' entries and a root link of one of them
abbrev pub gain : Nodes → ℕ → ℕ → ℕ
gain new root q = named new q + (if q == root then 1 else 0)

-- a node of any of these, with the links that it has in g and those that it gains
abbrev pub relinked : Nodes → Nodes → ℕ → ℕ → NodeRow → NodeRow
relinked g new root q row = with_links row (links_of g q + gain new root q)

-- g with the new nodes, and with a root link of one of all: each node has a link more for each entry and the root
abbrev pub grown : Nodes → Nodes → ℕ → Nodes
grown g new root = map (λ e. (e.0, relinked g new root e.0 e.1)) (g ++ new)

-- nodes without their links
abbrev pub unlinked : Nodes → Nodes
unlinked new = map (λ e. (e.0, with_links e.1 0)) new

-- one of the new nodes: its names rise, and its entries name nodes that are there and lower
pub record IsNewNode (g new : Nodes) (e : ℕ × NodeRow) : Type 0 where
  pub rises : NamesRise (entries_of e.1)
  pub children : (q : ℕ) → 0 < times q (entries_of e.1) → (q < e.0) × (is_some (node (g ++ new) q) ≡ true)

-- g may have these nodes too: they are numbered one by one after the greatest, and the root is there
pub record MayGrow (g new : Nodes) (root : ℕ) : Type 0 where
  pub numbered : (place : ℕ) (e : ℕ × NodeRow) → slice_get new place ≡ Some e → e.0 ≡ greatest g + 1 + place
  pub each : All (IsNewNode g new) new
  pub root_there : is_some (node (g ++ new) root) ≡ true
  pub low : greatest g + length new ≤ 2 ^ 62
  pub few : (q : ℕ) → links_of g q + gain new root q ≤ 2 ^ 62

-- nodes that grew go with the root link that they came with, where each of them gained a link and all others have some
abbrev pub GrowthIsUndone : Type 0
GrowthIsUndone = (g new : Nodes) (root : ℕ) (gone : List ℕ) → IsGraph g → IsLinked g → MayGrow g new root
    → ((q : ℕ) → is_some (node new q) ≡ true → 0 < gain new root q) → IsGone (grown g new root) root gone → after_loss (grown g new root) root gone ≡ g

-- what is under each number afterwards
abbrev pub GrownReads : Type 0
GrownReads = (g new : Nodes) (root : ℕ) → IsGraph g → MayGrow g new root
    → IsGraph (grown g new root) × (0 < root_links (grown g new root) root) × ((q : ℕ) → node (grown g new root) q ≡ option_map (relinked g new root q) (node (g ++ new) q))
