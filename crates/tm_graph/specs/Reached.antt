-- The nodes beneath the roots.
use Rattle.std.specs.Prelude.{◌≡◌, ℕ, ◌<◌, ◌-◌, ◌==◌, if◌then◌else◌, is_some, true, List, ◌↔◌}
use Rattle.tm_graph.specs.Nodes.{Nodes, node, names, root_links, IsGraph, IsLinked}
use Rattle.tm_graph.specs.Losing.{IsGone, after_loss}

-- node q stands at or beneath one with a root link
pub data Reached (g : Nodes) : ℕ → Type 0 where
  at_root : (q : ℕ) → 0 < root_links g q → Reached g q
  beneath : (m q : ℕ) → Reached g m → 0 < names q (node g m) → Reached g q

-- where no node is without links, the nodes are those that are reached
abbrev pub NodesAreReached : Type 0
NodesAreReached = (g : Nodes) → IsGraph g → IsLinked g → (q : ℕ) → (is_some (node g q) ≡ true) ↔ Reached g q

-- a root link is taken off, and no other; where no node was without links, none is
abbrev pub LeavesLinked : Type 0
LeavesLinked = (g : Nodes) (root : ℕ) (gone : List ℕ) → IsGraph g → 0 < root_links g root → IsGone g root gone
    → ((q : ℕ) → root_links (after_loss g root gone) q ≡ root_links g q - (if q == root then 1 else 0)) × (IsLinked g → IsLinked (after_loss g root gone))

-- what goes is told
abbrev pub GoneIsOne : Type 0
GoneIsOne = (g : Nodes) (root : ℕ) (a b : List ℕ) → IsGraph g → IsGone g root a → IsGone g root b → a ≡ b
