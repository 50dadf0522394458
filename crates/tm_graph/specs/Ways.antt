-- The way down ends at the node that stands at the path.
use Rattle.std.specs.Prelude.{◌≡◌, ◌↔◌, ℕ, true, Some, Ok, is_some}
use Rattle.tm_base.specs.Paths.{Names}
use Rattle.tm_graph.specs.Nodes.{Nodes, node, IsGraph}
use Rattle.tm_graph.specs.Walks.{down}
use Rattle.tm_graph.specs.Trees.{number_at}

abbrev pub WaysFind : Type 0
WaysFind = (g : Nodes) (n m : ℕ) (p : Names) → IsGraph g → is_some (node g n) ≡ true → (down g n p ≡ Ok m) ↔ (number_at g n p ≡ Some m)
