-- Where nodes stand.
use Rattle.std.specs.Prelude.{◌≡◌, ◌<◌, ℕ, true, nat_eq, Some, List, [], ◌∷◌}
use Rattle.std.specs.Set.{is_member}
use Rattle.tm_base.specs.Paths.{Names}
use Rattle.tm_graph.specs.Nodes.{Nodes, node}
use Rattle.tm_graph.specs.Trees.{child_of}

-- the way along these names leads down from one number to another, each below the one before
abbrev pub LeadsDown : Nodes → ℕ → Names → ℕ → Type 0
LeadsDown g from [] to = from ≡ to
LeadsDown g from (name ∷ names) to = (next : ℕ) × (child_of (node g from) name ≡ Some next) × (next < from) × LeadsDown g next names to

-- a number stands at a path: the path leads to it from the root of a snapshot
pub record NodeStandsAt (g : Nodes) (roots : List ℕ) (path : Names) (number : ℕ) : Type 0 where
  pub root : ℕ
  pub is_root : is_member nat_eq roots root ≡ true
  pub leads : LeadsDown g root path number
