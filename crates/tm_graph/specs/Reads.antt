-- What stands under each number after a change that adds.
use Rattle.std.specs.Prelude.{◌≡◌, ◌≢◌, ℕ, ◌+◌, ◌<◌, ◌^◌, ◌==◌, if◌then◌else◌, Some, is_some, true}
use Rattle.std.specs.Option.{option_map}
use Rattle.tm_tree.specs.declared.node.NodeBody.{NodeBody}
use Rattle.tm_tree.specs.declared.node.NodeRow.{NodeRow}
use Rattle.tm_graph.specs.Nodes.{Nodes, node, IsGraph, MayHold, body_entries, greatest, added, new_node, linked, links_of, root_links, more, times}

-- h is g with a new node n, a link more for each entry of it, and the root links as they were
pub record Adds (g h : Nodes) (n : ℕ) (new : NodeRow) (body : NodeBody) : Type 0 where
  pub graph : IsGraph h
  pub here : node h n ≡ Some new
  pub others : (q : ℕ) → q ≢ n → node h q ≡ option_map (more (times q (body_entries body))) (node g q)
  pub roots : (q : ℕ) → root_links h q ≡ root_links g q

abbrev pub AddedReads : Type 0
AddedReads = (g : Nodes) (label : ℕ) (body : NodeBody) → IsGraph g → greatest g < 2 ^ 62 → MayHold g (body_entries body)
    → Adds g (added g label body) (greatest g + 1) (new_node label body) body

-- h is g with a root link more of n
pub record LinksRoot (g h : Nodes) (n : ℕ) : Type 0 where
  pub graph : IsGraph h
  pub here : node h n ≡ option_map (more 1) (node g n)
  pub others : (q : ℕ) → q ≢ n → node h q ≡ node g q
  pub roots : (q : ℕ) → root_links h q ≡ root_links g q + (if q == n then 1 else 0)

abbrev pub LinkedReads : Type 0
LinkedReads = (g : Nodes) (n : ℕ) → IsGraph g → is_some (node g n) ≡ true → links_of g n < 2 ^ 62 → LinksRoot g (linked g n) n
