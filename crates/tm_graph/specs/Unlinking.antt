-- What a graph loses with root links of several nodes.
use Rattle.std.specs.Prelude.{◌≡◌, ℕ, ◌+◌, ◌-◌, ◌≤◌, Bool, false, ◌&&◌, ◌==◌, nat_lt, nat_eq, Option, Some, None, List, map, count_by, sum_by}
use Rattle.std.specs.List.Sorted.{IsStrictlySortedBy}
use Rattle.std.specs.Set.{is_member}
use Rattle.tm_tree.specs.declared.node.NodeRow.{NodeRow}
use Rattle.tm_graph.specs.Nodes.{Nodes, node, names, root_links, with_links, IsGraph, IsLinked}
use Rattle.tm_graph.specs.Losing.{falling, spends, without_all}

-- how many links q loses: one each time that it is among these roots, and one for each entry that names it in a node that goes
abbrev pub lost_all : Nodes → List ℕ → List ℕ → ℕ → ℕ
lost_all g roots gone q = count_by (λ r. r == q) roots + sum_by (λ m. names q (node g m)) gone

-- whether a node loses links and has some left
abbrev pub is_thinned : ℕ → ℕ → Bool
is_thinned links count = nat_lt 0 count && nat_lt count links

abbrev pub thins : ℕ → Option NodeRow → Bool
thins count None = false
thins count (Some row) = is_thinned row.links count

-- each of these has as many root links as it is listed
abbrev pub HaveRootLinks : Nodes → List ℕ → Type 0
HaveRootLinks g roots = (q : ℕ) → count_by (λ r. r == q) roots ≤ root_links g q

-- these nodes go with the root links: exactly those that lose links and have none left; and the thinned are exactly those that lose links and have some left
pub record AreLost (g : Nodes) (roots gone thinned : List ℕ) : Type 0 where
  pub gone_fall : IsStrictlySortedBy falling gone
  pub thinned_fall : IsStrictlySortedBy falling thinned
  pub gone_are : (q : ℕ) → is_member nat_eq gone q ≡ spends (lost_all g roots gone q) (node g q)
  pub thinned_are : (q : ℕ) → is_member nat_eq thinned q ≡ thins (lost_all g roots gone q) (node g q)

-- what is left: the others, each with the links that it didn't lose
abbrev pub after_losses : Nodes → List ℕ → List ℕ → Nodes
after_losses g roots gone = map (λ row. (row.0, with_links row.1 (row.1.links - lost_all g roots gone row.0))) (without_all gone g)

-- those root links are taken off, and no others; where no node was without links, none is
abbrev pub LossesLeaveLinked : Type 0
LossesLeaveLinked = (g : Nodes) (roots gone thinned : List ℕ) → IsGraph g → HaveRootLinks g roots → AreLost g roots gone thinned
    → IsGraph (after_losses g roots gone) × ((q : ℕ) → root_links (after_losses g roots gone) q ≡ root_links g q - count_by (λ r. r == q) roots) × (IsLinked g → IsLinked (after_losses g roots gone))
