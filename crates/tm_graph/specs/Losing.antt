-- What a graph loses with a root link.
use Rattle.std.specs.Prelude.{◌≡◌, ℕ, ◌+◌, ◌-◌, Bool, false, ◌&&◌, ◌==◌, nat_lt, nat_le, nat_eq, if◌then◌else◌, Option, Some, None, List, [], ◌∷◌, map, sum_by}
use Rattle.std.specs.List.Sorted.{IsStrictlySortedBy}
use Rattle.std.specs.declared.cmp.Ordering.{Ordering}
use Rattle.std.specs.Ordering.{nat_cmp}
use Rattle.std.specs.Set.{is_member}
use Rattle.std.specs.Map.{remove_entry}
use Rattle.std.specs.BTreeMap.{is_at}
use Rattle.tm_tree.specs.declared.node.NodeRow.{NodeRow}
use Rattle.tm_graph.specs.Nodes.{Nodes, node, names, with_links}

-- the greater first
abbrev pub falling : ℕ → ℕ → Ordering
falling a b = nat_cmp b a

-- how many links q loses: one for the root link, and one for each entry that names it in a node that goes
abbrev pub lost : Nodes → ℕ → List ℕ → ℕ → ℕ
lost g root gone q = (if q == root then 1 else 0) + sum_by (λ m. names q (node g m)) gone

-- whether a node that loses links has none left
abbrev pub is_spent : ℕ → ℕ → Bool
is_spent links count = nat_lt 0 count && nat_le links count

abbrev pub spends : ℕ → Option NodeRow → Bool
spends count None = false
spends count (Some row) = is_spent row.links count

-- the node with fewer links, if it has any left
abbrev pub less : ℕ → Option NodeRow → Option NodeRow
less count None = None
less count (Some row) = if is_spent row.links count then None else Some (with_links row (row.links - count))

-- these nodes go with a root link: exactly those that lose links and have none left
pub record IsGone (g : Nodes) (root : ℕ) (gone : List ℕ) : Type 0 where
  pub greatest_first : IsStrictlySortedBy falling gone
  pub spent : (q : ℕ) → is_member nat_eq gone q ≡ spends (lost g root gone q) (node g q)

-- what is left of node q
abbrev pub left_at : Nodes → ℕ → List ℕ → ℕ → Option NodeRow
left_at g root gone q = less (lost g root gone q) (node g q)

-- without the nodes of these numbers
abbrev pub without_all : {X : Type 0} → List ℕ → List (ℕ × X) → List (ℕ × X)
without_all [] g = g
without_all (m ∷ ms) g = without_all ms (remove_entry (is_at (nat_cmp m)) g)

-- what is left: the others, each with the links that it didn't lose
abbrev pub after_loss : Nodes → ℕ → List ℕ → Nodes
after_loss g root gone = map (λ row. (row.0, with_links row.1 (row.1.links - lost g root gone row.0))) (without_all gone g)
