use Rattle.std.proofs.Common.{◌≡◌, ℕ, ◌<◌, ◌≤◌, false}
use Rattle.std.specs.Prelude.{nat_eq}
use Rattle.std.specs.Option.{unwrap_or}
use Rattle.std.specs.Ordering.{nat_cmp}
use Rattle.std.specs.Set.{is_member}
use Rattle.std.specs.BTreeMap.{get}
use Rattle.std.specs.List.Sorted.{IsStrictlySortedBy}
use Rattle.tm_graph.specs.Nodes.{node}
use Rattle.tm_graph.specs.Losing.{falling, spends}
use Rattle.tm_graph.specs.Unlinking.{lost_all, thins}
use Rattle.tm_graph.proofs.losses.collect.Given as goal

abbrev pub invariant-loop-number : goal.invariant-loop-number
invariant-loop-number l = record {
  counts : (q : ℕ) → unwrap_or (get nat_cmp l.counts q) 0 ≡ lost_all l.nodes.entries l.roots l.gone.items q;
  falls : IsStrictlySortedBy falling l.gone.items;
  thinned_falls : IsStrictlySortedBy falling l.thinned.items;
  spent : (q : ℕ) → l.above ≤ q → is_member nat_eq l.gone.items q ≡ spends (lost_all l.nodes.entries l.roots l.gone.items q) (node l.nodes.entries q);
  thins : (q : ℕ) → l.above ≤ q → is_member nat_eq l.thinned.items q ≡ thins (lost_all l.nodes.entries l.roots l.gone.items q) (node l.nodes.entries q);
  below : (q : ℕ) → q < l.above → is_member nat_eq l.gone.items q ≡ false;
  thinned_below : (q : ℕ) → q < l.above → is_member nat_eq l.thinned.items q ≡ false;
}

abbrev pub decreases-loop-number : goal.decreases-loop-number
decreases-loop-number l = l.above
