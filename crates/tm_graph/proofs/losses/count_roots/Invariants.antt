use Rattle.std.proofs.Common.{◌≡◌, ℕ, ◌==◌, take, count_by}
use Rattle.std.specs.Option.{unwrap_or}
use Rattle.std.specs.Ordering.{nat_cmp}
use Rattle.std.specs.BTreeMap.{get}
use Rattle.tm_graph.proofs.losses.count_roots.Given as goal

abbrev pub invariant-loop-root : goal.invariant-loop-root
invariant-loop-root l = (q : ℕ) → unwrap_or (get nat_cmp l.counts q) 0 ≡ count_by (λ r. r == q) (take l.root-index l.roots)
