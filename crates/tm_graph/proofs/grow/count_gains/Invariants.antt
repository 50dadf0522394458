use Rattle.std.proofs.Common.{◌≡◌, ℕ, take}
use Rattle.std.specs.Option.{unwrap_or}
use Rattle.std.specs.Ordering.{nat_cmp}
use Rattle.std.specs.BTreeMap.{get}
use Rattle.tm_graph.specs.Growing.{gain}
use Rattle.tm_graph.proofs.grow.count_gains.Given as goal

abbrev pub invariant-loop-row : goal.invariant-loop-row
invariant-loop-row l = (q : ℕ) → unwrap_or (get nat_cmp l.gains q) 0 ≡ gain (take l.row-index l.new) l.root q
