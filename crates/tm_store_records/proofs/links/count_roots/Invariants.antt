use Rattle.std.proofs.Common.{◌≡◌, ℕ, ◌+◌, ◌==◌, take, count_by}
use Rattle.std.specs.Option.{unwrap_or}
use Rattle.std.specs.Ordering.{nat_cmp}
use Rattle.std.specs.BTreeMap.{get}
use Rattle.tm_store_records.specs.Found.{roots_of}
use Rattle.tm_store_records.proofs.links.count_roots.Given as goal

abbrev pub invariant-loop-snapshot : goal.invariant-loop-snapshot
invariant-loop-snapshot l = (q : ℕ) → unwrap_or (get nat_cmp l.counts q) 0 ≡ unwrap_or (get nat_cmp l.fn.counts q) 0 + count_by (λ r. r == q) (roots_of (take l.snapshot-index l.snapshots))
