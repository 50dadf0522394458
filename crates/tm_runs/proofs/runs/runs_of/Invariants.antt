use Rattle.std.proofs.Common.{length, ◌-◌, ◌≤◌, ◌<◌, ◌+◌, slice_index}
use Rattle.std.specs.List.Sorted.{IsStrictlyIncreasing}
use Rattle.std.specs.List.{All}
use Rattle.tm_records.specs.Removes.{without}
use Rattle.tm_runs.specs.Marks.{mark_at, IsUpTo}
use Rattle.tm_runs.specs.Touched.{HoldsTouched}
use Rattle.tm_runs.proofs.Spanning.{done_after, Found}
use Rattle.tm_runs.proofs.runs.runs_of.Given as goal

abbrev pub invariant-loop-next : goal.invariant-loop-next
invariant-loop-next l = record {
  touched : All (λ run. HoldsTouched l.holders l.keys run.from run.to) l.runs.items;
  found : (up : IsStrictlyIncreasing l.keys) → Found (without l.left_out l.records.entries) l.holders l.keys up l.runs.items l.next;
  within : l.next ≤ length l.keys;
  begins : l.next < length l.keys → (l.low < length l.holders) × IsUpTo (mark_at l.holders l.low) (slice_index l.keys l.next);
  gap : l.next < length l.keys → 0 < done_after 0 l.runs.items → done_after 0 l.runs.items + 2 ≤ l.low;
}

abbrev pub decreases-loop-next : goal.decreases-loop-next
decreases-loop-next l = length l.keys - l.next
