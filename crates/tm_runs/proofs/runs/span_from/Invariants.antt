use Rattle.std.proofs.Common.{length, ◌-◌, ◌≤◌, ◌<◌, slice_index}
use Rattle.tm_runs.specs.Marks.{mark_at, IsUpTo}
use Rattle.tm_runs.specs.Touched.{HoldsTouched}
use Rattle.tm_runs.proofs.runs.span_from.Given as goal

abbrev pub invariant-loop-next : goal.invariant-loop-next
invariant-loop-next l = record {
  begins : IsUpTo (mark_at l.holders l.from) (slice_index l.keys l.fn.first);
  since : l.fn.low ≤ l.from;
  touched : HoldsTouched l.holders l.keys l.from l.to;
  inside : l.to ≤ length l.holders;
  more : (l.fn.first < l.next) × (l.next ≤ length l.keys);
  done : slice_index l.keys (l.next - 1) < (mark_at l.holders l.to).key;
  near : (mark_at l.holders (l.to - 1)).key ≤ slice_index l.keys (l.next - 1);
}

abbrev pub decreases-loop-next : goal.decreases-loop-next
decreases-loop-next l = length l.keys - l.next
