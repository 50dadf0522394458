use Rattle.std.proofs.Common.{◌≡◌, ℕ, length}
use Rattle.tm_volume_records.specs.Loads.{position_at}
use Rattle.tm_volume_records.proofs.positions.skip_to.Given as goal

abbrev pub invariant-loop-gap : goal.invariant-loop-gap
invariant-loop-gap l = record {
  many : length l.positions.items ≡ l._gap;
  same : (m : ℕ) → position_at l.positions.items m ≡ position_at l.fn.positions.items m;
}
