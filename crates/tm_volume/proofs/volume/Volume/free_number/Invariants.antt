use Rattle.std.proofs.Common.{◌≤◌, ◌<◌, ℕ, IsSome}
use Rattle.tm_records.specs.Records.{at}
use Rattle.tm_volume_records.specs.Records.{item_key}
use Rattle.tm_volume.proofs.volume.Volume.free_number.Given as goal

abbrev pub invariant-loop-number : goal.invariant-loop-number
invariant-loop-number l = (n : ℕ) → 2 ≤ n → n < l.number → IsSome (at (item_key n) l.self.image.records)
