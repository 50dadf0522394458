use Rattle.std.proofs.Common.{◌≡◌, ◌-◌}
use Rattle.tm_items.specs.Placings.{Items}
use Rattle.tm_items.specs.Rules.{climbs}
use Rattle.tm_volume_records.specs.Loads.{ArePositions}
use Rattle.tm_base.specs.Limits.{max_names}
use Rattle.tm_volume_records.proofs.indexing.climbs.Given as goal

abbrev pub invariant-loop-step : goal.invariant-loop-step
invariant-loop-step l = (items : Items) → ArePositions items l.positions → climbs max_names items l.number ≡ climbs (max_names - l._step) items l.at
