use Rattle.std.proofs.Common.{◌+◌, ◌≤◌}
use Rattle.tm_volume_records.specs.Loads.{ArePositionsBelow, IsWorst}
use Rattle.tm_base.specs.Limits.{max_items}
use Rattle.tm_volume_records.proofs.positions.survey_items.Given as goal

abbrev pub invariant-loop-step : goal.invariant-loop-step
invariant-loop-step l = record {
  low : 1 ≤ l.from;
  least : l._step ≤ l.from;
  most : l.from ≤ max_items + 1;
  positions : ArePositionsBelow l.image.records l.from l.positions.items;
  worst : IsWorst l.image.records l.next l.from l.worst;
}
