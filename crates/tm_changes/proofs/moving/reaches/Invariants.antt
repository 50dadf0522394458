use Rattle.tm_index.specs.Folders.{numbers_in}
use Rattle.tm_changes.specs.Depths.{IsLevel}
use Rattle.tm_changes.proofs.moving.reaches.Given as goal

abbrev pub invariant-loop-step : goal.invariant-loop-step
invariant-loop-step l = IsLevel (numbers_in l.numbers) l.number l._step l.level.items
