use Rattle.std.proofs.Common.{◌≡◌, take}
use Rattle.tm_machine.specs.Queries.{held_dates}
use Rattle.tm_machine.proofs.store.snapshot_dates.Given as goal

abbrev pub invariant-loop-snapshot : goal.invariant-loop-snapshot
invariant-loop-snapshot l = l.rows ≡ held_dates (take l.snapshot-index l.snapshots)
