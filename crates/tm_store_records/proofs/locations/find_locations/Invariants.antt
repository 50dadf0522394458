use Rattle.std.proofs.Common.{◌≤◌, length}
use Rattle.tm_store_records.specs.Found.{roots_of}
use Rattle.tm_store_records.specs.Located.{Comes, DoneFrom, LocationsTell}
use Rattle.tm_store_records.proofs.locations.find_locations.Given as goal

abbrev pub invariant-loop-place : goal.invariant-loop-place
invariant-loop-place l = record {
  within : l.place ≤ length l.nodes;
  tell : LocationsTell l.nodes (roots_of l.snapshots) (Comes l.nodes (roots_of l.snapshots) (DoneFrom l.nodes l.place)) l.locations;
}

abbrev pub decreases-loop-place : goal.decreases-loop-place
decreases-loop-place l = l.place
