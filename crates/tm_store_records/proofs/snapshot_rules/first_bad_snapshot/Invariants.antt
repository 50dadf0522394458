use Rattle.tm_store_records.proofs.Dating.{KeepSoFar}
use Rattle.tm_store_records.proofs.snapshot_rules.first_bad_snapshot.Given as goal

abbrev pub invariant-loop-place : goal.invariant-loop-place
invariant-loop-place l = KeepSoFar l.nodes l.snapshots l.number l.place l.before
