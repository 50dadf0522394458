use Rattle.std.proofs.Common.{◌≡◌, ℕ, Some, nat_eq, take, if◌then◌else◌}
use Rattle.std.specs.Ordering.{nat_cmp}
use Rattle.std.specs.Set.{is_member}
use Rattle.std.specs.BTreeMap.{get}
use Rattle.tm_store_records.specs.declared.locations.Location.TheVariants.{At}
use Rattle.tm_store_records.specs.Found.{roots_of}
use Rattle.tm_store_records.proofs.locations.put_roots.Given as goal

abbrev pub invariant-loop-snapshot : goal.invariant-loop-snapshot
invariant-loop-snapshot l = (q : ℕ) → get nat_cmp l.locations q ≡ (if is_member nat_eq (roots_of (take l.snapshot-index l.snapshots)) q then Some (At 0 0) else get nat_cmp l.fn.locations q)
