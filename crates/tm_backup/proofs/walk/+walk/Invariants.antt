use Rattle.std.proofs.Common.{◌≡◌, ◌+◌, ◌-◌, ◌*◌, length}
use Rattle.std.specs.Vec.Iter.{into_iter_items, into_iter_len}
use Rattle.tm_world.specs.Faults.{NeverLess}
use Rattle.tm_backup.proofs.Entering.{Far}
use Rattle.tm_backup.proofs.walk.+walk.Given as goal

abbrev pub decreases-walk_entries : goal.decreases-walk_entries
decreases-walk_entries g l = 3 * (65 - length l.path.now) + 1

abbrev pub decreases-walk_folder : goal.decreases-walk_folder
decreases-walk_folder g l = 3 * (65 - length l.path.now) + 2

abbrev pub decreases-walk_entry : goal.decreases-walk_entry
decreases-walk_entry g l = 3 * (65 - length l.path.now)

abbrev pub invariant-walk_entries-loop-entry : goal.invariant-walk_entries-loop-entry
invariant-walk_entries-loop-entry g l = record {
  far : Far g.W.World.told l.fn.volume l.volume l.fn.store l.store (g.W.World.log l.fn.world) (g.W.World.log l.world) l.path l.base l.fn.planned.items (into_iter_items l.entry-iterator) l.fn.progress.builder l.progress.builder l.fn.progress.walked l.progress.walked l.entries.items;
  count : into_iter_len l.entry-iterator ≡ length (into_iter_items l.entry-iterator);
  same_blocks : g.W.World.blocks l.world ≡ g.W.World.blocks l.fn.world;
  never_less : NeverLess (g.W.World.faults l.fn.world) (g.W.World.faults l.world);
}
