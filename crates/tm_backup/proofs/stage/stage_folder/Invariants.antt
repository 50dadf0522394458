use Rattle.std.proofs.Common.{◌≡◌, length}
use Rattle.std.specs.Vec.Iter.{into_iter_items, into_iter_len}
use Rattle.tm_world.specs.Faults.{NeverLess}
use Rattle.tm_backup.proofs.Folding.{SoFar}
use Rattle.tm_backup.proofs.stage.stage_folder.Given as goal

abbrev pub invariant-loop-row : goal.invariant-loop-row
invariant-loop-row g l = record {
  far : SoFar g.W.World.told l.volume l.fn.store l.store (g.W.World.log l.fn.world) (g.W.World.log l.world) l.path l.base l.fn.rows.items (into_iter_items l.row-iterator) l.planned.items;
  count : into_iter_len l.row-iterator ≡ length (into_iter_items l.row-iterator);
  blocks : g.W.World.blocks l.world ≡ g.W.World.blocks l.fn.world;
  never_less : NeverLess (g.W.World.faults l.fn.world) (g.W.World.faults l.world);
}
