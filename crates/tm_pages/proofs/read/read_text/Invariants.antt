use Rattle.std.proofs.Common.{◌≡◌, length, take}
use Rattle.std.specs.List.{sum}
use Rattle.tm_world.specs.Outside.{disk}
use Rattle.tm_world.specs.Log.{now, Steps}
use Rattle.tm_world.specs.Faults.{NeverLess}
use Rattle.tm_pages.specs.Paged.{lengths, text_on}
use Rattle.tm_pages.proofs.read.read_text.Given as goal

abbrev pub invariant-loop-page : goal.invariant-loop-page
invariant-loop-page g l = record {
  text : g.W.World.told → l.text.items ≡ text_on (take l.page-index l.pages) (disk l.side (now (g.W.World.log l.initial.world))).bytes;
  long : length l.text.items ≡ sum (take l.page-index (lengths l.pages));
  steps : g.W.World.told → Steps (g.W.World.log l.initial.world) (g.W.World.log l.world) (now (g.W.World.log l.initial.world));
  blocks : g.W.World.blocks l.world ≡ g.W.World.blocks l.initial.world;
  faults : NeverLess (g.W.World.faults l.initial.world) (g.W.World.faults l.world);
}
