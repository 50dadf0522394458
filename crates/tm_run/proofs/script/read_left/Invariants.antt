use Rattle.std.proofs.Common.{◌≡◌, ◌≤◌, ◌-◌, vec_len}
use Rattle.tm_world.specs.Log.{now, Passes}
use Rattle.tm_world.specs.Faults.{NeverLess}
use Rattle.tm_run.specs.Scripts.{IsReading}
use Rattle.tm_run.proofs.ScriptLemmas.{HasRead}
use Rattle.tm_run.proofs.script.read_left.Given as goal

abbrev pub invariant-parts : goal.invariant-parts
invariant-parts g l = record {
  few : vec_len l.script ≤ 1_048_577;
  read : g.W.World.told → HasRead (now (g.W.World.log l.initial.world)) (now (g.W.World.log l.world)) l.script.items;
  passes : g.W.World.told → Passes (g.W.World.log l.initial.world) (g.W.World.log l.world) (IsReading (now (g.W.World.log l.initial.world)));
  blocks : g.W.World.blocks l.world ≡ g.W.World.blocks l.initial.world;
  faults : NeverLess (g.W.World.faults l.initial.world) (g.W.World.faults l.world);
}

abbrev pub decreases-parts : goal.decreases-parts
decreases-parts g l = 1_048_577 - vec_len l.script
