use Rattle.std.proofs.Common.{◌≡◌, drop}
use Rattle.tm_world.specs.Log.{now}
use Rattle.tm_world.specs.Faults.{NeverLess}
use Rattle.tm_machine.specs.Session.{IsOpen, Standing, state_on}
use Rattle.tm_run.proofs.DoneLemmas.{EffectLaws, SoFar}
use Rattle.tm_run.proofs.lines.run_lines.Given as goal

-- whatever the lines that are left do, the whole run does
abbrev pub invariant-loop-line : goal.invariant-loop-line
invariant-loop-line g l = record {
  «open» : IsOpen l.session (g.W.World.blocks l.world);
  standing : g.W.World.told → Standing l.session (now (g.W.World.log l.world));
  so_far : g.W.World.told → (laws : EffectLaws) → SoFar laws (g.W.World.log l.initial.world) (state_on l.initial.session (now (g.W.World.log l.initial.world))) l.lines
      (g.W.World.log l.world) (state_on l.session (now (g.W.World.log l.world))) l.refused (drop l.line-index l.lines);
  blocks : g.W.World.blocks l.world ≡ g.W.World.blocks l.initial.world;
  faults : NeverLess (g.W.World.faults l.initial.world) (g.W.World.faults l.world);
}
