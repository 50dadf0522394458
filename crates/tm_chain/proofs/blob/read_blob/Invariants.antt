use Rattle.std.proofs.Common.{◌≡◌, ◌≤◌, ◌<◌, ◌+◌, ◌-◌, ◌*◌, ℕ, length, get_or}
use Rattle.tm_world.specs.Outside.{disk}
use Rattle.tm_world.specs.Log.{now, Steps}
use Rattle.tm_world.specs.Faults.{NeverLess}
use Rattle.tm_chain.specs.Blob.{byte_in}
use Rattle.tm_chain.proofs.blob.read_blob.Given as goal

abbrev pub invariant-loop-done : goal.invariant-loop-done
invariant-loop-done g l = record {
  read : g.W.World.told → (i : ℕ) → i < l.done → get_or l.into i 0 ≡ byte_in l.blocks (disk l.side (now (g.W.World.log l.initial.world))).bytes (l.at + i);
  steps : g.W.World.told → Steps (g.W.World.log l.initial.world) (g.W.World.log l.world) (now (g.W.World.log l.initial.world));
  place : l.done < length l.into → 4096 * l.k + l.front ≡ l.at + l.done;
  front : l.front < 4096;
  within : l.done ≤ length l.into;
  blocks : g.W.World.blocks l.world ≡ g.W.World.blocks l.initial.world;
  faults : NeverLess (g.W.World.faults l.initial.world) (g.W.World.faults l.world);
}

abbrev pub decreases-loop-done : goal.decreases-loop-done
decreases-loop-done g l = length l.initial.into - l.done
