use Rattle.std.proofs.Common.{◌≡◌, ℕ, ◌<◌, false, Some}
use Rattle.tm_world.specs.Outside.{is_place}
use Rattle.tm_memworld.specs.Sites.{path_at}
use Rattle.tm_memworld.proofs.devices.find.find.Given as goal

abbrev pub invariant-loop-i : goal.invariant-loop-i
invariant-loop-i l = (k : ℕ) → k < l.i → is_place (Some (path_at l.sites k)) (Some l.path) ≡ false
