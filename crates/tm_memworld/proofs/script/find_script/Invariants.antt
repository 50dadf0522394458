use Rattle.std.proofs.Common.{◌≡◌, ◌<◌, length, take}
use Rattle.std.specs.Option.{option_map, ForSome}
use Rattle.tm_memworld.specs.Script.{scripts_in, text_at}
use Rattle.tm_memworld.proofs.script.find_script.Given as goal

abbrev pub invariant-loop-i : goal.invariant-loop-i
invariant-loop-i l = record {
  text : option_map (text_at l.scripts) l.found ≡ scripts_in (take l.i l.scripts) l.path;
  within : ForSome l.found (λ k. k < length l.scripts);
}
