-- A world that tells no contents.
use Rattle.std.specs.Prelude.{[], None}
use Rattle.tm_world.specs.Disk.{nothing}
use Rattle.tm_world.specs.Log.{Log}

-- a clock that stands still over nothing
abbrev pub untold : Log
untold = record {
  moment = 0;
  past = λ _. record { stands = λ _. nothing; scripts = λ _. None; volume = None; store = None; unread = []; said = [] };
}
