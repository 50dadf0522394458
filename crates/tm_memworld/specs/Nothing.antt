-- A world in which nothing stands.
use Rattle.std.specs.Prelude.{[], None}
use Rattle.tm_world.specs.Disk.{nothing}
use Rattle.tm_world.specs.Outside.{Outside}

abbrev pub empty : Outside
empty = record { stands = λ _. nothing; scripts = λ _. None; volume = None; store = None; unread = []; said = [] }
