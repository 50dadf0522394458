-- What a failed write and a stop leave of a disk.
use Rattle.std.specs.Prelude.{ℕ, List, [], true, false, if◌then◌else◌, ◌==◌}
use Rattle.tm_world.specs.Disk.{Disk}
use Rattle.tm_world.specs.Outside.{Outside}

-- after a write that failed the block reads as before, and a stop may leave anything there
unfoldable pub loosened : ℕ → Disk → Disk
loosened block disk = record { there = disk.there; count = disk.count; bytes = disk.bytes; loose = λ b. if b == block then true else disk.loose b }

-- each loose block is replaced by these bytes, and none is loose
unfoldable pub torn_disk : List ℕ → Disk → Disk
torn_disk torn disk = record { there = disk.there; count = disk.count; bytes = λ b. if disk.loose b then torn else disk.bytes b; loose = λ _. false }

-- after a stop: loose blocks are torn, and nothing is said
abbrev pub stopped : List ℕ → Outside → Outside
stopped torn s = record { stands = λ place. torn_disk torn (s.stands place); scripts = s.scripts; volume = s.volume; store = s.store; unread = s.unread; said = [] }
