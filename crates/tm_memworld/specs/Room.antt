-- What room is left, and what a call needs of it.
use Rattle.std.specs.Prelude.{ℕ, Bool, ◌-◌, ◌||◌, nat_lt}
use Rattle.tm_memworld.specs.declared.room.Room.{Room}

-- what is left after a call that needs so many writes and said bytes: nothing of a kind of which there was less
abbrev pub spent : ℕ → ℕ → Room → Room
spent writes said room = record { calls = room.calls - 1; writes = room.writes - writes; said = room.said - said }

-- less room is left than a call needs
abbrev pub is_lacking : ℕ → ℕ → Room → Bool
is_lacking writes said room = nat_lt room.calls 1 || nat_lt room.writes writes || nat_lt room.said said
