-- Which calls fail by their number.
use Rattle.std.specs.Prelude.{ℕ, Bool, false, ◌||◌, ◌==◌, nat_le, List, Option, Some, None}
use Rattle.std.specs.List.{list_any}

-- at or above the fuse
abbrev pub is_behind : Option ℕ → ℕ → Bool
is_behind None call = false
is_behind (Some fuse) call = nat_le fuse call

-- the call of this number is one of those named, or is behind the fuse
abbrev pub is_named : List ℕ → Option ℕ → ℕ → Bool
is_named failing fuse call = is_behind fuse call || list_any (λ n. n == call) failing
