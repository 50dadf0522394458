-- How a line is refused: tests with their refusals, of which the first that holds is answered.
use Rattle.std.specs.Prelude.{ℕ, Bool, nat_lt, if◌then◌else◌, Option, Some, None, is_none, List, [], ◌∷◌}
use Rattle.tm_base.specs.declared.refused.Refused.{Refused}
use Rattle.tm_base.specs.declared.refused.Refused.TheVariants.{NoMoment, TooMany}

-- by rising number of the refusal
abbrev pub Tests : Type 0
Tests = List (Bool × Refused)

abbrev pub first_refused : Tests → Option Refused
first_refused [] = None
first_refused ((holds, why) ∷ tests) = if holds then Some why else first_refused tests

-- a count that a line would reach, above its limit
abbrev pub too_many : ℕ → ℕ → Tests
too_many limit count = (nat_lt limit count, TooMany count) ∷ []

-- a line that dates something needs a moment
abbrev pub needs_moment : Option ℕ → Tests
needs_moment moment = (is_none moment, NoMoment) ∷ []
