-- When the pair fits: stamps tell what is as it was.
use Rattle.std.specs.Prelude.{ℕ}
use Rattle.std.specs.Option.{option_map}
use Rattle.tm_fit.specs.Fit.{Fits}
use Rattle.tm_machine.specs.States.{State, Stored, opened, store_in}

-- the volume fits, and the store fits it
abbrev pub PairFits : State → Type 0
PairFits s = Fits (option_map (λ v. v.volume) s.volume) (store_in s.store)

-- what the images keep fits once it is opened again, whatever their sizes
abbrev pub FitsReopened : Stored → Type 0
FitsReopened r = (volume_blocks store_blocks : ℕ) → PairFits (opened volume_blocks store_blocks r)
