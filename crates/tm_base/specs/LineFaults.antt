-- What holds of a call for a line unless an image failed.
use Rattle.std.specs.Prelude.{◌≢◌, Result, Err}
use Rattle.tm_base.specs.declared.refused.Side.{Side}
use Rattle.tm_base.specs.declared.refused.LineFault.{LineFault}
use Rattle.tm_base.specs.declared.refused.LineFault.TheVariants.{Fault}

-- no image failed
abbrev pub NoFault : {A : Type 0} → Result A LineFault → Type 0
NoFault result = (side : Side) → result ≢ Err (Fault side)
