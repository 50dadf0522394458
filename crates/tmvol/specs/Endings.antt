-- The exit status of the program.
use Rattle.std.specs.Prelude.{◌≡◌, ◌≢◌, ℕ, Result, Ok, Err}
use Rattle.std.specs.declared.io.ErrorKind.{ErrorKind}
use Rattle.std.specs.declared.io.ErrorKind.TheVariants.{OutOfMemory}
use Rattle.tm_run.specs.declared.status.Status.{Status}
use Rattle.tm_run.specs.Codes.{code_of}
use Rattle.tmvol.specs.declared.arguments.ArgumentsError.{ArgumentsError}
use Rattle.tmvol.specs.declared.arguments.ArgumentsError.TheVariants.{Memory, NotGiven}

-- what the system's answer for the words comes to
pub record IsWhyNotGiven (kind : ErrorKind) (error : ArgumentsError) : Type 0 where
  pub memory : kind ≡ OutOfMemory → error ≡ Memory
  pub other : kind ≢ OutOfMemory → error ≡ NotGiven

abbrev pub code_at_end : Result Status ArgumentsError → ℕ
code_at_end (Ok status) = code_of status
code_at_end (Err Memory) = 6
code_at_end (Err NotGiven) = 9
