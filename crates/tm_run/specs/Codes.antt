-- The exit statuses.
use Rattle.std.specs.Prelude.{ℕ}
use Rattle.tm_run.specs.declared.status.Status.{Status}
use Rattle.tm_run.specs.declared.status.Status.TheVariants.{Done, DoneRefused, Usage, Script, BadImage, Device, Memory, ScriptFault, OutFault}

abbrev pub code_of : Status → ℕ
code_of Done = 0
code_of DoneRefused = 1
code_of Usage = 2
code_of (Script line) = 3
code_of (BadImage side cause place) = 4
code_of (Device side) = 5
code_of Memory = 6
code_of ScriptFault = 7
code_of OutFault = 8
