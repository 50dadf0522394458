-- What the parts of a run answer.
use Rattle.std.specs.Prelude.{◌≡◌, ◌⊎◌, ℕ, ◌<◌, ◌≤◌, List, Result, Ok, Err, length}
use Rattle.tm_world.specs.Outside.{Outside}
use Rattle.tm_text.specs.declared.line.Line.{Line}
use Rattle.tm_text.specs.Script.{IsScript, IsFirstBad}
use Rattle.tm_run.specs.declared.top.ScriptEnd.{ScriptEnd}
use Rattle.tm_run.specs.declared.top.ScriptEnd.TheVariants.{TooLong, BadLine, Fault, Memory}
use Rattle.tm_run.specs.declared.status.Status.{Status}
use Rattle.tm_run.specs.declared.status.Status.TheVariants as status
use Rattle.tm_run.specs.Scripts.{StandsWith}
use Rattle.tm_base.specs.Limits.{max_script_bytes}

-- the lines of the script at the path, or why it has none
abbrev pub ReadsLines : Outside → List ℕ → Result (List Line) ScriptEnd → Type 0
ReadsLines outside path (Ok lines) = StandsWith outside path (λ script. (length script ≤ max_script_bytes) × IsScript script lines)
ReadsLines outside path (Err TooLong) = StandsWith outside path (λ script. max_script_bytes < length script)
ReadsLines outside path (Err (BadLine n)) = StandsWith outside path (λ script. (length script ≤ max_script_bytes) × IsFirstBad script n)
ReadsLines outside path (Err Fault) = Unit {0}
ReadsLines outside path (Err Memory) = Unit {0}

-- this status, or that the run was cut short
abbrev pub EndsAsOrCut : Status → Status → Type 0
EndsAsOrCut wanted ended = (ended ≡ wanted) ⊎ ((ended ≡ status.Memory) ⊎ (ended ≡ status.OutFault))

-- how a run of lines over images ends
abbrev pub IsEndOfLines : Status → Type 0
IsEndOfLines status.Usage = ⊥
IsEndOfLines (status.Script line) = ⊥
IsEndOfLines status.ScriptFault = ⊥
IsEndOfLines _ = Unit {0}
