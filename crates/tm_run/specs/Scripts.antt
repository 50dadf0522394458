-- Reading a script.
use Rattle.std.specs.Prelude.{◌≡◌, ℕ, ◌<◌, ◌≤◌, List, Option, Some, None, Result, Ok, Err, length}
use Rattle.tm_world.specs.Outside.{Outside}
use Rattle.tm_run.specs.declared.script.ScriptError.{ScriptError}
use Rattle.tm_base.specs.Limits.{max_script_bytes}

-- nothing outside changed but what is left of the script
pub record IsReading (old new : Outside) : Type 0 where
  pub stands : new.stands ≡ old.stands
  pub scripts : new.scripts ≡ old.scripts
  pub volume : new.volume ≡ old.volume
  pub store : new.store ≡ old.store
  pub said : new.said ≡ old.said

-- all that was left of the script, or none where that is too long
abbrev pub ReadsScript : Outside → Result (Option (List ℕ)) ScriptError → Type 0
ReadsScript old (Ok (Some script)) = script ≡ old.unread
ReadsScript old (Ok None) = max_script_bytes < length old.unread
ReadsScript old (Err e) = Unit {0}

-- the script at the path, which has this
pub record StandsWith (outside : Outside) (path : List ℕ) (Has : List ℕ → Type 0) : Type 0 where
  pub script : List ℕ
  pub stands : outside.scripts path ≡ Some script
  pub has : Has script

-- the script at the path, or none where it is too long
abbrev pub ReadsAt : Outside → List ℕ → Result (Option (List ℕ)) ScriptError → Type 0
ReadsAt outside path (Ok (Some script)) = (outside.scripts path ≡ Some script) × (length script ≤ max_script_bytes)
ReadsAt outside path (Ok None) = StandsWith outside path (λ script. max_script_bytes < length script)
ReadsAt outside path (Err e) = Unit {0}
