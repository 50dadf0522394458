-- How a run ended.
use Rattle.std.specs.Prelude.{◌≡◌, ℕ, ◌≤◌, List, ◌++◌, take, length}
use Rattle.tm_text.specs.declared.line.Line.{Line}
use Rattle.tm_world.specs.Disk.{Image}
use Rattle.tm_world.specs.Outside.{Outside, place}
use Rattle.tm_world.specs.declared.world.Side.{Side}
use Rattle.tm_run.specs.declared.status.Status.{Status}
use Rattle.tm_run.specs.declared.status.Status.TheVariants as status
use Rattle.tm_run.specs.Outcomes.{Outcome, Ran}
use Rattle.tm_run.specs.Pairs.{KeepsPair}

-- the run was not cut short by a fault or by want of memory
abbrev pub NotCutShort : Status → Type 0
NotCutShort status.Done = Unit {0}
NotCutShort status.DoneRefused = Unit {0}
NotCutShort status.Usage = Unit {0}
NotCutShort (status.Script line) = Unit {0}
NotCutShort (status.BadImage side cause place) = Unit {0}
NotCutShort (status.Device side) = ⊥
NotCutShort status.Memory = ⊥
NotCutShort status.ScriptFault = ⊥
NotCutShort status.OutFault = ⊥

-- it was, but not by a fault of the output
abbrev pub IsCut : Status → Type 0
IsCut (status.Device side) = Unit {0}
IsCut status.Memory = Unit {0}
IsCut status.ScriptFault = Unit {0}
IsCut _ = ⊥

-- every line was done or refused
abbrev pub IsDone : Status → Type 0
IsDone status.Done = Unit {0}
IsDone status.DoneRefused = Unit {0}
IsDone _ = ⊥

-- the run ended before an image was attached
abbrev pub IsBefore : Status → Type 0
IsBefore status.Usage = Unit {0}
IsBefore (status.Script line) = Unit {0}
IsBefore status.ScriptFault = Unit {0}
IsBefore _ = ⊥

-- all the text was said
pub record SaysAll (text : List ℕ) (old new : Outside) : Type 0 where
  pub all : new.said ≡ old.said ++ text

-- a prefix of the text was said
pub record SaysPrefix (text : List ℕ) (old new : Outside) : Type 0 where
  pub count : ℕ
  pub within : count ≤ length text
  pub part : new.said ≡ old.said ++ take count text

-- a run that was not cut short gave its outcome and said all of it
pub record GaveOutcome (words : List (List ℕ)) (old new : Outside) (ended : Status) : Type 0 where
  pub text : List ℕ
  pub outcome : Outcome words old ended text
  pub said : SaysAll text old new

-- the same of lines over a pair of images
pub record GaveRan (v z : Image) (lines : List Line) (old new : Outside) (ended : Status) : Type 0 where
  pub text : List ℕ
  pub ran : Ran v z lines ended text
  pub said : SaysAll text old new

-- a prefix of the text was said, and nothing else is another
pub record Speaks (text : List ℕ) (old now : Outside) : Type 0 where
  pub said : SaysPrefix text old now
  pub pair : KeepsPair old now
  pub stands : now.stands ≡ old.stands
  pub places : (side : Side) → place side now ≡ place side old
