-- Lines that are done in turn: what they say, and what a stop leaves.
use Rattle.std.specs.Prelude.{◌≡◌, ℕ, suc, ◌<◌, ◌≤◌, List, ◌++◌, length, take}
use Rattle.tm_reply.specs.Replies.{reply_text}
use Rattle.tm_text.specs.declared.line.Line.{Line}
use Rattle.tm_world.specs.Disk.{Image, IsLeft}
use Rattle.tm_world.specs.Log.{Log, now, Passes}
use Rattle.tm_world.specs.Outside.{Outside, disk}
use Rattle.tm_world.specs.declared.world.Side.TheVariants.{Volume as VolumeSide, Store as StoreSide}
use Rattle.tm_machine.specs.Allowed.{MayDo, after_of, commits_by, reply_of}
use Rattle.tm_machine.specs.Commits.{last_from}
use Rattle.tm_machine.specs.Histories.{AreDone, IsBegunBy, any_refused_in, commits_in, said_in, state_in}
use Rattle.tm_machine.specs.Session.{Effect}
use Rattle.tm_machine.specs.States.{State, Stored, kept}
use Rattle.tm_machine.specs.Stops.{IsFramed, KeepsBlank, LeavesCommits, LeavesPair, PairReads}
use Rattle.tm_run.specs.Ends.{NotCutShort, SaysAll, SaysPrefix}
use Rattle.tm_run.specs.Outcomes.{done_status}
use Rattle.tm_run.specs.declared.status.Status.{Status}

-- a moment of a line that does this: it is under way, and none of its reply was said; or it was done, and a prefix of its reply
-- was said
pub data LeavesEffect (s : State) (d : Effect) (old now : Outside) : Type 0 where
  under_way : LeavesCommits (kept s) (commits_by d) old now → LeavesEffect s d old now
  replying : IsFramed old now → SaysPrefix (reply_text (reply_of d)) old now → KeepsBlank (kept s) (commits_by d) old now → LeavesPair (kept (after_of d)) now → LeavesEffect s d old now

-- the pair that is left reads as what is kept after a prefix of all commits, which has those of each line of whose reply a byte
-- was said, and none of a line that comes later than the first whose reply was not said whole
pub record IsPart (first : Stored) (done : List Effect) (spoken : ℕ) (v z : Image) : Type 0 where
  pub made : ℕ
  pub few : made ≤ length (commits_in done)
  pub reads : PairReads (last_from first (take made (commits_in done))) v z
  pub acknowledged : (i : ℕ) → length (said_in (take i done)) < spoken → length (commits_in (take (suc i) done)) ≤ made
  pub not_beyond : (i : ℕ) → spoken < length (said_in (take i done)) → made ≤ length (commits_in (take i done))

-- a moment of lines that do this
pub record LeavesDone (first : Stored) (done : List Effect) (start now : Outside) : Type 0 where
  pub framed : IsFramed start now
  pub spoken : ℕ
  pub short : spoken ≤ length (said_in done)
  pub said : now.said ≡ start.said ++ take spoken (said_in done)
  pub blank : (i : ℕ) → IsBegunBy i done spoken → KeepsBlank first (commits_in (take i done)) start now
  pub left : (v z : Image) → IsLeft (disk VolumeSide now) v → IsLeft (disk StoreSide now) z → IsPart first done spoken v z

-- a line did something that it may do, and its reply was said
pub record SaidLine (s : State) (l : Line) (old new : Log) (Answers : Effect → Type 0) : Type 0 where
  pub effect : Effect
  pub may : MayDo s l effect
  pub moments : Passes old new (LeavesEffect s effect (now old))
  pub answers : Answers effect

-- and so lines
pub record SaidLines (s : State) (lines : List Line) (old new : Log) (Answers : List Effect → Type 0) : Type 0 where
  pub done : List Effect
  pub may : AreDone s lines done
  pub moments : Passes old new (LeavesDone (kept s) done (now old))
  pub answers : Answers done

-- how lines ended: where they were not cut short, the status tells whether one was refused, all replies were said, and a stop
-- leaves what is kept of the last state
abbrev pub EndsDone : Status → State → List Effect → Outside → Outside → Type 0
EndsDone ended s done old new = NotCutShort ended → (ended ≡ done_status (any_refused_in done)) × SaysAll (said_in done) old new × LeavesPair (kept (state_in s done)) new
