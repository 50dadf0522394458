-- What a run over a pair that reads as something says and leaves: one history tells it, at each moment and in the end.
use Rattle.std.specs.Prelude.{◌≡◌, ℕ, false, List, ◌++◌, take, Option, Some, None}
use Rattle.tm_text.specs.declared.line.Line.{Line}
use Rattle.tm_world.specs.Disk.{Image}
use Rattle.tm_world.specs.Log.{Log, now, Passes}
use Rattle.tm_volume.specs.Stored.{StoredVolume}
use Rattle.tm_world.specs.Outside.{Outside, disk, is_place, place}
use Rattle.tm_world.specs.declared.world.Side.TheVariants.{Volume as VolumeSide, Store as StoreSide}
use Rattle.tm_machine.specs.Commits.{last_from}
use Rattle.tm_machine.specs.Histories.{History, IsBegunBy, IsHistory, IsWithin, any_refused_in, commits_in, held, history_commits, said_in}
use Rattle.tm_machine.specs.States.{Stored, kept, opened}
use Rattle.tm_machine.specs.Stops.{HaveNoStore, HaveNoVolume, LeavesBegun, LeavesCommits, LeavesPair, PairReads}
use Rattle.tm_run.specs.declared.status.Status.{Status}
use Rattle.tm_run.specs.Done.{LeavesDone}
use Rattle.tm_run.specs.Ends.{NotCutShort, SaysAll}
use Rattle.tm_run.specs.Outcomes.{done_status}
use Rattle.tm_run.specs.Places.{ElsewhereSame, KeepsImage, LeavesAt}

-- ---- a moment

-- the pair reads as what is held after so many commits of the history, of which so many bytes were said
pub record IsHeld (h : History) (spoken : ℕ) (v z : Image) : Type 0 where
  pub made : ℕ
  pub within : IsWithin h spoken made
  pub reads : PairReads (held h made) v z

-- neither image was written, and nothing was said
pub record IsUntouched (p q : List ℕ) (create : Option ℕ) (start now : Outside) : Type 0 where
  pub volume : KeepsImage p create start now
  pub store : KeepsImage q create start now
  pub said : now.said ≡ start.said

-- an image that was unformatted is not written while no line that was begun formats it
pub record KeepsUnformatted (h : History) (p q : List ℕ) (create : Option ℕ) (start now : Outside) (spoken : ℕ) : Type 0 where
  pub volume : h.first.volume ≡ None → (i : ℕ) → IsBegunBy i h.done spoken → HaveNoVolume (commits_in (take i h.done)) → KeepsImage p create start now
  pub store : h.first.store ≡ None → (i : ℕ) → IsBegunBy i h.done spoken → HaveNoStore (commits_in (take i h.done)) → KeepsImage q create start now

-- a prefix of the text was said, and whatever pair a stop leaves reads as what is held after a prefix of the commits
pub record IsUnderWay (h : History) (p q : List ℕ) (create : Option ℕ) (start now : Outside) : Type 0 where
  pub spoken : ℕ
  pub said : now.said ≡ start.said ++ take spoken (said_in h.done)
  pub unformatted : KeepsUnformatted h p q create start now spoken
  pub left : LeavesAt p q (IsHeld h spoken) now

pub data Stage (h : History) (p q : List ℕ) (create : Option ℕ) (start now : Outside) : Type 0 where
  untouched : IsUntouched p q create start now → Stage h p q create start now
  going_on : IsUnderWay h p q create start now → Stage h p q create start now

pub record IsMoment (h : History) (p q : List ℕ) (create : Option ℕ) (start now : Outside) : Type 0 where
  pub elsewhere : ElsewhereSame p q start now
  pub stage : Stage h p q create start now

-- ---- a run

-- the end of a run that was not cut short: the status tells whether a line was refused, all replies were said, and a stop leaves
-- what is held after the last commit
pub record IsWholeRun (h : History) (p q : List ℕ) (start end : Outside) (ended : Status) : Type 0 where
  pub is : ended ≡ done_status (any_refused_in h.done)
  pub said : end.said ≡ start.said ++ said_in h.done
  pub left : LeavesAt p q (PairReads (last_from h.first (history_commits h))) end

-- a run of these lines over a pair that reads as r: one history tells all its moments and its end
pub record RanOver (lines : List Line) (p q : List ℕ) (create : Option ℕ) (volume_blocks store_blocks : ℕ) (r : Stored) (old new : Log) (ended : Status) : Type 0 where
  pub history : History
  pub first : history.first ≡ r
  pub is : IsHistory volume_blocks store_blocks lines history
  pub moments : Passes old new (IsMoment history p q create (now old))
  pub whole : NotCutShort ended → IsWholeRun history p q (now old) (now new) ended

-- ---- a run from its parts, on the sides

-- a moment of a run on the pair that is attached: it is being opened, or its lines are done in turn
pub data OnSides (volume_blocks store_blocks : ℕ) (h : History) (start now : Outside) : Type 0 where
  opens : LeavesCommits h.first h.opening start now → OnSides volume_blocks store_blocks h start now
  runs_on : LeavesDone (kept (opened volume_blocks store_blocks h.first)) h.done start now → OnSides volume_blocks store_blocks h start now

-- a run of these lines on the pair that is attached, which reads as r
pub record RanOnSides (lines : List Line) (volume_blocks store_blocks : ℕ) (r : Stored) (old new : Log) (Ends : History → Type 0) : Type 0 where
  pub history : History
  pub first : history.first ≡ r
  pub is : IsHistory volume_blocks store_blocks lines history
  pub moments : Passes old new (OnSides volume_blocks store_blocks history (now old))
  pub ends : Ends history

-- how it ends, where it is not cut short
abbrev pub EndsOnSides : Status → Outside → Outside → History → Type 0
EndsOnSides ended old new h = NotCutShort ended
    → (ended ≡ done_status (any_refused_in h.done)) × SaysAll (said_in h.done) old new × LeavesPair (last_from h.first (history_commits h)) new

-- neither disk is another
pub record KeepsDisks (start now : Outside) : Type 0 where
  pub volume : disk VolumeSide now ≡ disk VolumeSide start
  pub store : disk StoreSide now ≡ disk StoreSide start

-- the store's disk is no other, and the volume's is none where it is unformatted; else a stop leaves of it what it reads as, or that
-- with its generation begun
pub record BesideShut (r : Option StoredVolume) (start now : Outside) : Type 0 where
  pub unformatted : r ≡ None → disk VolumeSide now ≡ disk VolumeSide start
  pub begun : LeavesBegun r now
  pub store : disk StoreSide now ≡ disk StoreSide start

-- the pair is being found: neither image was written, nothing was said, and all else stands as it stood
pub record IsFinding (p q : List ℕ) (create : Option ℕ) (start now : Outside) : Type 0 where
  pub untouched : IsUntouched p q create start now
  pub elsewhere : ElsewhereSame p q start now

-- the pair was attached at these two paths, and found
pub record IsAttached (p q : List ℕ) (create : Option ℕ) (start here : Outside) : Type 0 where
  pub apart : is_place (Some p) (Some q) ≡ false
  pub volume : place VolumeSide here ≡ Some p
  pub store : place StoreSide here ≡ Some q
  pub found : IsFinding p q create start here

-- a moment on the sides is one at the paths
abbrev pub SidesArePaths : Type 0
SidesArePaths = (volume_blocks store_blocks : ℕ) (lines : List Line) (h : History) → IsHistory volume_blocks store_blocks lines h
    → (p q : List ℕ) (create : Option ℕ) (start here now : Outside) → IsAttached p q create start here → OnSides volume_blocks store_blocks h here now → IsMoment h p q create start now
