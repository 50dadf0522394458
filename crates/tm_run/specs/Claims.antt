-- What is claimed of the run of some words.
use Rattle.std.specs.Prelude.{◌≡◌, ◌⊎◌, ℕ, List, Option, Some}
use Rattle.tm_text.specs.declared.line.Line.{Line}
use Rattle.tm_volume.specs.Answers.{IsSpent}
use Rattle.tm_volume.specs.Reads.{SideReads}
use Rattle.tm_volume.specs.Stored.{StoredVolume, reopened}
use Rattle.tm_world.specs.Disk.{Image}
use Rattle.tm_world.specs.Log.{Log, now, Passes}
use Rattle.tm_world.specs.Outside.{Outside}
use Rattle.tm_machine.specs.Fitting.{FitsReopened}
use Rattle.tm_machine.specs.Histories.{plain_history}
use Rattle.tm_machine.specs.Runs.{state_after}
use Rattle.tm_machine.specs.States.{Stored, kept, opened}
use Rattle.tm_machine.specs.Stops.{CanOpen, CanOpenStore, PairReads}
use Rattle.tm_run.specs.declared.status.Status.{Status}
use Rattle.tm_command.specs.Command.{IsCommand}
use Rattle.tm_run.specs.Moments.{IsMoment, RanOver}
use Rattle.tm_run.specs.Outcomes.{IsStart}
use Rattle.tm_run.specs.Places.{ElsewhereSame, FindsPair, KeepsImage, Leaves, LeavesAt}

-- ---- a pair that reads as something

-- over every pair that reads as something, whose generations aren't spent, one history tells the run
abbrev pub RunsOver : List (List ℕ) → Log → Log → Status → Type 0
RunsOver words old new ended = (lines : List Line) (v z : Image) (is : IsStart words (now old) lines v z) (r : Stored) → PairReads r v z → ¬ IsSpent r.volume
    → RanOver lines is.volume is.store is.create v.count z.count r old new ended

-- ---- a pair that fits

-- each moment of the run is one of the plain machine's history
abbrev pub PassesPlain : List (List ℕ) → Log → Log → Type 0
PassesPlain words old new = (lines : List Line) (v z : Image) (is : IsStart words (now old) lines v z) (r : Stored) → PairReads r v z → ¬ IsSpent r.volume
    → Passes old new (IsMoment (plain_history v.count z.count lines r) is.volume is.store is.create (now old))

-- whatever pair a stop leaves after it reads as what is kept of the plain machine's last state
abbrev pub LeavesEnd : List (List ℕ) → Outside → Outside → Type 0
LeavesEnd words old new = (lines : List Line) (v z : Image) (is : IsStart words old lines v z) (r : Stored) → PairReads r v z → ¬ IsSpent r.volume
    → LeavesAt is.volume is.store (PairReads (kept (state_after (opened v.count z.count r) lines))) new

-- a pair reads as something that fits once it is opened again
pub record ReadsFit (v z : Image) : Type 0 where
  pub stored : Stored
  pub reads : PairReads stored v z
  pub fits : FitsReopened stored

-- where that is so of whatever a stop would leave of the pair that the words name, it is so of whatever a stop leaves of it at each
-- moment
abbrev pub StaysFit : List (List ℕ) → Log → Log → Type 0
StaysFit words old new = (volume store path : List ℕ) (create : Option ℕ) → IsCommand words volume store path create → FindsPair volume store create ReadsFit (now old)
    → Passes old new (LeavesAt volume store ReadsFit)

-- ---- any pair

-- what stands at other paths than the command's two is as it was at each moment
abbrev pub StaysElsewhere : List (List ℕ) → Log → Log → Type 0
StaysElsewhere words old new = (volume store path : List ℕ) (create : Option ℕ) → IsCommand words volume store path create → Passes old new (ElsewhereSame volume store (now old))

-- neither image was written
pub record KeepsBoth (p q : List ℕ) (create : Option ℕ) (start now : Outside) : Type 0 where
  pub volume : KeepsImage p create start now
  pub store : KeepsImage q create start now

-- where the volume's image can't be opened, neither image is written
abbrev pub KeepsBesideVolume : List (List ℕ) → Log → Log → Type 0
KeepsBesideVolume words old new = (lines : List Line) (v z : Image) (is : IsStart words (now old) lines v z) → (CanOpen v → ⊥)
    → Passes old new (KeepsBoth is.volume is.store is.create (now old))

-- a volume that reads so was not written, or a stop leaves it so or with its generation begun
pub data BeginsAtMost (r : Option StoredVolume) (p : List ℕ) (create : Option ℕ) (start now : Outside) : Type 0 where
  as_found : KeepsImage p create start now → BeginsAtMost r p create start now
  begins : (s : StoredVolume) → r ≡ Some s → ((image : Image) → Leaves p now image → SideReads image (Some s) ⊎ SideReads image (Some (reopened s))) → BeginsAtMost r p create start now

pub record KeepsStore (r : Option StoredVolume) (p q : List ℕ) (create : Option ℕ) (start now : Outside) : Type 0 where
  pub volume : BeginsAtMost r p create start now
  pub store : KeepsImage q create start now

-- where the store's image can't be opened it is not written, and of the volume beside it a generation begins at most
abbrev pub KeepsBesideStore : List (List ℕ) → Log → Log → Type 0
KeepsBesideStore words old new = (lines : List Line) (v z : Image) (is : IsStart words (now old) lines v z) (r : Option StoredVolume) → SideReads v r → (CanOpenStore z → ⊥)
    → Passes old new (KeepsStore r is.volume is.store is.create (now old))

-- ---- no pair

-- the words are no command, or no script that is lines stands at its path
abbrev pub NamesNoLines : List (List ℕ) → Outside → Type 0
NamesNoLines words outside = (lines : List Line) (v z : Image) → IsStart words outside lines v z → ⊥

-- or one of the images can't be opened
abbrev pub NamesNoPair : List (List ℕ) → Outside → Type 0
NamesNoPair words outside = (lines : List Line) (v z : Image) → IsStart words outside lines v z → CanOpen v → CanOpenStore z → ⊥
