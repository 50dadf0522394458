-- Rows of runs over the same two paths.
use Rattle.std.specs.Prelude.{◌≡◌, ℕ, ◌≤◌, List, [], ◌∷◌, ◌++◌, length, take, Option, Some}
use Rattle.tm_text.specs.Script.{IsScript}
use Rattle.tm_text.specs.declared.line.Line.{Line}
use Rattle.tm_volume.specs.Answers.{IsSpent}
use Rattle.tm_world.specs.Log.{Log, now}
use Rattle.tm_world.specs.Outside.{Outside}
use Rattle.tm_machine.specs.Commits.{last_from}
use Rattle.tm_machine.specs.Fitting.{FitsReopened}
use Rattle.tm_machine.specs.Histories.{History, IsHistory, IsWithin, any_refused_in, held, history_commits, plain_history, said_in}
use Rattle.tm_machine.specs.States.{Stored}
use Rattle.tm_machine.specs.Stops.{PairReads}
use Rattle.tm_run.specs.declared.status.Status.{Status}
use Rattle.tm_run.specs.Claims.{RunsOver}
use Rattle.tm_command.specs.Command.{IsCommand}
use Rattle.tm_run.specs.Ends.{NotCutShort}
use Rattle.tm_run.specs.Outcomes.{done_status}
use Rattle.tm_run.specs.Pairs.{image_at}
use Rattle.tm_run.specs.Places.{FindsLeft, FindsPair, LeavesAt}
use Rattle.tm_base.specs.Limits.{max_script_bytes}

-- a run: its words, its lines, the blocks that it makes, the clock before and after it, how it ended, and the moment at which it
-- was stopped, or its last
pub record Run : Type 0 where
  pub words : List (List ℕ)
  pub lines : List Line
  pub create : Option ℕ
  pub old : Log
  pub new : Log
  pub ended : Status
  pub stopped : ℕ

abbrev pub starts : Run → Outside
starts run = now run.old

abbrev pub stops : Run → Outside
stops run = run.new.past run.stopped

-- how many blocks the image has that a run finds at a path, or makes there
abbrev pub size_at : List ℕ → Run → ℕ
size_at path run = (image_at path run.create (starts run)).count

module _ (p q : List ℕ) where
  -- a run of its lines over the images at these two paths, of which the history tells; its generations aren't spent, and it is
  -- stopped within it or at its end
  pub record IsRun (run : Run) : Type 0 where
    pub path : List ℕ
    pub script : List ℕ
    pub command : IsCommand run.words p q path run.create
    pub stands : (starts run).scripts path ≡ Some script
    pub short : length script ≤ max_script_bytes
    pub is_script : IsScript script run.lines
    pub history : RunsOver run.words run.old run.new run.ended
    pub unspent : (r : Stored) → PairReads r (image_at p run.create (starts run)) (image_at q run.create (starts run)) → ¬ IsSpent r.volume
    pub from : run.old.moment ≤ run.stopped
    pub until : run.stopped ≤ run.new.moment

  -- more runs, one after another: each finds what the one before may have left when it was stopped, or at its end
  abbrev pub AreMore : Outside → List Run → Outside → Type 0
  AreMore before [] last = last ≡ before
  AreMore before (run ∷ runs) last = FindsLeft p run.create before (starts run) × FindsLeft q run.create before (starts run) × IsRun run × AreMore (stops run) runs last

-- a run with this history, after which the images hold y: so much of its text was said, and so many of its commits were made;
-- all of it, where it was not cut short
pub record Went (run : Run) (h : History) (y : Stored) : Type 0 where
  pub spoken : ℕ
  pub made : ℕ
  pub within : IsWithin h spoken made
  pub said : (stops run).said ≡ (starts run).said ++ take spoken (said_in h.done)
  pub holds : y ≡ held h made
  pub whole : NotCutShort run.ended → run.stopped ≡ run.new.moment
      → (run.ended ≡ done_status (any_refused_in h.done)) × (spoken ≡ length (said_in h.done)) × (y ≡ last_from h.first (history_commits h))

module _ (p q : List ℕ) where
  -- a run from x to y, with some history that its lines may have
  pub record MayGo (run : Run) (x y : Stored) : Type 0 where
    pub history : History
    pub first : history.first ≡ x
    pub is : IsHistory (size_at p run) (size_at q run) run.lines history
    pub went : Went run history y

  -- with that of the plain machine
  abbrev pub Goes : Run → Stored → Stored → Type 0
  Goes run x y = Went run (plain_history (size_at p run) (size_at q run) run.lines x) y

-- runs from x to y, one after another
abbrev pub Through : (Run → Stored → Stored → Type 0) → List Run → Stored → Stored → Type 0
Through Step [] x y = y ≡ x
Through Step (run ∷ runs) x y = (w : Stored) × Step run x w × Through Step runs w y

-- the first run finds a pair that reads as x; then whatever a stop leaves after the last one reads as what the runs may come to
abbrev pub RowPasses : Type 0
RowPasses = (p q : List ℕ) (x : Stored) (last : Outside) (run : Run) (runs : List Run) → FindsPair p q run.create (PairReads x) (starts run) → IsRun p q run
    → AreMore p q (stops run) runs last
    → LeavesAt p q (λ v z. (y : Stored) × Through (MayGo p q) (run ∷ runs) x y × PairReads y v z) last

-- where the first pair fits once it is opened again, that is what the plain machine does, and it fits again
abbrev pub RowFits : Type 0
RowFits = (p q : List ℕ) (x y : Stored) (runs : List Run) → FitsReopened x → Through (MayGo p q) runs x y → Through (Goes p q) runs x y × FitsReopened y
