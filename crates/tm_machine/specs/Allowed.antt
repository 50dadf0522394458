-- What a line may do: what the plain machine does where the pair fits; and where it doesn't, a backup may copy any tree.
use Rattle.std.specs.Prelude.{◌≡◌, ℕ, Option, Some, None, Result, List, [], ◌∷◌, ◌++◌}
use Rattle.tm_base.specs.declared.refused.LineFault.{LineFault}
use Rattle.tm_reply.specs.declared.reply.Reply.{Reply}
use Rattle.tm_reply.specs.declared.row.ReplyRow.{ReplyRow}
use Rattle.tm_text.specs.declared.line.Line.{Line}
use Rattle.tm_text.specs.declared.line.Line.TheVariants as line
use Rattle.tm_tree.specs.declared.change.Change.{Change}
use Rattle.tm_tree.specs.Copies.{LabelledTree}
use Rattle.tm_tree.specs.Refusing.{Tests, first_refused}
use Rattle.tm_tree.specs.States.{StoreState}
use Rattle.tm_volume.specs.Stored.{StoredVolume}
use Rattle.tm_store_records.specs.States.{StoredStore}
use Rattle.tm_world.specs.Log.{Log, now, Passes}
use Rattle.tm_machine.specs.Backups.{backed_with}
use Rattle.tm_machine.specs.Changing.{change_of}
use Rattle.tm_machine.specs.Commits.{changeless_undone, started}
use Rattle.tm_machine.specs.Fitting.{PairFits}
use Rattle.tm_machine.specs.Session.{Does, Effect, Seen, line_effect, changeless_effect}
use Rattle.tm_machine.specs.States.{State, Stored, kept, store_in}
use Rattle.tm_machine.specs.Steps.{answer, at_rest, changeless_after_refused, rows, start_tests, unless_refused, walk_by}
use Rattle.tm_machine.specs.Stops.{LeavesCommits}

-- the tests of a backup whose copy is this tree, and the store when it has finished
abbrev pub walks_with : LabelledTree → ℕ → Option StoredVolume → Option StoreState → Option ℕ → Tests
walks_with tree blocks (Some v) (Some store) (Some date) = walk_by (backed_with tree store v.volume date) blocks store v.volume
walks_with tree blocks _ _ _ = []

abbrev pub backed_as : LabelledTree → Option StoredVolume → Option StoredStore → Option ℕ → Option StoredStore
backed_as tree (Some v) (Some z) (Some date) = Some (at_rest (backed_with tree z.store v.volume date))
backed_as tree _ z _ = z

-- what a backup is to do whose copy is this tree
abbrev pub backup_effect : LabelledTree → State → Effect
backup_effect tree s =
    let after : State = record s { store = backed_as tree s.volume s.store s.moment } in
    record {
      tested = start_tests s ++ walks_with tree s.store_blocks s.volume (store_in s.store) s.moment;
      rows = rows s line.StartBackupBlock;
      after = after;
      commits = started s ∷ kept after ∷ [];
      after_refused = changeless_after_refused s line.StartBackupBlock;
      undone = changeless_undone s line.StartBackupBlock;
    }

-- what a backup may do: some tree is its copy, and the labelled copy is where the pair fits
pub record MayBackUp (s : State) (d : Effect) : Type 0 where
  pub tree : LabelledTree
  pub is : d ≡ backup_effect tree s
  pub exact : PairFits s → d ≡ changeless_effect s line.StartBackupBlock

-- every other line does what the plain machine does
abbrev pub MayDoChangeless : State → Line → Effect → Type 0
MayDoChangeless s line.StartBackupBlock d = MayBackUp s d
MayDoChangeless s l d = d ≡ changeless_effect s l

abbrev pub MayDoBy : State → Line → Option Change → Effect → Type 0
MayDoBy s l (Some c) d = d ≡ line_effect s l
MayDoBy s l None d = MayDoChangeless s l d

abbrev pub MayDo : State → Line → Effect → Type 0
MayDo s l d = MayDoBy s l (change_of l) d

-- a line did something that it may do
pub record Did (May : Effect → Type 0) (m new : Seen) (start end : Log) (result : Result (List ReplyRow) LineFault) : Type 0 where
  pub effect : Effect
  pub may : May effect
  pub does : Does effect m new start end result

-- ---- what callers see of it

-- the reply, the commits and the state after a line that is to do this
abbrev pub reply_of : Effect → Reply
reply_of d = answer (first_refused d.tested) d.rows

abbrev pub commits_by : Effect → List Stored
commits_by d = unless_refused (first_refused d.tested) d.undone d.commits

abbrev pub after_of : Effect → State
after_of d = unless_refused (first_refused d.tested) d.after_refused d.after

-- a line did something that it may do: at each moment a stop leaves a prefix of its commits, and of its reply and the state
-- after it this holds
pub record DidLine (s : State) (l : Line) (old new : Log) (Answers : Effect → Type 0) : Type 0 where
  pub effect : Effect
  pub may : MayDo s l effect
  pub moments : Passes old new (LeavesCommits (kept s) (commits_by effect) (now old))
  pub answers : Answers effect
