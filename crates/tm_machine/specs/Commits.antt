-- The commits: each state that the images pass, from opening on.
use Rattle.std.specs.Prelude.{◌≡◌, ℕ, if◌then◌else◌, Option, Some, None, List, [], ◌∷◌, ◌++◌}
use Rattle.tm_base.specs.declared.refused.Refused.{Refused}
use Rattle.tm_text.specs.declared.line.Line.{Line}
use Rattle.tm_text.specs.declared.line.Line.TheVariants as line
use Rattle.std.specs.Option.{option_map}
use Rattle.tm_store_records.specs.States.{StoredStore}
use Rattle.tm_tree.specs.Refusing.{first_refused}
use Rattle.tm_tree.specs.declared.change.Change.{Change}
use Rattle.tm_volume.specs.Stored.{StoredVolume, reopened}
use Rattle.tm_machine.specs.Changing.{change_of}
use Rattle.tm_machine.specs.States.{State, Stored, kept, opened}
use Rattle.tm_machine.specs.Steps.{begun, changed, ended, changeless_after, refusal, start_tests, step, unless_refused}

-- the last of a list, or what was there before it
abbrev pub last_from : {A : Type 0} → A → List A → A
last_from x [] = x
last_from x (y ∷ ys) = last_from y ys

-- ---- opening

abbrev pub opening_of : Option StoredVolume → Option StoredStore → List Stored
opening_of None z = []
opening_of (Some v) z = if v.clean then [] else record { volume = Some (reopened v); store = z } ∷ []

-- the commit of opening: a volume that was not closed cleanly begins a generation
abbrev pub opening : Stored → List Stored
opening r = opening_of r.volume r.store

-- ---- a line

-- a backup has started: its date is on the image
abbrev pub started : State → Stored
started s = record { volume = s.volume; store = option_map (begun s.moment) s.store }

abbrev pub changeless_commits : State → Line → List Stored
changeless_commits s (line.NewVolume name id events) = kept (changeless_after s (line.NewVolume name id events)) ∷ []
changeless_commits s (line.NewStore machine) = kept (changeless_after s (line.NewStore machine)) ∷ []
changeless_commits s line.StartBackupBlock = started s ∷ kept (changeless_after s line.StartBackupBlock) ∷ []
changeless_commits s _ = []

abbrev pub done_by : State → Line → Option Change → List Stored
done_by s l (Some c) = kept (changed s c) ∷ []
done_by s l None = changeless_commits s l

-- where a backup that had started is refused, its date comes and goes
abbrev pub ending : Option Refused → State → List Stored
ending None s = started s ∷ kept (ended None s) ∷ []
ending (Some why) s = []

abbrev pub changeless_undone : State → Line → List Stored
changeless_undone s line.StartBackupBlock = ending (first_refused (start_tests s)) s
changeless_undone s _ = []

abbrev pub undone_by : State → Line → Option Change → List Stored
undone_by s l (Some c) = []
undone_by s l None = changeless_undone s l

-- the commits of a line that is refused
abbrev pub undone : State → Line → List Stored
undone s l = undone_by s l (change_of l)

-- the commits of a line: a refused line has none, but where a backup had started
abbrev pub commits_of : State → Line → List Stored
commits_of s l = unless_refused (refusal s l) (undone s l) (done_by s l (change_of l))

-- ---- lines

-- those of all of them, in order
abbrev pub commits : State → List Line → List Stored
commits s [] = []
commits s (l ∷ lines) = commits_of s l ++ commits (step s l) lines

-- ---- laws

-- the last commit of opening is what is kept of the opened state
abbrev pub LastOfOpening : Type 0
LastOfOpening = (volume_blocks store_blocks : ℕ) (r : Stored) → last_from r (opening r) ≡ kept (opened volume_blocks store_blocks r)
