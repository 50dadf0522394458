-- Which values a line may hold.
use Rattle.std.specs.Prelude.{◌≢◌, ℕ, ◌≤◌, ◌<◌, ◌^◌, List, All, IsUtf8, length}
use Rattle.tm_base.specs.Limits.{max_names, max_value_bytes, max_target_bytes, max_events}
use Rattle.tm_base.specs.Days.{last_moment}
use Rattle.tm_base.specs.IsName.{IsName}
use Rattle.tm_text.specs.declared.line.Line.{Line}
use Rattle.tm_text.specs.declared.line.Line.TheVariants as line
use Rattle.tm_text.specs.declared.place.ItemAt.{ItemAt}
use Rattle.tm_text.specs.declared.place.SnapshotAt.{SnapshotAt}
use Rattle.tm_text.specs.declared.place.StorePath.{StorePath}
use Rattle.tm_text.specs.declared.place.StorePath.TheVariants as store_path
use Rattle.tm_text.specs.declared.place.Stored.{Stored}
use Rattle.tm_text.specs.declared.place.Stored.TheVariants as stored
use Rattle.tm_text.specs.declared.place.Which.{Which}
use Rattle.tm_text.specs.declared.place.Which.TheVariants as which

-- at most 64 names
abbrev pub IsValidPath : List (List ℕ) → Type 0
IsValidPath path = All IsName path × (length path ≤ max_names)

-- one byte or more
abbrev pub IsValidText : List ℕ → Type 0
IsValidText text = (1 ≤ length text) × All (λ b. b < 256) text

-- at most 4,096 bytes
abbrev pub IsValidValue : List ℕ → Type 0
IsValidValue value = (length value ≤ max_value_bytes) × All (λ b. b < 256) value

-- 1 to 1,023 bytes of UTF-8 without NUL
abbrev pub IsValidTarget : List ℕ → Type 0
IsValidTarget target = (1 ≤ length target) × (length target ≤ max_target_bytes) × IsUtf8 target × All (λ b. b ≢ 0) target

abbrev pub IsValidDate : ℕ → Type 0
IsValidDate date = date ≤ last_moment

abbrev pub IsValidNumber : ℕ → Type 0
IsValidNumber n = n < 2 ^ 64

abbrev pub IsValidOwner : ℕ → Type 0
IsValidOwner n = n < 2 ^ 32

abbrev pub IsValidMode : ℕ → Type 0
IsValidMode mode = mode ≤ 4095

abbrev pub IsValidId : ℕ → Type 0
IsValidId id = id < 2 ^ 128

abbrev pub IsValidEvents : ℕ → Type 0
IsValidEvents n = (1 ≤ n) × (n ≤ max_events)

abbrev pub IsValidSteps : ℕ → Type 0
IsValidSteps n = (1 ≤ n) × (n < 2 ^ 64)

abbrev pub IsValidWhich : Which → Type 0
IsValidWhich which.Latest = Unit {0}
IsValidWhich (which.At date) = IsValidDate date

abbrev pub IsValidSnapshot : SnapshotAt → Type 0
IsValidSnapshot s = IsName s.machine × IsValidWhich s.at

abbrev pub IsValidItem : ItemAt → Type 0
IsValidItem i = IsValidSnapshot i.snapshot × IsName i.volume × IsValidPath i.path

abbrev pub IsValidStored : Stored → Type 0
IsValidStored (stored.Snapshot s) = IsValidSnapshot s
IsValidStored (stored.Item i) = IsValidItem i

abbrev pub IsValidStorePath : StorePath → Type 0
IsValidStorePath store_path.Top = Unit {0}
IsValidStorePath (store_path.Machine machine) = IsName machine
IsValidStorePath (store_path.Snapshot s) = IsValidSnapshot s
IsValidStorePath (store_path.Item i) = IsValidItem i

-- each value of the line is within the bounds of its kind of word
abbrev pub IsValidLine : Line → Type 0
IsValidLine (line.At date) = IsValidDate date
IsValidLine (line.NewVolume name id events) = IsName name × IsValidId id × IsValidEvents events
IsValidLine (line.NewStore machine) = IsName machine
IsValidLine (line.Mkdir path) = IsValidPath path
IsValidLine (line.Write path text) = IsValidPath path × IsValidText text
IsValidLine (line.Append path text) = IsValidPath path × IsValidText text
IsValidLine (line.Fill path bytes seed) = IsValidPath path × IsValidNumber bytes × IsValidNumber seed
IsValidLine (line.Rm path) = IsValidPath path
IsValidLine (line.Rmdir path) = IsValidPath path
IsValidLine (line.Mv from to) = IsValidPath from × IsValidPath to
IsValidLine (line.Ln path target) = IsValidPath path × IsValidTarget target
IsValidLine (line.Chmod path mode) = IsValidPath path × IsValidMode mode
IsValidLine (line.Chown path uid gid) = IsValidPath path × IsValidOwner uid × IsValidOwner gid
IsValidLine (line.Setx path name value) = IsValidPath path × IsName name × IsValidValue value
IsValidLine (line.Rmx path name) = IsValidPath path × IsName name
IsValidLine (line.Ls path) = IsValidPath path
IsValidLine (line.Cat path) = IsValidPath path
IsValidLine (line.Gen seed count) = IsValidNumber seed × IsValidNumber count
IsValidLine line.StartBackup = Unit {0}
IsValidLine line.StartBackupBlock = Unit {0}
IsValidLine (line.Advance steps) = IsValidSteps steps
IsValidLine line.StopBackup = Unit {0}
IsValidLine line.ListBackups = Unit {0}
IsValidLine line.LatestBackup = Unit {0}
IsValidLine line.MachineDirectory = Unit {0}
IsValidLine (line.AddExclusion path) = IsValidPath path
IsValidLine (line.AddFixedExclusion path) = IsValidPath path
IsValidLine (line.RemoveExclusion path) = IsValidPath path
IsValidLine (line.RemoveFixedExclusion path) = IsValidPath path
IsValidLine (line.IsExcluded path) = IsValidPath path
IsValidLine (line.UniqueSize place) = IsValidStored place
IsValidLine (line.Delete snapshot) = IsValidSnapshot snapshot
IsValidLine (line.Restore item to) = IsValidItem item × IsValidPath to
IsValidLine line.Thin = Unit {0}
IsValidLine (line.FsEventsSince n) = IsValidNumber n
IsValidLine line.FsEventsUuid = Unit {0}
IsValidLine line.FsEventsDrop = Unit {0}
IsValidLine line.FsEventsLose = Unit {0}
IsValidLine (line.StoreLs place) = IsValidStorePath place
IsValidLine (line.StoreCat item) = IsValidItem item
IsValidLine (line.StoreStat item) = IsValidItem item
IsValidLine line.StoreDf = Unit {0}
