-- The lines of a script.
use Rattle.std.specs.Prelude.{◌≡◌, ℕ, List, ◌++◌, ◌⊎◌, codes}
use Rattle.tm_text.specs.Words.{IsNameWord, IsText, IsValue, IsNumber, IsEvents, IsSteps, IsMode, IsDate, IsId, IsPath, IsTarget, IsOwner, IsStorePath, IsStored, IsSnapshot, IsItem}
use Rattle.tm_text.specs.Shapes.{OneWord, TwoWords, ThreeWords, Makes, NoWord, ThisWord, OptionAnd, MayBeLeftOut, TwoAnd}
use Rattle.tm_text.specs.Verbs.{keywords}
use Rattle.tm_text.specs.declared.verb.Verb.{Verb}
use Rattle.tm_text.specs.declared.verb.Verb.TheVariants as verb
use Rattle.tm_text.specs.declared.line.Line.{Line}
use Rattle.tm_text.specs.declared.line.Line.TheVariants as line
use Rattle.tm_text.specs.declared.session.SessionVerb.{SessionVerb}
use Rattle.tm_text.specs.declared.session.SessionVerb.TheVariants as session
use Rattle.tm_text.specs.declared.item.ItemVerb.{ItemVerb}
use Rattle.tm_text.specs.declared.item.ItemVerb.TheVariants as item
use Rattle.tm_text.specs.declared.tmutil.TmutilVerb.{TmutilVerb}
use Rattle.tm_text.specs.declared.tmutil.TmutilVerb.TheVariants as tmutil
use Rattle.tm_text.specs.declared.fsevents.FsEventsVerb.{FsEventsVerb}
use Rattle.tm_text.specs.declared.fsevents.FsEventsVerb.TheVariants as fsevents
use Rattle.tm_text.specs.declared.store.StoreVerb.{StoreVerb}
use Rattle.tm_text.specs.declared.store.StoreVerb.TheVariants as store

abbrev pub SessionArguments : SessionVerb → List (List ℕ) → Line → Type 0
SessionArguments session.At = Makes (OneWord IsDate) line.At
SessionArguments session.NewVolume = Makes (ThreeWords IsNameWord IsId IsEvents) (λ x. line.NewVolume x.0 x.1 x.2)
SessionArguments session.NewStore = Makes (OneWord IsNameWord) line.NewStore
SessionArguments session.Advance = Makes (OneWord IsSteps) line.Advance
SessionArguments session.Gen = Makes (TwoWords IsNumber IsNumber) (λ x. line.Gen x.0 x.1)
SessionArguments session.Thin = NoWord line.Thin

abbrev pub ItemArguments : ItemVerb → List (List ℕ) → Line → Type 0
ItemArguments item.Mkdir = Makes (OneWord IsPath) line.Mkdir
ItemArguments item.Write = Makes (TwoWords IsPath IsText) (λ x. line.Write x.0 x.1)
ItemArguments item.Append = Makes (TwoWords IsPath IsText) (λ x. line.Append x.0 x.1)
ItemArguments item.Fill = Makes (ThreeWords IsPath IsNumber IsNumber) (λ x. line.Fill x.0 x.1 x.2)
ItemArguments item.Rm = Makes (OneWord IsPath) line.Rm
ItemArguments item.Rmdir = Makes (OneWord IsPath) line.Rmdir
ItemArguments item.Mv = Makes (TwoWords IsPath IsPath) (λ x. line.Mv x.0 x.1)
ItemArguments item.Ln = Makes (TwoWords IsPath IsTarget) (λ x. line.Ln x.0 x.1)
ItemArguments item.Chmod = Makes (TwoWords IsPath IsMode) (λ x. line.Chmod x.0 x.1)
ItemArguments item.Chown = Makes (ThreeWords IsPath IsOwner IsOwner) (λ x. line.Chown x.0 x.1 x.2)
ItemArguments item.Setx = Makes (TwoAnd IsPath IsNameWord (MayBeLeftOut IsValue)) (λ x. line.Setx x.0 x.1 x.2)
ItemArguments item.Rmx = Makes (TwoWords IsPath IsNameWord) (λ x. line.Rmx x.0 x.1)
ItemArguments item.Ls = Makes (OneWord IsPath) line.Ls
ItemArguments item.Cat = Makes (OneWord IsPath) line.Cat

abbrev pub TmutilArguments : TmutilVerb → List (List ℕ) → Line → Type 0
TmutilArguments tmutil.StartBackup = λ ws l. NoWord line.StartBackup ws l ⊎ ThisWord (codes "--block") line.StartBackupBlock ws l
TmutilArguments tmutil.StopBackup = NoWord line.StopBackup
TmutilArguments tmutil.ListBackups = NoWord line.ListBackups
TmutilArguments tmutil.LatestBackup = NoWord line.LatestBackup
TmutilArguments tmutil.MachineDirectory = NoWord line.MachineDirectory
TmutilArguments tmutil.AddExclusion = λ ws l.
    Makes (OneWord IsPath) line.AddExclusion ws l
    ⊎ Makes (OptionAnd (codes "-p") IsPath) line.AddFixedExclusion ws l
TmutilArguments tmutil.RemoveExclusion = λ ws l.
    Makes (OneWord IsPath) line.RemoveExclusion ws l
    ⊎ Makes (OptionAnd (codes "-p") IsPath) line.RemoveFixedExclusion ws l
TmutilArguments tmutil.IsExcluded = Makes (OneWord IsPath) line.IsExcluded
TmutilArguments tmutil.UniqueSize = Makes (OneWord IsStored) line.UniqueSize
TmutilArguments tmutil.Delete = Makes (OneWord IsSnapshot) line.Delete
TmutilArguments tmutil.Restore = Makes (TwoWords IsItem IsPath) (λ x. line.Restore x.0 x.1)

abbrev pub FsEventsArguments : FsEventsVerb → List (List ℕ) → Line → Type 0
FsEventsArguments fsevents.Since = Makes (OneWord IsNumber) line.FsEventsSince
FsEventsArguments fsevents.Uuid = NoWord line.FsEventsUuid
FsEventsArguments fsevents.Drop = NoWord line.FsEventsDrop
FsEventsArguments fsevents.Lose = NoWord line.FsEventsLose

abbrev pub StoreArguments : StoreVerb → List (List ℕ) → Line → Type 0
StoreArguments store.Ls = Makes (OneWord IsStorePath) line.StoreLs
StoreArguments store.Cat = Makes (OneWord IsItem) line.StoreCat
StoreArguments store.Stat = Makes (OneWord IsItem) line.StoreStat
StoreArguments store.Df = NoWord line.StoreDf

-- the words after a verb's keywords spell the line
abbrev pub Arguments : Verb → List (List ℕ) → Line → Type 0
Arguments (verb.Session v) = SessionArguments v
Arguments (verb.Item v) = ItemArguments v
Arguments (verb.Tmutil v) = TmutilArguments v
Arguments (verb.FsEvents v) = FsEventsArguments v
Arguments (verb.Store v) = StoreArguments v

-- the words are a verb's keywords, and then what spells the line
unfoldable pub IsLine : List (List ℕ) → Line → Type 0
IsLine words line =
    (v : Verb) × (rest : List (List ℕ)) × (words ≡ keywords v ++ rest) × Arguments v rest line
