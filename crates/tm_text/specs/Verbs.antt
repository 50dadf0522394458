-- The keywords of the lines.
use Rattle.std.specs.Prelude.{ℕ, List, [], ◌∷◌, codes}
use Rattle.tm_text.specs.declared.verb.Verb.{Verb}
use Rattle.tm_text.specs.declared.verb.Verb.TheVariants as verb
use Rattle.tm_text.specs.declared.session.SessionVerb.{SessionVerb}
use Rattle.tm_text.specs.declared.session.SessionVerb.TheVariants as session
use Rattle.tm_text.specs.declared.item.ItemVerb.{ItemVerb}
use Rattle.tm_text.specs.declared.item.ItemVerb.TheVariants as item
use Rattle.tm_text.specs.declared.tmutil.TmutilVerb.{TmutilVerb}
use Rattle.tm_text.specs.declared.tmutil.TmutilVerb.TheVariants as tmutil
use Rattle.tm_text.specs.declared.fsevents.FsEventsVerb.{FsEventsVerb}
use Rattle.tm_text.specs.declared.fsevents.FsEventsVerb.TheVariants as fsevents
use Rattle.tm_text.specs.declared.store.StoreVerb.{StoreVerb}
use Rattle.tm_text.specs.declared.store.StoreVerb.TheVariants as store

abbrev pub session_word : SessionVerb → List ℕ
session_word session.At = codes "at"
session_word session.NewVolume = codes "newvolume"
session_word session.NewStore = codes "newstore"
session_word session.Advance = codes "advance"
session_word session.Gen = codes "gen"
session_word session.Thin = codes "thin"

abbrev pub item_word : ItemVerb → List ℕ
item_word item.Mkdir = codes "mkdir"
item_word item.Write = codes "write"
item_word item.Append = codes "append"
item_word item.Fill = codes "fill"
item_word item.Rm = codes "rm"
item_word item.Rmdir = codes "rmdir"
item_word item.Mv = codes "mv"
item_word item.Ln = codes "ln"
item_word item.Chmod = codes "chmod"
item_word item.Chown = codes "chown"
item_word item.Setx = codes "setx"
item_word item.Rmx = codes "rmx"
item_word item.Ls = codes "ls"
item_word item.Cat = codes "cat"

abbrev pub tmutil_word : TmutilVerb → List ℕ
tmutil_word tmutil.StartBackup = codes "startbackup"
tmutil_word tmutil.StopBackup = codes "stopbackup"
tmutil_word tmutil.ListBackups = codes "listbackups"
tmutil_word tmutil.LatestBackup = codes "latestbackup"
tmutil_word tmutil.MachineDirectory = codes "machinedirectory"
tmutil_word tmutil.AddExclusion = codes "addexclusion"
tmutil_word tmutil.RemoveExclusion = codes "removeexclusion"
tmutil_word tmutil.IsExcluded = codes "isexcluded"
tmutil_word tmutil.UniqueSize = codes "uniquesize"
tmutil_word tmutil.Delete = codes "delete"
tmutil_word tmutil.Restore = codes "restore"

abbrev pub fsevents_word : FsEventsVerb → List ℕ
fsevents_word fsevents.Since = codes "since"
fsevents_word fsevents.Uuid = codes "uuid"
fsevents_word fsevents.Drop = codes "drop"
fsevents_word fsevents.Lose = codes "lose"

abbrev pub store_word : StoreVerb → List ℕ
store_word store.Ls = codes "ls"
store_word store.Cat = codes "cat"
store_word store.Stat = codes "stat"
store_word store.Df = codes "df"

-- the words that a line begins with
abbrev pub keywords : Verb → List (List ℕ)
keywords (verb.Session v) = session_word v ∷ []
keywords (verb.Item v) = item_word v ∷ []
keywords (verb.Tmutil v) = codes "tmutil" ∷ tmutil_word v ∷ []
keywords (verb.FsEvents v) = codes "fsevents" ∷ fsevents_word v ∷ []
keywords (verb.Store v) = codes "store" ∷ store_word v ∷ []
