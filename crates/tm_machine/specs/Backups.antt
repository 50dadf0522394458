-- A backup from its start to its end, on the store's side.
use Rattle.std.specs.Prelude.{◌≡◌, ◌<◌, ◌≤◌, ◌+◌, ◌-◌, slice_get, ℕ, Option, Some, None, Result, Ok, Err, List, [], ◌∷◌, ◌++◌, length, take}
use Rattle.tm_base.specs.declared.refused.LineFault.{LineFault}
use Rattle.tm_base.specs.declared.refused.LineFault.TheVariants.{Refused as RefusedFor, Fault, Memory}
use Rattle.tm_base.specs.declared.refused.Refused.{Refused}
use Rattle.tm_base.specs.declared.refused.Refused.TheVariants.{DateNotLater}
use Rattle.tm_reply.specs.declared.row.ReplyRow.{ReplyRow}
use Rattle.tm_tree.specs.Refusing.{first_refused}
use Rattle.tm_fit.specs.Fit.{Fits}
use Rattle.tm_tree.specs.Copies.{LabelledTree, copy}
use Rattle.tm_tree.specs.Views.{view}
use Rattle.tm_tree.specs.States.{VolumeState, StoreState, backed_up, base}
use Rattle.tm_volume.specs.Stored.{StoredVolume}
use Rattle.tm_store_records.specs.declared.snapshot.Snapshot.{Snapshot}
use Rattle.tm_store_records.specs.States.{StoredStore, StoreReads, LeavesStore}
use Rattle.tm_world.specs.Disk.{Disk, Image, IsLeft}
use Rattle.tm_world.specs.Log.{Log}
use Rattle.tm_world.specs.Runs.{Runs}
use Rattle.tm_world.specs.declared.world.Side.TheVariants.{Store as StoreSide}
use Rattle.tm_machine.specs.Commits.{last_from}
use Rattle.tm_machine.specs.Steps.{at_rest, backup_tests, finished_rows, unless_refused, walk_by}

-- the store while a backup of this date runs
abbrev pub dated : StoreState → ℕ → StoredStore
dated store date = record { store = store; running = Some date }

-- a store with a snapshot more, of which all but the tree is as defined
abbrev pub backed_with : LabelledTree → StoreState → VolumeState → ℕ → StoreState
backed_with tree store v date = record {
  machine = store.machine;
  number = store.number + 1;
  snapshots = store.snapshots ++ record { date = date; volume = v.name; id = v.id; generation = v.generation; cursor = v.contents.next - 1; tree = tree } ∷ [];
}

-- the labelled copy of the view
abbrev pub copy_of : StoreState → VolumeState → LabelledTree
copy_of store v = copy store.number (base store v.id) (view v.contents.fixed v.contents.tree)

-- what a backup makes of a store when it finishes: a snapshot more, whose tree is the labelled copy where the pair fits
pub record MayFinishAs (store : StoreState) (v : VolumeState) (date : ℕ) (new : StoreState) : Type 0 where
  pub tree : LabelledTree
  pub is : new ≡ backed_with tree store v date
  pub exact : Fits (Some v) (Some store) → new ≡ backed_up store v date

-- why a backup that has started doesn't finish, if it doesn't; if it did, the store would be `new`
abbrev pub walk_refusal : StoreState → ℕ → StoreState → VolumeState → Option Refused
walk_refusal new blocks store v = first_refused (walk_by new blocks store v)

-- the store when it has ended: with a snapshot more, or as it was
abbrev pub ends_as : StoreState → ℕ → StoreState → VolumeState → StoredStore
ends_as new blocks store v = unless_refused (walk_refusal new blocks store v) (at_rest store) (at_rest new)

-- the store when the copy has ended: with a snapshot more, or still with its date
abbrev pub finishes_as : StoreState → ℕ → StoreState → VolumeState → ℕ → StoredStore
finishes_as new blocks store v date = unless_refused (walk_refusal new blocks store v) (dated store date) (at_rest new)

-- a stop leaves the first, or one of those that follow
pub record IsOneOfStores (first : StoredStore) (later : List StoredStore) (image : Image) : Type 0 where
  pub made : ℕ
  pub few : made ≤ length later
  pub reads : StoreReads image (last_from first (take made later))

abbrev pub LeavesOneOfStores : StoredStore → List StoredStore → Disk → Type 0
LeavesOneOfStores first later disk = (image : Image) → IsLeft disk image → IsOneOfStores first later image

-- what a backup that has started answers, and the store then
abbrev pub AnswersBackup : StoreState → ℕ → StoreState → StoredVolume → ℕ → StoredStore → Result (List ReplyRow) LineFault → Type 0
AnswersBackup finished blocks store v date new (Ok found) = (walk_refusal finished blocks store v.volume ≡ None) × (found ≡ finished_rows (Some date) v) × (new ≡ at_rest finished)
AnswersBackup finished blocks store v date new (Err (RefusedFor why)) = (walk_refusal finished blocks store v.volume ≡ Some why) × (new ≡ at_rest store)
AnswersBackup finished blocks store v date new (Err (Fault side)) = Unit {0}
AnswersBackup finished blocks store v date new (Err Memory) = Unit {0}

-- what its copy answers, and the store then
abbrev pub AnswersCopy : StoreState → ℕ → StoreState → StoredVolume → ℕ → StoredStore → Result (List ReplyRow) LineFault → Type 0
AnswersCopy finished blocks store v date new (Ok found) = (walk_refusal finished blocks store v.volume ≡ None) × (found ≡ finished_rows (Some date) v) × (new ≡ at_rest finished)
AnswersCopy finished blocks store v date new (Err (RefusedFor why)) = (walk_refusal finished blocks store v.volume ≡ Some why) × (new ≡ dated store date)
AnswersCopy finished blocks store v date new (Err (Fault side)) = Unit {0}
AnswersCopy finished blocks store v date new (Err Memory) = Unit {0}

-- a copy into a store in which a backup runs: what it would finish as, what a stop leaves at each moment, and its answer
pub record DoesCopy (blocks : ℕ) (store : StoreState) (v : StoredVolume) (date : ℕ) (after : StoredStore) (start end : Log) (result : Result (List ReplyRow) LineFault) : Type 0 where
  pub finished : StoreState
  pub may : MayFinishAs store v.volume date finished
  pub moments : Runs StoreSide (LeavesStore (dated store date) (finishes_as finished blocks store v.volume date)) start end
  pub answers : AnswersCopy finished blocks store v date after result

-- and a whole backup
pub record DoesBackup (blocks : ℕ) (z : StoredStore) (v : StoredVolume) (date : ℕ) (after : StoredStore) (start end : Log) (result : Result (List ReplyRow) LineFault) : Type 0 where
  pub finished : StoreState
  pub may : MayFinishAs z.store v.volume date finished
  pub moments : Runs StoreSide (LeavesOneOfStores z (dated z.store date ∷ ends_as finished blocks z.store v.volume ∷ [])) start end
  pub answers : AnswersBackup finished blocks z.store v date after result

-- whether a date is later than the last snapshot's
abbrev pub ComesLater : List Snapshot → ℕ → Result (Unit {0}) Refused → Type 0
ComesLater snapshots date (Ok u) = (s : Snapshot) → slice_get snapshots (length snapshots - 1) ≡ Some s → s.date < date
ComesLater snapshots date (Err why) = (s : Snapshot) × (slice_get snapshots (length snapshots - 1) ≡ Some s) × (date ≤ s.date) × (why ≡ DateNotLater s.date)

-- the date at which a backup starts, or why none may
abbrev pub Starts : StoreState → Option ℕ → Result ℕ Refused → Type 0
Starts store moment (Ok date) = (first_refused (backup_tests store moment) ≡ None) × (moment ≡ Some date)
Starts store moment (Err why) = first_refused (backup_tests store moment) ≡ Some why
