-- The step of the plain machine: when each line is refused, what it answers, and what it does.
use Rattle.std.specs.Prelude.{ℕ, ◌+◌, ◌-◌, ◌^◌, sum, Bool, true, false, not, nat_lt, nat_le, ◌==◌, Option, Some, None, is_some, is_none, unwrap_or, List, [], ◌∷◌, ◌++◌, length}
use Rattle.std.specs.List.{list_any}
use Rattle.std.specs.Option.{option_map, option_map_or}
use Rattle.tm_base.specs.Paths.{Names, same_name}
use Rattle.tm_base.specs.declared.refused.Refused.{Refused}
use Rattle.tm_base.specs.declared.refused.Refused.TheVariants.{NoVolume, NoStore, Already, Small, IsFolder, Full, DateNotLater, ClockBack, NoSnapshot, IdsSpent, IdTaken, NotBuilt}
use Rattle.tm_base.specs.Limits.{min_blocks, max_snapshots, max_nodes}
use Rattle.tm_reply.specs.declared.reply.Reply.{Reply}
use Rattle.tm_reply.specs.declared.row.ReplyRow.{ReplyRow}
use Rattle.tm_reply.specs.declared.row.ReplyRow.TheVariants as row
use Rattle.tm_text.specs.declared.line.Line.{Line}
use Rattle.tm_text.specs.declared.line.Line.TheVariants as line
use Rattle.tm_text.specs.declared.place.StorePath.{StorePath}
use Rattle.tm_text.specs.declared.place.StorePath.TheVariants as place
use Rattle.tm_tree.specs.declared.change.Change.{Change}
use Rattle.tm_tree.specs.Changes.{item_tests}
use Rattle.tm_tree.specs.Copies.{bare}
use Rattle.tm_tree.specs.Refusing.{Tests, first_refused, too_many, needs_moment}
use Rattle.tm_tree.specs.States.{VolumeState, StoreState, Snapshot, new_store, latest, base, backed_up}
use Rattle.tm_tree.specs.Trees.{Tree}
use Rattle.tm_tree.specs.Views.{view}
use Rattle.tm_tree.specs.Walks.{way, is_at_folder}
use Rattle.tm_changes.specs.Changes as volume
use Rattle.tm_volume.specs.Stored.{StoredVolume, new_stored}
use Rattle.tm_image.specs.Room.{need_of}
use Rattle.tm_store_records.specs.Sizes.{table_blocks, free_blocks, node_count}
use Rattle.tm_store_records.specs.States.{StoredStore}
use Rattle.tm_backup.specs.Walk.{staging}
use Rattle.tm_machine.specs.States.{State, store_in}
use Rattle.tm_machine.specs.Queries.{list_rows, content_rows, snapshot_paths, latest_path, store_rows, named_snapshot, holding_snapshot, stored_tree, stat_rows, df_rows, walked}
use Rattle.tm_machine.specs.Changing.{change_of}

-- ---- when a line is refused: its tests by rising number of the refusal

abbrev pub on_volume : Option StoredVolume → (StoredVolume → Tests) → Tests
on_volume None tests = (true, NoVolume) ∷ []
on_volume (Some v) tests = tests v

abbrev pub on_store : Option StoreState → (StoreState → Tests) → Tests
on_store None tests = (true, NoStore) ∷ []
on_store (Some store) tests = tests store

-- a line that no machine builds yet
abbrev pub not_built : Tests
not_built = (true, NotBuilt) ∷ []

-- the new moment is earlier than the one that is set
abbrev pub clock_tests : Option ℕ → ℕ → Tests
clock_tests None date = []
clock_tests (Some moment) date = (nat_lt date moment, ClockBack moment) ∷ []

-- a snapshot of the store has this volume id
abbrev pub is_taken : Option StoreState → ℕ → Bool
is_taken None id = false
is_taken (Some store) id = list_any (λ s. s.id == id) store.snapshots

abbrev pub new_volume_tests : State → ℕ → Tests
new_volume_tests s id =
    (is_some s.volume, Already)
    ∷ (nat_lt s.volume_blocks min_blocks, Small)
    ∷ needs_moment s.moment ++ (is_taken (store_in s.store) id, IdTaken) ∷ []

abbrev pub new_store_tests : State → Tests
new_store_tests s = (is_some s.store, Already) ∷ (nat_lt s.store_blocks min_blocks, Small) ∷ []

-- a file or link is needed at p
abbrev pub content_tests : Tree → Names → Tests
content_tests t p = item_tests t p ++ (is_at_folder (way t p), IsFolder) ∷ []

-- the moment is not later than the last snapshot's date
abbrev pub date_tests : Option Snapshot → Option ℕ → Tests
date_tests (Some s) (Some moment) = (nat_le moment s.date, DateNotLater s.date) ∷ []
date_tests _ _ = []

abbrev pub backup_tests : StoreState → Option ℕ → Tests
backup_tests store moment =
    too_many max_snapshots (length store.snapshots + 1)
    ++ date_tests (latest store) moment
    ++ needs_moment moment
    ++ (nat_le (2 ^ 40) store.number, IdsSpent) ∷ []

-- a backup that would not start
abbrev pub start_tests : State → Tests
start_tests s = on_volume s.volume (λ _. on_store (store_in s.store) (λ store. backup_tests store s.moment))

-- files of so many blocks are staged one after the other, where the table takes t blocks
abbrev pub staging_tests : ℕ → ℕ → List ℕ → Tests
staging_tests t free [] = []
staging_tests t free (blocks ∷ others) = (nat_lt free (blocks + t), Full (blocks + t) free) ∷ staging_tests t (free - blocks) others

-- the commit that makes `new` of a store when so many blocks are staged
abbrev pub finish_tests : ℕ → StoreState → StoreState → ℕ → Tests
finish_tests blocks store new staged =
    let need = need_of (table_blocks store) (table_blocks new) 0 in let free = free_blocks blocks store - staged in
    (nat_lt free need, Full need free) ∷ []

-- what only the walk finds out: a file that doesn't fit, then too many nodes, then a snapshot that doesn't fit
-- where the store will be `new`
abbrev pub walk_by : StoreState → ℕ → StoreState → VolumeState → Tests
walk_by new blocks store v =
    let staged = staging (base store v.id) (view v.contents.fixed v.contents.tree) in
    staging_tests (table_blocks store) (free_blocks blocks store) staged
    ++ too_many max_nodes (node_count new)
    ++ finish_tests blocks store new (sum staged)

abbrev pub walk_tests : ℕ → StoreState → VolumeState → ℕ → Tests
walk_tests blocks store v date = walk_by (backed_up store v date) blocks store v

abbrev pub walks_tests : ℕ → Option StoredVolume → Option StoreState → Option ℕ → Tests
walks_tests blocks (Some v) (Some store) (Some date) = walk_tests blocks store v.volume date
walks_tests blocks _ _ _ = []

-- a backup that runs to its end at once
abbrev pub whole_tests : State → Tests
whole_tests s = start_tests s ++ walks_tests s.store_blocks s.volume (store_in s.store) s.moment

-- a store path names no snapshot
abbrev pub snapshot_tests : Option Snapshot → Tests
snapshot_tests found = (is_none found, NoSnapshot) ∷ []

-- the walk to a stored item, where its snapshot is found
abbrev pub stored_tests : (Tree → Names → Tests) → Option Snapshot → Names → Tests
stored_tests tests None p = snapshot_tests None
stored_tests tests (Some s) p = tests (bare s.tree) p

abbrev pub place_tests : StoreState → StorePath → Tests
place_tests store place.Top = []
place_tests store (place.Machine machine) = (not (same_name machine store.machine), NoSnapshot) ∷ []
place_tests store (place.Snapshot at) = snapshot_tests (named_snapshot store at)
place_tests store (place.Item item) = stored_tests item_tests (holding_snapshot store item) item.path

-- the lines that change no contents of a volume
abbrev pub changeless_tests : State → Line → Tests
changeless_tests s (line.At date) = clock_tests s.moment date
changeless_tests s (line.NewVolume name id events) = new_volume_tests s id
changeless_tests s (line.NewStore machine) = new_store_tests s
changeless_tests s (line.Ls p) = on_volume s.volume (λ v. item_tests v.volume.contents.tree p)
changeless_tests s (line.Cat p) = on_volume s.volume (λ v. content_tests v.volume.contents.tree p)
changeless_tests s line.StartBackupBlock = whole_tests s
changeless_tests s line.ListBackups = on_store (store_in s.store) (λ store. [])
changeless_tests s line.LatestBackup = on_store (store_in s.store) (λ store. snapshot_tests (latest store))
changeless_tests s line.MachineDirectory = on_store (store_in s.store) (λ store. [])
changeless_tests s (line.StoreLs at) = on_store (store_in s.store) (λ store. place_tests store at)
changeless_tests s (line.StoreCat item) = on_store (store_in s.store) (λ store. stored_tests content_tests (holding_snapshot store item) item.path)
changeless_tests s (line.StoreStat item) = on_store (store_in s.store) (λ store. stored_tests item_tests (holding_snapshot store item) item.path)
changeless_tests s line.StoreDf = on_store (store_in s.store) (λ store. [])
changeless_tests s _ = not_built

-- a line that changes the contents of the volume
abbrev pub change_tests : State → Change → Tests
change_tests s c = on_volume s.volume (λ v. volume.change_tests s.volume_blocks v c s.moment)

abbrev pub tests_by : State → Line → Option Change → Tests
tests_by s l (Some c) = change_tests s c
tests_by s l None = changeless_tests s l

-- a change of the volume's contents is refused as the change is
abbrev pub tests : State → Line → Tests
tests s l = tests_by s l (change_of l)

-- why a line is refused, if it is
abbrev pub refusal : State → Line → Option Refused
refusal s l = first_refused (tests s l)

-- ---- what a line answers that is not refused: its data lines

abbrev pub finished_rows : Option ℕ → StoredVolume → List ReplyRow
finished_rows moment v = row.Finished (unwrap_or moment 0) (walked v.volume) ∷ []

abbrev pub rows : State → Line → List ReplyRow
rows s (line.Ls p) = option_map_or (λ v. list_rows v.volume.contents.tree p) s.volume []
rows s (line.Cat p) = option_map_or (λ v. content_rows v.volume.contents.tree p) s.volume []
rows s line.StartBackupBlock = option_map_or (finished_rows s.moment) s.volume []
rows s line.ListBackups = option_map_or snapshot_paths (store_in s.store) []
rows s line.LatestBackup = option_map_or latest_path (store_in s.store) []
rows s line.MachineDirectory = option_map_or (λ store. row.MachineDirectory store.machine ∷ []) (store_in s.store) []
rows s (line.StoreLs at) = option_map_or (λ store. store_rows store at) (store_in s.store) []
rows s (line.StoreCat item) = option_map_or (λ store. content_rows (stored_tree (holding_snapshot store item)) item.path) (store_in s.store) []
rows s (line.StoreStat item) = option_map_or (λ store. stat_rows store item) (store_in s.store) []
rows s line.StoreDf = option_map_or (df_rows s.store_blocks) (store_in s.store) []
rows s _ = []

-- ---- what a line does that is not refused

-- a store, and no date
abbrev pub at_rest : StoreState → StoredStore
at_rest store = record { store = store; running = None }

-- the store while a backup of this date runs
abbrev pub begun : Option ℕ → StoredStore → StoredStore
begun date z = record { store = z.store; running = date }

-- a backup that starts now and finishes at once
abbrev pub backed : Option StoredVolume → Option StoredStore → Option ℕ → Option StoredStore
backed (Some v) (Some z) (Some date) = Some (at_rest (backed_up z.store v.volume date))
backed _ z _ = z

abbrev pub changeless_after : State → Line → State
changeless_after s (line.At date) = record s { moment = Some date }
changeless_after s (line.NewVolume name id events) = record s { volume = Some (new_stored name id events (unwrap_or s.moment 0)) }
changeless_after s (line.NewStore machine) = record s { store = Some (at_rest (new_store machine)) }
changeless_after s line.StartBackupBlock = record s { store = backed s.volume s.store s.moment }
changeless_after s _ = s

abbrev pub changed : State → Change → State
changed s c = record s { volume = option_map (λ v. volume.changed v c s.moment) s.volume }

abbrev pub after_by : State → Line → Option Change → State
after_by s l (Some c) = changed s c
after_by s l None = changeless_after s l

abbrev pub after : State → Line → State
after s l = after_by s l (change_of l)

-- ---- the state after a refused line

-- a backup that had started, and no date
abbrev pub ended : Option Refused → State → State
ended None s = record s { store = option_map (λ z. at_rest z.store) s.store }
ended (Some why) s = s

-- a refused line changes nothing, but that a backup which had started has ended
abbrev pub changeless_after_refused : State → Line → State
changeless_after_refused s line.StartBackupBlock = ended (first_refused (start_tests s)) s
changeless_after_refused s _ = s

abbrev pub after_refused_by : State → Line → Option Change → State
after_refused_by s l (Some c) = s
after_refused_by s l None = changeless_after_refused s l

abbrev pub after_refused : State → Line → State
after_refused s l = after_refused_by s l (change_of l)

-- ---- the step

abbrev pub answer : Option Refused → List ReplyRow → Reply
answer None data_lines = record { rows = data_lines; refused = None }
answer (Some why) data_lines = record { rows = []; refused = Some why }

-- the reply to a line
abbrev pub reply : State → Line → Reply
reply s l = answer (refusal s l) (rows s l)

-- what a line makes of a thing, or where it is refused what it leaves
abbrev pub unless_refused : {A : Type 0} → Option Refused → A → A → A
unless_refused None refused made = made
unless_refused (Some why) refused made = refused

-- the state after a line
abbrev pub step : State → Line → State
step s l = unless_refused (refusal s l) (after_refused s l) (after s l)
