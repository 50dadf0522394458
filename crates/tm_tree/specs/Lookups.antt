-- Which snapshot a path in the store leads to.
use Rattle.std.specs.Prelude.{ℕ, ◌==◌, if◌then◌else◌, Option, Some, None, List, find}
use Rattle.tm_base.specs.Paths.{same_name}
use Rattle.tm_tree.specs.States.{Snapshot, StoreState, latest}

-- the snapshot with this date; the last one where no date is given
abbrev pub snapshot_by : StoreState → Option ℕ → Option Snapshot
snapshot_by store None = latest store
snapshot_by store (Some date) = find (λ s. s.date == date) store.snapshots

-- the same under a machine's name; none where that isn't the store's
abbrev pub snapshot_at : StoreState → List ℕ → Option ℕ → Option Snapshot
snapshot_at store machine at = if same_name machine store.machine then snapshot_by store at else None

abbrev pub under_volume : List ℕ → Option Snapshot → Option Snapshot
under_volume volume None = None
under_volume volume (Some s) = if same_name volume s.volume then Some s else None

-- the same, under a volume's name besides; none where that isn't the snapshot's
abbrev pub snapshot_under : StoreState → List ℕ → Option ℕ → List ℕ → Option Snapshot
snapshot_under store machine at volume = under_volume volume (snapshot_at store machine at)
