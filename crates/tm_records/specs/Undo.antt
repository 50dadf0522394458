-- How changes of the records are taken back, the newest first.
use Rattle.std.specs.Prelude.{ℕ, List, [], ◌∷◌, IsSome, Option, Some, None}
use Rattle.std.specs.Ordering.{nat_cmp}
use Rattle.std.specs.BTreeMap.{insert_entry, is_at}
use Rattle.std.specs.Map.{remove_entry}
use Rattle.tm_records.specs.declared.record.Record.{Record}
use Rattle.tm_records.specs.declared.log.Undo.{Undo}
use Rattle.tm_records.specs.declared.log.Undo.TheVariants.{Absent, Replaced, Meta}
use Rattle.tm_records.specs.Records.{Records, at}

-- the records with another meta at a key where this record stands
abbrev pub with_meta : ℕ → List ℕ → Option Record → Records → Records
with_meta k meta None records = records
with_meta k meta (Some old) records = insert_entry nat_cmp records k (record { meta = meta; length = old.length; blocks = old.blocks })

-- one change taken back
abbrev pub undone : Undo → Records → Records
undone (Absent k) records = remove_entry (is_at (nat_cmp k)) records
undone (Replaced k old) records = insert_entry nat_cmp records k old
undone (Meta k meta) records = with_meta k meta (at k records) records

-- without memory it can be taken back only in place of a record
abbrev pub CanUndo : Undo → Records → Type 0
CanUndo (Absent k) records = Unit {0}
CanUndo (Replaced k old) records = IsSome (at k records)
CanUndo (Meta k meta) records = IsSome (at k records)

-- all taken back, the first of them first
abbrev pub all_undone : List Undo → Records → Records
all_undone [] records = records
all_undone (u ∷ us) records = all_undone us (undone u records)

abbrev pub CanUndoAll : List Undo → Records → Type 0
CanUndoAll [] records = Unit {0}
CanUndoAll (u ∷ us) records = CanUndo u records × CanUndoAll us (undone u records)

-- the blocks that a change let go
abbrev pub let_go : Undo → List ℕ
let_go (Absent k) = []
let_go (Replaced k old) = old.blocks
let_go (Meta k meta) = []
