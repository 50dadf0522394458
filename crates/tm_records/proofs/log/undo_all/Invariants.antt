use Rattle.std.proofs.Common.{◌≡◌, vec_len, reverse}
use Rattle.tm_records.specs.Undo.{CanUndoAll, all_undone}
use Rattle.tm_records.proofs.log.undo_all.Given as goal

abbrev pub invariant-loop-undo : goal.invariant-loop-undo
invariant-loop-undo l = record {
  can : CanUndoAll (reverse l.log.items) l.records.entries;
  same : all_undone (reverse l.log.items) l.records.entries ≡ all_undone (reverse l.initial.log.items) l.initial.records.entries;
}

abbrev pub decreases-loop-undo : goal.decreases-loop-undo
decreases-loop-undo l = vec_len l.log
