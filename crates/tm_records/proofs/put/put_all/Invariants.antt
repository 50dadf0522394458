use Rattle.std.proofs.Common.{◌≡◌, ◌+◌, ◌≤◌, ℕ, length, reverse, vec_len, vec_capacity}
use Rattle.std.specs.List.{sum_by}
use Rattle.std.specs.Option.{IsSome}
use Rattle.std.specs.Ordering.{nat_cmp}
use Rattle.std.specs.BTreeMap.{IsOrdered}
use Rattle.tm_records.specs.declared.log.Undo.{Undo}
use Rattle.tm_records.specs.declared.record.Put.{Put}
use Rattle.tm_records.specs.Records.{at, weigh}
use Rattle.tm_records.specs.Puts.{brought, with_puts}
use Rattle.tm_records.specs.Undo.{CanUndoAll, all_undone, let_go}
use Rattle.tm_records.proofs.put.put_all.Given as goal

abbrev pub invariant-loop-put : goal.invariant-loop-put
invariant-loop-put l = record {
  puts : l.records.entries ≡ with_puts l.yielded l.initial.records.entries;
  can : CanUndoAll (reverse l.log.items) l.records.entries;
  back : all_undone (reverse l.log.items) l.records.entries ≡ l.initial.records.entries;
  stays : (k : ℕ) → IsSome (at k l.initial.records.entries) → IsSome (at k l.records.entries);
  balance : (w : ℕ → ℕ) → weigh w l.records.entries + sum_by (λ (u : Undo). sum_by w (let_go u)) l.log.items ≡ weigh w l.initial.records.entries + sum_by (λ (p : Put). sum_by w (brought p.body)) l.yielded;
  ordered : IsOrdered nat_cmp l.initial.records → IsOrdered nat_cmp l.records;
  count : vec_len l.log ≡ length l.yielded;
  capacity : vec_capacity l.initial.log ≤ vec_capacity l.log;
}
