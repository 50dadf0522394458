use Rattle.std.proofs.Common.{◌≡◌, ◌+◌, ◌-◌, ◌≤◌, ℕ, length, take, vec_len, vec_capacity}
use Rattle.std.specs.List.{sum_by}
use Rattle.std.specs.Ordering.{nat_cmp}
use Rattle.std.specs.BTreeMap.{IsOrdered}
use Rattle.tm_records.specs.declared.log.Undo.{Undo}
use Rattle.tm_records.specs.Records.{weigh}
use Rattle.tm_records.specs.Removes.{without}
use Rattle.tm_records.specs.Undo.{let_go}
use Rattle.tm_records.proofs.remove.remove_all.Given as goal

abbrev pub invariant-loop-key : goal.invariant-loop-key
invariant-loop-key l = record {
  records : l.records.entries ≡ without (take l.key-index l.keys) l.initial.records.entries;
  balance : (w : ℕ → ℕ) → weigh w l.records.entries + sum_by (λ (u : Undo). sum_by w (let_go u)) l.log.items ≡ weigh w l.initial.records.entries + sum_by (λ (u : Undo). sum_by w (let_go u)) l.initial.log.items;
  ordered : IsOrdered nat_cmp l.initial.records → IsOrdered nat_cmp l.records;
  room : vec_len l.log + (length l.keys - l.key-index) ≤ vec_capacity l.log;
}
