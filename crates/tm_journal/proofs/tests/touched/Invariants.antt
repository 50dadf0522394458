use Rattle.std.proofs.Common.{◌≡◌, ◌+◌, ◌<◌, ◌≤◌, All, length}
use Rattle.tm_journal.proofs.tests.touched.Given as goal

abbrev pub invariant-loop-id : goal.invariant-loop-id
invariant-loop-id l =
    All (λ row. row.id < l.next) l.journal.rows × (length l.touches ≤ l.journal.room + l.id-index) × (l.journal.generation ≡ 1) × (l.journal.capacity ≡ l.capacity)
