use Rattle.std.proofs.Common.{◌≡◌, ◌++◌, ℕ, Some, true, is_some}
use Rattle.tm_records.specs.Records.{at}
use Rattle.tm_store_records.specs.Heads.{heads_of}
use Rattle.tm_store_records.specs.Found.{machine_in, snapshots_in, nodes_in}
use Rattle.tm_store_records.proofs.NextKeyLemmas.{rest_of}
use Rattle.tm_store_records.proofs.Reading.{IsUnreadBefore, to_go}
use Rattle.tm_store_records.proofs.draft.read_draft.Given as goal

abbrev pub invariant-loop-next : goal.invariant-loop-next
invariant-loop-next l = record {
  machine : l.draft.machine ≡ machine_in (heads_of l.image.records);
  snapshots : l.draft.snapshots.items ++ snapshots_in (rest_of l.next (heads_of l.image.records)) ≡ snapshots_in (heads_of l.image.records);
  nodes : l.draft.nodes.items ++ nodes_in (rest_of l.next (heads_of l.image.records)) ≡ nodes_in (heads_of l.image.records);
  there : (k : ℕ) → l.next ≡ Some k → is_some (at k l.image.records) ≡ true;
  unread : IsUnreadBefore (heads_of l.image.records) l.next l.draft.unread;
}

abbrev pub decreases-loop-next : goal.decreases-loop-next
decreases-loop-next l = to_go l.next
