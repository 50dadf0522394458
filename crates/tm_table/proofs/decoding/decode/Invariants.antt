use Rattle.std.proofs.Common.{◌≡◌, ◌≤◌, ◌-◌, ◌++◌, length, drop, None}
use Rattle.tm_table.specs.Text.{table_text}
use Rattle.tm_table.specs.Good.{AreRecords, last_key}
use Rattle.tm_table.proofs.decoding.decode.Given as goal

abbrev pub invariant-loop-at : goal.invariant-loop-at
invariant-loop-at l = record {
  are : AreRecords l.total None l.records.entries;
  before : l.before ≡ last_key None l.records.entries;
  text : l.text ≡ table_text l.records.entries ++ drop l.at l.text;
  reaches : l.at ≡ length (table_text l.records.entries);
  within : l.at ≤ length l.text;
}

abbrev pub decreases-loop-at : goal.decreases-loop-at
decreases-loop-at l = length l.text - l.at
