use Rattle.std.proofs.Common.{◌≡◌, ◌++◌, map}
use Rattle.std.specs.Option.{unwrap_or}
use Rattle.std.specs.Map.Iter.{deref_pair}
use Rattle.tm_records.specs.Records.{Records}
use Rattle.tm_table.specs.Text.{table_text}
use Rattle.tm_table.proofs.Writing.{without_keys}
use Rattle.tm_runs.specs.Marks.{end, below}
use Rattle.tm_runs.proofs.encode.spell.Given as goal

abbrev pub invariant-loop-key : goal.invariant-loop-key
invariant-loop-key l = record {
  text : l.text.items ≡ table_text (without_keys l.left_out (map deref_pair l.yielded));
  passed : (more : Records) → below (unwrap_or l.high end).key (without_keys l.left_out (map deref_pair l.yielded) ++ more) ≡ without_keys l.left_out (map deref_pair l.yielded) ++ below (unwrap_or l.high end).key more;
}
