use Rattle.std.proofs.Common.{◌≡◌, map}
use Rattle.std.specs.Map.Iter.{deref_pair}
use Rattle.tm_table.specs.Text.{table_text}
use Rattle.tm_table.proofs.Writing.{without_keys}
use Rattle.tm_table.proofs.encoding.encode.Given as goal

abbrev pub invariant-loop-key : goal.invariant-loop-key
invariant-loop-key l = l.text.items ≡ table_text (without_keys l.left_out (map deref_pair l.yielded))
