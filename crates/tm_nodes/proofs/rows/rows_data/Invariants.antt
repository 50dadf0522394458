use Rattle.std.proofs.Common.{◌≡◌, take}
use Rattle.std.specs.List.{flat_map}
use Rattle.tm_nodes.specs.Rows.{row_text}
use Rattle.tm_nodes.proofs.rows.rows_data.Given as goal

abbrev pub invariant-loop-row : goal.invariant-loop-row
invariant-loop-row l = l.out.items ≡ flat_map row_text (take l.row-index l.row-items)
