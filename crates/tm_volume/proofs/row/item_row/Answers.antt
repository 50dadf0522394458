use Rattle.std.proofs.Common.{ℕ, List, [], ◌∙◌}
use Rattle.tm_volume.proofs.Rows.{number_low, row_told}
use Rattle.tm_volume.proofs.row.item_row.Goals as goal

no_bytes : ℕ → List ℕ
no_bytes b = []

pub found_row-requires : goal.found_row-requires
found_row-requires c = number_low c.args.image.now.records c.args.number c.requires

pub unreachable-requires : goal.unreachable-requires
unreachable-requires c = row_told _ (c.requires no_bytes) (c.in_ok-row.ensures no_bytes ∙ c.in-None.is)
