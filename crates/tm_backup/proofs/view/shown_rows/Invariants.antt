use Rattle.std.proofs.Common.{◌≡◌, ℕ, List, not, map, filter, take}
use Rattle.tm_tree.specs.Trees.{children}
use Rattle.tm_volume.specs.Seen.{tree_on}
use Rattle.tm_backup.specs.Shown.{is_out}
use Rattle.tm_backup.proofs.Rows.{row_of}
use Rattle.tm_backup.proofs.view.shown_rows.Given as goal

abbrev pub invariant-loop-row : goal.invariant-loop-row
invariant-loop-row l = (bytes : ℕ → List ℕ) → l.shown.items ≡ map row_of (filter (λ row. not (is_out l.volume.fixed row.0 row.1)) (take l.row-index (children (tree_on l.volume bytes) l.path)))
