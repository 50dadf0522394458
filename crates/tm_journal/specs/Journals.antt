-- What a journal is seen as, and what it answers.
use Rattle.std.specs.Prelude.{ℕ, ◌≤◌, ◌==◌, if◌then◌else◌, List, length}
use Rattle.tm_tree.specs.declared.rows.Row.{Row}
use Rattle.tm_tree.specs.declared.rows.Mark.{Mark}
use Rattle.tm_journal.specs.declared.since.Since.{Since}
use Rattle.tm_journal.specs.declared.since.Since.TheVariants.{Rows, Lost}
use Rattle.tm_journal.specs.Rows.{AreRising, rows_above}

-- the volume's id, its generation, the most rows, the rows by rising id, and for how many more touches there is memory
pub record JournalState : Type 0 where
  pub id : ℕ
  pub generation : ℕ
  pub capacity : ℕ
  pub rows : List Row
  pub room : ℕ

-- some rows are allowed; there are no more, and they rise
pub record IsInOrder (capacity : ℕ) (rows : List Row) : Type 0 where
  pub some : 1 ≤ capacity
  pub few : length rows ≤ capacity
  pub rising : AreRising rows

-- the rows since a mark; they are lost where the generation differs
abbrev pub rows_since : ℕ → List Row → Mark → Since
rows_since generation rows mark = if mark.generation == generation then Rows (rows_above mark.cursor rows) else Lost
