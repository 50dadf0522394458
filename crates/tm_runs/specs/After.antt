-- The pages of a plan, as whoever keeps their holders needs to know them.
use Rattle.std.specs.Prelude.{◌≡◌, ℕ, List, length}
use Rattle.tm_pages.specs.declared.cut.Cut.{Cut}
use Rattle.tm_pages.specs.declared.cut.Run.{Run}
use Rattle.tm_pages.specs.Runs.{AreRuns, AreCuts, planned_lens, edited_len}
use Rattle.tm_records.specs.Records.{Records}
use Rattle.tm_table.specs.Text.{table_text}
use Rattle.tm_runs.specs.declared.holder.Holder.{Holder}
use Rattle.tm_runs.specs.Changes.{AreKept}

-- pages of these lengths are planned for a change of the records: the old pages are cut anew at these runs, those that no run touches
-- keep their holders, and the edited text is as long as that of the records
pub record IsPlanFor (new : Records) (holders : List Holder) (runs : List Run) (cuts : List Cut) (planned : List ℕ) : Type 0 where
  pub old : List ℕ
  pub many : length holders ≡ length old
  pub runs_are : AreRuns old 0 runs
  pub cuts_are : AreCuts old runs cuts
  pub lens : planned ≡ planned_lens old 0 cuts
  pub kept : AreKept new holders old 0 runs
  pub long : edited_len old 0 runs ≡ length (table_text new)
