use Rattle.tm_table.proofs.OneText.{table_is_one, table_or_break, break_is_one}
use Rattle.tm_table.proofs.laws.tables_are_one.Goals as goal

pub returns-clause-table : goal.returns-clause-table
returns-clause-table c = table_is_one

pub returns-clause-either : goal.returns-clause-either
returns-clause-either c = table_or_break

pub returns-clause-place : goal.returns-clause-place
returns-clause-place c = break_is_one
