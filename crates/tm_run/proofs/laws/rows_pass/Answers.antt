use Rattle.tm_run.proofs.RowLemmas.{rows_fit, rows_pass}
use Rattle.tm_run.proofs.laws.rows_pass.Goals as goal

pub returns-clause-passes : goal.returns-clause-passes
returns-clause-passes c = rows_pass c.plain_is_history.ensures.history

pub returns-clause-fits : goal.returns-clause-fits
returns-clause-fits c = rows_fit c.plain_where_fits.ensures.history c.plain_where_fits.ensures.held
