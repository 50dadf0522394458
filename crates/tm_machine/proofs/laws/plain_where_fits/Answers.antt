use Rattle.tm_machine.proofs.FitLemmas.{FitLaws}
use Rattle.tm_machine.proofs.FitStops.{held_fits}
use Rattle.tm_machine.proofs.PlainLemmas.{history_where_fits, plain_where_fits}
use Rattle.tm_machine.proofs.laws.plain_where_fits.Goals as goal

laws_in : (c : goal.After-later_generations_fit) → FitLaws
laws_in c = record {
  changes = c.changes_fit.ensures;
  backups = c.backups_fit.ensures;
  new_volumes = c.new_volumes_fit.ensures.store;
  alone = c.new_volumes_fit.ensures.alone;
  new_stores = c.new_stores_fit.ensures;
  later = c.later_generations_fit.ensures;
}

pub returns-clause-lines : goal.returns-clause-lines
returns-clause-lines c = plain_where_fits (laws_in c)

pub returns-clause-history : goal.returns-clause-history
returns-clause-history c = history_where_fits (laws_in c)

pub returns-clause-held : goal.returns-clause-held
returns-clause-held c = held_fits (laws_in c)
