use Rattle.tm_items.proofs.Indexing.{index_places, index_removes, index_moves, index_replaces, index_dates, set_is_undone}
use Rattle.tm_items.proofs.laws.index_follows.Goals as goal

pub returns-clause-places : goal.returns-clause-places
returns-clause-places c = index_places

pub returns-clause-removes : goal.returns-clause-removes
returns-clause-removes c = index_removes

pub returns-clause-moves : goal.returns-clause-moves
returns-clause-moves c = index_moves

pub returns-clause-replaces : goal.returns-clause-replaces
returns-clause-replaces c = index_replaces

pub returns-clause-dates : goal.returns-clause-dates
returns-clause-dates c = index_dates

pub returns-clause-undone : goal.returns-clause-undone
returns-clause-undone c = set_is_undone
