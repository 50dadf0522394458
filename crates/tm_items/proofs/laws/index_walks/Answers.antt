use Rattle.tm_items.proofs.Finding.{way_starts, way_stands, way_goes_on, way_misses, way_is_blocked, way_ends, walk_finds}
use Rattle.tm_items.proofs.laws.index_walks.Goals as goal

pub returns-clause-starts : goal.returns-clause-starts
returns-clause-starts c = way_starts

pub returns-clause-stands : goal.returns-clause-stands
returns-clause-stands c = way_stands

pub returns-clause-goes_on : goal.returns-clause-goes_on
returns-clause-goes_on c = way_goes_on

pub returns-clause-misses : goal.returns-clause-misses
returns-clause-misses c = way_misses

pub returns-clause-blocked : goal.returns-clause-blocked
returns-clause-blocked c = way_is_blocked

pub returns-clause-ends : goal.returns-clause-ends
returns-clause-ends c = way_ends

pub returns-clause-finds : goal.returns-clause-finds
returns-clause-finds c = walk_finds
