use Rattle.tm_items.proofs.Finding.{index_has, index_leads, own_place, nothing_in, nothing_in_leaf}
use Rattle.tm_items.proofs.laws.index_tells.Goals as goal

pub returns-clause-has : goal.returns-clause-has
returns-clause-has c = index_has

pub returns-clause-leads : goal.returns-clause-leads
returns-clause-leads c = index_leads

pub returns-clause-place : goal.returns-clause-place
returns-clause-place c = own_place

pub returns-clause-empty : goal.returns-clause-empty
returns-clause-empty c = nothing_in

pub returns-clause-leaf : goal.returns-clause-leaf
returns-clause-leaf c = nothing_in_leaf
