use Rattle.tm_items.proofs.Entries.{lists_children}
use Rattle.tm_items.proofs.change_laws.listings_are_children.Goals as goal

pub returns : goal.returns
returns c = lists_children
