use Rattle.std.proofs.Common.{◌≡◌, IfOk, subst, map}
use Rattle.tm_tree.specs.Copies.{LabelledTree, bare}
use Rattle.tm_tree.specs.Listings.{entries_of}
use Rattle.tm_plain.specs.Entries.{named}
use Rattle.tm_plain.proofs.labelled.LabelledTree.entries.Goals as goal

pub returns : goal.returns
returns c = subst (λ (t : LabelledTree). IfOk c.entries.result (λ found. map named found.items ≡ entries_of (bare t) c.args.path.now)) c.self.view_is c.entries.ensures
