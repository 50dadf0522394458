use Rattle.std.proofs.Common.{◌≡◌, IfOk, subst}
use Rattle.tm_tree.specs.Copies.{LabelledTree, bare}
use Rattle.tm_tree.specs.Listings.{listing}
use Rattle.tm_plain.proofs.labelled.LabelledTree.list.Goals as goal

pub returns : goal.returns
returns c = subst (λ (t : LabelledTree). IfOk c.list.result (λ found. found ≡ listing (bare t) c.args.path.now)) c.self.view_is c.list.ensures
