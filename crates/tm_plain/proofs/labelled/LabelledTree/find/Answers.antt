use Rattle.std.proofs.Common.{subst}
use Rattle.tm_tree.specs.Copies.{LabelledTree, bare}
use Rattle.tm_tree.specs.Walks.{walk, Finds}
use Rattle.tm_plain.proofs.labelled.LabelledTree.find.Goals as goal

pub returns : goal.returns
returns c = subst (λ (t : LabelledTree). Finds (walk (bare t) c.args.path.now) c.find.result) c.self.view_is c.find.ensures
