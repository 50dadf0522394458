use Rattle.std.proofs.Common.{subst, ◌∙◌}
use Rattle.tm_tree.specs.Trees.{Tree}
use Rattle.tm_tree.specs.Walks.{walk, Finds}
use Rattle.tm_plain.proofs.ItemLemmas.{items_of_items}
use Rattle.tm_plain.proofs.tree.Tree.find.Goals as goal

pub returns : goal.returns
returns c =
    subst (λ (t : Tree). Finds (walk t c.args.path.now) c.find.result) (items_of_items c.self.inside.items.entries ∙ c.self.view_is) c.find.ensures
