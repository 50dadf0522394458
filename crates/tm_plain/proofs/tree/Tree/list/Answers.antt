use Rattle.std.proofs.Common.{◌≡◌, IfOk, subst, ◌∙◌}
use Rattle.tm_tree.specs.Listings.{listing}
use Rattle.tm_tree.specs.Trees.{Tree}
use Rattle.tm_plain.proofs.ItemLemmas.{items_of_items}
use Rattle.tm_plain.proofs.tree.Tree.list.Goals as goal

pub returns : goal.returns
returns c =
    subst (λ (t : Tree). IfOk c.list.result (λ found. found ≡ listing t c.args.path.now)) (items_of_items c.self.inside.items.entries ∙ c.self.view_is) c.list.ensures
