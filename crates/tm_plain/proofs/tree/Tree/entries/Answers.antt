use Rattle.std.proofs.Common.{◌≡◌, IfOk, subst, ◌∙◌, map}
use Rattle.tm_tree.specs.Listings.{entries_of}
use Rattle.tm_tree.specs.Trees.{Tree}
use Rattle.tm_plain.specs.Entries.{named}
use Rattle.tm_plain.proofs.ItemLemmas.{items_of_items}
use Rattle.tm_plain.proofs.tree.Tree.entries.Goals as goal

pub returns : goal.returns
returns c =
    subst (λ (t : Tree). IfOk c.entries.result (λ found. map named found.items ≡ entries_of t c.args.path.now)) (items_of_items c.self.inside.items.entries ∙ c.self.view_is) c.entries.ensures
