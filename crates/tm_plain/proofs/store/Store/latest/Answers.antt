use Rattle.std.proofs.Common.{ap, ◌∙◌}
use Rattle.tm_tree.specs.States.{StoreState, latest}
use Rattle.tm_base.proofs.Facts.{last_is}
use Rattle.tm_plain.proofs.store.Store.latest.Goals as goal

pub returns : goal.returns
returns c = c.last.ensures.value ∙ (rw c.deref.ensures.value (last_is c.self.inside.snapshots.items)) ∙ ap (λ (s : StoreState). latest s) c.self.view_is
