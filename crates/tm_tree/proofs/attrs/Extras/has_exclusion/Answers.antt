use Rattle.std.proofs.Common.{◌∙◌}
use Rattle.tm_tree.specs.Items.{exclusion}
use Rattle.tm_tree.proofs.ExtraLemmas.{any_is_value}
use Rattle.tm_tree.proofs.attrs.Extras.has_exclusion.Goals as goal

pub returns : goal.returns
returns c = rw (← c.self.view_is) (c.has_exclusion.ensures ∙ any_is_value exclusion c.self.inside.values.entries)
