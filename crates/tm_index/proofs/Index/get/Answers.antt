use Rattle.std.proofs.Common.{◌∙◌, sym}
use Rattle.tm_index.proofs.Numbering.{number_there, number_nowhere}
use Rattle.tm_index.proofs.Index.get.Goals as goal

pub returns-in-Some : goal.returns-in-Some
returns-in-Some c = c.copied.ensures ∙ c.get-in-Some.ensures.value ∙ number_there c.self.inside.folders.entries _ c.args.parent c.args.name.now c.in-Some.named.now c.self.view_is c.in-Some.ensures.value

pub returns-in-None : goal.returns-in-None
returns-in-None c = sym (number_nowhere c.self.inside.folders.entries _ c.args.parent c.self.view_is c.in-None.ensures.value c.args.name.now)
