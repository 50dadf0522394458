use Rattle.std.proofs.Common.{◌∙◌}
use Rattle.tm_table.proofs.Leaving.{among_is}
use Rattle.tm_table.proofs.encoding.is_among.Goals as goal

pub returns : goal.returns
returns c = c.is_ok.ensures.value ∙ among_is c.args.keys.now c.args.key c.binary_search.result c.requires c.binary_search.ensures.position
