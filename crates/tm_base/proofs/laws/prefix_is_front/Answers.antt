use Rattle.std.proofs.Common.{drop, length}
use Rattle.tm_base.proofs.PathLemmas.{prefix_is, is_prefix_of_append}
use Rattle.tm_base.proofs.laws.prefix_is_front.Goals as goal

pub returns : goal.returns
returns c p q = (λ h. (drop (length p) q, prefix_is p q h), λ front. is_prefix_of_append p q front.0 front.1)
