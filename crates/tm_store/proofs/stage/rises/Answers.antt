use Rattle.std.proofs.lemmas.List.Sorted.{non_decreasing_from_is_sorted}
use Rattle.std.proofs.iter.Next.{if_yes}
use Rattle.tm_store.proofs.Searching.{falls}
use Rattle.tm_store.proofs.stage.rises.Goals as goal

pub returns-clause-up : goal.returns-clause-up
returns-clause-up c = λ t. if_yes _ _ t (non_decreasing_from_is_sorted _ _ c.is_sorted.ensures.cases)

pub returns-clause-down : goal.returns-clause-down
returns-clause-down c = λ t. falls _ _ (non_decreasing_from_is_sorted _ _ c.is_sorted.ensures.cases) t
