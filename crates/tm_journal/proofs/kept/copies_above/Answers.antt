use Rattle.std.proofs.Common.{subst, rules}
use Rattle.std.specs.List.Sorted.{IsPermutation}
use Rattle.std.proofs.lemmas.List.Sorted.{IsNonDecreasingBy-from_sort_by_key}
use Rattle.tm_journal.proofs.kept.copies_above.Goals as goal

pub returns : goal.returns
returns c = (
  subst (λ l. IsPermutation l c.sort_unstable_by_key.new.self.items) c.in_ok-out.ensures c.sort_unstable_by_key.ensures.permutation,
  IsNonDecreasingBy-from_sort_by_key (λ row. row.id) c.sort_unstable_by_key.new.self.items c.sort_unstable_by_key.ensures.sorted (λ a r q k. search rules),
)
