use Rattle.std.proofs.Common.{rules}
use Rattle.std.proofs.lemmas.List.Sorted.{answers_always}
use Rattle.tm_journal.proofs.ByPath.{by_path_from, rows_order}
use Rattle.tm_journal.proofs.kept.sort.Goals as goal

pub returns-clause-by_path : goal.returns-clause-by_path
returns-clause-by_path c = by_path_from c.sort_unstable_by.new.self.items (c.sort_unstable_by.ensures.sorted _ rows_order (answers_always _ _ _ (λ f a r f' k. search rules)))
