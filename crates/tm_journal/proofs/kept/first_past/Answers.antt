use Rattle.std.proofs.Common.{rules}
use Rattle.std.proofs.lemmas.List.Sorted.{IsPartitionPoint-from_clause}
use Rattle.tm_journal.specs.Kept.{reaches}
use Rattle.tm_journal.proofs.ByPath.{reaches_splits}
use Rattle.tm_journal.proofs.kept.first_past.Goals as goal

pub returns-clause-parts : goal.returns-clause-parts
returns-clause-parts c =
    IsPartitionPoint-from_clause (λ row. reaches c.args.touch.now row) c.args.rows.now c.partition_point.result c.partition_point.ensures.partitioned
    (reaches_splits c.args.rows.now c.args.touch.now c.requires) (λ a r f' k. search rules)
