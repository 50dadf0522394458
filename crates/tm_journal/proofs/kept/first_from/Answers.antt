use Rattle.std.proofs.Common.{rules}
use Rattle.std.proofs.lemmas.List.Sorted.{IsPartitionPoint-from_clause}
use Rattle.tm_journal.specs.Kept.{is_before}
use Rattle.tm_journal.proofs.ByPath.{is_before_splits}
use Rattle.tm_journal.proofs.kept.first_from.Goals as goal

pub returns-clause-parts : goal.returns-clause-parts
returns-clause-parts c =
    IsPartitionPoint-from_clause (λ row. is_before row c.args.path.now) c.args.rows.now c.partition_point.result c.partition_point.ensures.partitioned
    (is_before_splits c.args.rows.now c.args.path.now c.requires) (λ a r f' k. search rules)
