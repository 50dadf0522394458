use Rattle.std.proofs.Common.{subst}
use Rattle.std.specs.List.Sorted.{IsPermutation}
use Rattle.tm_journal.proofs.Keeping.{sorted_kept, sorted_back}
use Rattle.tm_journal.proofs.journal.Journal.from_rows.Goals as goal

pub invariant_of-result : goal.invariant_of-result
invariant_of-result c =
    let moved = subst (λ l. IsPermutation l c.sort.new.rows.items) c.into_list-rows.ensures c.sort.ensures.same in
    sorted_kept c.args.capacity c.args.rows c.sort.new.rows.items c.requires moved c.sort.ensures.by_path

pub returns-clause-rows : goal.returns-clause-rows
returns-clause-rows c =
    let moved = subst (λ l. IsPermutation l c.sort.new.rows.items) c.into_list-rows.ensures c.sort.ensures.same in
    sorted_back c.args.rows c.sort.new.rows.items c.requires.rising moved
