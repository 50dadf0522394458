use Rattle.std.proofs.Common.{[], sym}
use Rattle.std.specs.List.Sorted.{IsStrictlySortedBy}
use Rattle.tm_base.specs.Paths.{name_cmp}
use Rattle.tm_index.proofs.Numbering.{number_there, number_nowhere}
use Rattle.tm_index.proofs.Index.folder.Goals as goal

nothing_sorted : IsStrictlySortedBy name_cmp []
unfolding IsStrictlySortedBy
nothing_sorted = tt

pub returns-in-Some-clause-entries : goal.returns-in-Some-clause-entries
returns-in-Some-clause-entries c = record {
  in_order = c.len.ensures.ordered;
  are = λ name. number_there c.self.inside.folders.entries _ c.args.parent name c.in-Some.named.now c.self.view_is c.in-Some.ensures.value;
}

pub returns-in-None-clause-none : goal.returns-in-None-clause-none
returns-in-None-clause-none c = record {
  in_order = nothing_sorted;
  are = λ name. sym (number_nowhere c.self.inside.folders.entries _ c.args.parent c.self.view_is c.in-None.ensures.value name);
}
