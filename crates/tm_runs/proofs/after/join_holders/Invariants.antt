use Rattle.std.proofs.Common.{drop}
use Rattle.tm_records.specs.Removes.{without}
use Rattle.tm_pages.specs.Paged.{lengths}
use Rattle.tm_runs.specs.After.{IsPlanFor}
use Rattle.tm_runs.proofs.Going.{Going}
use Rattle.tm_runs.proofs.after.join_holders.Given as goal

abbrev pub invariant-loop-k : goal.invariant-loop-k
invariant-loop-k l = record {
  going : (p : IsPlanFor (without l.left_out l.records.entries) l.holders l.runs l.cuts (lengths l.pages)) → Going (without l.left_out l.records.entries) l.holders p.old p.many (lengths l.pages) (drop l.k l.runs) (drop l.k l.cuts) l.at l.new.items;
}
