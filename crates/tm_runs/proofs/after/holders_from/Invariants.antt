use Rattle.std.proofs.Common.{◌≡◌, ◌+◌}
use Rattle.std.specs.List.{sum}
use Rattle.std.proofs.Common.{take}
use Rattle.tm_pages.specs.Paged.{lengths}
use Rattle.tm_records.specs.Removes.{without}
use Rattle.tm_runs.specs.Marks.{place}
use Rattle.tm_runs.proofs.Heading.{AreFirst}
use Rattle.tm_runs.proofs.after.holders_from.Given as goal

abbrev pub invariant-loop-page : goal.invariant-loop-page
invariant-loop-page l = record {
  next : place (without l.left_out l.records.entries) l.last + l.by ≡ place (without l.left_out l.records.entries) l.fn.from + l.fn.first + sum (take l.page-index (lengths l.pages));
  first : AreFirst (without l.left_out l.records.entries) (place (without l.left_out l.records.entries) l.fn.from + l.fn.first) (lengths l.pages) l.page-index l.holders.items;
}
