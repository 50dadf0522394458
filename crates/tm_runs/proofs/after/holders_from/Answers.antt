use Rattle.std.proofs.Common.{◌+◌, take, arith, sym, ◌∙◌, ap}
use Rattle.std.specs.List.{sum}
use Rattle.tm_pages.specs.Paged.{lengths}
use Rattle.tm_records.specs.Removes.{without}
use Rattle.tm_runs.specs.Marks.{place}
use Rattle.tm_runs.proofs.Heading.{first_none, first_more, sum_within, sum_next}
use Rattle.tm_runs.proofs.after.holders_from.Goals as goal

pub loop-page-init : goal.loop-page-init
loop-page-init c = record {
  next = omega arith;
  first = first_none (without c.args.left_out.now c.args.records.now.entries) (place (without c.args.left_out.now c.args.records.now.entries) c.args.from + c.args.first) (lengths c.args.pages.now) c.new-holders.result.items c.new-holders.ensures.items;
}

pub holder_after-last-requires-clause-within : goal.holder_after-last-requires-clause-within
holder_after-last-requires-clause-within c = omega (arith, c.loop-page.invariant.next, sum_within c.args.pages.now c.loop-page.page-index c.requires.paged c.loop-page-test.true, c.requires.within)

pub loop-page-preserved : goal.loop-page-preserved
loop-page-preserved c =
    let stands = c.holder_after-last.ensures.place ∙ c.loop-page.invariant.next in
    let next = sum_next c.args.pages.now c.loop-page.page-index _ c.loop-page-test.true ∙ ap (λ n. sum (take c.loop-page.page-index (lengths c.args.pages.now)) + n) (sym c.from-by.ensures) in
    record {
      next = omega (arith, stands, next);
      first = first_more (without c.args.left_out.now c.args.records.now.entries) (place (without c.args.left_out.now c.args.records.now.entries) c.args.from + c.args.first) (lengths c.args.pages.now) c.loop-page.page-index c.loop-page.holders.items c.push.new.self.items c.holder_after-last.result c.loop-page.invariant.first c.in_ok-push.ensures.items stands c.holder_after-last.ensures.inside;
    }
