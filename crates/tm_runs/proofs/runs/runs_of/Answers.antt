use Rattle.std.proofs.Common.{◌≡◌, arith, ◌∙◌, ap, slice_index}
use Rattle.tm_pages.specs.declared.cut.Run.{Run}
use Rattle.tm_records.specs.Removes.{without}
use Rattle.tm_runs.proofs.Spanning.{done_after, done_push, found_more, found_none, found_all, start_up_to, text_is}
use Rattle.tm_runs.proofs.Touching.{touched_none, touched_push}
use Rattle.tm_runs.proofs.runs.runs_of.Goals as goal

pub loop-next-init : goal.loop-next-init
loop-next-init c = record {
  touched = touched_none c.args.holders.now c.args.keys.now c.new-runs.result.items c.new-runs.ensures.items;
  found = λ up. found_none _ _ _ up _ c.new-runs.ensures.items;
  within = omega arith;
  begins = λ lt. (c.requires.some, start_up_to (slice_index c.args.keys.now 0));
  gap = λ lt some. absurd (omega (arith, some, ap (done_after 0) c.new-runs.ensures.items));
}

pub loop-next-preserved : goal.loop-next-preserved
loop-next-preserved c =
    let s = c.span_from-span.ensures in
    let run : Run = record { from = c.span_from-span.result.from; to = c.span_from-span.result.to; text = c.in_ok-text.text } in
    let text = text_is (without c.args.left_out.now c.args.records.now.entries) c.args.holders.now _ _ _ _ _ _ c.in_ok-text.ensures c.mark_of-before.ensures c.saturating_sub.ensures c.holder_at-after.ensures in
    let last : done_after 0 c.push.new.self.items ≡ run.to = ap (done_after 0) c.in_ok-push.ensures.items ∙ done_push 0 c.loop-next.runs.items run in
    record {
      touched = touched_push c.args.holders.now c.args.keys.now c.loop-next.runs.items c.push.new.self.items run c.loop-next.invariant.touched c.in_ok-push.ensures.items s.touched;
      found = λ up. found_more _ _ _ up _ _ run _ _ (c.loop-next.invariant.found up) c.in_ok-push.ensures.items (λ some. omega (arith, c.loop-next.invariant.gap c.loop-next-test.true some, s.from)) s.touched.rises s.inside s.begins text s.more.1 (omega (arith, s.more.0)) s.done;
      within = s.more.1;
      begins = λ lt. let g = s.gap lt in (g.1, g.2);
      gap = λ lt some. omega (arith, (s.gap lt).0, last);
    }

pub returns-clause-runs : goal.returns-clause-runs
returns-clause-runs c = found_all _ _ _ c.requires.rising _ _ (c.loop-next.invariant.found c.requires.rising) (omega (arith, c.loop-next-test.false))
