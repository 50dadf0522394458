use Rattle.std.proofs.Common.{◌≡◌, ◌≤◌, ◌<◌, ◌+◌, ◌-◌, ℕ, arith, get_or, sym, subst}
use Rattle.tm_runs.specs.Marks.{mark_at}
use Rattle.tm_runs.proofs.Touching.{touched_more}
use Rattle.tm_runs.proofs.runs.span_from.Goals as goal

pub loop-next-preserved : goal.loop-next-preserved
loop-next-preserved c =
    let inv = c.loop-next.invariant in
    let more = c.find_pages-touched-in-loop-next.ensures in
    let to : ℕ = c.find_pages-touched-in-loop-next.result.to in
    let this : c.loop-next.next + 1 - 1 ≡ c.loop-next.next = omega arith in
    record {
      begins = inv.begins;
      since = inv.since;
      touched = touched_more c.args.holders.now c.args.keys.now c.loop-next.next c.find_pages-touched.result.from c.loop-next.to c.find_pages-touched-in-loop-next.result.from to (omega (arith, c.loop-next-test.true)) inv.touched more.from
          (omega (arith, c.if-touched-to.false)) more.rises more.touched;
      inside = more.inside;
      more = (omega (arith, inv.more.0), omega (arith, c.loop-next-test.true));
      done = subst (λ i. get_or c.args.keys.now i 0 < (mark_at c.args.holders.now to).key) (sym this) more.behind;
      near = subst (λ i. (mark_at c.args.holders.now (to - 1)).key ≤ get_or c.args.keys.now i 0) (sym this) (more.touched (to - 1) (omega (arith, more.rises)) (omega (arith, more.rises))).0;
    }
