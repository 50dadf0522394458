use Rattle.std.proofs.Common.{◌≡◌, ◌∙◌, ◌∷◌, ◌++◌, [], arith, rules, length, ap, length-append}
use Rattle.tm_records.proofs.Putting.{with_puts_more, can_undo_push, all_undone_push, balance_push}
use Rattle.tm_records.proofs.put.put_all.Goals as goal

pub loop-put-preserved : goal.loop-put-preserved
loop-put-preserved c =
    let pushed : c.push.new.self.items ≡ c.loop-put.log.items ++ c.in-Ok.undo ∷ [] = search rules in
    let one = c.in-Ok.ensures.undo in
    record {
      puts = with_puts_more c.loop-put.yielded c.in-Some.put _ _ _ c.loop-put.invariant.puts c.in-Ok.ensures.ok;
      can = can_undo_push c.loop-put.log.items _ c.in-Ok.undo _ _ pushed one.0 one.1 c.loop-put.invariant.can;
      back = all_undone_push c.loop-put.log.items _ c.in-Ok.undo _ _ pushed one.0 one.1 ∙ c.loop-put.invariant.back;
      stays = λ k h. c.in-Ok.ensures.stays k (c.loop-put.invariant.stays k h);
      balance = λ w. balance_push c.loop-put.log.items _ c.in-Ok.undo c.loop-put.yielded c.in-Some.put c.args.records.now.entries c.loop-put.records.entries c.put_one.new.records.entries w pushed (c.loop-put.invariant.balance w) (c.in-Ok.ensures.balance w);
      ordered = λ was. c.in-Ok.ensures.ordered;
      count = omega (arith, ap length pushed, length-append c.loop-put.log.items (c.in-Ok.undo ∷ []), length-append c.loop-put.yielded (c.in-Some.put ∷ []), c.push.new.self.ok);
      capacity = omega (arith, c.push.ensures.capacity);
    }
