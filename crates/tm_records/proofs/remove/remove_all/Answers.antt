use Rattle.std.proofs.Common.{◌∙◌, ap, sym, arith, get_or}
use Rattle.std.specs.Ordering.{nat_cmp}
use Rattle.std.specs.BTreeMap.{is_at}
use Rattle.std.specs.Map.{remove_entry}
use Rattle.tm_records.proofs.Putting.{without_more}
use Rattle.tm_records.proofs.remove.remove_all.Goals as goal

pub loop-key-preserved : goal.loop-key-preserved
loop-key-preserved c = record {
  records = c.remove_one.ensures.records ∙ ap (remove_entry (is_at (nat_cmp (get_or c.args.keys.now c.loop-key.key-index 0)))) c.loop-key.invariant.records ∙ sym (without_more c.args.keys.now c.loop-key.key-index _ c.loop-key-test.true);
  balance = λ w. c.remove_one.ensures.balance w ∙ c.loop-key.invariant.balance w;
  ordered = λ was. c.remove_one.ensures.ordered;
  room = omega (arith, c.remove_one.ensures.count, c.remove_one.ensures.capacity);
}
