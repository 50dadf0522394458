use Rattle.std.proofs.Common.{arith, refl}
use Rattle.tm_copy.proofs.Making.{greatest_low}
use Rattle.tm_copy.proofs.builder.Builder.new.Goals as goal

pub overflow_add-result : goal.overflow_add-result
overflow_add-result c = let low = greatest_low c.args.graph.now c.len.ensures.graph in omega (arith, low, c.greatest.ensures.number)

pub invariant_of-result : goal.invariant_of-result
invariant_of-result c =
    let low = greatest_low c.args.graph.now c.len.ensures.graph in record {
      low = omega (arith, low, c.greatest.ensures.number);
      files = rw (c.new.ensures.items, c.new-2.ensures.items) refl;
    }
