use Rattle.std.proofs.Common.{arith, ap, length}
use Rattle.tm_tree.proofs.Passes.{few_touches}
use Rattle.tm_plain.proofs.tree.Tree.numbers.Goals as goal

pub overflow_add-result : goal.overflow_add-result
overflow_add-result c =
    let few = few_touches c.args.self.now c.args.change.now in
    omega (arith, few, ap length c.requires, ap length c.as_slice.ensures, c.stamps.ensures.few)
