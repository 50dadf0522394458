use Rattle.std.proofs.Common.{rules}
use Rattle.std.specs.Ordering.{is_lt}
use Rattle.std.proofs.lemmas.Fn.{always_returns_same}
use Rattle.tm_base.specs.Paths.{name_cmp}
use Rattle.tm_tree.specs.declared.node.Child.{Child}
use Rattle.tm_graph.proofs.Room.{rises_by_pairs}
use Rattle.tm_graph.proofs.holds.names_rise.Goals as goal

pub returns : goal.returns
returns c = rises_by_pairs c.args.children.now c.is_sorted_by.result
    (c.is_sorted_by.ensures.cases (λ (x y : Child). is_lt (name_cmp x.name y.name)) (always_returns_same _ _ _ (λ a r after called. search rules)))
