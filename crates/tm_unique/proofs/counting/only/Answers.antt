use Rattle.std.proofs.Common.{ℕ, ◌+◌, ◌∙◌, sym, ap, arith, sum_by, List}
use Rattle.std.proofs.lemmas.List.Sums.{sum_by_push}
use Rattle.tm_tree.specs.declared.node.Child.{Child}
use Rattle.tm_identity.specs.Uniques.{only_of}
use Rattle.tm_unique.proofs.Sizes.{size_of, size_is, only_one}
use Rattle.tm_unique.proofs.counting.only.Goals as goal

pub loop-next-smaller-in-Continue-branch-2 : goal.loop-next-smaller-in-Continue-branch-2
loop-next-smaller-in-Continue-branch-2 c =
    let g = c.args.graph.now in
    let row = c.in-Some-node.row.now in
    let popped = ap (λ (xs : List ℕ). sum_by (size_of g) xs) c.in-Some.ensures.items ∙ sum_by_push (size_of g) c.pop.new.self.items c.in-Some.next in
    let pushed = c.in_ok-push_all.ensures (size_of g) ∙ ap (λ (es : List Child). sum_by (size_of g) c.pop.new.self.items + sum_by (λ (child : Child). size_of g child.node) es) c.children_of.ensures in
    let its = size_is g c.len.ensures.graph c.in-Some.next row (sym c.in-Some-node.ensures.found) in
    omega (arith, pushed, popped, its)

pub loop-next-preserved-in-Continue-branch-2 : goal.loop-next-preserved-in-Continue-branch-2
loop-next-preserved-in-Continue-branch-2 c =
    let g = c.args.graph.now in
    let row = c.in-Some-node.row.now in
    let popped = ap (λ (xs : List ℕ). sum_by (only_of g) xs) c.in-Some.ensures.items ∙ sum_by_push (only_of g) c.pop.new.self.items c.in-Some.next in
    let pushed = c.in_ok-push_all.ensures (only_of g) ∙ ap (λ (es : List Child). sum_by (only_of g) c.pop.new.self.items + sum_by (λ (child : Child). only_of g child.node) es) c.children_of.ensures in
    let its = only_one g c.len.ensures.graph c.in-Some.next row (sym c.in-Some-node.ensures.found) c.if-row-eq1.true in
    omega (arith, popped, pushed, its, c.loop-next.invariant, c.length_of-bytes.ensures)
