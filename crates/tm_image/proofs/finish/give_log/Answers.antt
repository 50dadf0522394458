use Rattle.std.proofs.Common.{◌≡◌, ◌∙◌, ℕ, arith, get_or, ap, sym}
use Rattle.std.proofs.lemmas.List.Sums.{sum_by_more_le}
use Rattle.tm_blockmap.specs.Counts.{times}
use Rattle.tm_records.specs.declared.log.Undo.{Undo}
use Rattle.tm_records.specs.Undo.{let_go}
use Rattle.tm_image.proofs.finish.give_log.Goals as goal

pub give_all-requires-clause-used : goal.give_all-requires-clause-used
give_all-requires-clause-used c = λ b.
    let f : Undo → ℕ = λ u. times b (let_go u) in
    let is : f (get_or c.args.log.now c.loop-undo.undo-index c.undo-item.result) ≡ times b c.in-Replaced.old.blocks = ap f (sym c.undo-item.is ∙ c.in-Replaced.is) in
    omega (arith, sum_by_more_le f c.args.log.now c.loop-undo.undo-index c.undo-item.result c.loop-undo-test.true, is, c.requires.used b, c.loop-undo.invariant.marks b, ap (times b) c.as_slice.ensures)
