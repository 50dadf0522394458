use Rattle.std.proofs.Common.{◌≡◌, ◌∙◌, ℕ, arith, length, get_or, ap, refl}
use Rattle.std.specs.List.{sum}
use Rattle.std.proofs.lemmas.List.{length-set}
use Rattle.tm_blockmap.proofs.Counting.{next_used, give_mark, give_sum, times-more}
use Rattle.tm_blockmap.proofs.BlockMap.give_all.Goals as goal

pub give-requires : goal.give-requires
give-requires c = next_used c.args.blocks.now c.args.self.now c.loop-block.self c.loop-block.block-index _ c.loop-block-test.true refl c.requires.are_marks c.requires.used c.loop-block.invariant.marks

pub loop-block-preserved : goal.loop-block-preserved
loop-block-preserved c =
    let x : ℕ = get_or c.args.blocks.now c.loop-block.block-index 0 in
    let used : get_or c.loop-block.self x 0 ≡ 1 = next_used c.args.blocks.now c.args.self.now c.loop-block.self c.loop-block.block-index x c.loop-block-test.true refl c.requires.are_marks c.requires.used c.loop-block.invariant.marks in
    record {
      marks = λ b. omega (arith, ap (λ ms. get_or ms b 0) c.give.ensures, give_mark c.loop-block.self x used b, times-more c.args.blocks.now c.loop-block.block-index b c.loop-block-test.true, c.loop-block.invariant.marks b);
      size = ap length c.give.ensures ∙ length-set c.loop-block.self x 0 ∙ c.loop-block.invariant.size;
      count = omega (arith, ap sum c.give.ensures, give_sum c.loop-block.self x used);
    }
