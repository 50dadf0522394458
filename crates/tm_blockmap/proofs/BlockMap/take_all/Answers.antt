use Rattle.std.proofs.Common.{◌≡◌, ◌∙◌, ◌∷◌, ◌++◌, [], arith, rules, length, get_or, ap, subst, sym, length-append}
use Rattle.std.specs.List.{sum}
use Rattle.std.proofs.lemmas.List.{length-set}
use Rattle.tm_blockmap.specs.Marks.{AreMarks}
use Rattle.tm_blockmap.specs.Counts.{times}
use Rattle.tm_blockmap.specs.Takes.{Takes}
use Rattle.tm_blockmap.proofs.Counting.{Takes-push, not_full, take_mark, take_sum, take_marks, times-push}
use Rattle.tm_blockmap.proofs.BlockMap.take_all.Goals as goal

pub unreachable-requires : goal.unreachable-requires
unreachable-requires c = not_full c.loop-i.self c.in-None.ensures.full (omega (arith, c.requires.room))

pub loop-i-preserved : goal.loop-i-preserved
loop-i-preserved c =
    let pushed : c.push.new.self.items ≡ c.loop-i.blocks.items ++ c.in-Some.block ∷ [] = search rules in
    let low = c.in-Some.ensures.lowest in
    let new = c.in-Some.ensures.used in
    record {
      taken = subst (λ bs. Takes bs c.args.self.now c.take.new.self) (sym pushed) (Takes-push c.loop-i.blocks.items c.in-Some.block _ _ _ c.loop-i.invariant.taken low new);
      many = omega (arith, ap length pushed, length-append c.loop-i.blocks.items (c.in-Some.block ∷ []));
      marks = λ b. omega (arith, ap (λ ms. get_or ms b 0) new, take_mark c.loop-i.self c.in-Some.block low.within low.free b, c.loop-i.invariant.marks b, ap (times b) pushed, times-push b c.loop-i.blocks.items c.in-Some.block);
      count = omega (arith, ap sum new, take_sum c.loop-i.self c.in-Some.block low.within low.free);
      size = ap length new ∙ length-set c.loop-i.self c.in-Some.block 1 ∙ c.loop-i.invariant.size;
      are_marks = subst AreMarks (sym new) (take_marks c.loop-i.self c.in-Some.block c.loop-i.invariant.are_marks low.within);
      space = omega (arith, c.push.ensures.capacity);
    }
