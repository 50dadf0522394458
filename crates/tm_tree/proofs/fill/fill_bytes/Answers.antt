use Rattle.std.proofs.Common.{[], ◌∷◌, ◌++◌, sym, ◌∙◌, zero-add}
use Rattle.std.proofs.lemmas.List.FromFn.{map-range_with_len_more}
use Rattle.tm_tree.specs.Changes.{fill_byte}
use Rattle.tm_tree.proofs.fill.fill_bytes.Goals as goal

pub loop-i-preserved : goal.loop-i-preserved
loop-i-preserved c =
    c.in_ok-push.ensures.items ∙ (λ k. c.loop-i.invariant k ++ c.fill_byte.ensures k ∷ [])
    ∙ sym (map-range_with_len_more (fill_byte c.args.seed) 0 c.loop-i.i c.loop-i.i (zero-add c.loop-i.i))
