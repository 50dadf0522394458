use Rattle.std.proofs.Common.{◌∙◌, ℕ, List, [], ◌∷◌, ◌++◌, ap}
use Rattle.std.proofs.lemmas.List.{replicate_more}
use Rattle.tm_memworld.specs.Site.{zero_block}
use Rattle.tm_memworld.proofs.site.blocks.zero_blocks.Goals as goal

pub loop-i-preserved : goal.loop-i-preserved
loop-i-preserved c = c.in_ok-push.ensures.items ∙ ap (λ (xs : List (List ℕ)). xs ++ zero_block ∷ []) c.loop-i.invariant ∙ replicate_more _ _
