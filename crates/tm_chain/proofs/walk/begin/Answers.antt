use Rattle.std.proofs.Common.{length, ap, arith, ◌∙◌, ◌∷◌, ◌++◌, [], ◌≡◌}
use Rattle.std.proofs.lemmas.List.{length-set}
use Rattle.tm_chain.proofs.Walking.{begun}
use Rattle.tm_chain.proofs.walk.begin.Goals as goal

pub returns-clause-walk : goal.returns-clause-walk
returns-clause-walk c =
    let size : length c.in_ok-used.used ≡ c.args.total = c.in_ok-used.ensures.size in
    begun c.args.first c.args.total _ _ c.in_ok-used.used _ c.requires.0 c.requires.1 (omega arith)
    (c.in_ok-push.ensures.items ∙ ap (λ bs. bs ++ c.args.first ∷ []) c.new-blocks.ensures.items)
    c.new-text.ensures.items
    (ap length c.claim.ensures.used ∙ length-set c.in_ok-used.used c.args.first 1 ∙ size)
    c.in_ok-used.ensures.free
    size
    c.claim.ensures.used
