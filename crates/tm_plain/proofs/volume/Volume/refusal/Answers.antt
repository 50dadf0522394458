use Rattle.std.proofs.Common.{sym, ◌∙◌}
use Rattle.std.specs.Option.{option_or}
use Rattle.tm_tree.specs.Changes.{own_tests, ids_spent}
use Rattle.tm_tree.specs.Refusing.{first_refused}
use Rattle.tm_tree.specs.Touches.{numbers}
use Rattle.tm_tree.proofs.Passes.{first_or}
use Rattle.tm_plain.proofs.volume.Volume.refusal.Goals as goal

pub returns : goal.returns
returns c =
    let v = c.args.self.now.contents in
    let counted = c.spends_ids.ensures ∙ (λ i. first_refused (ids_spent v (c.requires i))) in
    c.or.ensures ∙ (λ i. option_or (c.in_ok-why.ensures i) (counted i)) ∙ sym (first_or (own_tests v c.args.change.now c.args.moment) (ids_spent v (numbers v.tree c.args.change.now)))
