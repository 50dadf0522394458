use Rattle.std.proofs.Common.{◌≤◌, sym, ◌∙◌, subst}
use Rattle.tm_tree.specs.Changes.{most_bytes}
use Rattle.tm_changes.proofs.Written.{length_small, length_there}
use Rattle.tm_changes.proofs.files.length_at.Goals as goal

pub returns-clause-value : goal.returns-clause-value
returns-clause-value c = λ bytes.
    c.target_length.ensures ∙ length_there c.args.volume.now c.rules.ensures.shelved c.args.path.now c.in_ok-target.target c.in_ok-target.ensures bytes

pub returns-clause-small : goal.returns-clause-small
returns-clause-small c = λ bytes good.
    subst (λ n. n ≤ most_bytes) (sym c.target_length.ensures) (length_small c.args.volume.now c.rules.ensures.shelved c.args.path.now c.in_ok-target.target c.in_ok-target.ensures bytes good)
