use Rattle.std.proofs.Common.{◌∙◌, ap₂}
use Rattle.std.proofs.lemmas.Result.{IfOk-weaker}
use Rattle.clap.specs.Words.{with_rule}
use Rattle.tm_command.proofs.definition.tmvol.Goals as goal

pub returns : goal.returns
returns c =
    let volume = c.in_ok-arg.ensures.shape c.path_option.ensures.local
    ∙ ap₂ with_rule c.bare_command.ensures c.path_option.ensures.rule in
    let store = c.in_ok-arg-2.ensures.shape c.path_option-2.ensures.local ∙ ap₂ with_rule volume c.path_option-2.ensures.rule in
    let script = c.in_ok-arg-3.ensures.shape c.path_option-3.ensures.local ∙ ap₂ with_rule store c.path_option-3.ensures.rule in
    IfOk-weaker c.arg-4.result _ _
    (λ r adds. adds.shape c.create_option.ensures.local ∙ ap₂ with_rule script c.create_option.ensures.rule) c.arg-4.ensures
