use Rattle.std.proofs.Common.{◌∙◌, ◌≡◌, ap}
use Rattle.std.specs.Int.{to_be_bytes, w128}
use Rattle.std.proofs.lemmas.Result.{IfOk-weaker}
use Rattle.uuid.specs.Text.{hyphenated_text, lower}
use Rattle.tm_reply.specs.Escapes.{printed_id}
use Rattle.tm_reply.proofs.words.print_id.Goals as goal

pub returns : goal.returns
unfolding printed_id
returns c =
    let id_is : c.hyphenated.result ≡ to_be_bytes w128 c.args.id = c.hyphenated.ensures ∙ c.from_u128.ensures in
    IfOk-weaker c.from_str.result _ _
    (λ t same. same ∙ c.encode_lower-text.ensures.text ∙ ap (hyphenated_text lower) id_is) c.from_str.ensures.ok
