use Rattle.std.proofs.Common.{arith}
use Rattle.std.proofs.lemmas.List.Elements.{All-from_get_or}
use Rattle.percent_encoding.proofs.PercentLemmas.{IsByte}
use Rattle.tm_reply.proofs.EscapeLemmas.{percent_encode-printed_word}
use Rattle.tm_reply.proofs.words.encode.Goals as goal

pub returns : goal.returns
returns c =
    let small = All-from_get_or IsByte c.args.bytes.now 0 (λ i within. omega (arith, c.type_inv.bytes i)) in
    rw (c.in_ok-append_to.ensures.ok, c.new-word.ensures.bytes, c.percent_encode.ensures.text)
    (percent_encode-printed_word _ small)
