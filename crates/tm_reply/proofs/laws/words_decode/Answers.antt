use Rattle.tm_reply.proofs.EscapeLemmas.{percent_decode-printed_word}
use Rattle.tm_reply.proofs.laws.words_decode.Goals as goal

pub returns : goal.returns
returns c = λ bytes small. percent_decode-printed_word bytes small
