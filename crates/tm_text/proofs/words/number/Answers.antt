use Rattle.std.proofs.lemmas.Fmt.{IsAscii-from_digits}
use Rattle.std.proofs.lemmas.Str.{IsUtf8-from_ascii}
use Rattle.tm_text.specs.Words.{IsNumber}
use Rattle.tm_text.proofs.words.number.Goals as goal

pub returns-in-Err : goal.returns-in-Err
unfolding IsNumber
returns-in-Err c = λ n is. c.in-Err.ensures.cases.0 (IsUtf8-from_ascii _ (IsAscii-from_digits _ is.0.1))
