use Rattle.std.proofs.Common.{arith}
use Rattle.std.proofs.lemmas.Grind.{common_steps}
use Rattle.tm_text.specs.Words.{IsMode}
use Rattle.tm_text.proofs.WordLemmas.{mode_small, utf8_from_octal}
use Rattle.tm_text.proofs.words.mode.Goals as goal

pub returns-in-Err-from_str_radix : goal.returns-in-Err-from_str_radix
unfolding IsMode
returns-in-Err-from_str_radix c = λ n is. let small = mode_small _ n is in grind (arith, common_steps)

pub returns-in-Err : goal.returns-in-Err
unfolding IsMode
returns-in-Err c = λ n is. c.in-Err.ensures.cases.0 (utf8_from_octal _ is.0.1)
