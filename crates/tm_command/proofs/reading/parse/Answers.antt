use Rattle.std.proofs.Common.{sym, ◌≡◌, ◌∙◌}
use Rattle.tm_command.specs.declared.command.WordsError.TheVariants.{Memory, Usage}
use Rattle.tm_command.proofs.CommandLemmas.{err_is, faultless_from, matched_from, fault_from}
use Rattle.tm_command.proofs.reading.parse.Goals as goal

pub returns-in-Ok-try_get_matches_from-clause-faultless :
    goal.returns-in-Ok-try_get_matches_from-clause-faultless
returns-in-Ok-try_get_matches_from-clause-faultless c =
    faultless_from _ _ c.in-Ok.ensures c.in-Ok-try_get_matches_from.ensures.kinds

pub returns-in-Ok-try_get_matches_from-clause-matches :
    goal.returns-in-Ok-try_get_matches_from-clause-matches
returns-in-Ok-try_get_matches_from-clause-matches c =
    matched_from _ _ _ _ c.in-Ok.ensures c.in-Ok-try_get_matches_from.ensures.matches

pub returns-in-Err-try_get_matches_from-clause-usage :
    goal.returns-in-Err-try_get_matches_from-clause-usage
returns-in-Err-try_get_matches_from-clause-usage c =
    λ usage. fault_from _ _ c.in-Err-try_get_matches_from.error c.in-Ok.ensures c.in-Err-try_get_matches_from.ensures.kinds
    (λ out.
    let memory : c.words_error.result ≡ Memory = c.words_error.ensures.1 out in
    let both : Memory ≡ Usage = sym memory ∙ err_is usage in
    cc)
