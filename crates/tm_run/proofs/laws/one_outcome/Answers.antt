use Rattle.tm_run.proofs.OutcomeLemmas.{one_outcome, one_start, starts_run}
use Rattle.tm_run.proofs.laws.one_outcome.Goals as goal

pub returns-clause-one : goal.returns-clause-one
returns-clause-one c words outside small a b x y first second =
    one_outcome c.one_meaning.ensures c.bad_is_outside.ensures c.one_first_bad_line.ensures words outside
    (record {
      volume_is_one = c.sides_read_as_one.ensures;
      volume_fails = c.volume_fails_once.ensures.failure;
      volume_whole = c.volume_fails_once.ensures.whole;
      store_is_one = c.sides_read_as_one-2.ensures;
      store_fails = c.store_fails_once.ensures.failure;
      store_whole = c.store_fails_once.ensures.whole;
    }) small a b x y first second

pub returns-clause-start : goal.returns-clause-start
returns-clause-start c words outside = one_start c.one_meaning.ensures c.bad_is_outside.ensures c.one_first_bad_line.ensures words outside

pub returns-clause-run : goal.returns-clause-run
returns-clause-run c words outside = starts_run c.one_meaning.ensures c.bad_is_outside.ensures c.one_first_bad_line.ensures words outside
