use Rattle.tm_thin.proofs.StayingLemmas.{buckets_keep_one}
use Rattle.tm_thin.proofs.laws.buckets_keep_one.Goals as goal

pub returns : goal.returns
returns c = buckets_keep_one
