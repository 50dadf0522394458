use Rattle.tm_chain.proofs.Ways.{one_chain, chain_or_break, one_break}
use Rattle.tm_chain.proofs.laws.chains_are_one.Goals as goal

pub returns : goal.returns
returns c = record { chain = one_chain; either = chain_or_break; place = one_break }
