use Rattle.tm_run.proofs.laws.bad_is_shut.Goals as goal

pub returns : goal.returns
returns c = record {
  volume = λ v why place many few fails can. can.unspent (c.volume_fails_once.ensures.whole v can.volume why place many few can.reads fails).1;
  store = λ z why place many few fails can. c.store_fails_once.ensures.whole z can.store why place many few can.reads fails;
}
