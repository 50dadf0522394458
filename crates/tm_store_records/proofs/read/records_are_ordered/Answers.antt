use Rattle.tm_store_records.proofs.Ordered.{ordered}
use Rattle.tm_store_records.proofs.read.records_are_ordered.Goals as goal

pub returns : goal.returns
returns c = ordered c.spellings_are_found.ensures.nodes c.args.image.now.records c.total.ensures.sound.rising c.total.ensures.sound.keys
