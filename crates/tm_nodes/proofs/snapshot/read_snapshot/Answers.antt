use Rattle.tm_nodes.specs.Reading.{snapshot_at}
use Rattle.tm_nodes.specs.Records.{snapshot_of}
use Rattle.tm_nodes.specs.Readers.{whole}
use Rattle.tm_nodes.proofs.Formats.{answer_is, answer_bad}
use Rattle.tm_nodes.proofs.HeadLemmas.{snapshot_finds}
use Rattle.tm_nodes.proofs.snapshot.read_snapshot.Goals as goal

pub returns-clause-told : goal.returns-clause-told
unfolding snapshot_of whole
returns-clause-told c = c.alone.ensures (snapshot_at c.args.meta.now) c.take_snapshot.ensures

pub returns-clause-row : goal.returns-clause-row
unfolding snapshot_of whole
returns-clause-row c = answer_is snapshot_finds c.args.key c.args.meta.now c.alone.result (c.alone.ensures (snapshot_at c.args.meta.now) c.take_snapshot.ensures)

pub returns-clause-bad : goal.returns-clause-bad
unfolding snapshot_of whole
returns-clause-bad c = answer_bad snapshot_finds c.args.key c.args.meta.now c.alone.result (c.alone.ensures (snapshot_at c.args.meta.now) c.take_snapshot.ensures)
