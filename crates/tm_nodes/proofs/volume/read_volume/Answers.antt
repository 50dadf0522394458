use Rattle.tm_nodes.specs.Reading.{volume_at}
use Rattle.tm_nodes.specs.Records.{volume_of}
use Rattle.tm_nodes.specs.Readers.{whole}
use Rattle.tm_nodes.proofs.Formats.{answer_is, answer_bad}
use Rattle.tm_nodes.proofs.HeadLemmas.{volume_finds}
use Rattle.tm_nodes.proofs.volume.read_volume.Goals as goal

pub returns-clause-told : goal.returns-clause-told
unfolding volume_of whole
returns-clause-told c = c.alone.ensures (volume_at c.args.meta.now) c.take_volume.ensures

pub returns-clause-head : goal.returns-clause-head
unfolding volume_of whole
returns-clause-head c = answer_is volume_finds 1 c.args.meta.now c.alone.result (c.alone.ensures (volume_at c.args.meta.now) c.take_volume.ensures)

pub returns-clause-bad : goal.returns-clause-bad
unfolding volume_of whole
returns-clause-bad c = answer_bad volume_finds 1 c.args.meta.now c.alone.result (c.alone.ensures (volume_at c.args.meta.now) c.take_volume.ensures)
