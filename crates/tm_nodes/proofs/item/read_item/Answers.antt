use Rattle.tm_nodes.specs.Reading.{item_at}
use Rattle.tm_nodes.specs.Records.{item_of}
use Rattle.tm_nodes.specs.Readers.{whole}
use Rattle.tm_nodes.proofs.Formats.{answer_is}
use Rattle.tm_nodes.proofs.ItemLemmas.{item_finds, item_bad}
use Rattle.tm_nodes.proofs.item.read_item.Goals as goal

pub returns-clause-told : goal.returns-clause-told
unfolding item_of whole
returns-clause-told c = c.alone.ensures (item_at c.args.length c.args.meta.now) c.take_item.ensures

pub returns-clause-row : goal.returns-clause-row
unfolding item_of whole
returns-clause-row c = answer_is (item_finds c.args.length) c.args.key c.args.meta.now c.alone.result (c.alone.ensures (item_at c.args.length c.args.meta.now) c.take_item.ensures)

pub returns-clause-bad : goal.returns-clause-bad
unfolding item_of whole
returns-clause-bad c = item_bad c.args.key c.args.meta.now c.args.length c.alone.result (c.alone.ensures (item_at c.args.length c.args.meta.now) c.take_item.ensures)
