use Rattle.tm_nodes.specs.Reading.{node_at}
use Rattle.tm_nodes.specs.Records.{node_of}
use Rattle.tm_nodes.specs.Readers.{whole}
use Rattle.tm_nodes.proofs.Formats.{answer_is}
use Rattle.tm_nodes.proofs.NodeLemmas.{node_finds, node_bad}
use Rattle.tm_nodes.proofs.node.read_node.Goals as goal

pub returns-clause-told : goal.returns-clause-told
unfolding node_of whole
returns-clause-told c = c.alone.ensures (node_at c.args.length c.args.meta.now) c.take_node.ensures

pub returns-clause-row : goal.returns-clause-row
unfolding node_of whole
returns-clause-row c = answer_is (node_finds c.args.length) c.args.key c.args.meta.now c.alone.result (c.alone.ensures (node_at c.args.length c.args.meta.now) c.take_node.ensures)

pub returns-clause-bad : goal.returns-clause-bad
unfolding node_of whole
returns-clause-bad c = node_bad c.args.key c.args.meta.now c.args.length c.alone.result (c.alone.ensures (node_at c.args.length c.args.meta.now) c.take_node.ensures)
