use Rattle.tm_nodes.specs.Reading.{name_at}
use Rattle.tm_nodes.specs.Records.{machine_of}
use Rattle.tm_nodes.specs.Readers.{whole}
use Rattle.tm_nodes.proofs.Formats.{answer_is, answer_bad}
use Rattle.tm_nodes.proofs.HeadLemmas.{machine_finds}
use Rattle.tm_nodes.proofs.machine.read_machine.Goals as goal

pub returns-clause-told : goal.returns-clause-told
unfolding machine_of whole
returns-clause-told c = c.alone.ensures (name_at c.args.meta.now) c.take_name.ensures

pub returns-clause-machine : goal.returns-clause-machine
unfolding machine_of whole
returns-clause-machine c = answer_is machine_finds 1 c.args.meta.now c.alone.result (c.alone.ensures (name_at c.args.meta.now) c.take_name.ensures)

pub returns-clause-bad : goal.returns-clause-bad
unfolding machine_of whole
returns-clause-bad c = answer_bad machine_finds 1 c.args.meta.now c.alone.result (c.alone.ensures (name_at c.args.meta.now) c.take_name.ensures)
