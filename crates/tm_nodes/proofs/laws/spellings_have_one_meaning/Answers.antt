use Rattle.tm_nodes.proofs.Formats.{has_one_meaning}
use Rattle.tm_nodes.proofs.ItemLemmas.{item_finds}
use Rattle.tm_nodes.proofs.NodeLemmas.{node_finds}
use Rattle.tm_nodes.proofs.HeadLemmas.{volume_finds, machine_finds, snapshot_finds}
use Rattle.tm_nodes.proofs.RowLemmas.{paths_finds, rows_finds}
use Rattle.tm_nodes.proofs.laws.spellings_have_one_meaning.Goals as goal

pub returns : goal.returns
returns c = record {
  items = λ size. has_one_meaning (item_finds size);
  nodes = λ size. has_one_meaning (node_finds size);
  volumes = has_one_meaning volume_finds;
  machines = has_one_meaning machine_finds;
  snapshots = has_one_meaning snapshot_finds;
  paths = has_one_meaning paths_finds;
  rows = has_one_meaning rows_finds;
}
