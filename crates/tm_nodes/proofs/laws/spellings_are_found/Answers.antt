use Rattle.tm_nodes.proofs.Formats.{finds_spelled}
use Rattle.tm_nodes.proofs.ItemLemmas.{item_finds}
use Rattle.tm_nodes.proofs.NodeLemmas.{node_finds}
use Rattle.tm_nodes.proofs.HeadLemmas.{volume_finds, machine_finds, snapshot_finds}
use Rattle.tm_nodes.proofs.RowLemmas.{paths_finds, rows_finds}
use Rattle.tm_nodes.proofs.laws.spellings_are_found.Goals as goal

pub returns : goal.returns
returns c = record {
  items = λ size. finds_spelled (item_finds size);
  nodes = λ size. finds_spelled (node_finds size);
  volumes = finds_spelled volume_finds;
  machines = finds_spelled machine_finds;
  snapshots = finds_spelled snapshot_finds;
  paths = finds_spelled paths_finds;
  rows = finds_spelled rows_finds;
}
