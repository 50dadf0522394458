use Rattle.tm_nodes.proofs.Formats.{is_read_again}
use Rattle.tm_nodes.proofs.ItemLemmas.{item_finds}
use Rattle.tm_nodes.proofs.NodeLemmas.{node_finds}
use Rattle.tm_nodes.proofs.HeadLemmas.{volume_finds, machine_finds, snapshot_finds}
use Rattle.tm_nodes.proofs.RowLemmas.{paths_finds, rows_finds}
use Rattle.tm_nodes.proofs.laws.spellings_are_read_again.Goals as goal

pub returns : goal.returns
returns c = record {
  items = λ size. is_read_again (item_finds size);
  nodes = λ size. is_read_again (node_finds size);
  volumes = is_read_again volume_finds;
  machines = is_read_again machine_finds;
  snapshots = is_read_again snapshot_finds;
  paths = is_read_again paths_finds;
  rows = is_read_again rows_finds;
}
