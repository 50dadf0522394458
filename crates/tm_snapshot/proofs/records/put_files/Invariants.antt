use Rattle.std.proofs.Common.{◌≡◌, ◌++◌, true, is_some}
use Rattle.std.specs.List.{All}
use Rattle.std.specs.Vec.Iter.{into_iter_items}
use Rattle.tm_graph.specs.Nodes.{node}
use Rattle.tm_snapshot.specs.Puts.{file_puts}
use Rattle.tm_snapshot.proofs.records.put_files.Given as goal

abbrev pub invariant-loop-number : goal.invariant-loop-number
invariant-loop-number l = record {
  there : All (λ b. is_some (node l.graph b.0) ≡ true) (into_iter_items l.number-iterator);
  all : l.puts.items ++ file_puts l.graph (into_iter_items l.number-iterator) ≡ l.fn.puts.items ++ file_puts l.graph l.fn.blobs;
}
