use Rattle.std.proofs.Common.{◌≡◌, ◌++◌, ◌≤◌, take, length}
use Rattle.std.specs.Vec.Iter.{into_iter_items}
use Rattle.tm_graph.specs.Growing.{unlinked}
use Rattle.tm_graph.proofs.grow.put_all.Given as goal

abbrev pub invariant-loop-number : goal.invariant-loop-number
invariant-loop-number l = record {
  first : l.count ≤ length l.nodes.entries;
  kept : take l.count l.nodes.entries ≡ l.fn.nodes.entries;
  all : l.nodes.entries ++ unlinked (into_iter_items l.number-iterator) ≡ l.fn.nodes.entries ++ unlinked l.fn.new.items;
}
