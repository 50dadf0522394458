use Rattle.std.proofs.Common.{◌≡◌, ℕ, Some, List}
use Rattle.std.specs.Ordering.{nat_cmp}
use Rattle.std.specs.BTreeMap.{get}
use Rattle.tm_graph.specs.Nodes.{Nodes}
use Rattle.tm_store_records.specs.Located.{Comes, DoneIn, LocationsTell, AreEntriesAt}
use Rattle.tm_store_records.proofs.locations.Locations.pass_entries.Given as goal

abbrev pub invariant-loop-child : goal.invariant-loop-child
invariant-loop-child l = record {
  here : get nat_cmp l.self.locations l.number ≡ Some l.location;
  tell : (g : Nodes) (roots : List ℕ) (place : ℕ) → AreEntriesAt g place l.number l.children → LocationsTell g roots (Comes g roots (DoneIn g place 0)) l.fn.self → LocationsTell g roots (Comes g roots (DoneIn g place l.child-index)) l.self;
}
