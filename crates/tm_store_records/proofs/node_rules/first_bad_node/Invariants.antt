use Rattle.std.specs.BTreeSet.{contains}
use Rattle.tm_store_records.specs.Found.{roots_of}
use Rattle.tm_store_records.specs.Drafts.{pair_cmp}
use Rattle.tm_store_records.proofs.Walking.{locations_of}
use Rattle.tm_store_records.proofs.Ruling.{KeptSoFar}
use Rattle.tm_store_records.proofs.node_rules.first_bad_node.Given as goal

abbrev pub invariant-loop-place : goal.invariant-loop-place
invariant-loop-place l = KeptSoFar l.nodes (roots_of l.snapshots) l.number (locations_of l.locations) (λ q. contains pair_cmp l.seen q) l.place
