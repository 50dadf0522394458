use Rattle.std.proofs.Common.{◌≡◌, ◌==◌, ℕ, take}
use Rattle.std.specs.List.{list_any}
use Rattle.std.specs.Ordering.{nat_cmp}
use Rattle.std.specs.BTreeSet.{contains}
use Rattle.tm_snapshot.specs.Puts.{built_blocks}
use Rattle.tm_snapshot.proofs.staged.built_set.Given as goal

abbrev pub invariant-loop-blob : goal.invariant-loop-blob
invariant-loop-blob l = (b : ℕ) → contains nat_cmp l.set b ≡ list_any (λ x. x == b) (built_blocks (take l.blob-index l.blobs))
