use Rattle.std.proofs.Common.{◌==◌}
use Rattle.std.specs.List.{list_any}
use Rattle.std.specs.Ordering.{nat_cmp}
use Rattle.std.specs.BTreeSet.{contains}
use Rattle.tm_snapshot.specs.Puts.{built_blocks}
use Rattle.tm_snapshot.proofs.Leaving.{filter_more}
use Rattle.tm_snapshot.proofs.staged.leftover.Goals as goal

pub loop-block-preserved : goal.loop-block-preserved
loop-block-preserved c = filter_more (λ b. contains nat_cmp c.in_ok-built.built b) (λ b. list_any (λ x. x == b) (built_blocks c.args.blobs.now)) c.in_ok-built.ensures
    c.args.staged.now c.loop-block.left.items c.keep_other.new.left.items c.loop-block.block-index c.loop-block-test.true c.loop-block.invariant c.in_ok-keep_other.ensures
