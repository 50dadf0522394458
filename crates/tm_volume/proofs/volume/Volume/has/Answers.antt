use Rattle.std.proofs.Common.{sym}
use Rattle.tm_volume.specs.Seen.{items_on, tree_on}
use Rattle.tm_volume.proofs.Finding.{on_shelf, are_on}
use Rattle.tm_volume.proofs.Counting.{nothing_at}
use Rattle.tm_volume.proofs.volume.Volume.has.Goals as goal

pub returns-in-Err : goal.returns-in-Err
returns-in-Err c = λ bytes.
    sym (nothing_at (items_on c.args.self.now bytes) (tree_on c.args.self.now bytes) c.args.path.now c.in-Err.field-0
    (are_on c.args.self.now _ (on_shelf _ c.args.self.now _ c.self.view_is c.self.invariant c.total.ensures.sound) bytes) (c.in-Err.ensures.refused bytes))
