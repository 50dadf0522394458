use Rattle.std.proofs.Common.{ℕ, List, subst}
use Rattle.tm_index.specs.Folders.{numbers_in}
use Rattle.tm_changes.specs.Depths.{AreBelow}
use Rattle.tm_changes.proofs.Deepening.{level_next}
use Rattle.tm_changes.proofs.moving.reaches.Goals as goal

pub loop-step-preserved : goal.loop-step-preserved
loop-step-preserved c =
    let numbers = numbers_in c.args.numbers.now in
    level_next numbers c.args.number c.loop-step._step c.loop-step.level.items c.in_ok-level-2.level.items c.loop-step.invariant
    (subst (λ (level : List ℕ). AreBelow numbers level c.in_ok-level-2.level.items) c.as_slice.ensures.value c.in_ok-level-2.ensures)
