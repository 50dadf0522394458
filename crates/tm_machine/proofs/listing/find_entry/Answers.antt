use Rattle.std.proofs.Common.{subst}
use Rattle.tm_base.specs.Paths.{Names}
use Rattle.tm_tree.specs.Walks.{walk}
use Rattle.tm_volume.specs.Answers.{FindsRow}
use Rattle.tm_volume.specs.Seen.{tree_on}
use Rattle.tm_machine.proofs.listing.find_entry.Goals as goal

pub returns-in-Ok : goal.returns-in-Ok
returns-in-Ok c bytes =
    subst (λ (p : Names). FindsRow (walk (tree_on c.args.volume.now bytes) p) c.find.result) c.in-Ok.ensures.value (c.find.ensures bytes)
