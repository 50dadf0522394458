use Rattle.std.proofs.Common.{◌∙◌, ap, sym}
use Rattle.tm_store.specs.Finding.{snapshot_dated}
use Rattle.tm_base.proofs.Facts.{last_is}
use Rattle.tm_store.proofs.finding.pick.Goals as goal

pub returns-in-None : goal.returns-in-None
returns-in-None c = c.last.ensures.value ∙ last_is c.args.snapshots.now ∙ ap (λ at. snapshot_dated c.args.snapshots.now at) (sym c.in-None.is)
