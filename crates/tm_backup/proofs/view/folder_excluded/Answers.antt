use Rattle.tm_volume.specs.Seen.{tree_on}
use Rattle.tm_backup.proofs.Viewing.{found_excluded}
use Rattle.tm_backup.proofs.view.folder_excluded.Goals as goal

pub returns-clause-excluded : goal.returns-clause-excluded
returns-clause-excluded c = λ bytes.
    let t = tree_on c.args.volume.now bytes in
    rw c.body_excluded.ensures (found_excluded t c.args.place.now c.in-Ok.row (c.in-Ok.ensures bytes))
