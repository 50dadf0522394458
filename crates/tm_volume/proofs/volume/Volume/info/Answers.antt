use Rattle.std.proofs.Common.{cond, subst}
use Rattle.tm_volume.specs.Seen.{Seen, IsKept}
use Rattle.tm_volume.proofs.volume.Volume.info.Goals as goal

pub returns-clause-kept : goal.returns-clause-kept
returns-clause-kept c =
    let i = c.self.invariant in
    let m : Seen = record { image = c.self.inside.image; head = c.self.inside.head; fixed = c.self.inside.fixed; tag = record { clean = cond c.self.inside.clean 1 0; generation = c.self.inside.generation; next = c.self.inside.next }; looks = c.self.inside.looks } in
    let kept : IsKept m = record { image = c.total.ensures.sound; side = i.side; tag_is = i.tag_is; tagged = i.tagged; head_is = i.head_is; sound = i.sound; lengths = i.lengths } in
    subst IsKept c.self.view_is kept
