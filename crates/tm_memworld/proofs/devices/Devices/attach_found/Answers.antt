use Rattle.std.proofs.Common.{Some}
use Rattle.tm_memworld.specs.Contents.{with_attached}
use Rattle.tm_memworld.specs.Devices.{contents_of}
use Rattle.tm_memworld.proofs.Attaching.{found_steps}
use Rattle.tm_memworld.proofs.AtSide.{Steps-as}
use Rattle.tm_memworld.proofs.devices.Devices.attach_found.Goals as goal

pub returns-clause-steps : goal.returns-clause-steps
returns-clause-steps c =
    let d = c.args.self.now in
    Steps-as c.attach_at.new.self d.began (with_attached c.args.side (Some c.args.i) (contents_of d)) _ _ c.attach_at.ensures.contents c.attach_at.ensures.began
    (found_steps (contents_of d) d.began d.changes.items c.attach_at.new.self.changes.items d.begun c.args.side c.args.i c.attach_at.ensures.changes)
