use Rattle.std.proofs.Common.{refl, rules}
use Rattle.tm_memworld.specs.Devices.{contents_of}
use Rattle.tm_memworld.proofs.Going.{take_steps}
use Rattle.tm_memworld.proofs.devices.Devices.take.Goals as goal

pub returns-clause-steps : goal.returns-clause-steps
returns-clause-steps c =
    let d = c.args.self.now in
    take_steps (contents_of d) d.began d.changes.items c.push-noted.new.self.items d.begun c.min-count.result _ refl (search rules)
