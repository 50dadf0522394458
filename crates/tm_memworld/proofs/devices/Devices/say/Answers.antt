use Rattle.std.proofs.Common.{rules}
use Rattle.tm_memworld.specs.Devices.{contents_of}
use Rattle.tm_memworld.proofs.Going.{say_steps}
use Rattle.tm_memworld.proofs.devices.Devices.say.Goals as goal

pub returns-clause-steps : goal.returns-clause-steps
returns-clause-steps c =
    let d = c.args.self.now in
    say_steps (contents_of d) d.began d.changes.items c.push-noted.new.self.items d.begun c.args.bytes.now c.extend_from_slice-spoken.new.self.items (search rules) (search rules)
