use Rattle.std.proofs.Common.{◌≡◌, ◌<◌, Some, length, subst, rules, arith}
use Rattle.tm_memworld.specs.Script.{text_at, scripts_in}
use Rattle.tm_memworld.specs.Devices.{contents_of}
use Rattle.tm_memworld.proofs.Attaching.{script_steps}
use Rattle.tm_memworld.proofs.devices.Devices.attach_script.Goals as goal

pub invariant_of-self-clause-script_in : goal.invariant_of-self-clause-script_in
invariant_of-self-clause-script_in c = λ k e.
    let within : c.in-Some.i < length c.args.self.now.scripts.items = subst (λ xs. c.in-Some.i < length xs) c.deref.ensures.value c.in-Some.ensures.within in
    let same : c.in-Some.i ≡ k = cc in
    omega arith

pub returns-clause-steps : goal.returns-clause-steps
returns-clause-steps c = λ create.
    let d = c.args.self.now in
    script_steps (contents_of d) d.began d.changes.items c.push-noted.new.self.items d.begun c.in-Some.i c.args.path.now create
    (subst (λ xs. Some (text_at xs c.in-Some.i) ≡ scripts_in xs c.args.path.now) c.deref.ensures.value c.in-Some.ensures.text) (search rules)
