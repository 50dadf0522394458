use Rattle.std.proofs.Common.{None, ap}
use Rattle.tm_index.proofs.Numbering.{set_in_map, set_nowhere}
use Rattle.tm_index.proofs.names.remove_number.Goals as goal

pub returns-in-Some : goal.returns-in-Some
returns-in-Some c = set_in_map c.args.parent c.args.name.now None c.in-Some.named.now c.remove.new.self c.args.folders.now.entries _ c.in-Some.ensures.value
    (record { at = λ q. c.remove.ensures.updates.0 q })
    (λ there q. ((c.get_mut.follows.holds c.remove.new.self).3 there).0 q)

pub returns-in_default : goal.returns-in_default
returns-in_default c = let h = c.in_default.ensures.value in set_nowhere c.args.parent c.args.name.now c.args.folders.now.entries _ h (ap (λ x. x.entries) c.get_mut.follows.holds-at-none)
