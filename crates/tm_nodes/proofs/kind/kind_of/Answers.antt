use Rattle.std.proofs.Common.{arith}
use Rattle.tm_nodes.proofs.KindLemmas.{kind_from_byte, kind_from_none}
use Rattle.tm_nodes.proofs.kind.kind_of.Goals as goal

pub returns-in-Ok : goal.returns-in-Ok
returns-in-Ok c =
    let told = kind_from_byte c.args.meta.now c.in-Ok.number c.kind_from.result (omega arith) c.in-Ok.ensures.stands c.kind_from.ensures in
    record { stands = told.stands; none = told.none; item = told.item; node = told.node }

pub returns-in-Err : goal.returns-in-Err
returns-in-Err c =
    let told = kind_from_none c.args.meta.now c.in-Err.ensures.short.0 in
    record { stands = told.stands; none = told.none; item = told.item; node = told.node }
