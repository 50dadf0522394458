use Rattle.std.proofs.Common.{rules, subst}
use Rattle.std.specs.Io.KnownBytes.{Consumes}
use Rattle.std.proofs.KnownBytes.{Consumes-trans}
use Rattle.tm_fileworld.proofs.StreamLemmas.{front_grows}
use Rattle.tm_fileworld.proofs.streams.read_all.Goals as goal

pub loop-filled-preserved : goal.loop-filled-preserved
loop-filled-preserved g c =
    let grown = front_grows c.loop-filled.filled _ c.in_ok-count.count c.loop-filled.into c.read_some.new.into c.loop-filled.invariant.1 c.in_ok-count.ensures.within in
    (search rules, search rules, subst (Consumes _ _) grown (Consumes-trans _ _ _ _ _ c.loop-filled.invariant.2 c.in_ok-count.ensures.bytes))
