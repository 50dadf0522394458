use Rattle.std.proofs.Common.{arith, length, ap, ◌∙◌}
use Rattle.tm_world.specs.Log.{now}
use Rattle.tm_world.specs.Outside.{disk}
use Rattle.tm_world.specs.declared.world.Side.TheVariants.{Store as StoreSide}
use Rattle.tm_machine.proofs.ListingLemmas.{filled}
use Rattle.tm_machine.proofs.StoredLemmas.{whole_file}
use Rattle.tm_machine.proofs.stored.read_stored.Goals as goal

pub returns-in-Ok-clause-bytes : goal.returns-in-Ok-clause-bytes
returns-in-Ok-clause-bytes g c told =
    whole_file c.held_files.ensures c.args.store.now (disk StoreSide (now (g.W.World.log c.args.world.now))).bytes c.args.number c.args.size c.read_file.new.into c.of.result (length c.as_mut_slice.result.now)
    c.requires.whole c.requires.there c.requires.size (omega (arith, c.as_mut_slice.ensures.len, c.in_ok-resize.ensures.len)) (c.in-Ok.ensures.bytes told)
    (c.of.ensures ∙ filled c.read_file.new.into c.resize.new.self.items c.resize.new.self.len (c.read_file.auto.into ∙ ap length c.as_mut_slice.ensures.value) (omega (arith, c.resize.new.self.ok.0)))
