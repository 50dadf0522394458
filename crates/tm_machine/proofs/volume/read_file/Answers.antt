use Rattle.std.proofs.Common.{arith, length, ap, ◌∙◌}
use Rattle.tm_world.specs.Log.{now}
use Rattle.tm_world.specs.Outside.{disk}
use Rattle.tm_world.specs.declared.world.Side.TheVariants.{Volume as VolumeSide}
use Rattle.tm_tree.specs.Trees.{item_at}
use Rattle.tm_volume.specs.Seen.{tree_on}
use Rattle.tm_machine.proofs.ListingLemmas.{filled, file_bytes}
use Rattle.tm_machine.proofs.volume.read_file.Goals as goal

pub read_part-requires-clause-file : goal.read_part-requires-clause-file
read_part-requires-clause-file g c bytes =
    let f = c.requires.file bytes in
    (f.0, f.1, f.2, omega (arith, f.3, c.as_mut_slice.ensures.len, c.in_ok-resize.ensures.len))

pub returns-in-Ok-clause-bytes : goal.returns-in-Ok-clause-bytes
returns-in-Ok-clause-bytes g c told =
    let bytes = (disk VolumeSide (now (g.W.World.log c.args.world.now))).bytes in
    let f = c.requires.file bytes in
    file_bytes (item_at (tree_on c.args.volume.now bytes) c.args.path.now) f.0 c.read_part.new.into c.of.result (length c.as_mut_slice.result.now) c.args.size f.1 f.3
    (omega (arith, c.as_mut_slice.ensures.len, c.in_ok-resize.ensures.len)) (c.in-Ok.ensures.bytes told) (c.of.ensures ∙ filled c.read_part.new.into c.resize.new.self.items c.resize.new.self.len (c.read_part.auto.into ∙ ap length c.as_mut_slice.ensures.value) (omega (arith, c.resize.new.self.ok.0)))
