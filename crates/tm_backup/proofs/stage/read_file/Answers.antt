use Rattle.std.proofs.Common.{length, arith}
use Rattle.tm_tree.specs.Trees.{item_at}
use Rattle.tm_volume.specs.Seen.{tree_on}
use Rattle.tm_backup.specs.Steps.{volume_bytes}
use Rattle.tm_backup.proofs.Reading.{whole_read}
use Rattle.tm_backup.proofs.stage.read_file.Goals as goal

pub read_part-requires-clause-file : goal.read_part-requires-clause-file
read_part-requires-clause-file g c = λ bytes. let f = c.requires.file bytes in
    (f.0, f.1, f.2, omega (arith, c.as_mut_slice.ensures.len, c.in_ok-bytes.ensures.len, f.3))

pub returns-in-Ok-clause-bytes : goal.returns-in-Ok-clause-bytes
returns-in-Ok-clause-bytes g c = λ told.
    let bytes = volume_bytes (g.W.World.log c.args.world.now) in
    whole_read (item_at (tree_on c.args.volume.now bytes) c.args.place.now) c.args.size (length c.as_mut_slice.result.now) c.in_ok-bytes.bytes.len c.of.result c.read_part.new.into c.in_ok-bytes.bytes.items
    (c.requires.file bytes) (omega (arith, c.as_mut_slice.ensures.len, c.in_ok-bytes.ensures.len)) c.in_ok-bytes.ensures.len
    (omega (arith, c.read_part.auto.into, c.as_mut_slice.ensures.len, c.in_ok-bytes.ensures.len)) c.of.ensures (c.in-Ok.ensures.bytes told)
