use Rattle.std.proofs.Common.{sym, ◌∙◌, ap}
use Rattle.tm_nodes.specs.Records.{paths_of}
use Rattle.tm_volume_records.specs.declared.fixed.FixedPaths.{FixedPaths}
use Rattle.tm_world.specs.Outside.{disk}
use Rattle.tm_world.specs.Log.{now}
use Rattle.tm_world.specs.declared.world.Side.TheVariants.{Volume as OfVolume}
use Rattle.tm_volume_records.specs.Records.{head_key}
use Rattle.tm_volume_records.proofs.Heading.{bad_at, tells_none, no_paths, fixed_is}
use Rattle.tm_volume_records.proofs.head.read_fixed.Goals as goal

pub returns-in-Ok-clause-fixed : goal.returns-in-Ok-clause-fixed
returns-in-Ok-clause-fixed g c told =
    let bytes = (disk OfVolume (now (g.W.World.log c.args.world.now))).bytes in
    fixed_is bytes c.args.image.now.records c.in_ok-bytes.bytes.items c.in-Ok.fixed c.requires.there (c.in_ok-bytes.ensures.bytes told)
    (ap paths_of (sym c.deref.ensures.value) ∙ c.in-Ok.ensures.told)

pub returns-in-Err-BadNode-clause-bad : goal.returns-in-Err-BadNode-clause-bad
returns-in-Err-BadNode-clause-bad g c told =
    let bytes = (disk OfVolume (now (g.W.World.log c.args.world.now))).bytes in
    bad_at FixedPaths c.bad_record.result head_key _ c.bad_record.ensures
    (no_paths bytes c.args.image.now.records c.in_ok-bytes.bytes.items (c.in_ok-bytes.ensures.bytes told)
    (ap paths_of (sym c.deref.ensures.value) ∙ tells_none 1 c.in-Err-BadNode.field-0-0 c.in-Err-BadNode.field-0 (paths_of c.deref.result.now) c.in-Err-BadNode.field-0-is c.in-Err-BadNode.ensures.told))
