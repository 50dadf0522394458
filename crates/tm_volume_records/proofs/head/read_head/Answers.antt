use Rattle.std.proofs.Common.{inl, inr, arith}
use Rattle.tm_nodes.specs.declared.volume.VolumeHead.{VolumeHead}
use Rattle.tm_nodes.specs.Records.{volume_of}
use Rattle.tm_volume_records.specs.Records.{head_key}
use Rattle.tm_volume_records.proofs.Heading.{bad_at, tells_none, no_record, no_meta, no_capacity}
use Rattle.tm_volume_records.proofs.head.read_head.Goals.{then-head-lt1-via-then-head-lt1, then-head-lt1-via-else-head-lt1+then-from-gt-MAX_EVENTS}
use Rattle.tm_volume_records.proofs.head.read_head.Goals as goal

pub returns-in_default-clause-bad : goal.returns-in_default-clause-bad
returns-in_default-clause-bad c = λ bytes. bad_at VolumeHead c.bad_record.result head_key _ c.bad_record.ensures (no_record bytes c.args.image.now.records c.in_default.ensures.none)

pub returns-then-head-lt1-clause-bad : goal.returns-then-head-lt1-clause-bad
returns-then-head-lt1-clause-bad c = λ bytes. bad_at VolumeHead c.bad_record-then-head-lt1.result head_key _ c.bad_record-then-head-lt1.ensures
    (no_capacity bytes c.args.image.now.records c.in-Some.meta.now c.in-Ok.head c.in-Some.ensures.some c.in-Ok.ensures.told
    (elim c.then-head-lt1.branch [ then-head-lt1-via-then-head-lt1 w ↦ inl w.if-head-lt1.true | then-head-lt1-via-else-head-lt1+then-from-gt-MAX_EVENTS w ↦ inr (omega (arith, w.if-from-gt-MAX_EVENTS.true, w.from.ensures)) ]))

pub returns-in-Err-BadNode-clause-bad : goal.returns-in-Err-BadNode-clause-bad
returns-in-Err-BadNode-clause-bad c = λ bytes. bad_at VolumeHead c.bad_record-in-Err-BadNode.result head_key _ c.bad_record-in-Err-BadNode.ensures
    (no_meta bytes c.args.image.now.records c.in-Some.meta.now c.in-Some.ensures.some (tells_none 1 c.in-Err-BadNode.field-0-0 c.in-Err-BadNode.field-0 (volume_of c.in-Some.meta.now) c.in-Err-BadNode.field-0-is c.in-Err-BadNode.ensures.told))
