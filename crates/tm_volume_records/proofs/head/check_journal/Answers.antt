use Rattle.std.proofs.Common.{length}
use Rattle.std.specs.Option.{IfSome}
use Rattle.tm_image.specs.Reads.{entry_of, entries_of}
use Rattle.tm_records.specs.declared.record.Record.{Record}
use Rattle.tm_records.specs.Records.{at}
use Rattle.tm_world.specs.Outside.{disk}
use Rattle.tm_world.specs.Log.{now}
use Rattle.tm_world.specs.declared.world.Side.TheVariants.{Volume as OfVolume}
use Rattle.tm_volume_records.specs.Loads.{AreRows}
use Rattle.tm_volume_records.specs.Records.{journal_key}
use Rattle.tm_volume_records.specs.Rules.{HasJournal}
use Rattle.tm_volume_records.proofs.Heading.{bad_at, bad_for, ok_for, is_zero, is_some, none_rec, some_rec, no_journal, not_clean, has_meta, empty_rec, rows_kept, rows_broken}
use Rattle.tm_volume_records.proofs.head.check_journal.Goals as goal

pub returns-then-clean-clause-bad : goal.returns-then-clean-clause-bad
returns-then-clean-clause-bad g c told head generation has same = bad_at (Unit {0}) c.bad_record.result journal_key _ c.bad_record.ensures (no_journal (disk OfVolume (now (g.W.World.log c.args.world.now))).bytes c.args.image.now.records c.args.clean generation c.args.next c.in_default.ensures.none c.if-clean.true)

pub returns-in_default-clause-kept : goal.returns-in_default-clause-kept
returns-in_default-clause-kept g c told head generation has same = not_clean (disk OfVolume (now (g.W.World.log c.args.world.now))).bytes c.args.image.now.records c.args.clean generation c.args.next (none_rec c.args.image.now.records c.in_default.ensures.none) c.if-clean.false

pub returns-then-not-is_empty-clause-bad : goal.returns-then-not-is_empty-clause-bad
returns-then-not-is_empty-clause-bad g c told head generation has same = bad_at (Unit {0}) c.bad_record-then-not-is_empty.result journal_key _ c.bad_record-then-not-is_empty.ensures
    (has_meta (disk OfVolume (now (g.W.World.log c.args.world.now))).bytes c.args.image.now.records c.args.clean generation c.args.next c.in-Some.meta.now c.in-Some.ensures.some (is_some (length c.in-Some.meta.now) c.if-not-is_empty.ensures))

pub returns-then-not-clean-clause-kept : goal.returns-then-not-clean-clause-kept
returns-then-not-clean-clause-kept g c told head generation has same = not_clean (disk OfVolume (now (g.W.World.log c.args.world.now))).bytes c.args.image.now.records c.args.clean generation c.args.next
    (empty_rec (disk OfVolume (now (g.W.World.log c.args.world.now))).bytes c.args.image.now.records c.args.clean generation c.args.next c.in-Some.meta.now c.in-Some.ensures.some (is_zero (length c.in-Some.meta.now) c.if-not-is_empty.ensures)) c.if-not-clean.true

pub returns-clause-kept : goal.returns-clause-kept
returns-clause-kept g c told head generation has same =
    let bytes = (disk OfVolume (now (g.W.World.log c.args.world.now))).bytes in
    ok_for c.check_rows.result (IfSome (at journal_key c.args.image.now.records) (λ (r : Record). AreRows c.args.capacity c.args.next (entry_of bytes r).bytes)) (HasJournal (entries_of bytes c.args.image.now.records) _)
    (rows_kept (disk OfVolume (now (g.W.World.log c.args.world.now))).bytes c.args.image.now.records c.args.clean generation c.args.next head has c.args.capacity same (some_rec c.args.image.now.records c.in-Some.meta.now c.in-Some.ensures.some)
    (empty_rec (disk OfVolume (now (g.W.World.log c.args.world.now))).bytes c.args.image.now.records c.args.clean generation c.args.next c.in-Some.meta.now c.in-Some.ensures.some (is_zero (length c.in-Some.meta.now) c.if-not-is_empty.ensures)))
    (c.check_rows.ensures.rows told)

pub returns-clause-bad : goal.returns-clause-bad
returns-clause-bad g c told head generation has same =
    let bytes = (disk OfVolume (now (g.W.World.log c.args.world.now))).bytes in
    bad_for c.check_rows.result journal_key (IfSome (at journal_key c.args.image.now.records) (λ (r : Record). ¬ AreRows c.args.capacity c.args.next (entry_of bytes r).bytes)) (¬ HasJournal (entries_of bytes c.args.image.now.records) _)
    (rows_broken (disk OfVolume (now (g.W.World.log c.args.world.now))).bytes c.args.image.now.records c.args.clean generation c.args.next head has c.args.capacity same c.if-not-clean.false (some_rec c.args.image.now.records c.in-Some.meta.now c.in-Some.ensures.some))
    (c.check_rows.ensures.bad told)
