use Rattle.std.proofs.Common.{◌∙◌, ◌≡◌, ◌+◌, ◌^◌, ℕ, List, cond, Err, refl, ap, subst}
use Rattle.std.proofs.lemmas.Result.{err_from_is_err_and}
use Rattle.tm_image.specs.Reads.{entries_of}
use Rattle.tm_nodes.specs.declared.volume.VolumeHead.{VolumeHead}
use Rattle.tm_records.specs.Records.{Records}
use Rattle.tm_tree.specs.declared.rows.PathList.{PathList}
use Rattle.tm_world.specs.Disk.{Disk}
use Rattle.tm_world.specs.Outside.{disk}
use Rattle.tm_world.specs.Log.{now}
use Rattle.tm_world.specs.declared.world.Side.TheVariants.{Volume as OfVolume}
use Rattle.tm_volume_records.specs.declared.check.Contents.{Contents}
use Rattle.tm_volume_records.specs.Loads.{IfBadAt}
use Rattle.tm_volume_records.specs.Rules.{Tag, HasHead, HasJournal, IsLeastBad}
use Rattle.tm_volume_records.proofs.Heading.{has_head}
use Rattle.tm_volume_records.proofs.Lengths.{own_short}
use Rattle.tm_volume_records.proofs.Passing.{key_bad, key_bad_at, bad_0, passed_1, bad_1, passed_2, bad_2, passed_3, bad_low, passed_low, bad_item, passed_all, bad_high, all_good}
use Rattle.tm_volume_records.proofs.check.check_records.Goals as goal

pub returns-in-Some-clause-bad : goal.returns-in-Some-clause-bad
returns-in-Some-clause-bad g c told generation =
    let bytes : ℕ → List ℕ = (disk OfVolume (now (g.W.World.log c.args.world.now))).bytes in
    let records : Records = c.args.image.now.records in
    let tag : Tag = record { clean = cond c.args.clean 1 0; generation = generation; next = c.args.next } in
    key_bad Contents c.bad_record.result c.in-Some.key (IsLeastBad (entries_of bytes records) tag) c.bad_record.ensures (bad_0 bytes records tag c.in-Some.key c.in-Some.ensures.some.0 c.in-Some.ensures.some.2)

pub returns-in_err-head-clause-bad : goal.returns-in_err-head-clause-bad
returns-in_err-head-clause-bad g c told generation =
    let bytes : ℕ → List ℕ = (disk OfVolume (now (g.W.World.log c.args.world.now))).bytes in
    let records : Records = c.args.image.now.records in
    let tag : Tag = record { clean = cond c.args.clean 1 0; generation = generation; next = c.args.next } in
    let p1 = passed_1 bytes records tag c.in_default.ensures.none in
    let q = err_from_is_err_and c.from_residual.result c.from_residual.ensures.1 in
    key_bad_at VolumeHead c.from_residual.result c.in_err-head.field-0.0 1 (IsLeastBad (entries_of bytes records) tag) (¬ HasHead (entries_of bytes records)) (q.1 ∙ ap Err q.2) (bad_1 bytes records tag p1) (c.in_err-head.ensures.bad bytes)

pub returns-in_err-fixed-clause-bad : goal.returns-in_err-fixed-clause-bad
returns-in_err-fixed-clause-bad g c told generation =
    let bytes : ℕ → List ℕ = (disk OfVolume (now (g.W.World.log c.args.world.now))).bytes in
    let records : Records = c.args.image.now.records in
    let tag : Tag = record { clean = cond c.args.clean 1 0; generation = generation; next = c.args.next } in
    let p1 = passed_1 bytes records tag c.in_default.ensures.none in
    let q = err_from_is_err_and c.from_residual-in_err-fixed.result c.from_residual-in_err-fixed.ensures.1 in
    key_bad_at PathList c.from_residual-in_err-fixed.result c.in_err-fixed.field-0.0 1 (IsLeastBad (entries_of bytes records) tag) (¬ HasHead (entries_of bytes records)) (q.1 ∙ ap Err q.2) (bad_1 bytes records tag p1) (c.in_err-fixed.ensures.bad told)

pub returns-in_err-check_journal-clause-bad : goal.returns-in_err-check_journal-clause-bad
returns-in_err-check_journal-clause-bad g c told generation =
    let bytes : ℕ → List ℕ = (disk OfVolume (now (g.W.World.log c.args.world.now))).bytes in
    let records : Records = c.args.image.now.records in
    let tag : Tag = record { clean = cond c.args.clean 1 0; generation = generation; next = c.args.next } in
    let p1 = passed_1 bytes records tag c.in_default.ensures.none in
    let has = has_head bytes records c.in_ok-head.head c.in_ok-fixed.fixed c.in_ok-head.ensures.head c.in_ok-head.ensures.capacity (c.in_ok-fixed.ensures.fixed told) in
    let p2 = passed_2 bytes records tag p1 has in
    let same : disk OfVolume (now (g.W.World.log c.read_fixed.new.world)) ≡ disk OfVolume (now (g.W.World.log c.args.world.now)) = ap (disk OfVolume) (c.in_ok-fixed.ensures.steps told).ends in
    let q = err_from_is_err_and c.from_residual-in_err-check_journal.result c.from_residual-in_err-check_journal.ensures.1 in
    key_bad_at (Unit {0}) c.from_residual-in_err-check_journal.result c.in_err-check_journal.field-0.0 2 (IsLeastBad (entries_of bytes records) tag) (¬ HasJournal (entries_of bytes records) tag) (q.1 ∙ ap Err q.2) (bad_2 bytes records tag p2)
    (subst (λ (d : Disk). IfBadAt {A = Unit {0}} (Err c.in_err-check_journal.field-0.0) 2 (¬ HasJournal (entries_of d.bytes records) tag)) same (c.in_err-check_journal.ensures.bad told c.in_ok-head.head generation c.in_ok-head.ensures.head refl))

pub returns-in-Some-stray-clause-bad : goal.returns-in-Some-stray-clause-bad
returns-in-Some-stray-clause-bad g c told generation =
    let bytes : ℕ → List ℕ = (disk OfVolume (now (g.W.World.log c.args.world.now))).bytes in
    let records : Records = c.args.image.now.records in
    let tag : Tag = record { clean = cond c.args.clean 1 0; generation = generation; next = c.args.next } in
    let p1 = passed_1 bytes records tag c.in_default.ensures.none in
    let has = has_head bytes records c.in_ok-head.head c.in_ok-fixed.fixed c.in_ok-head.ensures.head c.in_ok-head.ensures.capacity (c.in_ok-fixed.ensures.fixed told) in
    let p2 = passed_2 bytes records tag p1 has in
    let same : disk OfVolume (now (g.W.World.log c.read_fixed.new.world)) ≡ disk OfVolume (now (g.W.World.log c.args.world.now)) = ap (disk OfVolume) (c.in_ok-fixed.ensures.steps told).ends in
    let journal = subst (λ (d : Disk). HasJournal (entries_of d.bytes records) tag) same (c.in_ok-check_journal.ensures.kept told c.in_ok-head.head generation c.in_ok-head.ensures.head refl) in
    let p3 = passed_3 bytes records tag p2 journal in
    let some = c.in-Some-stray.ensures.some in
    key_bad Contents c.bad_record-in-Some-stray.result c.in-Some-stray.key (IsLeastBad (entries_of bytes records) tag) c.bad_record-in-Some-stray.ensures (bad_low bytes records tag p3 c.in-Some-stray.key some.0 some.1 some.2 some.3)

pub returns-in-Err-Bad-clause-bad : goal.returns-in-Err-Bad-clause-bad
returns-in-Err-Bad-clause-bad g c told generation =
    let bytes : ℕ → List ℕ = (disk OfVolume (now (g.W.World.log c.args.world.now))).bytes in
    let records : Records = c.args.image.now.records in
    let tag : Tag = record { clean = cond c.args.clean 1 0; generation = generation; next = c.args.next } in
    let p1 = passed_1 bytes records tag c.in_default.ensures.none in
    let has = has_head bytes records c.in_ok-head.head c.in_ok-fixed.fixed c.in_ok-head.ensures.head c.in_ok-head.ensures.capacity (c.in_ok-fixed.ensures.fixed told) in
    let p2 = passed_2 bytes records tag p1 has in
    let same : disk OfVolume (now (g.W.World.log c.read_fixed.new.world)) ≡ disk OfVolume (now (g.W.World.log c.args.world.now)) = ap (disk OfVolume) (c.in_ok-fixed.ensures.steps told).ends in
    let journal = subst (λ (d : Disk). HasJournal (entries_of d.bytes records) tag) same (c.in_ok-check_journal.ensures.kept told c.in_ok-head.head generation c.in_ok-head.ensures.head refl) in
    let p3 = passed_3 bytes records tag p2 journal in
    let p4 = passed_low bytes records tag p3 c.in_default-stray.ensures.none in
    key_bad Contents c.bad_record-in-Err-Bad.result (2 ^ 62 + c.in-Err-Bad.number) (IsLeastBad (entries_of bytes records) tag) c.bad_record-in-Err-Bad.ensures
    (bad_item bytes records tag p4 c.in-Err-Bad.number (c.in-Err-Bad.ensures.bad c.in-Err-Bad.number (ap (λ e. Err e) c.in-Err-Bad.field-0-is)))

pub returns-in-Some-first_from-clause-bad : goal.returns-in-Some-first_from-clause-bad
returns-in-Some-first_from-clause-bad g c told generation =
    let bytes : ℕ → List ℕ = (disk OfVolume (now (g.W.World.log c.args.world.now))).bytes in
    let records : Records = c.args.image.now.records in
    let tag : Tag = record { clean = cond c.args.clean 1 0; generation = generation; next = c.args.next } in
    let p1 = passed_1 bytes records tag c.in_default.ensures.none in
    let has = has_head bytes records c.in_ok-head.head c.in_ok-fixed.fixed c.in_ok-head.ensures.head c.in_ok-head.ensures.capacity (c.in_ok-fixed.ensures.fixed told) in
    let p2 = passed_2 bytes records tag p1 has in
    let same : disk OfVolume (now (g.W.World.log c.read_fixed.new.world)) ≡ disk OfVolume (now (g.W.World.log c.args.world.now)) = ap (disk OfVolume) (c.in_ok-fixed.ensures.steps told).ends in
    let journal = subst (λ (d : Disk). HasJournal (entries_of d.bytes records) tag) same (c.in_ok-check_journal.ensures.kept told c.in_ok-head.head generation c.in_ok-head.ensures.head refl) in
    let p3 = passed_3 bytes records tag p2 journal in
    let p4 = passed_low bytes records tag p3 c.in_default-stray.ensures.none in
    let p5 = passed_all bytes records tag p4 c.in-Ok.ensures.own (c.in-Ok.ensures.items bytes).0 in
    let some = c.in-Some-first_from.ensures.some in
    key_bad Contents c.bad_record-in-Some-first_from.result c.in-Some-first_from.key (IsLeastBad (entries_of bytes records) tag) c.bad_record-in-Some-first_from.ensures (bad_high bytes records tag p5 c.in-Some-first_from.key some.0 some.1 some.2)

pub returns-clause-good : goal.returns-clause-good
returns-clause-good g c told generation =
    let bytes : ℕ → List ℕ = (disk OfVolume (now (g.W.World.log c.args.world.now))).bytes in
    let records : Records = c.args.image.now.records in
    let tag : Tag = record { clean = cond c.args.clean 1 0; generation = generation; next = c.args.next } in
    let p1 = passed_1 bytes records tag c.in_default.ensures.none in
    let has = has_head bytes records c.in_ok-head.head c.in_ok-fixed.fixed c.in_ok-head.ensures.head c.in_ok-head.ensures.capacity (c.in_ok-fixed.ensures.fixed told) in
    let p2 = passed_2 bytes records tag p1 has in
    let same : disk OfVolume (now (g.W.World.log c.read_fixed.new.world)) ≡ disk OfVolume (now (g.W.World.log c.args.world.now)) = ap (disk OfVolume) (c.in_ok-fixed.ensures.steps told).ends in
    let journal = subst (λ (d : Disk). HasJournal (entries_of d.bytes records) tag) same (c.in_ok-check_journal.ensures.kept told c.in_ok-head.head generation c.in_ok-head.ensures.head refl) in
    let p3 = passed_3 bytes records tag p2 journal in
    let p4 = passed_low bytes records tag p3 c.in_default-stray.ensures.none in
    let p5 = passed_all bytes records tag p4 c.in-Ok.ensures.own (c.in-Ok.ensures.items bytes).0 in
    all_good bytes records tag p5 c.in_default-first_from.ensures.none

pub returns-clause-short : goal.returns-clause-short
returns-clause-short g c = own_short c.args.image.now.records c.args.next c.in-Ok.ensures.own
