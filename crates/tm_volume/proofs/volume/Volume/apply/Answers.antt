use Rattle.std.proofs.Common.{◌≡◌, ◌≤◌, ℕ, length, cond, Some, Err, refl, sym, ◌∙◌, ap, subst}
use Rattle.tm_base.specs.declared.refused.Side.TheVariants.{Volume as OfVolumeNamed}
use Rattle.tm_image.specs.Room.{free_of}
use Rattle.tm_index.specs.Folders.{numbers_in}
use Rattle.tm_world.proofs.Going.{Runs-none}
use Rattle.tm_world.specs.Outside.{disk}
use Rattle.tm_world.specs.Log.{now}
use Rattle.tm_world.specs.Runs.{Runs}
use Rattle.tm_world.specs.declared.world.Side.TheVariants.{Volume as OfVolume}
use Rattle.tm_image.specs.Commit.{brought_by}
use Rattle.tm_image.specs.Seen.{staged}
use Rattle.tm_volume.specs.Edits.{IsBack, IsFullEdit, IsEdit, IsGoodEdit, after, next_tag, need_of_edit}
use Rattle.tm_volume.specs.Reads.{LeavesEither}
use Rattle.tm_volume.specs.Seen.{Seen, StandsOn, stored_on}
use Rattle.tm_volume.proofs.Editing.{shelf_back, back_again, shelf_after, next_tagged, edit_run, stands_after, full_other, memory_other, ready_back, stands_back, full_back}
use Rattle.tm_volume.proofs.volume.Volume.apply.Goals as goal

pub give_brought-requires-clause-sound : goal.give_brought-requires-clause-sound
give_brought-requires-clause-sound g c = c.total.ensures.sound

pub invariant_of-self : goal.invariant_of-self
invariant_of-self g c =
    let m : Seen = record { image = c.self.inside.image; head = c.self.inside.head; fixed = c.self.inside.fixed; tag = record { clean = cond c.self.inside.clean 1 0; generation = c.self.inside.generation; next = c.self.inside.next }; looks = c.self.inside.looks } in
    shelf_back m (numbers_in c.self.inside.numbers) c.self.invariant c.give_brought.new.self (numbers_in c.enter.new.numbers) c.give_brought.ensures.same (ap numbers_in c.in-Err.ensures.err)

pub returns-in-Err-clause-any_moment : goal.returns-in-Err-clause-any_moment
returns-in-Err-clause-any_moment g c told = Runs-none OfVolume _ (g.W.World.log c.args.world.now)

pub invariant_of-self-in-Ok-commit : goal.invariant_of-self-in-Ok-commit
invariant_of-self-in-Ok-commit g c =
    let m : Seen = record { image = c.self.inside.image; head = c.self.inside.head; fixed = c.self.inside.fixed; tag = record { clean = cond c.self.inside.clean 1 0; generation = c.self.inside.generation; next = c.self.inside.next }; looks = c.self.inside.looks } in
    let e = c.args.edit in
    let is = subst (λ (s : Seen). IsEdit s c.args.edit) (sym c.self.view_is) c.requires.edit in
    let n0 = numbers_in c.self.inside.numbers in
    shelf_after m n0 c.self.invariant e is c.commit.new.self c.keep.new.fixed (next_tag m e) (numbers_in c.enter.new.numbers) (numbers_in c.leave.new.numbers)
    c.total.ensures.sound.rising c.in-Ok-commit.ensures.side c.in-Ok-commit.ensures.records (c.in-Ok-commit.ensures.tag ∙ c.write_tag-tag.ensures) (next_tagged m n0 c.self.invariant e is) c.in-Ok.ensures.ok c.leave.ensures

pub returns-in-Ok-commit-clause-any_moment : goal.returns-in-Ok-commit-clause-any_moment
returns-in-Ok-commit-clause-any_moment g c told =
    let m : Seen = record { image = c.self.inside.image; head = c.self.inside.head; fixed = c.self.inside.fixed; tag = record { clean = cond c.self.inside.clean 1 0; generation = c.self.inside.generation; next = c.self.inside.next }; looks = c.self.inside.looks } in
    let e = c.args.edit in
    let is = subst (λ (s : Seen). IsEdit s c.args.edit) (sym c.self.view_is) c.requires.edit in
    let l0 = g.W.World.log c.args.world.now in
    let l1 = g.W.World.log c.commit.new.world in
    let stands = subst (λ (s : Seen). StandsOn s (disk OfVolume (now l0))) (sym c.self.view_is) (c.requires.stands told) in
    let good = subst (λ (s : Seen). IsGoodEdit s c.args.edit (disk OfVolume (now l0)).bytes) (sym c.self.view_is) (c.requires.good told) in
    subst (λ (s : Seen). Runs OfVolume (LeavesEither (Some (stored_on s (disk OfVolume (now l0)).bytes)) (Some (stored_on (after s c.args.edit) (disk OfVolume (now l0)).bytes))) l0 l1) c.self.view_is
    (edit_run m (numbers_in c.self.inside.numbers) c.self.invariant e is l0 l1 c.write_tag-tag.result c.write_tag-tag.ensures stands good (c.commit.ensures.any_moment told))

pub returns-in-Ok-commit-clause-stands : goal.returns-in-Ok-commit-clause-stands
returns-in-Ok-commit-clause-stands g c told = λ fine.
    let m : Seen = record { image = c.self.inside.image; head = c.self.inside.head; fixed = c.self.inside.fixed; tag = record { clean = cond c.self.inside.clean 1 0; generation = c.self.inside.generation; next = c.self.inside.next }; looks = c.self.inside.looks } in
    let e = c.args.edit in
    let is = subst (λ (s : Seen). IsEdit s c.args.edit) (sym c.self.view_is) c.requires.edit in
    let l0 = g.W.World.log c.args.world.now in
    let l1 = g.W.World.log c.commit.new.world in
    let good = subst (λ (s : Seen). IsGoodEdit s c.args.edit (disk OfVolume (now l0)).bytes) (sym c.self.view_is) (c.requires.good told) in
    stands_after m (numbers_in c.self.inside.numbers) c.self.invariant e is c.commit.new.self c.keep.new.fixed l0 l1 c.keep.ensures c.in-Ok-commit.ensures.records (c.in-Ok-commit.ensures.data told)
    (c.in-Ok-commit.ensures.stands told (λ bad. absurd (cc bad))) good

pub returns-in-Ok-commit-clause-fits : goal.returns-in-Ok-commit-clause-fits
returns-in-Ok-commit-clause-fits g c = subst (λ (s : Seen). need_of_edit s c.args.edit ≤ free_of s.image) c.self.view_is c.in-Ok-commit.ensures.fits

pub invariant_of-self-in-Err-Fault : goal.invariant_of-self-in-Err-Fault
invariant_of-self-in-Err-Fault g c =
    let m : Seen = record { image = c.self.inside.image; head = c.self.inside.head; fixed = c.self.inside.fixed; tag = record { clean = cond c.self.inside.clean 1 0; generation = c.self.inside.generation; next = c.self.inside.next }; looks = c.self.inside.looks } in
    let e = c.args.edit in
    let is = subst (λ (s : Seen). IsEdit s c.args.edit) (sym c.self.view_is) c.requires.edit in
    let n0 = numbers_in c.self.inside.numbers in
    let faulted = c.in-Err-Fault.ensures.faulted (ap Err c.in-Err-Fault.field-0-is) in
    shelf_after m n0 c.self.invariant e is c.commit.new.self m.fixed m.tag (numbers_in c.enter.new.numbers) (numbers_in c.leave-in-Err-Fault.new.numbers)
    c.total.ensures.sound.rising c.commit.ensures.side faulted.0 (ap (λ r. r.tag) faulted.1 ∙ c.self.invariant.tag_is) c.self.invariant.tagged c.in-Ok.ensures.ok c.leave-in-Err-Fault.ensures

pub returns-in-Err-Fault-clause-any_moment : goal.returns-in-Err-Fault-clause-any_moment
returns-in-Err-Fault-clause-any_moment g c told =
    let m : Seen = record { image = c.self.inside.image; head = c.self.inside.head; fixed = c.self.inside.fixed; tag = record { clean = cond c.self.inside.clean 1 0; generation = c.self.inside.generation; next = c.self.inside.next }; looks = c.self.inside.looks } in
    let e = c.args.edit in
    let is = subst (λ (s : Seen). IsEdit s c.args.edit) (sym c.self.view_is) c.requires.edit in
    let l0 = g.W.World.log c.args.world.now in
    let l1 = g.W.World.log c.commit.new.world in
    let stands = subst (λ (s : Seen). StandsOn s (disk OfVolume (now l0))) (sym c.self.view_is) (c.requires.stands told) in
    let good = subst (λ (s : Seen). IsGoodEdit s c.args.edit (disk OfVolume (now l0)).bytes) (sym c.self.view_is) (c.requires.good told) in
    subst (λ (s : Seen). Runs OfVolume (LeavesEither (Some (stored_on s (disk OfVolume (now l0)).bytes)) (Some (stored_on (after s c.args.edit) (disk OfVolume (now l0)).bytes))) l0 l1) c.self.view_is
    (edit_run m (numbers_in c.self.inside.numbers) c.self.invariant e is l0 l1 c.write_tag-tag.result c.write_tag-tag.ensures stands good (c.commit.ensures.any_moment told))

pub returns-in-Err-Fault-clause-ready : goal.returns-in-Err-Fault-clause-ready
returns-in-Err-Fault-clause-ready g c = λ fine. absurd (fine OfVolumeNamed refl)

pub returns-in-Err-Fault-clause-stands : goal.returns-in-Err-Fault-clause-stands
returns-in-Err-Fault-clause-stands g c = λ told fine. absurd (fine OfVolumeNamed refl)

pub returns-in-Err-Fault-clause-err : goal.returns-in-Err-Fault-clause-err
returns-in-Err-Fault-clause-err g c = λ fine. absurd (fine OfVolumeNamed refl)

pub returns-in-Err-Fault-clause-untouched : goal.returns-in-Err-Fault-clause-untouched
returns-in-Err-Fault-clause-untouched g c = λ fine. absurd (fine OfVolumeNamed refl)

pub invariant_of-self-in-Err-Full : goal.invariant_of-self-in-Err-Full
invariant_of-self-in-Err-Full g c =
    let m : Seen = record { image = c.self.inside.image; head = c.self.inside.head; fixed = c.self.inside.fixed; tag = record { clean = cond c.self.inside.clean 1 0; generation = c.self.inside.generation; next = c.self.inside.next }; looks = c.self.inside.looks } in
    let is = subst (λ (s : Seen). IsEdit s c.args.edit) (sym c.self.view_is) c.requires.edit in
    let n0 = numbers_in c.self.inside.numbers in
    shelf_back m n0 c.self.invariant c.commit.new.self (numbers_in c.forget.new.numbers) (c.in-Err-Full.ensures.err (full_other c.in-Err-Full.field-0 c.in-Err-Full.need c.in-Err-Full.free c.in-Err-Full.field-0-is))
    (back_again m n0 c.self.invariant c.args.edit is (numbers_in c.enter.new.numbers) (numbers_in c.forget.new.numbers) c.in-Ok.ensures.ok c.forget.ensures)

pub returns-in-Err-Full-clause-any_moment : goal.returns-in-Err-Full-clause-any_moment
returns-in-Err-Full-clause-any_moment g c told =
    let m : Seen = record { image = c.self.inside.image; head = c.self.inside.head; fixed = c.self.inside.fixed; tag = record { clean = cond c.self.inside.clean 1 0; generation = c.self.inside.generation; next = c.self.inside.next }; looks = c.self.inside.looks } in
    let e = c.args.edit in
    let is = subst (λ (s : Seen). IsEdit s c.args.edit) (sym c.self.view_is) c.requires.edit in
    let l0 = g.W.World.log c.args.world.now in
    let l1 = g.W.World.log c.commit.new.world in
    let stands = subst (λ (s : Seen). StandsOn s (disk OfVolume (now l0))) (sym c.self.view_is) (c.requires.stands told) in
    let good = subst (λ (s : Seen). IsGoodEdit s c.args.edit (disk OfVolume (now l0)).bytes) (sym c.self.view_is) (c.requires.good told) in
    subst (λ (s : Seen). Runs OfVolume (LeavesEither (Some (stored_on s (disk OfVolume (now l0)).bytes)) (Some (stored_on (after s c.args.edit) (disk OfVolume (now l0)).bytes))) l0 l1) c.self.view_is
    (edit_run m (numbers_in c.self.inside.numbers) c.self.invariant e is l0 l1 c.write_tag-tag.result c.write_tag-tag.ensures stands good (c.commit.ensures.any_moment told))

pub returns-in-Err-Full-clause-ready : goal.returns-in-Err-Full-clause-ready
returns-in-Err-Full-clause-ready g c = λ fine.
    let m : Seen = record { image = c.self.inside.image; head = c.self.inside.head; fixed = c.self.inside.fixed; tag = record { clean = cond c.self.inside.clean 1 0; generation = c.self.inside.generation; next = c.self.inside.next }; looks = c.self.inside.looks } in
    let other = full_other c.in-Err-Full.field-0 c.in-Err-Full.need c.in-Err-Full.free c.in-Err-Full.field-0-is in
    let count = subst (λ (s : Seen). length s.image.used ≡ g.W.World.blocks c.args.world.now OfVolume) (sym c.self.view_is) c.requires.count in
    let stages = subst (λ (s : Seen). (b : ℕ) → staged b s.image ≡ brought_by b c.args.edit.put.items) (sym c.self.view_is) c.requires.staged in
    ready_back m c.commit.new.self (g.W.World.blocks c.args.world.now OfVolume) c.args.edit.put.items count stages c.commit.ensures.size (c.in-Err-Full.ensures.settled other) (c.in-Err-Full.ensures.space other) (c.in-Err-Full.ensures.staged other)

pub returns-in-Err-Full-clause-stands : goal.returns-in-Err-Full-clause-stands
returns-in-Err-Full-clause-stands g c = λ told fine.
    let m : Seen = record { image = c.self.inside.image; head = c.self.inside.head; fixed = c.self.inside.fixed; tag = record { clean = cond c.self.inside.clean 1 0; generation = c.self.inside.generation; next = c.self.inside.next }; looks = c.self.inside.looks } in
    let other = full_other c.in-Err-Full.field-0 c.in-Err-Full.need c.in-Err-Full.free c.in-Err-Full.field-0-is in
    let l0 = g.W.World.log c.args.world.now in
    let l1 = g.W.World.log c.commit.new.world in
    let stands = subst (λ (s : Seen). StandsOn s (disk OfVolume (now l0))) (sym c.self.view_is) (c.requires.stands told) in
    stands_back m c.commit.new.self l0 l1 c.self.invariant.side (c.in-Err-Full.ensures.err other) (ap g.W.World.log (c.in-Err-Full.ensures.untouched other)) stands (c.in-Err-Full.ensures.stands told other)

pub returns-in-Err-Full-clause-err : goal.returns-in-Err-Full-clause-err
returns-in-Err-Full-clause-err g c = λ fine.
    let m : Seen = record { image = c.self.inside.image; head = c.self.inside.head; fixed = c.self.inside.fixed; tag = record { clean = cond c.self.inside.clean 1 0; generation = c.self.inside.generation; next = c.self.inside.next }; looks = c.self.inside.looks } in
    let other = full_other c.in-Err-Full.field-0 c.in-Err-Full.need c.in-Err-Full.free c.in-Err-Full.field-0-is in
    let same = c.in-Err-Full.ensures.err other in
    subst (λ (s : Seen). IsBack s (record { image = c.commit.new.self; head = m.head; fixed = m.fixed; tag = m.tag; looks = m.looks })) c.self.view_is (record { image = same; rest = refl })

pub returns-in-Err-Full-clause-untouched : goal.returns-in-Err-Full-clause-untouched
returns-in-Err-Full-clause-untouched g c = λ fine. c.in-Err-Full.ensures.untouched (full_other c.in-Err-Full.field-0 c.in-Err-Full.need c.in-Err-Full.free c.in-Err-Full.field-0-is)

pub invariant_of-self-in-Err-Memory : goal.invariant_of-self-in-Err-Memory
invariant_of-self-in-Err-Memory g c =
    let m : Seen = record { image = c.self.inside.image; head = c.self.inside.head; fixed = c.self.inside.fixed; tag = record { clean = cond c.self.inside.clean 1 0; generation = c.self.inside.generation; next = c.self.inside.next }; looks = c.self.inside.looks } in
    let is = subst (λ (s : Seen). IsEdit s c.args.edit) (sym c.self.view_is) c.requires.edit in
    let n0 = numbers_in c.self.inside.numbers in
    shelf_back m n0 c.self.invariant c.commit.new.self (numbers_in c.forget-in-Err-Memory.new.numbers) (c.in-Err-Memory.ensures.err (memory_other c.in-Err-Memory.field-0 c.in-Err-Memory.field-0-is))
    (back_again m n0 c.self.invariant c.args.edit is (numbers_in c.enter.new.numbers) (numbers_in c.forget-in-Err-Memory.new.numbers) c.in-Ok.ensures.ok c.forget-in-Err-Memory.ensures)

pub returns-clause-any_moment : goal.returns-clause-any_moment
returns-clause-any_moment g c told =
    let m : Seen = record { image = c.self.inside.image; head = c.self.inside.head; fixed = c.self.inside.fixed; tag = record { clean = cond c.self.inside.clean 1 0; generation = c.self.inside.generation; next = c.self.inside.next }; looks = c.self.inside.looks } in
    let e = c.args.edit in
    let is = subst (λ (s : Seen). IsEdit s c.args.edit) (sym c.self.view_is) c.requires.edit in
    let l0 = g.W.World.log c.args.world.now in
    let l1 = g.W.World.log c.commit.new.world in
    let stands = subst (λ (s : Seen). StandsOn s (disk OfVolume (now l0))) (sym c.self.view_is) (c.requires.stands told) in
    let good = subst (λ (s : Seen). IsGoodEdit s c.args.edit (disk OfVolume (now l0)).bytes) (sym c.self.view_is) (c.requires.good told) in
    subst (λ (s : Seen). Runs OfVolume (LeavesEither (Some (stored_on s (disk OfVolume (now l0)).bytes)) (Some (stored_on (after s c.args.edit) (disk OfVolume (now l0)).bytes))) l0 l1) c.self.view_is
    (edit_run m (numbers_in c.self.inside.numbers) c.self.invariant e is l0 l1 c.write_tag-tag.result c.write_tag-tag.ensures stands good (c.commit.ensures.any_moment told))

pub returns-clause-ready : goal.returns-clause-ready
returns-clause-ready g c = λ fine.
    let m : Seen = record { image = c.self.inside.image; head = c.self.inside.head; fixed = c.self.inside.fixed; tag = record { clean = cond c.self.inside.clean 1 0; generation = c.self.inside.generation; next = c.self.inside.next }; looks = c.self.inside.looks } in
    let other = memory_other c.in-Err-Memory.field-0 c.in-Err-Memory.field-0-is in
    let count = subst (λ (s : Seen). length s.image.used ≡ g.W.World.blocks c.args.world.now OfVolume) (sym c.self.view_is) c.requires.count in
    let stages = subst (λ (s : Seen). (b : ℕ) → staged b s.image ≡ brought_by b c.args.edit.put.items) (sym c.self.view_is) c.requires.staged in
    ready_back m c.commit.new.self (g.W.World.blocks c.args.world.now OfVolume) c.args.edit.put.items count stages c.commit.ensures.size (c.in-Err-Memory.ensures.settled other) (c.in-Err-Memory.ensures.space other) (c.in-Err-Memory.ensures.staged other)

pub returns-clause-stands : goal.returns-clause-stands
returns-clause-stands g c = λ told fine.
    let m : Seen = record { image = c.self.inside.image; head = c.self.inside.head; fixed = c.self.inside.fixed; tag = record { clean = cond c.self.inside.clean 1 0; generation = c.self.inside.generation; next = c.self.inside.next }; looks = c.self.inside.looks } in
    let other = memory_other c.in-Err-Memory.field-0 c.in-Err-Memory.field-0-is in
    let l0 = g.W.World.log c.args.world.now in
    let l1 = g.W.World.log c.commit.new.world in
    let stands = subst (λ (s : Seen). StandsOn s (disk OfVolume (now l0))) (sym c.self.view_is) (c.requires.stands told) in
    stands_back m c.commit.new.self l0 l1 c.self.invariant.side (c.in-Err-Memory.ensures.err other) (ap g.W.World.log (c.in-Err-Memory.ensures.untouched other)) stands (c.in-Err-Memory.ensures.stands told other)

pub returns-clause-err : goal.returns-clause-err
returns-clause-err g c = λ fine.
    let m : Seen = record { image = c.self.inside.image; head = c.self.inside.head; fixed = c.self.inside.fixed; tag = record { clean = cond c.self.inside.clean 1 0; generation = c.self.inside.generation; next = c.self.inside.next }; looks = c.self.inside.looks } in
    let other = memory_other c.in-Err-Memory.field-0 c.in-Err-Memory.field-0-is in
    let same = c.in-Err-Memory.ensures.err other in
    subst (λ (s : Seen). IsBack s (record { image = c.commit.new.self; head = m.head; fixed = m.fixed; tag = m.tag; looks = m.looks })) c.self.view_is (record { image = same; rest = refl })

pub returns-clause-untouched : goal.returns-clause-untouched
returns-clause-untouched g c = λ fine. c.in-Err-Memory.ensures.untouched (memory_other c.in-Err-Memory.field-0 c.in-Err-Memory.field-0-is)

pub returns-in-Err-Full-clause-full : goal.returns-in-Err-Full-clause-full
returns-in-Err-Full-clause-full g c = λ why is.
    let m : Seen = record { image = c.self.inside.image; head = c.self.inside.head; fixed = c.self.inside.fixed; tag = record { clean = cond c.self.inside.clean 1 0; generation = c.self.inside.generation; next = c.self.inside.next }; looks = c.self.inside.looks } in
    let told = c.in-Err-Full.ensures.full c.in-Err-Full.need c.in-Err-Full.free (ap Err c.in-Err-Full.field-0-is) in
    subst (λ (s : Seen). IsFullEdit s c.args.edit why) c.self.view_is (full_back m c.args.edit why c.in-Err-Full.need c.in-Err-Full.free is told.0 told.1 told.2)

pub returns-in-Err-Fault-clause-tried : goal.returns-in-Err-Fault-clause-tried
returns-in-Err-Fault-clause-tried g c side is = subst (λ (s : Seen). need_of_edit s c.args.edit ≤ free_of s.image) c.self.view_is (c.in-Err-Fault.ensures.tried (ap Err c.in-Err-Fault.field-0-is))
