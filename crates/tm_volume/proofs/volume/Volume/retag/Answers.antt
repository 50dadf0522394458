use Rattle.std.proofs.Common.{cond, Some, sym, subst, ◌∙◌}
use Rattle.tm_image.specs.Reads.{LeavesOneOf, entries_of}
use Rattle.tm_index.specs.Folders.{numbers_in}
use Rattle.tm_world.specs.Outside.{disk}
use Rattle.tm_world.specs.Log.{now}
use Rattle.tm_world.specs.Runs.{Runs}
use Rattle.tm_world.specs.declared.world.Side.TheVariants.{Volume as OfVolume}
use Rattle.tm_volume.specs.Reads.{LeavesEither}
use Rattle.tm_volume.specs.Seen.{Seen, StandsOn, stored_on}
use Rattle.tm_volume.specs.Stored.{retagged}
use Rattle.tm_volume.proofs.Retagging.{IsNew, retag_run, shelf_after, stands_after}
use Rattle.tm_volume.proofs.volume.Volume.retag.Goals as goal

pub returns-in_err-retag-clause-any_moment : goal.returns-in_err-retag-clause-any_moment
returns-in_err-retag-clause-any_moment g c told =
    let m : Seen = record { image = c.self.inside.image; head = c.self.inside.head; fixed = c.self.inside.fixed; tag = record { clean = cond c.self.inside.clean 1 0; generation = c.self.inside.generation; next = c.self.inside.next }; looks = c.self.inside.looks } in
    let after : IsNew c.args.self.now c.args.clean c.args.generation c.args.next = record { generation_is = c.requires.generation; next_is = c.requires.next; clean_is = c.requires.clean } in
    let new = subst (λ (s : Seen). IsNew s c.args.clean c.args.generation c.args.next) (sym c.self.view_is) after in
    let l0 = g.W.World.log c.args.world.now in
    let l1 = g.W.World.log c.retag.new.world in
    let stands = subst (λ (s : Seen). StandsOn s (disk OfVolume (now l0))) (sym c.self.view_is) (c.requires.stands told) in
    subst (λ (s : Seen). Runs OfVolume (LeavesEither (Some (stored_on s (disk OfVolume (now l0)).bytes)) (Some (retagged (stored_on s (disk OfVolume (now l0)).bytes) c.args.clean c.args.generation c.args.next))) l0 l1) c.self.view_is
    (retag_run m (numbers_in c.self.inside.numbers) c.args.clean c.args.generation c.args.next new c.self.invariant l0 l1 stands
    (subst (λ t. Runs m.image.side (LeavesOneOf m.image.side (entries_of (disk m.image.side (now l0)).bytes m.image.records) m.image.root.tag (entries_of (disk m.image.side (now l0)).bytes m.image.records) t) l0 l1) c.write_tag.ensures (c.retag.ensures.any_moment told)))

pub invariant_of-self-2 : goal.invariant_of-self-2
invariant_of-self-2 g c =
    let m : Seen = record { image = c.self.inside.image; head = c.self.inside.head; fixed = c.self.inside.fixed; tag = record { clean = cond c.self.inside.clean 1 0; generation = c.self.inside.generation; next = c.self.inside.next }; looks = c.self.inside.looks } in
    let after : IsNew c.args.self.now c.args.clean c.args.generation c.args.next = record { generation_is = c.requires.generation; next_is = c.requires.next; clean_is = c.requires.clean } in
    let new = subst (λ (s : Seen). IsNew s c.args.clean c.args.generation c.args.next) (sym c.self.view_is) after in
    let same = c.retag.ensures.same in
    shelf_after m (numbers_in c.self.inside.numbers) c.args.clean c.args.generation c.args.next new c.self.invariant c.retag.new.self same.0 same.1 (c.in_ok-retag.ensures.tag ∙ c.write_tag.ensures)

pub returns-clause-any_moment : goal.returns-clause-any_moment
returns-clause-any_moment g c told =
    let m : Seen = record { image = c.self.inside.image; head = c.self.inside.head; fixed = c.self.inside.fixed; tag = record { clean = cond c.self.inside.clean 1 0; generation = c.self.inside.generation; next = c.self.inside.next }; looks = c.self.inside.looks } in
    let after : IsNew c.args.self.now c.args.clean c.args.generation c.args.next = record { generation_is = c.requires.generation; next_is = c.requires.next; clean_is = c.requires.clean } in
    let new = subst (λ (s : Seen). IsNew s c.args.clean c.args.generation c.args.next) (sym c.self.view_is) after in
    let l0 = g.W.World.log c.args.world.now in
    let l1 = g.W.World.log c.retag.new.world in
    let stands = subst (λ (s : Seen). StandsOn s (disk OfVolume (now l0))) (sym c.self.view_is) (c.requires.stands told) in
    subst (λ (s : Seen). Runs OfVolume (LeavesEither (Some (stored_on s (disk OfVolume (now l0)).bytes)) (Some (retagged (stored_on s (disk OfVolume (now l0)).bytes) c.args.clean c.args.generation c.args.next))) l0 l1) c.self.view_is
    (retag_run m (numbers_in c.self.inside.numbers) c.args.clean c.args.generation c.args.next new c.self.invariant l0 l1 stands
    (subst (λ t. Runs m.image.side (LeavesOneOf m.image.side (entries_of (disk m.image.side (now l0)).bytes m.image.records) m.image.root.tag (entries_of (disk m.image.side (now l0)).bytes m.image.records) t) l0 l1) c.write_tag.ensures (c.retag.ensures.any_moment told)))

pub returns-clause-stands : goal.returns-clause-stands
returns-clause-stands g c told =
    let m : Seen = record { image = c.self.inside.image; head = c.self.inside.head; fixed = c.self.inside.fixed; tag = record { clean = cond c.self.inside.clean 1 0; generation = c.self.inside.generation; next = c.self.inside.next }; looks = c.self.inside.looks } in
    let after : IsNew c.args.self.now c.args.clean c.args.generation c.args.next = record { generation_is = c.requires.generation; next_is = c.requires.next; clean_is = c.requires.clean } in
    let new = subst (λ (s : Seen). IsNew s c.args.clean c.args.generation c.args.next) (sym c.self.view_is) after in
    let l0 = g.W.World.log c.args.world.now in
    let l1 = g.W.World.log c.retag.new.world in
    let stands = subst (λ (s : Seen). StandsOn s (disk OfVolume (now l0))) (sym c.self.view_is) (c.requires.stands told) in
    let same = c.retag.ensures.same in
    stands_after m (numbers_in c.self.inside.numbers) c.args.clean c.args.generation c.args.next new c.self.invariant c.retag.new.self l0 l1 c.self.invariant.side same.1 stands
    (c.in_ok-retag.ensures.stands told) (c.in_ok-retag.ensures.data told)
