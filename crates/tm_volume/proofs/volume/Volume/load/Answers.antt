use Rattle.std.proofs.lemmas.Result.{err_from_is_err_and}
use Rattle.std.proofs.Common.{◌≡◌, cond, false, Err, sym, ◌∙◌, ap, subst, arith}
use Rattle.tm_image.specs.Reads.{entries_of}
use Rattle.tm_image.specs.Seen.{Seen as ImageSeen}
use Rattle.tm_image.specs.declared.error.LoadError.TheVariants.{Bad, Unformatted}
use Rattle.tm_world.specs.Disk.{Disk}
use Rattle.tm_world.specs.Outside.{disk}
use Rattle.tm_world.specs.Log.{now}
use Rattle.tm_world.specs.declared.world.Side.TheVariants.{Volume as OfVolume}
use Rattle.tm_world.specs.declared.cause.Cause.TheVariants.{Spent}
use Rattle.tm_world.proofs.Going.{Steps-then}
use Rattle.tm_volume_records.specs.declared.check.Contents.{Contents}
use Rattle.tm_volume_records.specs.Loads.{IfBadKey}
use Rattle.tm_volume_records.specs.Rules.{Tag, IsGoodVolume, IsLeastBad}
use Rattle.tm_volume.proofs.Loading.{handed_on, IsLoadedImage, is_off, fails_volume, no_unformatted, fails_record, fails_spent}
use Rattle.tm_volume.proofs.volume.Volume.load.Goals as goal

pub returns-in_err-image-clause-bad : goal.returns-in_err-image-clause-bad
returns-in_err-image-clause-bad g c told why place is =
    let q = err_from_is_err_and c.from_residual.result c.from_residual.ensures.1 in
    let same : c.in_err-image.field-0.0 ≡ Bad why place = handed_on (q.1 ∙ ap Err q.2) is in
    fails_volume c.args.blocks (disk OfVolume (now (g.W.World.log c.args.world.now))).bytes why place (c.in_err-image.ensures.bad told why place (ap (λ e. Err e) same))

pub returns-in_err-contents-clause-bad : goal.returns-in_err-contents-clause-bad
returns-in_err-contents-clause-bad g c told why place is =
    let d0 : Disk = disk OfVolume (now (g.W.World.log c.args.world.now)) in
    let m : ImageSeen = c.in_ok-image.image in
    let tag : Tag = record { clean = cond c.read_tag-tag.result.clean 1 0; generation = c.read_tag-tag.result.generation; next = c.read_tag-tag.result.next } in
    let same : disk OfVolume (now (g.W.World.log c.load.new.world)) ≡ d0 = ap (disk OfVolume) (c.in_ok-image.ensures.steps told).ends in
    let loaded : IsLoadedImage m d0 c.args.blocks tag = record {
      side = c.in_ok-image.ensures.side;
      sound = c.in_ok-image.ensures.sound;
      settled = c.in_ok-image.ensures.settled;
      space = c.in_ok-image.ensures.space;
      stands = c.in_ok-image.ensures.stands told (c.requires.stable told);
      count = g.met.W.World.counts told c.args.world.now OfVolume ∙ c.requires.count;
      tag_is = sym c.tag.ensures ∙ c.read_tag-tag.ensures.is;
      tagged = c.read_tag-tag.ensures.tagged;
    } in
    let q = err_from_is_err_and c.from_residual-in_err-contents.result c.from_residual-in_err-contents.ensures.1 in
    let error_is : c.in_err-contents.field-0.0 ≡ Bad why place = handed_on (q.1 ∙ ap Err q.2) is in
    let bad = subst (λ (d : Disk). IfBadKey {A = Contents} (Err c.in_err-contents.field-0.0) (IsLeastBad (entries_of d.bytes m.records) tag)) same (c.in_err-contents.ensures.bad told c.read_tag-tag.result.generation) in
    fails_record c.standing_is_read.ensures.itself m d0 c.args.blocks tag loaded Contents c.in_err-contents.field-0.0 bad why place error_is

pub returns-in_err-contents-clause-unformatted : goal.returns-in_err-contents-clause-unformatted
returns-in_err-contents-clause-unformatted g c told is =
    let q = err_from_is_err_and c.from_residual-in_err-contents.result c.from_residual-in_err-contents.ensures.1 in
    let error_is : c.in_err-contents.field-0.0 ≡ Unformatted = handed_on (q.1 ∙ ap Err q.2) is in
    absurd (no_unformatted Contents c.in_err-contents.field-0.0 _ (c.in_err-contents.ensures.bad told c.read_tag-tag.result.generation) error_is)

pub returns-in_err-contents-clause-steps : goal.returns-in_err-contents-clause-steps
returns-in_err-contents-clause-steps g c told =
    Steps-then (g.W.World.log c.args.world.now) (g.W.World.log c.load.new.world) (g.W.World.log c.check_records.new.world) (c.in_ok-image.ensures.steps told) (c.in_err-contents.ensures.steps told)

pub returns-then-tag-ge-LAST_GENERATION-clause-bad : goal.returns-then-tag-ge-LAST_GENERATION-clause-bad
returns-then-tag-ge-LAST_GENERATION-clause-bad g c told why place is =
    let d0 : Disk = disk OfVolume (now (g.W.World.log c.args.world.now)) in
    let m : ImageSeen = c.in_ok-image.image in
    let tag : Tag = record { clean = cond c.read_tag-tag.result.clean 1 0; generation = c.read_tag-tag.result.generation; next = c.read_tag-tag.result.next } in
    let same : disk OfVolume (now (g.W.World.log c.load.new.world)) ≡ d0 = ap (disk OfVolume) (c.in_ok-image.ensures.steps told).ends in
    let loaded : IsLoadedImage m d0 c.args.blocks tag = record {
      side = c.in_ok-image.ensures.side;
      sound = c.in_ok-image.ensures.sound;
      settled = c.in_ok-image.ensures.settled;
      space = c.in_ok-image.ensures.space;
      stands = c.in_ok-image.ensures.stands told (c.requires.stable told);
      count = g.met.W.World.counts told c.args.world.now OfVolume ∙ c.requires.count;
      tag_is = sym c.tag.ensures ∙ c.read_tag-tag.ensures.is;
      tagged = c.read_tag-tag.ensures.tagged;
    } in
    let error_is : Bad Spent 0 ≡ Bad why place = cc in
    let good = subst (λ (d : Disk). IsGoodVolume (entries_of d.bytes m.records) tag) same (c.in_ok-contents.ensures.good told c.read_tag-tag.result.generation) in
    let most = c.read_tag-tag.ensures.tagged.generation_most in
    let off : c.read_tag-tag.result.clean ≡ false = is_off c.read_tag-tag.result.clean c.if-not-tag.true in
    fails_spent c.standing_is_read.ensures.itself m d0 c.args.blocks tag loaded good (ap (λ b. cond b 1 0) off) (omega arith) why place error_is

pub returns-then-tag-ge-LAST_GENERATION-clause-steps : goal.returns-then-tag-ge-LAST_GENERATION-clause-steps
returns-then-tag-ge-LAST_GENERATION-clause-steps g c told =
    Steps-then (g.W.World.log c.args.world.now) (g.W.World.log c.load.new.world) (g.W.World.log c.check_records.new.world) (c.in_ok-image.ensures.steps told) (c.in_ok-contents.ensures.steps told)

pub returns-clause-steps : goal.returns-clause-steps
returns-clause-steps g c told =
    Steps-then (g.W.World.log c.args.world.now) (g.W.World.log c.load.new.world) (g.W.World.log c.check_records.new.world) (c.in_ok-image.ensures.steps told) (c.in_ok-contents.ensures.steps told)

pub invariant_of-result : goal.invariant_of-result
invariant_of-result g c = record {
  side = c.in_ok-image.ensures.side;
  tag_is = sym c.tag.ensures ∙ c.read_tag-tag.ensures.is;
  tagged = c.read_tag-tag.ensures.tagged;
  head_is = c.in_ok-contents.ensures.head;
  sound = λ bytes. (c.in_ok-contents.ensures.items bytes).0;
  lengths = c.in_ok-contents.ensures.short;
  index_is = λ bytes. (c.in_ok-contents.ensures.items bytes).1;
}
