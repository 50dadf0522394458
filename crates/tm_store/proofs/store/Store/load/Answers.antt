use Rattle.std.proofs.Common.{◌≡◌, Err, sym, ◌∙◌, ap, subst, refl}
use Rattle.tm_image.specs.Load.{Fails}
use Rattle.tm_image.specs.Seen.{Seen}
use Rattle.tm_image.specs.declared.error.LoadError.TheVariants.{Bad}
use Rattle.tm_world.specs.Disk.{Disk}
use Rattle.tm_world.specs.Outside.{disk}
use Rattle.tm_world.specs.Log.{now}
use Rattle.tm_world.specs.declared.cause.Cause.{Cause}
use Rattle.tm_world.specs.declared.world.Side.TheVariants.{Store}
use Rattle.tm_store_records.specs.Drafts.{load_error}
use Rattle.tm_store_records.specs.Heads.{heads_of}
use Rattle.tm_store_records.specs.Rules.{IsLeastBadKey}
use Rattle.tm_store_records.specs.States.{StoreFails, image_of}
use Rattle.std.proofs.lemmas.Result.{err_from_is_err_and}
use Rattle.tm_store.proofs.Loading.{IsLoaded, bad_record, fails_store, fails_record, reads_whole, loaded_whole}
use Rattle.tm_store.proofs.store.Store.load.Goals as goal

pub returns-in_err-image-clause-bad : goal.returns-in_err-image-clause-bad
returns-in_err-image-clause-bad g c told stable why place is =
    let d : Disk = disk Store (now (g.W.World.log c.args.world.now)) in
    let met = err_from_is_err_and c.from_residual.result c.from_residual.ensures.1 in
    let gives = met.1 in
    let from = met.2 in
    let same : c.in_err-image.field-0.0 ≡ Bad why place = cc in
    fails_store (image_of d) why place (subst (λ n. Fails Store n d.bytes why place) (sym (g.met.W.World.counts told c.args.world.now Store ∙ c.requires.count)) (c.in_err-image.ensures.bad told why place (ap (λ e. Err e) same)))

pub returns-in_err-machine-clause-bad : goal.returns-in_err-machine-clause-bad
returns-in_err-machine-clause-bad g c told stable why place is =
    let d : Disk = disk Store (now (g.W.World.log c.args.world.now)) in
    let m : Seen = c.in_ok-image.image in
    let loaded : IsLoaded m c.read_tag-tag.result.running c.read_tag-tag.result.number = record {
      side = c.in_ok-image.ensures.side;
      sound = c.in_ok-image.ensures.sound;
      settled = c.in_ok-image.ensures.settled;
      space = c.in_ok-image.ensures.space;
      tag_is = sym c.tag.ensures ∙ c.read_tag-tag.ensures.is;
      fits = c.read_tag-tag.ensures.fits;
    } in
    let met = err_from_is_err_and c.from_residual-in_err-machine.result c.from_residual-in_err-machine.ensures.1 in
    let gives = met.1 in
    let from = met.2 in
    let same : load_error c.in_err-machine.field-0.0 ≡ Bad why place = cc in
    let bad = bad_record c.in_err-machine.field-0.0 why place (IsLeastBadKey (heads_of m.records) c.read_tag-tag.result.number) same c.in_err-machine.ensures.bad in
    subst (λ (k : Cause). StoreFails (image_of d) k place) (sym bad.0) (fails_record m _ _ loaded c.standing_is_read.ensures.itself d (c.in_ok-image.ensures.stands told stable) place bad.1)

pub returns-clause-reads : goal.returns-clause-reads
returns-clause-reads g c told stable =
    let d : Disk = disk Store (now (g.W.World.log c.args.world.now)) in
    let m : Seen = c.in_ok-image.image in
    let loaded : IsLoaded m c.read_tag-tag.result.running c.read_tag-tag.result.number = record {
      side = c.in_ok-image.ensures.side;
      sound = c.in_ok-image.ensures.sound;
      settled = c.in_ok-image.ensures.settled;
      space = c.in_ok-image.ensures.space;
      tag_is = sym c.tag.ensures ∙ c.read_tag-tag.ensures.is;
      fits = c.read_tag-tag.ensures.fits;
    } in
    let read = c.in_ok-machine.ensures in
    reads_whole m _ _ loaded c.standing_is_read.ensures.itself d (c.in_ok-image.ensures.stands told stable) _ refl refl refl
    (loaded_whole m _ _ loaded _ _ _ _ c.in_ok-image.ensures.unstaged read.good read.machine read.nodes read.snapshots c.new.ensures.items)

pub returns-clause-whole : goal.returns-clause-whole
returns-clause-whole g c =
    let m : Seen = c.in_ok-image.image in
    let loaded : IsLoaded m c.read_tag-tag.result.running c.read_tag-tag.result.number = record {
      side = c.in_ok-image.ensures.side;
      sound = c.in_ok-image.ensures.sound;
      settled = c.in_ok-image.ensures.settled;
      space = c.in_ok-image.ensures.space;
      tag_is = sym c.tag.ensures ∙ c.read_tag-tag.ensures.is;
      fits = c.read_tag-tag.ensures.fits;
    } in
    let read = c.in_ok-machine.ensures in
    loaded_whole m _ _ loaded _ _ _ _ c.in_ok-image.ensures.unstaged read.good read.machine read.nodes read.snapshots c.new.ensures.items
