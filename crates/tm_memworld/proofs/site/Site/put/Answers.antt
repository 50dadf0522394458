use Rattle.std.proofs.Common.{◌<◌, ◌∙◌, length, sym, ap, subst, arith}
use Rattle.std.proofs.Math.ListN.{length-set}
use Rattle.std.proofs.lemmas.List.{get_or_read}
use Rattle.std.specs.List.{slice_index}
use Rattle.tm_world.specs.Disk.{written}
use Rattle.tm_memworld.specs.Site.{SiteView, disk_in, disk_of, count_at}
use Rattle.tm_memworld.proofs.Sites.{within, whole_set, disk_in-put}
use Rattle.tm_memworld.proofs.site.Site.put.Goals as goal

pub index_mut-requires : goal.index_mut-requires
index_mut-requires c =
    let f = c.self.inside in
    let lt : c.args.block < (disk_in f.count f.blocks.items f.times.items f.settled).count = subst (λ (v : SiteView). c.args.block < count_at v) (sym c.self.view_is) c.requires.block in
    omega (arith, within f.count f.blocks.items f.times.items f.settled c.args.block c.self.invariant lt, f.blocks.ok.0)

pub index-before-requires : goal.index-before-requires
index-before-requires c =
    let f = c.self.inside in
    let lt : c.args.block < (disk_in f.count f.blocks.items f.times.items f.settled).count = subst (λ (v : SiteView). c.args.block < count_at v) (sym c.self.view_is) c.requires.block in
    omega (arith, within f.count f.blocks.items f.times.items f.settled c.args.block c.self.invariant lt, c.self.invariant.same, f.times.ok.0)

pub index_mut-requires-2 : goal.index_mut-requires-2
index_mut-requires-2 c =
    let f = c.self.inside in
    let lt : c.args.block < (disk_in f.count f.blocks.items f.times.items f.settled).count = subst (λ (v : SiteView). c.args.block < count_at v) (sym c.self.view_is) c.requires.block in
    omega (arith, within f.count f.blocks.items f.times.items f.settled c.args.block c.self.invariant lt, c.self.invariant.same, f.times.ok.0)

pub invariant_of-self : goal.invariant_of-self
invariant_of-self c =
    let f = c.self.inside in
    let lt : c.args.block < (disk_in f.count f.blocks.items f.times.items f.settled).count = subst (λ (v : SiteView). c.args.block < count_at v) (sym c.self.view_is) c.requires.block in
    whole_set f.count f.blocks.items _ f.times.items _ f.settled c.args.block c.self.invariant lt (length-set f.blocks.items c.args.block c.args.bytes.now) (length-set f.times.items c.args.block c.args.time)

pub returns-clause-before : goal.returns-clause-before
returns-clause-before c =
    let f = c.self.inside in
    let lt : c.args.block < (disk_in f.count f.blocks.items f.times.items f.settled).count = subst (λ (v : SiteView). c.args.block < count_at v) (sym c.self.view_is) c.requires.block in
    let timed : c.args.block < length f.times.items = omega (arith, within f.count f.blocks.items f.times.items f.settled c.args.block c.self.invariant lt, c.self.invariant.same) in
    get_or_read f.times.items c.args.block c.index-before.result.now timed c.index-before.ensures 0 ∙ ap (λ (v : SiteView). slice_index v.times c.args.block) c.self.view_is

pub returns-clause-disk : goal.returns-clause-disk
returns-clause-disk c =
    let f = c.self.inside in
    let lt : c.args.block < (disk_in f.count f.blocks.items f.times.items f.settled).count = subst (λ (v : SiteView). c.args.block < count_at v) (sym c.self.view_is) c.requires.block in
    let later : f.settled < c.args.time = subst (λ (v : SiteView). v.settled < c.args.time) (sym c.self.view_is) c.requires.later in
    disk_in-put f.count f.blocks.items f.times.items f.settled c.args.block c.args.bytes.now c.args.time c.self.invariant lt later ∙ ap (λ (v : SiteView). written c.args.block c.args.bytes.now (disk_of v)) c.self.view_is
