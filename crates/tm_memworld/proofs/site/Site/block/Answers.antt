use Rattle.std.proofs.Common.{◌<◌, ◌∙◌, get_or, sym, ap, subst, arith}
use Rattle.std.proofs.lemmas.List.{get_or_read}
use Rattle.tm_memworld.specs.Site.{SiteView, disk_in, count_at, zero_block}
use Rattle.tm_memworld.proofs.Sites.{within, bytes-disk_in}
use Rattle.tm_memworld.proofs.site.Site.block.Goals as goal

pub index-requires : goal.index-requires
index-requires c =
    let f = c.self.inside in
    let lt : c.args.block < (disk_in f.count f.blocks.items f.times.items f.settled).count = subst (λ (v : SiteView). c.args.block < count_at v) (sym c.self.view_is) c.requires in
    omega (arith, within f.count f.blocks.items f.times.items f.settled c.args.block c.self.invariant lt, f.blocks.ok.0)

pub returns-clause-view : goal.returns-clause-view
returns-clause-view c =
    let f = c.self.inside in
    let lt : c.args.block < (disk_in f.count f.blocks.items f.times.items f.settled).count = subst (λ (v : SiteView). c.args.block < count_at v) (sym c.self.view_is) c.requires in
    get_or_read f.blocks.items c.args.block c.index.result.now (within f.count f.blocks.items f.times.items f.settled c.args.block c.self.invariant lt) c.index.ensures zero_block
    ∙ ap (λ (v : SiteView). get_or v.blocks c.args.block zero_block) c.self.view_is

pub returns-clause-disk : goal.returns-clause-disk
returns-clause-disk c = returns-clause-view c ∙ sym (bytes-disk_in c.args.self.now.count c.args.self.now.blocks c.args.self.now.times c.args.self.now.settled c.args.block c.requires)
