use Rattle.std.proofs.Common.{◌∙◌, sym, ap, subst}
use Rattle.tm_world.specs.Disk.{synced}
use Rattle.tm_memworld.specs.Site.{SiteView, disk_of, IsBy}
use Rattle.tm_memworld.proofs.Sites.{disk_in-settle}
use Rattle.tm_memworld.proofs.site.Site.settle.Goals as goal

pub returns-clause-disk : goal.returns-clause-disk
returns-clause-disk c =
    let f = c.self.inside in
    let by : IsBy c.args.time (record { path = f.path.items; count = f.count; blocks = f.blocks.items; times = f.times.items; settled = f.settled }) = subst (IsBy c.args.time) (sym c.self.view_is) c.requires in
    disk_in-settle f.count f.blocks.items f.times.items f.settled c.args.time by.written ∙ ap (λ (v : SiteView). synced (disk_of v)) c.self.view_is
