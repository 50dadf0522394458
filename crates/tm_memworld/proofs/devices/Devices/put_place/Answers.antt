use Rattle.std.proofs.Common.{◌∙◌, Some, sym, ap, arith}
use Rattle.tm_world.specs.Disk.{Disk}
use Rattle.tm_world.specs.Outside.{put_at}
use Rattle.tm_memworld.specs.Site.{SiteView, disk_of}
use Rattle.tm_memworld.specs.Devices.{outside}
use Rattle.tm_memworld.proofs.Sites.{disk-blank}
use Rattle.tm_memworld.proofs.Attaching.{put_at-same}
use Rattle.tm_memworld.proofs.Opening.{nothing_outside}
use Rattle.tm_memworld.proofs.Putting.{either_way}
use Rattle.tm_memworld.proofs.devices.Devices.put_place.Goals as goal

pub put_site-requires-clause-small : goal.put_site-requires-clause-small
put_site-requires-clause-small c = omega (arith, ap (λ (s : SiteView). (disk_of s).count) c.in_ok-site.ensures ∙ ap (λ (e : Disk). e.count) (disk-blank c.args.path.now c.args.blocks))

pub returns-clause-outside : goal.returns-clause-outside
returns-clause-outside c =
    let d = c.args.self.now in
    either_way c.put_site.result (outside c.put_site.new.self) (put_at (Some c.in_ok-site.site.path) (disk_of c.in_ok-site.site) (outside d)) (outside d) c.put_site.ensures.ok c.put_site.ensures.err
    (ap (λ (s : SiteView). put_at (Some s.path) (disk_of s) (outside d)) c.in_ok-site.ensures ∙ ap (λ e. put_at (Some c.args.path.now) e (outside d)) (disk-blank c.args.path.now c.args.blocks)
    ∙ put_at-same (Some c.args.path.now) _ (outside d) (nothing_outside d c.args.path.now (sym c.if-stands.ensures)))
