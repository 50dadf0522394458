use Rattle.std.proofs.Common.{◌≡◌, ◌∙◌, None, ap, subst}
use Rattle.tm_memworld.specs.Site.{SiteView, KeepsImage}
use Rattle.tm_memworld.proofs.Sites.{disk_in-open}
use Rattle.tm_memworld.proofs.site.Site.open.Goals as goal

pub returns-clause-disk : goal.returns-clause-disk
returns-clause-disk c =
    let f = c.self.inside in
    let none : f.count ≡ None = ap (λ (v : SiteView). v.count) c.self.view_is ∙ c.requires.none in
    disk_in-open f.blocks.items f.times.items f.settled c.args.count (subst (λ o. KeepsImage o f.blocks.items f.times.items) none c.self.invariant)
