use Rattle.std.proofs.Common.{◌≡◌, ◌∙◌, sym, ap, subst}
use Rattle.std.specs.Option.{is_some}
use Rattle.tm_world.specs.Disk.{Disk}
use Rattle.tm_memworld.specs.Sites.{path_at, IsFirst, IsNowhere}
use Rattle.tm_memworld.proofs.Going.{site_is}
use Rattle.tm_memworld.proofs.Opening.{none_stands, stands_is, there-is_some}
use Rattle.tm_memworld.proofs.devices.Devices.stands.Goals as goal

pub returns-in-Some : goal.returns-in-Some
returns-in-Some c =
    let d = c.args.self.now in
    let first : IsFirst d.sites.items c.in-Some.i = subst (λ xs. IsFirst xs c.in-Some.i) c.deref.ensures.value c.in-Some.ensures.first in
    let path_is : path_at d.sites.items c.in-Some.i ≡ c.args.path.now = subst (λ xs. path_at xs c.in-Some.i ≡ c.args.path.now) c.deref.ensures.value c.in-Some.ensures.path in
    c.is_some.ensures ∙ ap is_some c.count.ensures
    ∙ sym (ap (λ (e : Disk). e.there) (stands_is d c.args.path.now c.in-Some.i c.index.result.now first path_is (site_is d.sites.items c.in-Some.i c.index.result.now first.within c.index.ensures)) ∙ there-is_some c.index.result.now)

pub returns-in-None : goal.returns-in-None
returns-in-None c =
    let d = c.args.self.now in
    let nowhere : IsNowhere d.sites.items c.args.path.now = subst (λ xs. IsNowhere xs c.args.path.now) c.deref.ensures.value c.in-None.ensures.none in
    sym (ap (λ (e : Disk). e.there) (none_stands d c.args.path.now nowhere))
