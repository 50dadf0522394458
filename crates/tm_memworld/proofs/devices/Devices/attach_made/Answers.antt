use Rattle.std.proofs.Common.{◌≡◌, ◌∙◌, ◌++◌, ◌∷◌, [], ℕ, List, Some, length, set, sym, ap, subst, arith}
use Rattle.tm_world.specs.Disk.{Disk}
use Rattle.tm_memworld.specs.declared.change.Change.TheVariants.{Attached}
use Rattle.tm_memworld.specs.declared.change.Opened.TheVariants.{Made}
use Rattle.tm_memworld.specs.Site.{SiteView, IsBy}
use Rattle.tm_memworld.specs.Sites.{site_at, path_at, room_at}
use Rattle.tm_memworld.specs.Contents.{Contents, with_attached}
use Rattle.tm_memworld.specs.Devices.{contents_of}
use Rattle.tm_memworld.proofs.Views.{first-set, small-set, by-set, room-set_same}
use Rattle.tm_memworld.proofs.Going.{site_is}
use Rattle.tm_memworld.proofs.Attaching.{made_steps, sites-with_attached, attached_at-sites}
use Rattle.tm_memworld.proofs.AtSide.{Steps-as}
use Rattle.tm_memworld.proofs.devices.Devices.attach_made.Goals as goal

opened : (sites : List SiteView) (i : ℕ) (s t : SiteView) (n : ℕ) → s ≡ site_at sites i → t ≡ record s { count = Some n } → t.path ≡ path_at sites i
opened sites i s t n is made = ap (λ (u : SiteView). u.path) made ∙ ap (λ (u : SiteView). u.path) is

pub invariant_of-self-clause-volume_first : goal.invariant_of-self-clause-volume_first
invariant_of-self-clause-volume_first c = λ k at.
    let d = c.args.self.now in
    let is = site_is d.sites.items c.args.i c.index_mut.result.now c.requires.first.within c.index_mut.ensures.value in
    first-set d.sites.items c.args.i k c.open.new.self c.requires.first.within (opened d.sites.items c.args.i c.index_mut.result.now c.open.new.self c.args.count is c.open.ensures.view) (d.volume_first k at)

pub invariant_of-self-clause-store_first : goal.invariant_of-self-clause-store_first
invariant_of-self-clause-store_first c = λ k at.
    let d = c.args.self.now in
    let is = site_is d.sites.items c.args.i c.index_mut.result.now c.requires.first.within c.index_mut.ensures.value in
    first-set d.sites.items c.args.i k c.open.new.self c.requires.first.within (opened d.sites.items c.args.i c.index_mut.result.now c.open.new.self c.args.count is c.open.ensures.view) (d.store_first k at)

pub invariant_of-self-clause-small : goal.invariant_of-self-clause-small
invariant_of-self-clause-small c =
    let d = c.args.self.now in
    let is = site_is d.sites.items c.args.i c.index_mut.result.now c.requires.first.within c.index_mut.ensures.value in
    small-set d.sites.items c.args.i c.open.new.self d.small c.requires.first (opened d.sites.items c.args.i c.index_mut.result.now c.open.new.self c.args.count is c.open.ensures.view)
    (omega (arith, ap (λ (e : Disk). e.count) c.open.ensures.disk, c.requires.most))

pub invariant_of-self-clause-by_now : goal.invariant_of-self-clause-by_now
invariant_of-self-clause-by_now c =
    let d = c.args.self.now in
    let is = site_is d.sites.items c.args.i c.index_mut.result.now c.requires.first.within c.index_mut.ensures.value in
    let by : IsBy (length d.changes.items) c.index_mut.result.now = subst (IsBy (length d.changes.items)) (sym is) (d.by_now.each c.args.i) in
    by-set d.sites.items c.args.i c.open.new.self (length d.changes.items) (length d.changes.items) c.requires.first.within d.by_now (omega arith)
    (subst (IsBy (length d.changes.items)) (sym c.open.ensures.view) (record { settled = by.settled; written = by.written }))

pub returns-clause-steps : goal.returns-clause-steps
returns-clause-steps c =
    let d = c.args.self.now in
    let is = site_is d.sites.items c.args.i c.index_mut.result.now c.requires.first.within c.index_mut.ensures.value in
    Steps-as c.attach_at.new.self d.began (with_attached c.args.side (Some c.args.i) (record (contents_of d) { sites = set d.sites.items c.args.i c.open.new.self })) _ _ c.attach_at.ensures.contents c.attach_at.ensures.began
    (made_steps (contents_of d) d.began d.changes.items c.attach_at.new.self.changes.items d.begun c.args.side c.args.i c.index_mut.result.now c.open.new.self c.args.count c.requires.first is
    (ap (λ (s : SiteView). s.count) is ∙ c.requires.none) c.open.ensures.view c.open.ensures.disk
    (c.attach_at.ensures.changes ∙ ap (λ a. d.changes.items ++ Attached c.args.side a Made ∷ []) (attached_at-sites c.args.side (contents_of d) (set d.sites.items c.args.i c.open.new.self))))

pub returns-clause-places : goal.returns-clause-places
returns-clause-places c =
    let d = c.args.self.now in
    let is = site_is d.sites.items c.args.i c.index_mut.result.now c.requires.first.within c.index_mut.ensures.value in
    ap (λ (e : Contents). room_at e.sites) c.attach_at.ensures.contents ∙ ap room_at (sites-with_attached c.args.side (Some c.args.i) _)
    ∙ (λ j name. room-set_same d.sites.items c.args.i c.open.new.self name c.requires.first (opened d.sites.items c.args.i c.index_mut.result.now c.open.new.self c.args.count is c.open.ensures.view)
    (ap (λ (s : SiteView). length s.blocks) c.open.ensures.view ∙ ap (λ (s : SiteView). length s.blocks) is) j)
