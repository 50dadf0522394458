use Rattle.std.proofs.Common.{◌≡◌, ◌∙◌, ◌++◌, ◌∷◌, [], ℕ, List, Some, length, refl, sym, ap, subst, rules, arith}
use Rattle.tm_world.specs.Disk.{Disk}
use Rattle.tm_memworld.specs.declared.change.Change.TheVariants.{Attached}
use Rattle.tm_memworld.specs.declared.change.Opened.TheVariants.{Named}
use Rattle.tm_memworld.specs.Site.{SiteView, blank, IsBy}
use Rattle.tm_memworld.specs.Sites.{room_at, IsFirst, AreSmall, AreBy}
use Rattle.tm_memworld.specs.Contents.{Contents, with_attached}
use Rattle.tm_memworld.specs.Devices.{contents_of}
use Rattle.tm_memworld.proofs.Sites.{disk-blank}
use Rattle.tm_memworld.proofs.Views.{first-push, first_last, small-push, by-push, room-named}
use Rattle.tm_memworld.proofs.Attaching.{named_steps, sites-with_attached, attached_at-sites}
use Rattle.tm_memworld.proofs.AtSide.{Steps-as}
use Rattle.tm_memworld.proofs.devices.Devices.attach_new.Goals as goal

module _ (path : List ℕ) where
  blank_by : (time : ℕ) → IsBy time (blank path 0)
  blank_by time = record { settled = omega arith; written = λ b. omega arith }

pub attach_at-requires-clause-first : goal.attach_at-requires-clause-first
attach_at-requires-clause-first c =
    let d = c.args.self.now in
    let named : c.push-named.new.self.items ≡ d.sites.items ++ blank c.args.path.now 0 ∷ [] = search rules in
    let i : c.len-i.result ≡ length d.sites.items = omega (arith, c.len-i.ensures, d.sites.ok.0) in
    subst (λ xs. IsFirst xs c.len-i.result) (sym named) (subst (IsFirst (d.sites.items ++ blank c.args.path.now 0 ∷ [])) (sym i) (first_last d.sites.items (blank c.args.path.now 0) c.requires.nowhere))

pub invariant_of-self-clause-volume_first : goal.invariant_of-self-clause-volume_first
invariant_of-self-clause-volume_first c = λ k at.
    let d = c.args.self.now in
    let named : c.push-named.new.self.items ≡ d.sites.items ++ blank c.args.path.now 0 ∷ [] = search rules in
    subst (λ xs. IsFirst xs k) (sym named) (first-push d.sites.items (blank c.args.path.now 0) k (d.volume_first k at))

pub invariant_of-self-clause-store_first : goal.invariant_of-self-clause-store_first
invariant_of-self-clause-store_first c = λ k at.
    let d = c.args.self.now in
    let named : c.push-named.new.self.items ≡ d.sites.items ++ blank c.args.path.now 0 ∷ [] = search rules in
    subst (λ xs. IsFirst xs k) (sym named) (first-push d.sites.items (blank c.args.path.now 0) k (d.store_first k at))

pub invariant_of-self-clause-small : goal.invariant_of-self-clause-small
invariant_of-self-clause-small c =
    let d = c.args.self.now in
    let named : c.push-named.new.self.items ≡ d.sites.items ++ blank c.args.path.now 0 ∷ [] = search rules in
    subst AreSmall (sym named) (small-push d.sites.items (blank c.args.path.now 0) d.small c.requires.nowhere (omega (arith, ap (λ (e : Disk). e.count) (disk-blank c.args.path.now 0))))

pub invariant_of-self-clause-by_now : goal.invariant_of-self-clause-by_now
invariant_of-self-clause-by_now c =
    let d = c.args.self.now in
    let named : c.push-named.new.self.items ≡ d.sites.items ++ blank c.args.path.now 0 ∷ [] = search rules in
    subst (AreBy (length d.changes.items)) (sym named) (by-push d.sites.items (blank c.args.path.now 0) (length d.changes.items) d.by_now (blank_by c.args.path.now (length d.changes.items)))

pub returns-clause-steps : goal.returns-clause-steps
returns-clause-steps c =
    let d = c.args.self.now in
    let t : SiteView = blank c.args.path.now 0 in
    let named : c.push-named.new.self.items ≡ d.sites.items ++ t ∷ [] = search rules in
    let i : c.len-i.result ≡ length d.sites.items = omega (arith, c.len-i.ensures, d.sites.ok.0) in
    Steps-as c.attach_at.new.self d.began (with_attached c.args.side (Some (length d.sites.items)) (record (contents_of d) { sites = d.sites.items ++ t ∷ [] })) _ _
    (c.attach_at.ensures.contents ∙ (λ j. with_attached c.args.side (Some (i j)) (record (contents_of d) { sites = named j }))) c.attach_at.ensures.began
    (named_steps (contents_of d) d.began d.changes.items c.attach_at.new.self.changes.items d.begun c.args.side t d.volume_first d.store_first c.requires.nowhere (disk-blank c.args.path.now 0)
    (c.attach_at.ensures.changes ∙ ap (λ a. d.changes.items ++ Attached c.args.side a Named ∷ []) (attached_at-sites c.args.side (contents_of d) c.push-named.new.self.items)))

pub returns-clause-places : goal.returns-clause-places
returns-clause-places c =
    let d = c.args.self.now in
    let named : c.push-named.new.self.items ≡ d.sites.items ++ blank c.args.path.now 0 ∷ [] = search rules in
    ap (λ (e : Contents). room_at e.sites) c.attach_at.ensures.contents ∙ ap room_at (sites-with_attached c.args.side (Some c.len-i.result) _ ∙ named)
    ∙ (λ j name. room-named d.sites.items (blank c.args.path.now 0) name c.requires.nowhere refl j)
