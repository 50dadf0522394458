use Rattle.std.proofs.Common.{◌≡◌, ◌+◌, ◌≤◌, ◌++◌, ◌∷◌, [], ◌∙◌, length, set, sym, ap, subst, rules, arith}
use Rattle.std.proofs.Math.ListN.{length-append}
use Rattle.tm_memworld.specs.declared.change.Change.TheVariants.{Synced}
use Rattle.tm_memworld.specs.Sites.{AreBy}
use Rattle.tm_world.specs.Disk.{Disk}
use Rattle.tm_world.proofs.Disks.{count_synced}
use Rattle.tm_memworld.specs.Site.{SiteView, disk_of}
use Rattle.tm_world.specs.Log.{Steps}
use Rattle.tm_memworld.specs.Devices.{contents_of, log_of, outside}
use Rattle.tm_memworld.proofs.Views.{by_later}
use Rattle.tm_memworld.proofs.Going.{none_there, sync_nothing, by_settled, sync_steps}
use Rattle.tm_memworld.proofs.AtSide.{first-at, site-at, by-at, firsts, smalls, bys, rooms}
use Rattle.tm_memworld.proofs.devices.Devices.sync.Goals as goal

pub settle-before-requires : goal.settle-before-requires
settle-before-requires c =
    let d = c.args.self.now in
    by_later (length d.changes.items) (c.len-time.result + 1) c.index_mut.result.now (omega (arith, c.len-time.ensures, d.changes.ok.0)) (by-at d c.args.side c.in-Some.i c.in-Some.ensures c.index_mut.result.now c.index_mut.ensures.value)

pub returns-in_default-clause-steps : goal.returns-in_default-clause-steps
returns-in_default-clause-steps c =
    let d = c.args.self.now in
    let none = none_there (contents_of d) d.began d.changes.items c.args.side (sym c.site_of.ensures ∙ c.in_default.is) in
    subst (Steps (log_of d) (log_of c.spend.new.self)) (sync_nothing c.args.side (outside d) none) c.spend.ensures.steps

pub invariant_of-self-clause-volume_first : goal.invariant_of-self-clause-volume_first
invariant_of-self-clause-volume_first c = λ k at.
    firsts c.args.self.now c.args.side c.in-Some.i c.in-Some.ensures c.index_mut.result.now c.index_mut.ensures.value c.settle-before.new.self (ap (λ (s : SiteView). s.path) c.settle-before.ensures.view) k (c.args.self.now.volume_first k at)

pub invariant_of-self-clause-store_first : goal.invariant_of-self-clause-store_first
invariant_of-self-clause-store_first c = λ k at.
    firsts c.args.self.now c.args.side c.in-Some.i c.in-Some.ensures c.index_mut.result.now c.index_mut.ensures.value c.settle-before.new.self (ap (λ (s : SiteView). s.path) c.settle-before.ensures.view) k (c.args.self.now.store_first k at)

pub invariant_of-self-clause-small : goal.invariant_of-self-clause-small
invariant_of-self-clause-small c =
    smalls c.args.self.now c.args.side c.in-Some.i c.in-Some.ensures c.index_mut.result.now c.index_mut.ensures.value c.settle-before.new.self (ap (λ (s : SiteView). s.path) c.settle-before.ensures.view)
    (ap (λ (e : Disk). e.count) c.settle-before.ensures.disk ∙ count_synced (disk_of c.index_mut.result.now))

pub invariant_of-self-clause-by_now : goal.invariant_of-self-clause-by_now
invariant_of-self-clause-by_now c =
    let d = c.args.self.now in
    let s = c.index_mut.result.now in
    let noted : c.push-noted.new.self.items ≡ d.changes.items ++ Synced c.in-Some.i c.settle-before.result ∷ [] = search rules in
    let time : length c.push-noted.new.self.items ≡ c.len-time.result + 1 = omega (arith, ap length noted, length-append d.changes.items (Synced c.in-Some.i c.settle-before.result ∷ []), c.len-time.ensures, d.changes.ok.0) in
    let le : length d.changes.items ≤ c.len-time.result + 1 = omega (arith, c.len-time.ensures, d.changes.ok.0) in
    subst (λ n. AreBy n (set d.sites.items c.in-Some.i c.settle-before.new.self)) (sym time)
    (bys d c.args.side c.in-Some.i c.in-Some.ensures s c.index_mut.ensures.value c.settle-before.new.self (ap (λ (t : SiteView). t.path) c.settle-before.ensures.view) (c.len-time.result + 1) le
    (by_settled s c.settle-before.new.self (c.len-time.result + 1) (length d.changes.items) (ap (λ (t : SiteView). t.settled) c.settle-before.ensures.view) (ap (λ (t : SiteView). t.times) c.settle-before.ensures.view) le
    (by-at d c.args.side c.in-Some.i c.in-Some.ensures s c.index_mut.ensures.value)))

pub returns-clause-steps : goal.returns-clause-steps
returns-clause-steps c =
    let d = c.args.self.now in
    let s = c.index_mut.result.now in
    sync_steps (contents_of d) d.began d.changes.items c.push-noted.new.self.items d.begun c.args.side c.in-Some.i s c.settle-before.new.self (sym c.in-Some.ensures)
    (first-at d c.args.side c.in-Some.i c.in-Some.ensures) (site-at d c.args.side c.in-Some.i c.in-Some.ensures s c.index_mut.ensures.value) (ap (λ (t : SiteView). t.path) c.settle-before.ensures.view)
    _ c.settle-before.result c.settle-before.ensures.view c.settle-before.ensures.disk c.settle-before.ensures.before (search rules)

pub returns-clause-places : goal.returns-clause-places
returns-clause-places c =
    rooms c.args.self.now c.args.side c.in-Some.i c.in-Some.ensures c.index_mut.result.now c.index_mut.ensures.value c.settle-before.new.self (ap (λ (s : SiteView). s.path) c.settle-before.ensures.view)
    (ap (λ (s : SiteView). length s.blocks) c.settle-before.ensures.view)
