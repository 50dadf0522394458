use Rattle.std.proofs.Common.{◌≡◌, ◌+◌, ◌≤◌, ◌++◌, ◌∷◌, [], ◌∙◌, length, set, sym, ap, subst, rules, arith}
use Rattle.std.proofs.Math.ListN.{length-append}
use Rattle.tm_memworld.specs.declared.change.Change.TheVariants.{Loosened}
use Rattle.tm_memworld.specs.Sites.{AreBy}
use Rattle.tm_world.specs.Disk.{Disk}
use Rattle.tm_memworld.specs.Site.{SiteView, disk_of}
use Rattle.tm_memworld.specs.Devices.{contents_of}
use Rattle.tm_memworld.proofs.Going.{no_block, by_timed, count-loosened, loosen_steps}
use Rattle.tm_memworld.proofs.AtSide.{first-at, site-at, block-at, by-at, firsts, smalls, bys, rooms}
use Rattle.tm_memworld.proofs.devices.Devices.loosen.Goals as goal

pub unreachable-requires : goal.unreachable-requires
unreachable-requires c =
    let d = c.args.self.now in
    no_block (contents_of d) d.began d.changes.items c.args.side c.args.block (sym c.site_of.ensures ∙ c.in_default.is) c.requires.block

pub loosen-before-requires-clause-block : goal.loosen-before-requires-clause-block
loosen-before-requires-clause-block c = block-at c.args.self.now c.args.side c.in-Some.i c.in-Some.ensures c.index_mut.result.now c.index_mut.ensures.value c.args.block c.requires.block

pub invariant_of-self-clause-volume_first : goal.invariant_of-self-clause-volume_first
invariant_of-self-clause-volume_first c = λ k at.
    firsts c.args.self.now c.args.side c.in-Some.i c.in-Some.ensures c.index_mut.result.now c.index_mut.ensures.value c.loosen-before.new.self (ap (λ (s : SiteView). s.path) c.loosen-before.ensures.view) k (c.args.self.now.volume_first k at)

pub invariant_of-self-clause-store_first : goal.invariant_of-self-clause-store_first
invariant_of-self-clause-store_first c = λ k at.
    firsts c.args.self.now c.args.side c.in-Some.i c.in-Some.ensures c.index_mut.result.now c.index_mut.ensures.value c.loosen-before.new.self (ap (λ (s : SiteView). s.path) c.loosen-before.ensures.view) k (c.args.self.now.store_first k at)

pub invariant_of-self-clause-small : goal.invariant_of-self-clause-small
invariant_of-self-clause-small c =
    smalls c.args.self.now c.args.side c.in-Some.i c.in-Some.ensures c.index_mut.result.now c.index_mut.ensures.value c.loosen-before.new.self (ap (λ (s : SiteView). s.path) c.loosen-before.ensures.view)
    (ap (λ (e : Disk). e.count) c.loosen-before.ensures.disk ∙ count-loosened c.args.block (disk_of c.index_mut.result.now))

pub invariant_of-self-clause-by_now : goal.invariant_of-self-clause-by_now
invariant_of-self-clause-by_now c =
    let d = c.args.self.now in
    let s = c.index_mut.result.now in
    let noted : c.push-noted.new.self.items ≡ d.changes.items ++ Loosened c.in-Some.i c.args.block c.loosen-before.result ∷ [] = search rules in
    let time : length c.push-noted.new.self.items ≡ c.len-time.result + 1 = omega (arith, ap length noted, length-append d.changes.items (Loosened c.in-Some.i c.args.block c.loosen-before.result ∷ []), c.len-time.ensures, d.changes.ok.0) in
    let le : length d.changes.items ≤ c.len-time.result + 1 = omega (arith, c.len-time.ensures, d.changes.ok.0) in
    subst (λ n. AreBy n (set d.sites.items c.in-Some.i c.loosen-before.new.self)) (sym time)
    (bys d c.args.side c.in-Some.i c.in-Some.ensures s c.index_mut.ensures.value c.loosen-before.new.self (ap (λ (t : SiteView). t.path) c.loosen-before.ensures.view) (c.len-time.result + 1) le
    (by_timed s c.loosen-before.new.self c.args.block (c.len-time.result + 1) (length d.changes.items) (ap (λ (t : SiteView). t.settled) c.loosen-before.ensures.view) (ap (λ (t : SiteView). t.times) c.loosen-before.ensures.view) le
    (by-at d c.args.side c.in-Some.i c.in-Some.ensures s c.index_mut.ensures.value)))

pub returns-clause-steps : goal.returns-clause-steps
returns-clause-steps c =
    let d = c.args.self.now in
    let s = c.index_mut.result.now in
    loosen_steps (contents_of d) d.began d.changes.items c.push-noted.new.self.items d.begun c.args.side c.in-Some.i s c.loosen-before.new.self (sym c.in-Some.ensures)
    (first-at d c.args.side c.in-Some.i c.in-Some.ensures) (site-at d c.args.side c.in-Some.i c.in-Some.ensures s c.index_mut.ensures.value) (ap (λ (t : SiteView). t.path) c.loosen-before.ensures.view)
    c.args.block _ c.loosen-before.result c.loosen-before.ensures.view c.loosen-before.ensures.disk c.loosen-before.ensures.before (search rules)

pub returns-clause-places : goal.returns-clause-places
returns-clause-places c =
    rooms c.args.self.now c.args.side c.in-Some.i c.in-Some.ensures c.index_mut.result.now c.index_mut.ensures.value c.loosen-before.new.self (ap (λ (s : SiteView). s.path) c.loosen-before.ensures.view)
    (ap (λ (s : SiteView). length s.blocks) c.loosen-before.ensures.view)
