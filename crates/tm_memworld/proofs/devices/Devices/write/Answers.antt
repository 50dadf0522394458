use Rattle.std.proofs.Common.{◌≡◌, ◌+◌, ◌≤◌, ◌++◌, ◌∷◌, [], ◌∙◌, length, get_or, set, sym, ap, subst, rules, arith}
use Rattle.std.proofs.Math.ListN.{length-set, length-append}
use Rattle.tm_memworld.specs.declared.change.Change.TheVariants.{Wrote}
use Rattle.tm_memworld.specs.Sites.{AreBy}
use Rattle.tm_world.specs.Disk.{Disk}
use Rattle.tm_world.proofs.Disks.{differs-written}
use Rattle.tm_memworld.specs.Site.{SiteView, disk_of, zero_block}
use Rattle.tm_memworld.specs.Devices.{contents_of}
use Rattle.tm_memworld.proofs.Going.{no_block, by_timed, write_steps}
use Rattle.tm_memworld.proofs.AtSide.{first-at, site-at, block-at, by-at, firsts, smalls, bys, rooms}
use Rattle.tm_memworld.proofs.devices.Devices.write.Goals as goal

pub unreachable-requires : goal.unreachable-requires
unreachable-requires c =
    let d = c.args.self.now in
    no_block (contents_of d) d.began d.changes.items c.args.side c.args.block (sym c.site_of.ensures ∙ c.in_default.is) c.requires.block

pub block-was-requires : goal.block-was-requires
block-was-requires c = block-at c.args.self.now c.args.side c.in-Some.i c.in-Some.ensures c.index.result.now c.index.ensures c.args.block c.requires.block

pub put-before-requires-clause-block : goal.put-before-requires-clause-block
put-before-requires-clause-block c = block-at c.args.self.now c.args.side c.in-Some.i c.in-Some.ensures c.index_mut.result.now c.index_mut.ensures.value c.args.block c.requires.block

pub invariant_of-self-clause-volume_first : goal.invariant_of-self-clause-volume_first
invariant_of-self-clause-volume_first c = λ k at.
    firsts c.args.self.now c.args.side c.in-Some.i c.in-Some.ensures c.index_mut.result.now c.index_mut.ensures.value c.put-before.new.self (ap (λ (s : SiteView). s.path) c.put-before.ensures.view) k (c.args.self.now.volume_first k at)

pub invariant_of-self-clause-store_first : goal.invariant_of-self-clause-store_first
invariant_of-self-clause-store_first c = λ k at.
    firsts c.args.self.now c.args.side c.in-Some.i c.in-Some.ensures c.index_mut.result.now c.index_mut.ensures.value c.put-before.new.self (ap (λ (s : SiteView). s.path) c.put-before.ensures.view) k (c.args.self.now.store_first k at)

pub invariant_of-self-clause-small : goal.invariant_of-self-clause-small
invariant_of-self-clause-small c =
    smalls c.args.self.now c.args.side c.in-Some.i c.in-Some.ensures c.index_mut.result.now c.index_mut.ensures.value c.put-before.new.self (ap (λ (s : SiteView). s.path) c.put-before.ensures.view)
    (ap (λ (e : Disk). e.count) c.put-before.ensures.disk ∙ (differs-written c.args.block c.args.bytes.now (disk_of c.index_mut.result.now)).count)

pub invariant_of-self-clause-by_now : goal.invariant_of-self-clause-by_now
invariant_of-self-clause-by_now c =
    let d = c.args.self.now in
    let s = c.index_mut.result.now in
    let noted : c.push-noted.new.self.items ≡ d.changes.items ++ Wrote c.in-Some.i c.args.block c.put-before.result ∷ [] = search rules in
    let time : length c.push-noted.new.self.items ≡ c.len-time.result + 1 = omega (arith, ap length noted, length-append d.changes.items (Wrote c.in-Some.i c.args.block c.put-before.result ∷ []), c.len-time.ensures, d.changes.ok.0) in
    let le : length d.changes.items ≤ c.len-time.result + 1 = omega (arith, c.len-time.ensures, d.changes.ok.0) in
    subst (λ n. AreBy n (set d.sites.items c.in-Some.i c.put-before.new.self)) (sym time)
    (bys d c.args.side c.in-Some.i c.in-Some.ensures s c.index_mut.ensures.value c.put-before.new.self (ap (λ (t : SiteView). t.path) c.put-before.ensures.view) (c.len-time.result + 1) le
    (by_timed s c.put-before.new.self c.args.block (c.len-time.result + 1) (length d.changes.items) (ap (λ (t : SiteView). t.settled) c.put-before.ensures.view) (ap (λ (t : SiteView). t.times) c.put-before.ensures.view) le
    (by-at d c.args.side c.in-Some.i c.in-Some.ensures s c.index_mut.ensures.value)))

pub returns-clause-steps : goal.returns-clause-steps
returns-clause-steps c =
    let d = c.args.self.now in
    let s = c.index_mut.result.now in
    write_steps (contents_of d) d.began d.changes.items c.push-noted.new.self.items d.begun c.args.side c.in-Some.i s c.put-before.new.self (sym c.in-Some.ensures)
    (first-at d c.args.side c.in-Some.i c.in-Some.ensures) (site-at d c.args.side c.in-Some.i c.in-Some.ensures s c.index_mut.ensures.value) (ap (λ (t : SiteView). t.path) c.put-before.ensures.view)
    c.args.block c.args.bytes.now _ c.put-before.result c.block-was.result.now c.push-saved.new.self.items c.put-before.ensures.view c.put-before.ensures.disk c.put-before.ensures.before
    (c.block-was.ensures.view ∙ ap (λ (u : SiteView). get_or u.blocks c.args.block zero_block)
    (site-at d c.args.side c.in-Some.i c.in-Some.ensures c.index.result.now c.index.ensures ∙ sym (site-at d c.args.side c.in-Some.i c.in-Some.ensures s c.index_mut.ensures.value)))
    (search rules) (search rules)

pub returns-clause-places : goal.returns-clause-places
returns-clause-places c =
    rooms c.args.self.now c.args.side c.in-Some.i c.in-Some.ensures c.index_mut.result.now c.index_mut.ensures.value c.put-before.new.self (ap (λ (s : SiteView). s.path) c.put-before.ensures.view)
    (ap (λ (s : SiteView). length s.blocks) c.put-before.ensures.view ∙ length-set c.index_mut.result.now.blocks c.args.block c.args.bytes.now)
