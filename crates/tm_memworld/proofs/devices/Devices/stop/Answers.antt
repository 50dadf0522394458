use Rattle.std.proofs.Common.{◌≡◌, ◌∙◌, length, drop, sym, ap, subst, arith}
use Rattle.std.proofs.lemmas.List.{with_items_is}
use Rattle.std.specs.Vec.{with_items}
use Rattle.tm_memworld.specs.Sites.{IsFirst, AreSmall, AreBy, AreTorn, room_at}
use Rattle.tm_world.specs.Log.{now}
use Rattle.tm_memworld.specs.Change.{log_in}
use Rattle.tm_memworld.specs.Devices.{contents_of}
use Rattle.tm_memworld.proofs.Tearing.{first-torn, small-torn, by-torn, room-torn, stop_is}
use Rattle.tm_memworld.proofs.devices.Devices.stop.Goals as goal

pub invariant_of-self-clause-volume_first : goal.invariant_of-self-clause-volume_first
invariant_of-self-clause-volume_first c = λ k at.
    let m = c.args.self.now in
    let are : AreTorn c.args.torn.now c.len.result m.sites.items c.tear_all.new.sites = subst (λ xs. AreTorn c.args.torn.now c.len.result xs c.tear_all.new.sites) c.deref_mut.ensures.value c.tear_all.ensures in
    let same : (with_items m.sites c.tear_all.new.sites).items ≡ c.tear_all.new.sites = with_items_is m.sites c.tear_all.new.sites (are.long ∙ sym m.sites.ok.0) in
    subst (λ xs. IsFirst xs k) (sym same) (first-torn c.args.torn.now c.len.result m.sites.items c.tear_all.new.sites k are (m.volume_first k at))

pub invariant_of-self-clause-store_first : goal.invariant_of-self-clause-store_first
invariant_of-self-clause-store_first c = λ k at.
    let m = c.args.self.now in
    let are : AreTorn c.args.torn.now c.len.result m.sites.items c.tear_all.new.sites = subst (λ xs. AreTorn c.args.torn.now c.len.result xs c.tear_all.new.sites) c.deref_mut.ensures.value c.tear_all.ensures in
    let same : (with_items m.sites c.tear_all.new.sites).items ≡ c.tear_all.new.sites = with_items_is m.sites c.tear_all.new.sites (are.long ∙ sym m.sites.ok.0) in
    subst (λ xs. IsFirst xs k) (sym same) (first-torn c.args.torn.now c.len.result m.sites.items c.tear_all.new.sites k are (m.store_first k at))

pub invariant_of-self-clause-small : goal.invariant_of-self-clause-small
invariant_of-self-clause-small c =
    let m = c.args.self.now in
    let are : AreTorn c.args.torn.now c.len.result m.sites.items c.tear_all.new.sites = subst (λ xs. AreTorn c.args.torn.now c.len.result xs c.tear_all.new.sites) c.deref_mut.ensures.value c.tear_all.ensures in
    let same : (with_items m.sites c.tear_all.new.sites).items ≡ c.tear_all.new.sites = with_items_is m.sites c.tear_all.new.sites (are.long ∙ sym m.sites.ok.0) in
    subst AreSmall (sym same) (small-torn c.args.torn.now c.len.result m.sites.items c.tear_all.new.sites are m.small)

pub invariant_of-self-clause-by_now : goal.invariant_of-self-clause-by_now
invariant_of-self-clause-by_now c =
    let m = c.args.self.now in
    let are : AreTorn c.args.torn.now c.len.result m.sites.items c.tear_all.new.sites = subst (λ xs. AreTorn c.args.torn.now c.len.result xs c.tear_all.new.sites) c.deref_mut.ensures.value c.tear_all.ensures in
    let same : (with_items m.sites c.tear_all.new.sites).items ≡ c.tear_all.new.sites = with_items_is m.sites c.tear_all.new.sites (are.long ∙ sym m.sites.ok.0) in
    let time : c.len.result ≡ length m.changes.items = omega (arith, c.len.ensures, m.changes.ok.0) in
    subst (AreBy (length m.changes.items)) (sym same) (subst (λ n. AreBy n c.tear_all.new.sites) time (by-torn c.args.torn.now c.len.result m.sites.items c.tear_all.new.sites are))

pub returns-clause-outside : goal.returns-clause-outside
returns-clause-outside c =
    let m = c.args.self.now in
    let are : AreTorn c.args.torn.now c.len.result m.sites.items c.tear_all.new.sites = subst (λ xs. AreTorn c.args.torn.now c.len.result xs c.tear_all.new.sites) c.deref_mut.ensures.value c.tear_all.ensures in
    let same : (with_items m.sites c.tear_all.new.sites).items ≡ c.tear_all.new.sites = with_items_is m.sites c.tear_all.new.sites (are.long ∙ sym m.sites.ok.0) in
    (λ i. now (log_in (drop c.len-self.result m.changes.items) (record (contents_of m) { sites = same i; said = c.clear.ensures.items i })))
    ∙ stop_is (contents_of m) m.changes.items m.began c.len-self.result c.len.result c.args.torn.now c.tear_all.new.sites are

pub returns-clause-places : goal.returns-clause-places
returns-clause-places c =
    let m = c.args.self.now in
    let are : AreTorn c.args.torn.now c.len.result m.sites.items c.tear_all.new.sites = subst (λ xs. AreTorn c.args.torn.now c.len.result xs c.tear_all.new.sites) c.deref_mut.ensures.value c.tear_all.ensures in
    let same : (with_items m.sites c.tear_all.new.sites).items ≡ c.tear_all.new.sites = with_items_is m.sites c.tear_all.new.sites (are.long ∙ sym m.sites.ok.0) in
    λ j path. (ap (λ xs. room_at xs path) same ∙ room-torn c.args.torn.now c.len.result m.sites.items c.tear_all.new.sites path are) j
