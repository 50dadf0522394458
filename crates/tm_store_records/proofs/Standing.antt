-- What stands is read, and an image reads as one store at most.
use Rattle.std.proofs.Common.{◌≡◌, ℕ, ◌^◌, ◌<◌, ◌≤◌, List, ◌++◌, get_or, drop, map, replicate, Option, Some, None, IfSome, refl, sym, ◌∙◌, ap, arith, append_assoc}
use Rattle.tm_codec.specs.Fields.{u64_text}
use Rattle.tm_codec.proofs.Fields.{apart-u64}
use Rattle.tm_gate.specs.Tag.{store_tag, latest}
use Rattle.tm_image.specs.Reads.{Entries, entries_of}
use Rattle.tm_image.specs.Laws.{OneReading, StandingIsLeft}
use Rattle.tm_tree.specs.States.{StoreState}
use Rattle.tm_world.specs.declared.world.Side.TheVariants.{Store}
use Rattle.tm_store_records.specs.Heads.{heads_in}
use Rattle.tm_store_records.specs.Found.{machine_in, nodes_in, snapshots_in}
use Rattle.tm_store_records.specs.Tags.{tag_of, FitsTag}
use Rattle.tm_store_records.specs.States.{StoreIs, snapshot_on, files_in}
use Rattle.tm_store_records.specs.Held.{store_stored_on}
use Rattle.tm_store_records.specs.Laws.{HeldReads, OneStoreReads}
use Rattle.tm_store_records.proofs.Leaving.{leaves_one_store}
use Rattle.tm_store_records.proofs.Storing.{store_is}

pub held_reads : StandingIsLeft → HeldReads
held_reads left h disk image whole stands leftover =
    leaves_one_store (entries_of disk.bytes h.image.records) h.image.root.tag (store_stored_on h disk.bytes) whole.tag whole.fits (store_is h disk.bytes whole) h.image.side whole.side disk
    (left h.image disk whole.sound whole.settled whole.space stands) image leftover

-- ---- a tag is spelled by its bytes

rest_is : (r d n : ℕ) → drop 8 (store_tag r d n) ≡ u64_text d ++ (u64_text n ++ replicate 40 0)
rest_is r d n = append_assoc (u64_text d) (u64_text n) (replicate 40 0)

same_fields : (r d n q e m : ℕ) → d < 2 ^ 64 → e < 2 ^ 64 → n < 2 ^ 64 → m < 2 ^ 64 → store_tag r d n ≡ store_tag q e m → (r ≡ q) × (d ≡ e) × (n ≡ m)
same_fields r d n q e m d_fits e_fits n_fits m_fits same =
    let rest : u64_text d ++ (u64_text n ++ replicate 40 0) ≡ u64_text e ++ (u64_text m ++ replicate 40 0) = sym (rest_is r d n) ∙ ap (drop 8) same ∙ rest_is q e m in
    let dates = apart-u64 d e _ _ d_fits e_fits rest in
    let numbers = apart-u64 n m _ _ n_fits m_fits dates.1 in
    (ap (λ bs. get_or bs 0 0) same, dates.0, numbers.0)

number_fits : (n : ℕ) → n ≤ 2 ^ 40 → n < 2 ^ 64
number_fits n h = omega arith

date_fits : (d : ℕ) → d ≤ latest → d < 2 ^ 64
date_fits d h = omega arith

same_tag : (a b : Option ℕ) (n m : ℕ) → IfSome a (λ d. d ≤ latest) → IfSome b (λ d. d ≤ latest) → n < 2 ^ 64 → m < 2 ^ 64 → tag_of a n ≡ tag_of b m → (a ≡ b) × (n ≡ m)
same_tag None None n m fa fb fn fm same = let fields = same_fields 0 0 n 0 0 m (omega arith) (omega arith) fn fm same in (refl, fields.2)
same_tag None (Some e) n m fa fb fn fm same = let fields = same_fields 0 0 n 1 e m (omega arith) (date_fits e fb) fn fm same in absurd (omega (arith, fields.0))
same_tag (Some d) None n m fa fb fn fm same = let fields = same_fields 1 d n 0 0 m (date_fits d fa) (omega arith) fn fm same in absurd (omega (arith, fields.0))
same_tag (Some d) (Some e) n m fa fb fn fm same = let fields = same_fields 1 d n 1 e m (date_fits d fa) (date_fits e fb) fn fm same in (ap (λ x. Some x) fields.1, fields.2)

-- the fields of a tag that fits
pub one_tag : (a b : Option ℕ) (n m : ℕ) → FitsTag a n → FitsTag b m → tag_of a n ≡ tag_of b m → (a ≡ b) × (n ≡ m)
one_tag a b n m fa fb same = same_tag a b n m fa.date fb.date (number_fits n fa.most) (number_fits m fb.most) same

-- ---- one store

one_machine : (es fs : Entries) (x y : List ℕ) → es ≡ fs → machine_in (heads_in es) ≡ Some x → machine_in (heads_in fs) ≡ Some y → x ≡ y
one_machine es fs x y same a b = let both : Some x ≡ Some y = sym a ∙ ap (λ (e : Entries). machine_in (heads_in e)) same ∙ b in cc

one_store : (es fs : Entries) (s t : StoreState) → es ≡ fs → s.number ≡ t.number → StoreIs es s → StoreIs fs t → s ≡ t
one_store es fs s t same number a b =
    let machine = one_machine es fs s.machine t.machine same a.machine b.machine in
    let snapshots = a.snapshots ∙ ap (λ (e : Entries). map (snapshot_on (files_in e) (nodes_in (heads_in e))) (snapshots_in (heads_in e))) same ∙ sym b.snapshots in
    λ i. record { machine = machine i; number = number i; snapshots = snapshots i }

pub one_store_reads : OneReading → OneStoreReads
one_store_reads reading image s t few a b =
    let both = reading Store b.entries a.entries (tag_of t.running t.store.number) (tag_of s.running s.store.number) image few b.reads a.reads in
    let tags = one_tag s.running t.running s.store.number t.store.number a.fits b.fits both.1 in
    let stores = one_store a.entries b.entries s.store t.store both.0 tags.1 a.is b.is in
    λ i. record { store = stores i; running = tags.0 i }
