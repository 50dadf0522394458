-- What a stop leaves of a disk, and that an image reads as one volume at most.
use Rattle.std.proofs.Common.{◌≡◌, ⊎_elim, inl, inr, ℕ, ◌==◌, ◌^◌, ◌<◌, ◌≤◌, List, ◌++◌, length, get_or, drop, replicate, Some, None, refl, sym, ◌∙◌, ap, subst, arith, append_assoc}
use Rattle.std.specs.Option.{option_map}
use Rattle.tm_codec.specs.Fields.{u64_text}
use Rattle.tm_codec.proofs.Fields.{apart-u64}
use Rattle.tm_gate.specs.Load.{IsUnformatted}
use Rattle.tm_gate.specs.Selector.{named_by}
use Rattle.tm_gate.specs.Slot.{HasMagic}
use Rattle.tm_gate.specs.Tag.{volume_tag}
use Rattle.tm_image.specs.Reads.{Entry, Entries, ReadsAsTable}
use Rattle.tm_items.proofs.Reading.{one_tree}
use Rattle.tm_items.specs.Computed.{items_of}
use Rattle.tm_items.specs.Placings.{ReadsAs}
use Rattle.tm_nodes.specs.declared.volume.VolumeHead.{VolumeHead}
use Rattle.tm_nodes.specs.Records.{volume_of, paths_of}
use Rattle.tm_tree.specs.States.{VolumeState}
use Rattle.tm_world.specs.Disk.{Disk, Image}
use Rattle.tm_world.specs.declared.world.Side.{Side}
use Rattle.tm_world.specs.declared.world.Side.TheVariants.{Volume as OfVolume}
use Rattle.tm_volume_records.specs.Records.{head_key, journal_key, entry_at, placings_of}
use Rattle.tm_volume.specs.Reads.{HeadIs, VolumeIs, VolumeReads, IsUnformattedImage, BlankLeaves, OneSide, tag_bytes}
use Rattle.tm_volume_records.specs.Rules.{Tag, IsTagged}
use Rattle.tm_volume.specs.Seen.{Seen, IsKept, StandsOn, StandsLeaves, entries_on}
use Rattle.tm_volume.proofs.Standing.{IsTold, volume_reads}
use Rattle.tm_volume.specs.Stored.{StoredVolume}
use Rattle.tm_image.specs.Laws.{OneReading, ReadsOrLacks, StandingIsLeft}

-- ---- a disk without an image

pub blank_leaves : BlankLeaves
blank_leaves disk blank image left = ⊎_elim
    (λ (few : disk.count < 3). inl (omega (arith, few, left.count)))
    (λ (un : (named : ℕ) × IsUnformatted disk.bytes named).
    let same : (b : ℕ) → image.bytes b ≡ disk.bytes b = λ b. left.stable b (blank.stable b) in
    inr (un.0, record { selected = ap named_by (same 0) ∙ (un.1).selected; lacks = subst (λ (slot : List ℕ). ¬ HasMagic slot) (sym (same un.0)) (un.1).lacks }))
    blank.unformatted

-- ---- a tag is spelled by its bytes

rest_is : (c g n : ℕ) → drop 8 (volume_tag c g n) ≡ u64_text g ++ (u64_text n ++ replicate 40 0)
rest_is c g n = append_assoc (u64_text g) (u64_text n) (replicate 40 0)

pub same_tag : (s t : Tag) → IsTagged s → IsTagged t → tag_bytes s ≡ tag_bytes t → s ≡ t
same_tag s t bound_s bound_t same =
    let clean : s.clean ≡ t.clean = ap (λ bs. get_or bs 0 0) same in
    let rest : u64_text s.generation ++ (u64_text s.next ++ replicate 40 0) ≡ u64_text t.generation ++ (u64_text t.next ++ replicate 40 0)
    = sym (rest_is s.clean s.generation s.next) ∙ ap (drop 8) same ∙ rest_is t.clean t.generation t.next in
    let generation = apart-u64 s.generation t.generation _ _ (below_word s.generation bound_s.generation_most) (below_word t.generation bound_t.generation_most) rest in
    let next = apart-u64 s.next t.next _ _ (at_word s.next bound_s.next_most) (at_word t.next bound_t.next_most) generation.1 in
    λ i. record { clean = clean i; generation = generation.0 i; next = next.0 i }
  where
    below_word : (n : ℕ) → n < 2 ^ 62 → n < 2 ^ 64
    below_word n h = omega arith

    at_word : (n : ℕ) → n ≤ 2 ^ 62 → n < 2 ^ 64
    at_word n h = omega arith

-- ---- one volume

some_same : {X : Type 0} (a b : X) → Some a ≡ Some b → a ≡ b
some_same a b h = cc

same_head : (e f : Entry) (v w : VolumeState) → e ≡ f → HeadIs e v → HeadIs f w → (v.name ≡ w.name) × (v.id ≡ w.id) × (v.capacity ≡ w.capacity) × (v.contents.fixed ≡ w.contents.fixed)
same_head e f v w same a b =
    let heads : a.head ≡ b.head = some_same a.head b.head (sym a.meta ∙ ap (λ (x : Entry). volume_of x.meta) same ∙ b.meta) in (
      a.name ∙ ap (λ (h : VolumeHead). h.name) heads ∙ sym b.name,
      a.id ∙ ap (λ (h : VolumeHead). h.id) heads ∙ sym b.id,
      a.capacity ∙ ap (λ (h : VolumeHead). h.capacity) heads ∙ sym b.capacity,
      some_same v.contents.fixed w.contents.fixed (sym a.fixed ∙ ap (λ (x : Entry). paths_of x.bytes) same ∙ b.fixed),
    )

one_volume : (es fs : Entries) (t u : Tag) (v w : StoredVolume) → es ≡ fs → t ≡ u → VolumeIs es t v → VolumeIs fs u w → v ≡ w
one_volume es fs t u v w same tags a b =
    let entries : a.entry ≡ b.entry = some_same a.entry b.entry (sym a.at_head ∙ ap (entry_at head_key) same ∙ b.at_head) in
    let head = same_head a.entry b.entry v.volume w.volume entries a.head b.head in
    let reads : ReadsAs (items_of (placings_of fs)) v.volume.contents.tree = subst (λ (xs : Entries). ReadsAs (items_of (placings_of xs)) v.volume.contents.tree) same a.tree in
    let tree : v.volume.contents.tree ≡ w.volume.contents.tree = one_tree (items_of (placings_of fs)) v.volume.contents.tree w.volume.contents.tree reads b.tree in
    let generation : v.volume.generation ≡ w.volume.generation = a.generation ∙ ap (λ (x : Tag). x.generation) tags ∙ sym b.generation in
    let next : v.volume.contents.next ≡ w.volume.contents.next = a.next ∙ ap (λ (x : Tag). x.next) tags ∙ sym b.next in
    let clean : v.clean ≡ w.clean = a.clean ∙ ap (λ (x : Tag). x.clean == 1) tags ∙ sym b.clean in
    let journal : v.journal ≡ w.journal = a.journal ∙ ap (λ (xs : Entries). option_map (λ (e : Entry). length e.bytes) (entry_at journal_key xs)) same ∙ sym b.journal in
    λ i. record {
      volume = record {
        name = head.0 i;
        id = head.1 i;
        capacity = head.2 i;
        generation = generation i;
        contents = record { tree = tree i; fixed = head.3 i; next = next i };
      };
      clean = clean i;
      journal = journal i;
    }

read_and_not : ReadsOrLacks → (image : Image) (s : StoredVolume) → IsUnformattedImage image → VolumeReads image s → ⊥
read_and_not formatted image s not_formatted reads = ⊎_elim
    (λ (few : image.count < 3). let r = reads.reads in omega (arith, few, r.holds.count, r.good.room))
    (λ (un : (named : ℕ) × IsUnformatted image.bytes named).
    formatted OfVolume reads.entries (tag_bytes reads.tag) image reads.reads
    (subst (λ (n : ℕ). ¬ HasMagic (image.bytes n)) (sym (un.1).selected) (un.1).lacks))
    not_formatted

pub one_side : OneReading → ReadsOrLacks → OneSide
one_side reading formatted image None None few a b = refl
one_side reading formatted image None (Some t) few a b = absurd (read_and_not formatted image t a b)
one_side reading formatted image (Some s) None few a b = absurd (read_and_not formatted image s b a)
one_side reading formatted image (Some s) (Some t) few a b =
    let both = reading OfVolume b.entries a.entries (tag_bytes b.tag) (tag_bytes a.tag) image few b.reads a.reads in
    ap Some (one_volume a.entries b.entries a.tag b.tag s t both.0 (same_tag a.tag b.tag a.tagged b.tagged both.1) a.is b.is)

-- ---- what stands

pub told_kept : (m : Seen) (d : Disk) → IsKept m → StandsOn m d → IsTold m d.bytes
told_kept m d kept stands = record { tagged = kept.tagged; head = kept.head_is; sound = kept.sound d.bytes; good = stands.good; fixed = stands.fixed }

pub stands_leaves : StandingIsLeft → StandsLeaves
stands_leaves left m blocks d kept ready stands image is_left =
    let read : ReadsAsTable m.image.side (entries_on m d.bytes) m.image.root.tag image = left m.image d kept.image ready.settled ready.space stands.stands image is_left in
    volume_reads m d.bytes image (told_kept m d kept stands)
    (subst (λ t. ReadsAsTable OfVolume (entries_on m d.bytes) t image) kept.tag_is (subst (λ (s : Side). ReadsAsTable s (entries_on m d.bytes) m.image.root.tag image) kept.side read))
