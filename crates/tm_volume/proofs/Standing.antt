-- An image that stands for entries that keep the rules reads as their volume; a later tag keeps them.
use Rattle.std.proofs.Common.{◌≡◌, ℕ, ◌<◌, ◌≤◌, List, [], ◌∷◌, length, Option, Some, None, refl, sym, ◌∙◌, ap, subst, arith}
use Rattle.std.specs.List.{AllByRecursion}
use Rattle.std.specs.List.Sorted.{IsStrictlySortedBy}
use Rattle.std.specs.Map.{keys_of}
use Rattle.std.specs.Option.{option_map, IfSome}
use Rattle.std.specs.Ordering.{nat_cmp}
use Rattle.std.specs.declared.cmp.Ordering.TheVariants.{Less}
use Rattle.tm_base.specs.Paths.{Names}
use Rattle.tm_image.specs.Reads.{Entry, Entries, ReadsAsTable, entry_of}
use Rattle.tm_items.proofs.Reading.{tree_reads}
use Rattle.tm_items.specs.Rules.{IsSound}
use Rattle.tm_nodes.specs.declared.volume.VolumeHead.{VolumeHead}
use Rattle.tm_nodes.specs.Records.{volume_of, paths_of}
use Rattle.tm_records.specs.declared.record.Record.{Record}
use Rattle.tm_records.specs.Records.{Records, at}
use Rattle.tm_table.specs.Good.{AreRecords}
use Rattle.tm_tree.specs.declared.node.LeafRow.TheVariants as leaf
use Rattle.tm_tree.specs.declared.record.ItemBody.{ItemBody}
use Rattle.tm_tree.specs.declared.record.ItemBody.TheVariants as body
use Rattle.tm_world.specs.Disk.{Image}
use Rattle.tm_world.specs.declared.world.Side.TheVariants.{Volume as OfVolume}
use Rattle.tm_volume_records.specs.Records.{head_key, journal_key, item_key, entry_at}
use Rattle.tm_volume.specs.Reads.{VolumeIs, VolumeReads, tag_bytes}
use Rattle.tm_volume_records.specs.Rules.{Tag, IsTagged, HasStamp, IsItem, IsJournal, HasJournal, IsGoodVolume}
use Rattle.tm_volume.specs.Seen.{Seen, entries_on, items_on, stored_on}
use Rattle.tm_volume_records.proofs.Entering.{same_keys, data_length}
use Rattle.tm_volume_records.proofs.Slots.{less_is, entry_is, numbered_on}

-- ---- a later tag

module _ (entries : Entries) (tag next_tag : Tag) (more : tag.next ≤ next_tag.next) (marked : next_tag.clean ≡ 1 → tag.clean ≡ 1) where
  stamped : (b : ItemBody) → HasStamp tag.next b → HasStamp next_tag.next b
  stamped (body.Folder attrs) h = h
  stamped (body.Leaf (leaf.File attrs stamp size)) h = (h.0, omega (arith, h.1))
  stamped (body.Leaf (leaf.Link attrs stamp target)) h = (h.0, omega (arith, h.1))

  item : (o : Option Entry) → IfSome o (IsItem tag.next) → IfSome o (IsItem next_tag.next)
  item None h = h
  item (Some e) h = record { row = h.row; meta = h.meta; bytes = h.bytes; stamp = stamped h.row.body h.stamp }

  rows : (o : Option Entry) → IfSome o (IsJournal entries tag.next) → IfSome o (IsJournal entries next_tag.next)
  rows None h = h
  rows (Some e) h = record { rows = h.rows; bytes = h.bytes; few = h.few; drawn = λ k d lt. ((h.drawn k d lt).0, omega (arith, (h.drawn k d lt).1)) }

  journal : HasJournal entries tag → HasJournal entries next_tag
  journal h = record {
    meta = h.meta;
    there = λ one. h.there (marked one);
    rows = λ one. rows (entry_at journal_key entries) (h.rows (marked one));
  }

  pub good_after : IsGoodVolume entries tag → IsGoodVolume entries next_tag
  good_after good key = let k = good key in record {
    known = k.known;
    head = k.head;
    journal = λ is. journal (k.journal is);
    item = λ n low high is. let h = k.item n low high is in record { item = item (entry_at (item_key n) entries) h.item; place = h.place };
  }

-- ---- what an image stands for

lower : (total low high : ℕ) (es : Records) → low < high → AreRecords total (Some high) es → AreRecords total (Some low) es
lower total low high [] lt are = tt
lower total low high (e ∷ es) lt are =
    let r = are.0 in (record { above = omega (arith, r.above); key = r.key; meta = r.meta; size = r.size; many = r.many; each = r.each }, are.1)

above_all : (total low : ℕ) (es : Records) → AreRecords total (Some low) es → AllByRecursion (λ y. nat_cmp low y ≡ Less) (keys_of es)
above_all total low [] are = tt
above_all total low (e ∷ es) are = (less_is low e.0 are.0.above, above_all total low es (lower total low e.0 es are.0.above are.1))

rising : (total : ℕ) (before : Option ℕ) (es : Records) → AreRecords total before es → IsStrictlySortedBy nat_cmp (keys_of es)
unfolding IsStrictlySortedBy
rising total before [] are = tt
rising total before (e ∷ es) are = (above_all total e.0 es are.1, rising total (Some e.0) es are.1)

pub reads_rising : (entries : Entries) (tag : List ℕ) (image : Image) → ReadsAsTable OfVolume entries tag image → IsStrictlySortedBy nat_cmp (keys_of entries)
reads_rising entries tag image r =
    let same : keys_of entries ≡ keys_of r.content.records = ap keys_of r.entries_are ∙ same_keys image.bytes r.content.records in
    subst (λ ks. IsStrictlySortedBy nat_cmp ks) (sym same) (rising r.content.blocks None r.content.records r.good.records)

head_meta : (bytes : ℕ → List ℕ) (o : Option Record) (p : Option Entry) (entry : Entry) (head : VolumeHead) → p ≡ option_map (entry_of bytes) o → p ≡ Some entry → option_map (λ r. volume_of r.meta) o ≡ Some (Some head)
    → volume_of entry.meta ≡ Some head
head_meta bytes None p entry head is at_head has = cc
head_meta bytes (Some r) p entry head is at_head has =
    let same : Some (entry_of bytes r) ≡ Some entry = sym is ∙ at_head in
    let e : entry_of bytes r ≡ entry = cc in
    let h : volume_of r.meta ≡ Some head = cc in
    ap (λ (x : Entry). volume_of x.meta) (sym e) ∙ h

fixed_bytes : (p : Option Entry) (entry : Entry) (fixed : List Names) → p ≡ Some entry → option_map (λ e. paths_of e.bytes) p ≡ Some (Some fixed) → paths_of entry.bytes ≡ Some fixed
fixed_bytes None entry fixed is has = cc
fixed_bytes (Some e) entry fixed is has = let same : e ≡ entry = cc in let h : paths_of e.bytes ≡ Some fixed = cc in ap (λ (x : Entry). paths_of x.bytes) (sym same) ∙ h

journal_length : (bytes : ℕ → List ℕ) (o : Option Record) (p : Option Entry) → p ≡ option_map (entry_of bytes) o → option_map (λ r. r.length) o ≡ option_map (λ e. length e.bytes) p
journal_length bytes None p is = ap (λ q. option_map (λ e. length e.bytes) q) (sym is)
journal_length bytes (Some r) p is = ap Some (sym (data_length bytes r)) ∙ ap (λ q. option_map (λ e. length e.bytes) q) (sym is)

-- what is known of a volume in memory whose data are these bytes
pub record IsTold (m : Seen) (bytes : ℕ → List ℕ) : Type 0 where
  pub tagged : IsTagged m.tag
  pub head : option_map (λ r. volume_of r.meta) (at head_key m.image.records) ≡ Some (Some m.head)
  pub sound : IsSound (items_on m bytes)
  pub good : IsGoodVolume (entries_on m bytes) m.tag
  pub fixed : option_map (λ e. paths_of e.bytes) (entry_at head_key (entries_on m bytes)) ≡ Some (Some m.fixed)

pub volume_is : (m : Seen) (bytes : ℕ → List ℕ) → IsStrictlySortedBy nat_cmp (keys_of (entries_on m bytes)) → IsTold m bytes → VolumeIs (entries_on m bytes) m.tag (stored_on m bytes)
volume_is m bytes sorted told =
    let has = (told.good head_key).head refl in
    record {
      entry = has.entry;
      at_head = has.is;
      head = record {
        head = m.head;
        meta = head_meta bytes (at head_key m.image.records) (entry_at head_key (entries_on m bytes)) has.entry m.head (entry_is bytes head_key m.image.records) has.is told.head;
        name = refl;
        id = refl;
        capacity = refl;
        fixed = fixed_bytes (entry_at head_key (entries_on m bytes)) has.entry m.fixed has.is told.fixed;
      };
      tree = tree_reads _ (numbered_on bytes m.image.records (subst (λ ks. IsStrictlySortedBy nat_cmp ks) (same_keys bytes m.image.records) sorted)) told.sound;
      generation = refl;
      next = refl;
      clean = refl;
      journal = journal_length bytes (at journal_key m.image.records) (entry_at journal_key (entries_on m bytes)) (entry_is bytes journal_key m.image.records);
    }

pub volume_reads : (m : Seen) (bytes : ℕ → List ℕ) (image : Image) → IsTold m bytes → ReadsAsTable OfVolume (entries_on m bytes) (tag_bytes m.tag) image → VolumeReads image (stored_on m bytes)
volume_reads m bytes image told reads = record {
  entries = entries_on m bytes;
  tag = m.tag;
  tagged = told.tagged;
  reads = reads;
  good = told.good;
  is = volume_is m bytes (reads_rising (entries_on m bytes) (tag_bytes m.tag) image reads) told;
}
