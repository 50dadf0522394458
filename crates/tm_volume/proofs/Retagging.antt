-- The tag of a volume takes another's place.
use Rattle.std.proofs.Common.{◌≡◌, ⊎_elim, inl, inr, ℕ, ◌^◌, ◌==◌, ◌<◌, ◌≤◌, Bool, true, false, cond, List, Some, refl, sym, ◌∙◌, ap, subst, arith}
use Rattle.std.specs.Option.{option_map}
use Rattle.tm_gate.specs.Tag.{volume_tag, IsVolumeTag, IsTag}
use Rattle.tm_image.specs.Reads.{Entries, ReadsAsTable, entries_of, LeavesOneOf}
use Rattle.tm_image.specs.Seen.{Seen as ImageSeen, Stands}
use Rattle.tm_items.specs.Index.{Numbers, IsIndex}
use Rattle.tm_items.specs.Computed.{items_of}
use Rattle.tm_items.specs.Rules.{IsSound}
use Rattle.tm_nodes.specs.Records.{volume_of, paths_of}
use Rattle.tm_records.specs.Records.{Records, at}
use Rattle.tm_world.specs.Disk.{Disk}
use Rattle.tm_world.specs.Outside.{disk}
use Rattle.tm_world.specs.Log.{Log, now}
use Rattle.tm_world.specs.Runs.{Runs}
use Rattle.tm_world.specs.declared.world.Side.{Side}
use Rattle.tm_world.specs.declared.world.Side.TheVariants.{Volume as OfVolume}
use Rattle.tm_world.proofs.Going.{Runs-weaker}
use Rattle.tm_volume_records.specs.Records.{head_key, entry_at, placings_of}
use Rattle.tm_volume.specs.Reads.{VolumeReads, LeavesEither, tag_bytes}
use Rattle.tm_volume_records.specs.Rules.{Tag, AreShort, IsTagged, IsGoodVolume}
use Rattle.tm_volume.specs.Seen.{Seen, IsShelf, StandsOn, entries_on, stored_on}
use Rattle.tm_volume.specs.Stored.{StoredVolume, retagged}
use Rattle.tm_volume.proofs.Standing.{IsTold, good_after, volume_reads}

abbrev pub new_tag : Bool → ℕ → ℕ → Tag
new_tag clean generation next = record { clean = cond clean 1 0; generation = generation; next = next }

-- the volume in memory with another tag
abbrev pub Tagged : Seen → Tag → Seen
Tagged m tag = record { image = m.image; head = m.head; fixed = m.fixed; tag = tag; looks = m.looks }

mark_is : (clean : Bool) → (cond clean 1 0 == 1) ≡ clean
mark_is true = refl
mark_is false = refl

mark_most : (clean : Bool) → cond clean 1 0 ≤ 1
mark_most true = omega arith
mark_most false = omega arith

marked : (clean : Bool) (old : ℕ) → (clean ≡ true → old ≡ 1) → ◌≡◌ {A = ℕ} (cond clean 1 0) 1 → old ≡ 1
marked true old on is = on refl
marked false old on is = absurd (omega (arith, is))

pub stored_is : (m : Seen) (bytes : ℕ → List ℕ) (clean : Bool) (generation next : ℕ) → stored_on (Tagged m (new_tag clean generation next)) bytes ≡ retagged (stored_on m bytes) clean generation next
stored_is m bytes clean generation next = λ i. retagged (stored_on m bytes) (mark_is clean i) generation next

pub record IsNew (m : Seen) (clean : Bool) (generation next : ℕ) : Type 0 where
  pub generation_is : (1 ≤ generation) × (generation < 2 ^ 62)
  pub next_is : (m.tag.next ≤ next) × (next ≤ 2 ^ 62)
  pub clean_is : clean ≡ true → m.tag.clean ≡ 1

pub tagged_is : (m : Seen) (clean : Bool) (generation next : ℕ) → IsTagged m.tag → IsNew m clean generation next → IsTagged (new_tag clean generation next)
tagged_is m clean generation next old new = record {
  clean_most = mark_most clean;
  generation_least = new.generation_is.0;
  generation_most = new.generation_is.1;
  next_least = omega (arith, old.next_least, new.next_is.0);
  next_most = new.next_is.1;
}

pub tag_is : (tag : Tag) → IsTagged tag → IsVolumeTag (tag_bytes tag)
tag_is tag t = record {
  clean = tag.clean;
  generation = tag.generation;
  next = tag.next;
  is = refl;
  clean_most = t.clean_most;
  generation_least = t.generation_least;
  generation_most = t.generation_most;
  next_least = t.next_least;
  next_most = t.next_most;
}

pub side_tag : (side : Side) (m : Seen) (clean : Bool) (generation next : ℕ) → side ≡ OfVolume → IsTagged m.tag → IsNew m clean generation next → IsTag side (volume_tag (cond clean 1 0) generation next)
side_tag side m clean generation next is old new = subst (λ (s : Side). IsTag s (volume_tag (cond clean 1 0) generation next)) (sym is) (tag_is (new_tag clean generation next) (tagged_is m clean generation next old new))

pub good_tagged : (m : Seen) (entries : Entries) (clean : Bool) (generation next : ℕ) → IsNew m clean generation next → IsGoodVolume entries m.tag → IsGoodVolume entries (new_tag clean generation next)
good_tagged m entries clean generation next new good = good_after entries m.tag (new_tag clean generation next) new.next_is.0 (marked clean m.tag.clean new.clean_is) good

pub told_of : (m : Seen) (numbers : Numbers) (d : Disk) → IsShelf m numbers → StandsOn m d → IsTold m d.bytes
told_of m numbers d shelf stands = record { tagged = shelf.tagged; head = shelf.head_is; sound = shelf.sound d.bytes; good = stands.good; fixed = stands.fixed }

-- ---- while the gate is turned

module _ (m : Seen) (numbers : Numbers) (clean : Bool) (generation next : ℕ) (new : IsNew m clean generation next) (shelf : IsShelf m numbers) where
  either : (d0 d : Disk) → StandsOn m d0
      → LeavesOneOf OfVolume (entries_on m d0.bytes) (tag_bytes m.tag) (entries_on m d0.bytes) (tag_bytes (new_tag clean generation next)) d
      → LeavesEither (Some (stored_on m d0.bytes)) (Some (retagged (stored_on m d0.bytes) clean generation next)) d
  either d0 d stands leaves image left =
      let told = told_of m numbers d0 shelf stands in
      let after : IsTold (Tagged m (new_tag clean generation next)) d0.bytes = record { tagged = tagged_is m clean generation next shelf.tagged new; head = told.head; sound = told.sound; good = good_tagged m (entries_on m d0.bytes) clean generation next new told.good; fixed = told.fixed } in
      ⊎_elim
      (λ (r : ReadsAsTable OfVolume (entries_on m d0.bytes) (tag_bytes m.tag) image). inl (volume_reads m d0.bytes image told r))
      (λ (r : ReadsAsTable OfVolume (entries_on m d0.bytes) (tag_bytes (new_tag clean generation next)) image).
      inr (subst (λ (s : StoredVolume). VolumeReads image s) (stored_is m d0.bytes clean generation next) (volume_reads (Tagged m (new_tag clean generation next)) d0.bytes image after r)))
      (leaves image left)

  run_on : (l0 l1 : Log) → StandsOn m (disk OfVolume (now l0))
      → Runs OfVolume (LeavesOneOf OfVolume (entries_on m (disk OfVolume (now l0)).bytes) (tag_bytes m.tag) (entries_on m (disk OfVolume (now l0)).bytes) (tag_bytes (new_tag clean generation next))) l0 l1
      → Runs OfVolume (LeavesEither (Some (stored_on m (disk OfVolume (now l0)).bytes)) (Some (retagged (stored_on m (disk OfVolume (now l0)).bytes) clean generation next))) l0 l1
  run_on l0 l1 stands runs = Runs-weaker OfVolume _ (LeavesEither (Some (stored_on m (disk OfVolume (now l0)).bytes)) (Some (retagged (stored_on m (disk OfVolume (now l0)).bytes) clean generation next))) l0 l1
      (λ d leaves. either (disk OfVolume (now l0)) d stands leaves) runs

  pub retag_run : (l0 l1 : Log) → StandsOn m (disk OfVolume (now l0))
      → Runs m.image.side (LeavesOneOf m.image.side (entries_of (disk m.image.side (now l0)).bytes m.image.records) m.image.root.tag
      (entries_of (disk m.image.side (now l0)).bytes m.image.records) (volume_tag (cond clean 1 0) generation next)) l0 l1
      → Runs OfVolume (LeavesEither (Some (stored_on m (disk OfVolume (now l0)).bytes)) (Some (retagged (stored_on m (disk OfVolume (now l0)).bytes) clean generation next))) l0 l1
  retag_run l0 l1 stands runs = run_on l0 l1 stands
      (subst (λ t. Runs OfVolume (LeavesOneOf OfVolume (entries_on m (disk OfVolume (now l0)).bytes) t (entries_on m (disk OfVolume (now l0)).bytes) (volume_tag (cond clean 1 0) generation next)) l0 l1) shelf.tag_is
      (subst (λ (s : Side). Runs s (LeavesOneOf s (entries_of (disk s (now l0)).bytes m.image.records) m.image.root.tag (entries_of (disk s (now l0)).bytes m.image.records) (volume_tag (cond clean 1 0) generation next)) l0 l1) shelf.side runs))

  -- ---- afterwards

  abbrev pub After : ImageSeen → Seen
  After image = record { image = image; head = m.head; fixed = m.fixed; tag = new_tag clean generation next; looks = m.looks }

  pub shelf_after : (image : ImageSeen) → image.side ≡ m.image.side → image.records ≡ m.image.records → image.root.tag ≡ volume_tag (cond clean 1 0) generation next → IsShelf (After image) numbers
  shelf_after image side records tag = record {
    side = side ∙ shelf.side;
    tag_is = tag;
    tagged = tagged_is m clean generation next shelf.tagged new;
    head_is = ap (λ (rs : Records). option_map (λ r. volume_of r.meta) (at head_key rs)) records ∙ shelf.head_is;
    sound = λ bytes. subst (λ (rs : Records). IsSound (items_of (placings_of (entries_of bytes rs)))) (sym records) (shelf.sound bytes);
    lengths = subst AreShort (sym records) shelf.lengths;
    index_is = λ bytes. subst (λ (rs : Records). IsIndex (items_of (placings_of (entries_of bytes rs))) numbers) (sym records) (shelf.index_is bytes);
  }

  pub stands_after : (image : ImageSeen) (l0 l1 : Log) → m.image.side ≡ OfVolume → image.records ≡ m.image.records → StandsOn m (disk OfVolume (now l0))
      → Stands image (disk m.image.side (now l1))
      → entries_of (disk m.image.side (now l1)).bytes m.image.records ≡ entries_of (disk m.image.side (now l0)).bytes m.image.records
      → StandsOn (After image) (disk OfVolume (now l1))
  stands_after image l0 l1 side records stands on data_is =
      let same : entries_of (disk OfVolume (now l1)).bytes m.image.records ≡ entries_of (disk OfVolume (now l0)).bytes m.image.records
      = subst (λ (s : Side). entries_of (disk s (now l1)).bytes m.image.records ≡ entries_of (disk s (now l0)).bytes m.image.records) side data_is in
      let entries_are : entries_of (disk OfVolume (now l1)).bytes image.records ≡ entries_on m (disk OfVolume (now l0)).bytes = ap (λ (rs : Records). entries_of (disk OfVolume (now l1)).bytes rs) records ∙ same in
      record {
        stands = subst (λ (s : Side). Stands image (disk s (now l1))) side on;
        good = subst (λ (es : Entries). IsGoodVolume es (new_tag clean generation next)) (sym entries_are) (good_tagged m (entries_on m (disk OfVolume (now l0)).bytes) clean generation next new stands.good);
        fixed = ap (λ (es : Entries). option_map (λ e. paths_of e.bytes) (entry_at head_key es)) entries_are ∙ stands.fixed;
      }
