-- An edit in records and in the index: what a stop leaves of it, and what stands afterwards.
use Rattle.std.proofs.Common.{◌≡◌, ◌≢◌, ⊎_elim, inl, inr, ℕ, ◌+◌, ◌<◌, ◌==◌, List, [], length, Option, Some, None, sym, ◌∙◌, ap, subst, arith}
use Rattle.std.specs.Option.{option_map, unwrap_or}
use Rattle.tm_base.specs.Paths.{Names}
use Rattle.tm_gate.specs.Tag.{volume_tag, IsTag}
use Rattle.tm_image.specs.Commit.{changed, brought_by}
use Rattle.tm_image.specs.Reads.{Entries, ReadsAsTable, entries_of, LeavesOneOf}
use Rattle.tm_image.specs.Room.{HasRoom}
use Rattle.tm_image.specs.Seen.{Seen as ImageSeen, Stands, HasSameImage, IsSettled, staged}
use Rattle.tm_items.specs.Computed.{items_of, tree_of}
use Rattle.tm_items.specs.Index.{Numbers, IsIndex}
use Rattle.tm_items.specs.Places.{at_name}
use Rattle.tm_items.specs.Rules.{IsSound}
use Rattle.tm_items.proofs.Indexing.{set_is_undone}
use Rattle.tm_nodes.specs.Records.{volume_of, paths_of}
use Rattle.tm_records.specs.declared.record.Record.{Record}
use Rattle.tm_records.specs.Records.{Records, at}
use Rattle.tm_world.specs.Disk.{Disk}
use Rattle.tm_world.specs.Outside.{disk}
use Rattle.tm_world.specs.Log.{Log, now}
use Rattle.tm_world.specs.Runs.{Runs}
use Rattle.tm_world.specs.declared.world.Side.{Side}
use Rattle.tm_world.specs.declared.world.Side.TheVariants.{Volume as OfVolume}
use Rattle.tm_world.proofs.Going.{Runs-weaker}
use Rattle.tm_volume.specs.declared.edit.Edit.{Edit}
use Rattle.tm_volume.specs.declared.edit.Entered.{Entered}
use Rattle.tm_records.specs.declared.record.Put.{Put}
use Rattle.tm_base.specs.declared.refused.LineFault.{LineFault}
use Rattle.tm_base.specs.declared.refused.LineFault.TheVariants as line
use Rattle.tm_base.specs.declared.refused.Refused.{Refused}
use Rattle.tm_base.specs.declared.refused.Refused.TheVariants.{Full}
use Rattle.tm_image.specs.declared.error.ImageError.{ImageError}
use Rattle.tm_image.specs.declared.error.ImageError.TheVariants as image
use Rattle.std.specs.Prelude.{Result, Err}
use Rattle.tm_image.specs.Room.{free_of}
use Rattle.tm_volume.specs.Edits.{IsFullEdit, need_of_edit, after, next_tag, Enters, Forgets, Leaves, IsFree, IsEdit, IsGoodEdit}
use Rattle.tm_volume_records.specs.Records.{head_key, journal_key, entry_at, placings_of}
use Rattle.tm_volume.specs.Reads.{LeavesEither, tag_bytes}
use Rattle.tm_volume_records.specs.Rules.{Tag, AreShort, IsTagged, IsGoodVolume}
use Rattle.tm_volume.specs.Seen.{Seen, IsShelf, IsReady, StandsOn, entries_on, stored_on}
use Rattle.tm_volume_records.proofs.Slots.{Rising}
use Rattle.tm_volume.proofs.Lengths.{changed_short}
use Rattle.tm_volume.proofs.Standing.{IsTold, volume_reads}
use Rattle.tm_volume.proofs.Retagging.{tag_is, told_of}

-- the volume in memory with another image, fixed paths and tag
abbrev pub With : Seen → ImageSeen → List Names → Tag → Seen
With m image fixed tag = record { image = image; head = m.head; fixed = fixed; tag = tag; looks = m.looks }

forgot : (e : Option Entered) (old between new : Numbers) → IsFree e old → Enters e old between → Forgets e between new → new ≡ old
forgot None old between new free enters forgets = forgets ∙ enters
forgot (Some e) old between new free enters forgets = set_is_undone (at_name e.parent e.name) e.number old between new free enters forgets

-- ---- back

module _ (m : Seen) (n0 : Numbers) (shelf : IsShelf m n0) where
  pub shelf_back : (image : ImageSeen) (numbers : Numbers) → HasSameImage m.image image → numbers ≡ n0 → IsShelf (With m image m.fixed m.tag) numbers
  shelf_back image numbers same is = record {
    side = same.side ∙ shelf.side;
    tag_is = ap (λ r. r.tag) same.root ∙ shelf.tag_is;
    tagged = shelf.tagged;
    head_is = ap (λ (rs : Records). option_map (λ r. volume_of r.meta) (at head_key rs)) same.records ∙ shelf.head_is;
    sound = λ bytes. subst (λ (rs : Records). IsSound (items_of (placings_of (entries_of bytes rs)))) (sym same.records) (shelf.sound bytes);
    lengths = subst AreShort (sym same.records) shelf.lengths;
    index_is = λ bytes. subst (λ (ns : Numbers). IsIndex (items_of (placings_of (entries_of bytes image.records))) ns) (sym is)
        (subst (λ (rs : Records). IsIndex (items_of (placings_of (entries_of bytes rs))) n0) (sym same.records) (shelf.index_is bytes));
  }

  module _ (e : Edit) (is : IsEdit m e) where
    pub back_again : (between new : Numbers) → Enters e.enter n0 between → Forgets e.enter between new → new ≡ n0
    back_again between new enters forgets = forgot e.enter n0 between new (is.free (λ _. []) n0 (shelf.index_is (λ _. []))) enters forgets

    -- ---- afterwards

    pub shelf_after : (image : ImageSeen) (fixed : List Names) (tag : Tag) (between new : Numbers) → Rising m.image.records → image.side ≡ m.image.side → image.records ≡ changed e.remove.items e.put.items m.image.records
        → image.root.tag ≡ tag_bytes tag → IsTagged tag → Enters e.enter n0 between → Leaves e.leave between new → IsShelf (With m image fixed tag) new
    shelf_after image fixed tag between new rising side records tagged_as tagged enters leaves = record {
      side = side ∙ shelf.side;
      tag_is = tagged_as;
      tagged = tagged;
      head_is = ap (λ (rs : Records). option_map (λ r. volume_of r.meta) (at head_key rs)) records ∙ is.head;
      sound = λ bytes. subst (λ (rs : Records). IsSound (items_of (placings_of (entries_of bytes rs)))) (sym records) (is.sound bytes);
      lengths = subst AreShort (sym records) (changed_short e.remove.items e.put.items m.image.records rising is.lengths shelf.lengths);
      index_is = λ bytes. subst (λ (rs : Records). IsIndex (items_of (placings_of (entries_of bytes rs))) new) (sym records) (is.index_is bytes n0 between new (shelf.index_is bytes) enters leaves);
    }

    pub next_tagged : IsTagged (next_tag m e)
    next_tagged = record {
      clean_most = omega arith;
      generation_least = shelf.tagged.generation_least;
      generation_most = shelf.tagged.generation_most;
      next_least = omega (arith, shelf.tagged.next_least, is.next_least);
      next_most = is.next_most;
    }

    pub side_tag : IsTag m.image.side (volume_tag 0 m.tag.generation e.next)
    side_tag = subst (λ (s : Side). IsTag s (volume_tag 0 m.tag.generation e.next)) (sym shelf.side) (tag_is (next_tag m e) next_tagged)

    some_there : (rs : Records) → option_map (λ (r : Record). volume_of r.meta) (at head_key rs) ≡ Some (Some m.head) → rs ≢ []
    some_there rs has none = let bad : option_map (λ (r : Record). volume_of r.meta) (at head_key []) ≡ Some (Some m.head) = subst (λ (es : Records). option_map (λ (r : Record). volume_of r.meta) (at head_key es) ≡ Some (Some m.head)) none has in cc

    pub some_records : changed e.remove.items e.put.items m.image.records ≢ []
    some_records = some_there (changed e.remove.items e.put.items m.image.records) is.head

    module _ (bytes : ℕ → List ℕ) (good : IsGoodEdit m e bytes) where
      pub told_after : IsTold (after m e) bytes
      told_after = record { tagged = next_tagged; head = is.head; sound = is.sound bytes; good = good.good; fixed = good.fixed }

    -- ---- while it is written

    either : (d0 d : Disk) → StandsOn m d0 → IsGoodEdit m e d0.bytes
        → LeavesOneOf OfVolume (entries_on m d0.bytes) (tag_bytes m.tag) (entries_on (after m e) d0.bytes) (tag_bytes (next_tag m e)) d
        → LeavesEither (Some (stored_on m d0.bytes)) (Some (stored_on (after m e) d0.bytes)) d
    either d0 d stands good leaves image left = ⊎_elim
        (λ (r : ReadsAsTable OfVolume (entries_on m d0.bytes) (tag_bytes m.tag) image). inl (volume_reads m d0.bytes image (told_of m n0 d0 shelf stands) r))
        (λ (r : ReadsAsTable OfVolume (entries_on (after m e) d0.bytes) (tag_bytes (next_tag m e)) image). inr (volume_reads (after m e) d0.bytes image (told_after d0.bytes good) r))
        (leaves image left)

    run_on : (l0 l1 : Log) → StandsOn m (disk OfVolume (now l0)) → IsGoodEdit m e (disk OfVolume (now l0)).bytes
        → Runs OfVolume (LeavesOneOf OfVolume (entries_on m (disk OfVolume (now l0)).bytes) (tag_bytes m.tag) (entries_on (after m e) (disk OfVolume (now l0)).bytes) (tag_bytes (next_tag m e))) l0 l1
        → Runs OfVolume (LeavesEither (Some (stored_on m (disk OfVolume (now l0)).bytes)) (Some (stored_on (after m e) (disk OfVolume (now l0)).bytes))) l0 l1
    run_on l0 l1 stands good runs = Runs-weaker OfVolume _ (LeavesEither (Some (stored_on m (disk OfVolume (now l0)).bytes)) (Some (stored_on (after m e) (disk OfVolume (now l0)).bytes))) l0 l1
        (λ d leaves. either (disk OfVolume (now l0)) d stands good leaves) runs

    pub edit_run : (l0 l1 : Log) (tag : List ℕ) → tag ≡ volume_tag 0 m.tag.generation e.next → StandsOn m (disk OfVolume (now l0)) → IsGoodEdit m e (disk OfVolume (now l0)).bytes
        → Runs m.image.side (LeavesOneOf m.image.side (entries_of (disk m.image.side (now l0)).bytes m.image.records) m.image.root.tag
        (entries_of (disk m.image.side (now l0)).bytes (changed e.remove.items e.put.items m.image.records)) tag) l0 l1
        → Runs OfVolume (LeavesEither (Some (stored_on m (disk OfVolume (now l0)).bytes)) (Some (stored_on (after m e) (disk OfVolume (now l0)).bytes))) l0 l1
    edit_run l0 l1 tag tag_as stands good runs = run_on l0 l1 stands good
        (subst (λ t. Runs OfVolume (LeavesOneOf OfVolume (entries_on m (disk OfVolume (now l0)).bytes) t (entries_on (after m e) (disk OfVolume (now l0)).bytes) (volume_tag 0 m.tag.generation e.next)) l0 l1) shelf.tag_is
        (subst (λ t. Runs OfVolume (LeavesOneOf OfVolume (entries_on m (disk OfVolume (now l0)).bytes) m.image.root.tag (entries_on (after m e) (disk OfVolume (now l0)).bytes) t) l0 l1) tag_as
        (subst (λ (s : Side). Runs s (LeavesOneOf s (entries_of (disk s (now l0)).bytes m.image.records) m.image.root.tag (entries_of (disk s (now l0)).bytes (changed e.remove.items e.put.items m.image.records)) tag) l0 l1) shelf.side runs)))

    -- ---- what stands

    module _ (image : ImageSeen) (fixed : List Names) (l0 l1 : Log) (fixed_is : fixed ≡ unwrap_or e.fixed m.fixed) (records : image.records ≡ changed e.remove.items e.put.items m.image.records)
        (data_is : entries_of (disk m.image.side (now l1)).bytes image.records ≡ entries_of (disk m.image.side (now l0)).bytes image.records) where
      same_data : entries_of (disk OfVolume (now l1)).bytes image.records ≡ entries_on (after m e) (disk OfVolume (now l0)).bytes
      same_data = subst (λ (s : Side). entries_of (disk s (now l1)).bytes image.records ≡ entries_of (disk s (now l0)).bytes image.records) shelf.side data_is ∙ ap (entries_of (disk OfVolume (now l0)).bytes) records

      pub stands_after : Stands image (disk m.image.side (now l1)) → IsGoodEdit m e (disk OfVolume (now l0)).bytes → StandsOn (With m image fixed (next_tag m e)) (disk OfVolume (now l1))
      stands_after on good = record {
        stands = subst (λ (s : Side). Stands image (disk s (now l1))) shelf.side on;
        good = subst (λ (es : Entries). IsGoodVolume es (next_tag m e)) (sym same_data) good.good;
        fixed = ap (λ (es : Entries). option_map (λ d. paths_of d.bytes) (entry_at head_key es)) same_data ∙ good.fixed ∙ ap (λ (f : List Names). Some (Some f)) (sym fixed_is);
      }

      pub stored_after : stored_on (With m image fixed (next_tag m e)) (disk OfVolume (now l1)).bytes ≡ stored_on (after m e) (disk OfVolume (now l0)).bytes
      stored_after = λ i. record {
        volume = record { name = m.head.name; id = m.head.id; capacity = m.head.capacity; generation = m.tag.generation; contents = record { tree = tree_of (placings_of (same_data i)); fixed = fixed_is i; next = e.next } };
        clean = 0 == 1;
        journal = option_map (λ r. r.length) (at journal_key (records i));
      }

-- ---- refused

pub full_other : (e : ImageError) (need free : ℕ) → e ≡ image.Full need free → ◌≢◌ {A = Result (Unit {0}) ImageError} (Err e) (Err image.Fault)
full_other e need free is bad = cc

pub memory_other : (e : ImageError) → e ≡ image.Memory → ◌≢◌ {A = Result (Unit {0}) ImageError} (Err e) (Err image.Fault)
memory_other e is bad = cc

pub ready_back : (m : Seen) (new : ImageSeen) (blocks : ℕ) (puts : List Put) → length m.image.used ≡ blocks → ((b : ℕ) → staged b m.image ≡ brought_by b puts) → length new.used ≡ length m.image.used
    → IsSettled new → HasRoom new → ((b : ℕ) → staged b new + brought_by b puts ≡ staged b m.image) → IsReady (With m new m.fixed m.tag) blocks
ready_back m new blocks puts count stages size settled space back = record {
  settled = settled;
  space = space;
  count = size ∙ count;
  unstaged = λ b. left (staged b new) (brought_by b puts) (back b ∙ stages b);
}
  where
    left : (x y : ℕ) → x + y ≡ y → x ≡ 0
    left x y h = omega arith

pub stands_back : (m : Seen) (new : ImageSeen) (l0 l1 : Log) → m.image.side ≡ OfVolume → HasSameImage m.image new → l1 ≡ l0 → StandsOn m (disk OfVolume (now l0)) → Stands new (disk m.image.side (now l1))
    → StandsOn (With m new m.fixed m.tag) (disk OfVolume (now l1))
stands_back m new l0 l1 side same still stands on = record {
  stands = subst (λ (s : Side). Stands new (disk s (now l1))) side on;
  good = subst (λ (l : Log). IsGoodVolume (entries_of (disk OfVolume (now l)).bytes new.records) m.tag) (sym still)
      (subst (λ (rs : Records). IsGoodVolume (entries_of (disk OfVolume (now l0)).bytes rs) m.tag) (sym same.records) stands.good);
  fixed = ap (λ (l : Log). option_map (λ d. paths_of d.bytes) (entry_at head_key (entries_of (disk OfVolume (now l)).bytes new.records))) still
      ∙ ap (λ (rs : Records). option_map (λ d. paths_of d.bytes) (entry_at head_key (entries_of (disk OfVolume (now l0)).bytes rs))) same.records ∙ stands.fixed;
}

pub full_back : (m : Seen) (e : Edit) (why : Refused) (need free : ℕ) → ◌≡◌ {A = Result (Unit {0}) LineFault} (Err (line.Refused (Full need free))) (Err (line.Refused why))
    → free < need → free ≡ free_of m.image → need ≡ need_of_edit m e → IsFullEdit m e why
full_back m e why need free is less free_is need_is = record {
  is = let same : why ≡ Full need free = cc in same ∙ (λ i. Full (need_is i) (free_is i));
  less = omega (arith, less, free_is, need_is);
}
