-- The edit of a new file, once it brings a blob.
use Rattle.std.proofs.Common.{◌≡◌, ℕ, ◌+◌, ◌^◌, ◌≤◌, ◌==◌, true, false, cond, List, [], ◌∷◌, length, refl, sym, ap, ◌∙◌, subst, Option, Some, None, IsSome, is_some, arith}
use Rattle.std.specs.Option.{option_map}
use Rattle.std.proofs.lemmas.Bool.Decides.{nat_tests}
use Rattle.tm_base.specs.Days.{last_moment}
use Rattle.tm_base.specs.Paths.{Names, is_root, parent_of}
use Rattle.tm_chain.specs.Blob.{blob_len, bytes_in}
use Rattle.tm_image.specs.Reads.{entry_of}
use Rattle.tm_items.specs.Index.{Numbers}
use Rattle.tm_items.specs.Placings.{Placed}
use Rattle.tm_nodes.specs.Items.{item_text, IsItemOfSize}
use Rattle.tm_nodes.specs.Records.{volume_of}
use Rattle.tm_records.specs.declared.record.Body.TheVariants.{Empty, Kept, New}
use Rattle.tm_records.specs.declared.record.Record.{Record}
use Rattle.tm_records.specs.Records.{at}
use Rattle.tm_tree.specs.declared.item.Item.{Item}
use Rattle.tm_tree.specs.declared.record.ItemRow.{ItemRow}
use Rattle.tm_tree.specs.Changes.{most_bytes, written, write_at, place_at}
use Rattle.tm_tree.specs.Items.{new_file}
use Rattle.tm_tree.specs.Refusing.{first_refused}
use Rattle.tm_tree.specs.Trees.{Tree, item_at, last_of, put, touch}
use Rattle.tm_world.specs.declared.bytes.Blob.{Blob}
use Rattle.tm_volume.specs.declared.edit.Edit.{Edit}
use Rattle.tm_changes.specs.Changes.{with_contents}
use Rattle.tm_volume.specs.Edits.{after, IsEdit, IsGoodEdit}
use Rattle.tm_changes.specs.Placing.{IsPlacing, MakesPlace, dated_row}
use Rattle.tm_changes.specs.Plans.{IsGood}
use Rattle.tm_volume_records.specs.Records.{head_key, item_key}
use Rattle.tm_volume_records.specs.Rules.{HasStamp}
use Rattle.tm_volume.specs.Seen.{Seen, items_on, tree_on, volume_on, stored_on}
use Rattle.tm_changes.specs.Destinations.{LeadsInto}
use Rattle.tm_volume.specs.FreeNumbers.{IsUnused}
use Rattle.tm_changes.specs.Writes.{written_stored, write_tests, new_file_row, brings_first, IsBringing, IsBlobOf, WritesFile}
use Rattle.tm_volume.proofs.Finding.{OnShelf}
use Rattle.tm_volume.proofs.GoodRecords.{good_from, good_later}
use Rattle.tm_changes.proofs.ItemRecords.{row_held}
use Rattle.tm_volume.proofs.Rows.{number_low}
use Rattle.tm_changes.proofs.PlaceEdits as made
use Rattle.tm_base.specs.Limits.{max_names}

-- writing where nothing stands makes a file there
pub writes_new : (t : Tree) (p : Names) (moment stamp : ℕ) (bytes : List ℕ) → item_at t p ≡ None → write_at t p moment stamp bytes ≡ place_at t p moment (new_file moment stamp bytes)
writes_new t p moment stamp bytes none = ap (λ (o : Option Item). cond (is_some o) (put t p (written o moment stamp bytes)) (touch (put t p (written o moment stamp bytes)) (parent_of p) moment)) none

some_is : (o : Option Placed) → is_some o ≡ true → IsSome o
some_is None h = cc
some_is (Some x) h = refl

head_there : (o : Option Record) (m : Seen) → option_map (λ (r : Record). volume_of r.meta) o ≡ Some (Some m.head) → (r : Record) × (o ≡ Some r)
head_there None m h = cc
head_there (Some r) m h = (r, refl)

-- what was seen to for a new file of so many bytes
pub record IsNewFile (m : Seen) (e : Edit) (p : Names) (n k moment size : ℕ) : Type 0 where
  pub makes : MakesPlace m e n k moment (new_file_row k (last_of p) moment m.tag.next size) (last_of p) Empty
  pub next_is : e.next ≡ m.tag.next + 2
  pub rules : IsItemOfSize size (new_file_row k (last_of p) moment m.tag.next size)
  pub small : size ≤ most_bytes
  pub below : is_root p ≡ false
  pub short : length p ≤ max_names
  pub low : moment ≤ last_moment
  pub unused : (bytes : ℕ → List ℕ) → IsUnused (items_on m bytes) n
  pub into : (bytes : ℕ → List ℕ) → LeadsInto (items_on m bytes) (tree_on m bytes) p k
  pub none : (bytes : ℕ → List ℕ) → item_at (tree_on m bytes) p ≡ None
  pub next_most : m.tag.next + 2 ≤ 2 ^ 62

module _ (m : Seen) (n0 : Numbers) (on : OnShelf m n0) (e0 : Edit) (p : Names) (n k moment size : ℕ) (asked : IsNewFile m e0 p n k moment size) where
  abbrev row : ItemRow
  row = new_file_row k (last_of p) moment m.tag.next size

  abbrev folder : ItemRow
  folder = asked.makes.folder

  there : (bytes : ℕ → List ℕ) → IsSome (items_on m bytes k)
  there bytes = some_is (items_on m bytes k) (asked.into bytes).stands

  module _ (blob : Blob) (e : Edit) (b : IsBringing e0 e blob) (of : IsBlobOf blob size) where
    placing_is : IsPlacing m e n k moment row folder (last_of p) (New blob)
    placing_is = let was = asked.makes.placing in record {
      remove = b.remove ∙ was.remove;
      put = b.put ∙ ap (brings_first blob) was.put;
      enter = b.enter ∙ was.enter;
      leave = b.leave ∙ was.leave;
      fixed = b.fixed ∙ was.fixed;
    }

    ready : made.IsReadyPlace m n0 on e p n k moment row folder (New blob) placing_is asked.makes.row_at
    ready = record {
      can = λ bytes. let u = asked.unused bytes in let i = asked.into bytes in record {
        below = asked.below;
        short = asked.short;
        free = u.free;
        not_root = not_one n u.low;
        into = i.walks;
        folder = i.folder;
        none = asked.none bytes;
      };
      number = (omega (arith, (asked.unused (λ _. [])).low), (asked.unused (λ _. [])).high);
      into = number_low m.image.records k there;
      low = asked.low;
      parent = refl;
      called = refl;
      spelled = record { meta = refl; rules = subst (λ (x : ℕ). IsItemOfSize x row) (sym of.size_is) asked.rules };
      filled = of.many ∙ ap blob_len (sym of.size_is);
      within = omega (arith, of.size_is, asked.small);
      can_put = tt;
      next_least = omega (arith, b.next, asked.next_is);
      next_most = omega (arith, b.next, asked.next_is, asked.next_most);
    }
      where
        not_one : (x : ℕ) → 2 ≤ x → (x == 1) ≡ false
        not_one x le = grind (arith, nat_tests)

    is_edit : IsEdit m e
    is_edit = made.is_edit m n0 on e p n k moment row folder (New blob) placing_is asked.makes.row_at ready

    module _ (bytes : ℕ → List ℕ) where
      is_good : IsGood m bytes → IsGoodEdit m e bytes
      is_good good =
          let head = head_there (at head_key m.image.records) m on.shelf.head_is in
          let stamp : HasStamp e.next row.body = (on.shelf.tagged.next_least, omega (arith, b.next, asked.next_is)) in
          let later = good_later bytes m.tag.next e.next m.image.records (omega (arith, b.next, asked.next_is)) (good_from bytes m.image.records m.tag good.good) in
          made.is_good m n0 on e p n k moment row folder (New blob) placing_is asked.makes.row_at ready bytes good.good good.fixed head.0 head.1
          (record { bytes = omega (arith, of.size_is, asked.small); stamp = stamp })
          (row_held m.image.records k folder asked.makes.row_at bytes e.next later)

      data_is : (entry_of bytes (made.first m n0 on e p n k moment row folder (New blob) placing_is asked.makes.row_at)).bytes ≡ bytes_in blob.blocks bytes 0 blob.length
      data_is = refl

      is_stored : stored_on (after m e) bytes ≡ written_stored (stored_on m bytes) p moment (bytes_in blob.blocks bytes 0 blob.length)
      is_stored =
          let text = bytes_in blob.blocks bytes 0 blob.length in
          let t = sym (writes_new (tree_on m bytes) p moment m.tag.next text (asked.none bytes)) in
          let x : e.next ≡ m.tag.next + 2 = b.next ∙ asked.next_is in
          made.stored_is m n0 on e p n k moment row folder (New blob) placing_is asked.makes.row_at ready bytes
          ∙ (λ i. record { volume = with_contents (volume_on m bytes) (record { tree = t i; fixed = m.fixed; next = x i }); clean = false; journal = None })

  pub writes_file : ((bytes : ℕ → List ℕ) → IsGood m bytes → first_refused (write_tests (volume_on m bytes).contents p size (Some moment)) ≡ None) → WritesFile m p size (Some moment) e0
  writes_file passes = record {
    first = record { key = item_key n; meta = item_text row; body = Empty };
    rest = record { key = item_key k; meta = item_text (dated_row folder moment); body = Kept } ∷ [];
    put = asked.makes.placing.put;
    no_data = (refl, tt);
    passes = passes;
    edit = λ blob new b of. is_edit blob new b of;
    good = λ blob new b of bytes good. is_good blob new b of bytes good;
    stored = λ blob new b of bytes. is_stored blob new b of bytes;
  }
