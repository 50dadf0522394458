-- An item without data, made: all that its edit needs and gives.
use Rattle.std.proofs.Common.{◌≡◌, inl, inr, ℕ, ◌^◌, ◌≤◌, ◌==◌, true, false, List, [], length, refl, sym, ap, ◌∙◌, subst, Option, Some, None, IsSome, is_some, arith}
use Rattle.std.specs.Option.{option_map}
use Rattle.std.proofs.lemmas.Bool.Decides.{nat_tests}
use Rattle.tm_base.specs.Days.{last_moment}
use Rattle.tm_base.specs.Paths.{Names, is_root}
use Rattle.tm_chain.specs.Blob.{bytes_in}
use Rattle.tm_image.specs.Reads.{entry_of}
use Rattle.tm_items.specs.Index.{Numbers}
use Rattle.tm_items.specs.Placings.{Placed}
use Rattle.tm_nodes.specs.Items.{item_text}
use Rattle.tm_nodes.specs.Records.{item_of, paths_of}
use Rattle.tm_records.specs.declared.record.Body.TheVariants.{Empty}
use Rattle.tm_records.specs.declared.record.Record.{Record}
use Rattle.tm_records.specs.Records.{at}
use Rattle.tm_tree.specs.declared.record.ItemRow.{ItemRow}
use Rattle.tm_tree.specs.Trees.{item_at, last_of}
use Rattle.tm_volume.specs.declared.edit.Edit.{Edit}
use Rattle.tm_volume.specs.Edits.{after, IsEdit, IsGoodEdit}
use Rattle.tm_changes.specs.Placing.{IsNewRow, MakesPlace, placed_stored}
use Rattle.tm_volume_records.specs.Records.{head_key, item_key, item_with, entry_at}
use Rattle.tm_volume_records.specs.Rules.{HasData, HasStamp, IsGoodVolume}
use Rattle.tm_volume.specs.Seen.{Seen, entries_on, items_on, tree_on, stored_on}
use Rattle.tm_changes.specs.Destinations.{LeadsInto}
use Rattle.tm_volume.specs.FreeNumbers.{IsUnused}
use Rattle.tm_volume.proofs.Rooms.{data_length}
use Rattle.tm_volume.proofs.Rows.{number_low}
use Rattle.tm_volume.proofs.Finding.{OnShelf}
use Rattle.tm_volume.proofs.GoodRecords.{good_from, later_stamp}
use Rattle.tm_changes.proofs.Placing.{IsHeldRow}
use Rattle.tm_changes.proofs.PlaceEdits as made
use Rattle.tm_base.specs.Limits.{max_names}

no_bytes : (bytes : ℕ → List ℕ) (meta : List ℕ) → (entry_of bytes (record { meta = meta; length = 0; blocks = [] })).bytes ≡ []
unfolding bytes_in
no_bytes bytes meta = refl

same_row : {a b : ItemRow} → Some a ≡ Some b → a ≡ b
same_row h = cc

-- what was asked of the call
pub record IsAsked (m : Seen) (e : Edit) (p : Names) (n k moment next : ℕ) (row : ItemRow) : Type 0 where
  pub makes : MakesPlace m e n k moment row (last_of p) Empty
  pub next_is : e.next ≡ next
  pub new : IsNewRow row k (last_of p) next
  pub below : is_root p ≡ false
  pub short : length p ≤ max_names
  pub low : moment ≤ last_moment
  pub unused : (bytes : ℕ → List ℕ) → IsUnused (items_on m bytes) n
  pub into : (bytes : ℕ → List ℕ) → LeadsInto (items_on m bytes) (tree_on m bytes) p k
  pub none : (bytes : ℕ → List ℕ) → item_at (tree_on m bytes) p ≡ None
  pub next_least : m.tag.next ≤ next
  pub next_most : next ≤ 2 ^ 62

module _ (m : Seen) (n0 : Numbers) (on : OnShelf m n0) (e : Edit) (p : Names) (n k moment next : ℕ) (row : ItemRow) (asked : IsAsked m e p n k moment next row) where
  there : (bytes : ℕ → List ℕ) → IsSome (items_on m bytes k)
  there bytes = some_is (items_on m bytes k) (asked.into bytes).stands
    where
      some_is : (o : Option Placed) → is_some o ≡ true → IsSome o
      some_is None h = cc
      some_is (Some x) h = refl

  pub ready : made.IsReadyPlace m n0 on e p n k moment row asked.makes.folder Empty asked.makes.placing asked.makes.row_at
  ready = record {
    can = λ bytes. let u = asked.unused bytes in let i = asked.into bytes in record {
      below = asked.below;
      short = asked.short;
      free = u.free;
      not_root = not_one n u.low;
      into = i.walks;
      folder = i.folder;
      none = asked.none bytes;
    };
    number = (omega (arith, (asked.unused (λ _. [])).low), (asked.unused (λ _. [])).high);
    into = number_low m.image.records k there;
    low = asked.low;
    parent = asked.new.parent;
    called = asked.new.name;
    spelled = record { meta = refl; rules = asked.new.rules };
    filled = tt;
    within = tt;
    can_put = tt;
    next_least = omega (arith, asked.next_is, asked.next_least);
    next_most = omega (arith, asked.next_is, asked.next_most);
  }
    where
      not_one : (x : ℕ) → 2 ≤ x → (x == 1) ≡ false
      not_one x le = grind (arith, nat_tests)

  pub is_edit : IsEdit m e
  is_edit = made.is_edit m n0 on e p n k moment row asked.makes.folder Empty asked.makes.placing asked.makes.row_at ready

  pub stored_is : (bytes : ℕ → List ℕ) → stored_on (after m e) bytes ≡ placed_stored (stored_on m bytes) p moment (item_with row.body []) next
  stored_is bytes =
      let b = no_bytes bytes (item_text row) in
      let x = asked.next_is in
      made.stored_is m n0 on e p n k moment row asked.makes.folder Empty asked.makes.placing asked.makes.row_at ready bytes
      ∙ (λ i. placed_stored (stored_on m bytes) p moment (item_with row.body (b i)) (x i))

  -- its folder is held as it was
  module _ (bytes : ℕ → List ℕ) (good : IsGoodVolume (entries_on m bytes) m.tag) where
    folder_held : IsHeldRow e.next asked.makes.row_at.rec asked.makes.folder
    folder_held = elim ((good_from bytes m.image.records m.tag good).each (item_key k) asked.makes.row_at.rec asked.makes.row_at.at_key) [
      | inl h ↦ absurd (omega (arith, h.0))
      | inr rest ↦ elim rest [
        | inl j ↦ absurd (omega (arith, j.0))
        | inr item ↦
            let it = item.4 in
            let len = data_length bytes asked.makes.row_at.rec in
            let same : it.row ≡ asked.makes.folder = same_row (sym it.meta ∙ ap (item_of asked.makes.row_at.rec.meta) len ∙ asked.makes.row_at.is) in
            let later : HasStamp e.next it.row.body = later_stamp m.tag.next e.next (omega (arith, asked.next_is, asked.next_least)) it.row.body it.stamp in
            record {
              bytes = subst (λ (r : ItemRow). HasData r.body asked.makes.row_at.rec.length) same (subst (HasData it.row.body) len it.bytes);
              stamp = subst (λ (r : ItemRow). HasStamp e.next r.body) same later;
            }
      ]
    ]

    pub is_good : option_map (λ d. paths_of d.bytes) (entry_at head_key (entries_on m bytes)) ≡ Some (Some m.fixed) → (head : Record) → at head_key m.image.records ≡ Some head → IsGoodEdit m e bytes
    is_good fixed head head_is = made.is_good m n0 on e p n k moment row asked.makes.folder Empty asked.makes.placing asked.makes.row_at ready bytes good fixed head head_is
        (record { bytes = asked.new.bytes; stamp = subst (λ x. HasStamp x row.body) (sym asked.next_is) asked.new.stamp }) folder_held
