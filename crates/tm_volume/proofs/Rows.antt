-- The record of an item that stands.
use Rattle.std.proofs.Common.{◌≡◌, inl, inr, ℕ, ◌+◌, ◌^◌, ◌<◌, ◌≤◌, true, false, List, [], length, refl, sym, ap, ◌∙◌, subst, ⊎_elim, Option, Some, None, IsSome, Fits, w64, arith}
use Rattle.std.proofs.lemmas.Bool.{cases_lt}
use Rattle.std.proofs.lemmas.List.FromFn.{length-map-range_with_len}
use Rattle.std.proofs.lemmas.Option.{same_Some}
use Rattle.std.specs.Option.{option_map}
use Rattle.tm_chain.specs.Blob.{bytes_in, byte_in}
use Rattle.tm_image.specs.Reads.{entry_of}
use Rattle.tm_items.specs.Placings.{Placed}
use Rattle.tm_items.specs.Rules.{is_folder_placed}
use Rattle.tm_nodes.specs.Items.{item_kind, item_text, IsItemOfSize, HasItemSize}
use Rattle.tm_nodes.specs.Laws.{FindsSpelled}
use Rattle.tm_nodes.specs.Records.{item_of}
use Rattle.tm_nodes.specs.Spelled.{IsSpelled}
use Rattle.tm_nodes.specs.declared.kind.Kind.{Kind}
use Rattle.tm_nodes.specs.declared.kind.Kind.TheVariants as kind
use Rattle.tm_records.specs.Records.{Records, at}
use Rattle.tm_records.specs.declared.record.Record.{Record}
use Rattle.tm_tree.specs.Items.{is_folder}
use Rattle.tm_tree.specs.declared.item.Item.{Item}
use Rattle.tm_tree.specs.declared.item.Item.TheVariants as item
use Rattle.tm_tree.specs.declared.node.LeafRow.TheVariants as leaf
use Rattle.tm_tree.specs.declared.record.ItemBody.{ItemBody}
use Rattle.tm_tree.specs.declared.record.ItemBody.TheVariants as body
use Rattle.tm_tree.specs.declared.record.ItemRow.{ItemRow}
use Rattle.tm_volume_records.specs.Records.{item_key, item_with, placed_with, placed_of, items_in, IsThere}
use Rattle.tm_volume.specs.Room.{body_of, placed_row}
use Rattle.tm_volume_records.proofs.Slots.{Rising, placed_rec, items_at, items_out}
use Rattle.tm_base.specs.Limits.{max_items}

no_bytes : ℕ → List ℕ
no_bytes b = []

none_is : {X P : Type 0} (o : Option X) → IsSome o → o ≡ None → P
none_is None there h = cc
none_is (Some x) there h = cc

-- it is from 1 to 65,536
pub number_low : (records : Records) (n : ℕ) → IsThere records n → (1 ≤ n) × (n ≤ max_items)
number_low records n there = (
  ⊎_elim (λ (lt : n < 1). none_is (items_in records no_bytes n) (there no_bytes) (items_out no_bytes records n (inl lt))) (λ (le : 1 ≤ n). le) (cases_lt n 1),
  ⊎_elim (λ (lt : max_items < n). none_is (items_in records no_bytes n) (there no_bytes) (items_out no_bytes records n (inr lt))) (λ (le : n ≤ max_items). le) (cases_lt max_items n),
)

pub data_length : (bytes : ℕ → List ℕ) (r : Record) → length (entry_of bytes r).bytes ≡ r.length
unfolding bytes_in
data_length bytes r = length-map-range_with_len (byte_in r.blocks bytes) 0 r.length

-- the item's record, and what its meta says
pub record HasRow (records : Records) (n : ℕ) : Type 0 where
  pub rec : Record
  pub row : ItemRow
  pub at_key : at (item_key n) records ≡ Some rec
  pub is_row : item_of rec.meta rec.length ≡ Some row
  pub placed : (bytes : ℕ → List ℕ) → items_in records bytes n ≡ Some (placed_with (bytes_in rec.blocks bytes 0 rec.length) row)

row_placed : (r : Record) (row : ItemRow) → item_of r.meta r.length ≡ Some row → (bytes : ℕ → List ℕ) → placed_of (entry_of bytes r) ≡ Some (placed_with (bytes_in r.blocks bytes 0 r.length) row)
row_placed r row is bytes = ap (λ (o : Option ItemRow). option_map (placed_with (bytes_in r.blocks bytes 0 r.length)) o) (ap (λ (k : ℕ). item_of r.meta k) (data_length bytes r) ∙ is)

row_nowhere : (r : Record) → item_of r.meta r.length ≡ None → (bytes : ℕ → List ℕ) → placed_of (entry_of bytes r) ≡ None
row_nowhere r is bytes = ap (λ (o : Option ItemRow). option_map (placed_with (bytes_in r.blocks bytes 0 r.length)) o) (ap (λ (k : ℕ). item_of r.meta k) (data_length bytes r) ∙ is)

module _ (records : Records) (rising : Rising records) (n : ℕ) (there : IsThere records n) where
  slot : (bytes : ℕ → List ℕ) → items_in records bytes n ≡ placed_rec bytes (at (item_key n) records)
  slot bytes = let low = number_low records n there in items_at bytes records n low.0 low.1 rising

  with_row : (r : Record) → at (item_key n) records ≡ Some r → (o : Option ItemRow) → item_of r.meta r.length ≡ o → HasRow records n
  with_row r is None none = none_is (items_in records no_bytes n) (there no_bytes) (slot no_bytes ∙ ap (placed_rec no_bytes) is ∙ row_nowhere r none no_bytes)
  with_row r is (Some row) some = record {
    rec = r;
    row = row;
    at_key = is;
    is_row = some;
    placed = λ bytes. slot bytes ∙ ap (placed_rec bytes) is ∙ row_placed r row some bytes;
  }

  with_record : (o : Option Record) → at (item_key n) records ≡ o → HasRow records n
  with_record None none = none_is (items_in records no_bytes n) (there no_bytes) (slot no_bytes ∙ ap (placed_rec no_bytes) none)
  with_record (Some r) some = with_row r some (item_of r.meta r.length) refl

  pub has_row : HasRow records n
  has_row = with_record (at (item_key n) records) refl

-- ---- what the row says of the item

pub same_body : (b : ItemBody) (bytes : List ℕ) → HasItemSize (length bytes) b → body_of (item_with b bytes) ≡ b
same_body (body.Folder attrs) bytes size = refl
same_body (body.Leaf (leaf.File attrs stamp count)) bytes size = ap (λ (k : ℕ). body.Leaf (leaf.File attrs stamp k)) (sym size)
same_body (body.Leaf (leaf.Link attrs stamp target)) bytes size = refl

folder_kind : (e : Item) → item_kind (body_of e) ≡ kind.Folder → is_folder e ≡ true
folder_kind (item.Folder attrs) is = refl
folder_kind (item.File attrs stamp bytes) is = cc
folder_kind (item.Link attrs stamp target) is = cc

other_kind : (e : Item) → (item_kind (body_of e) ≡ kind.Folder → ⊥) → is_folder e ≡ false
other_kind (item.Folder attrs) off = absurd (off refl)
other_kind (item.File attrs stamp bytes) off = refl
other_kind (item.Link attrs stamp target) off = refl

abbrev pub FindsItems : Type 0
FindsItems = (size : ℕ) → FindsSpelled (λ meta. item_of meta size) item_text (IsItemOfSize size)

-- the row is spelled by the meta of the record
pub row_spelled : FindsItems → (records : Records) (n : ℕ) → (has : HasRow records n) → IsSpelled item_text (IsItemOfSize has.rec.length) has.rec.meta has.row
row_spelled finds records n has = (finds has.rec.length has.rec.meta has.row).0 has.is_row

-- the row is that of the item
pub row_is : FindsItems → (records : Records) (n : ℕ) (has : HasRow records n) → (bytes : ℕ → List ℕ)
    → item_of has.rec.meta has.rec.length ≡ option_map placed_row (items_in records bytes n)
row_is finds records n has bytes =
    has.is_row ∙ sym (
    ap (λ (o : Option Placed). option_map placed_row o) (has.placed bytes)
    ∙ ap (λ (b : ItemBody). Some (record { parent = has.row.parent; name = has.row.name; body = b }))
    (same_body has.row.body (bytes_in has.rec.blocks bytes 0 has.rec.length)
    (subst (λ (k : ℕ). HasItemSize k has.row.body) (sym (data_length bytes has.rec)) (row_spelled finds records n has).rules.size_is))
    )

-- ---- the kind of the item, by its meta

-- the first byte tells the kind of each item
abbrev pub TellsKind : List ℕ → Option Kind → Type 0
TellsKind meta told = (row : ItemRow) → meta ≡ item_text row → told ≡ Some (item_kind row.body)

kind_told : FindsItems → (meta : List ℕ) (size : ℕ) (told : Option Kind) (x : Placed) → TellsKind meta told → item_of meta size ≡ Some (placed_row x) → told ≡ Some (item_kind (body_of x.item))
kind_told finds meta size told x tells is = tells (placed_row x) ((finds size meta (placed_row x)).0 is).spelled

pub folder_told : FindsItems → (meta : List ℕ) (size : ℕ) (told : Option Kind) (o : Option Placed) → IsSome o → TellsKind meta told
    → item_of meta size ≡ option_map placed_row o → told ≡ Some kind.Folder → true ≡ is_folder_placed o
folder_told finds meta size told None there tells is folder = cc
folder_told finds meta size told (Some x) there tells is folder = sym (folder_kind x.item (same_Some (item_kind (body_of x.item)) kind.Folder (sym (kind_told finds meta size told x tells is) ∙ folder)))

pub other_told : FindsItems → (meta : List ℕ) (size : ℕ) (told : Option Kind) (o : Option Placed) → IsSome o → TellsKind meta told
    → item_of meta size ≡ option_map placed_row o → (told ≡ Some kind.Folder → ⊥) → false ≡ is_folder_placed o
other_told finds meta size told None there tells is other = refl
other_told finds meta size told (Some x) there tells is other = sym (other_kind x.item (λ folder. other (kind_told finds meta size told x tells is ∙ ap Some folder)))

-- ---- the entry of a number

-- the key of a number is no more than a word
pub key_fits : (n : ℕ) → n ≤ max_items → Fits w64 (2 ^ 62 + n)
key_fits n high = omega arith

pub key_there : (records : Records) (n : ℕ) → IsThere records n → Fits w64 (2 ^ 62 + n)
key_there records n there = key_fits n (number_low records n there).1

module _ (finds : FindsItems) (records : Records) (rising : Rising records) (n : ℕ) (low : 1 ≤ n) (high : n ≤ max_items) where
  row_says : (r : Record) (o : Option ItemRow) → item_of r.meta r.length ≡ o → (bytes : ℕ → List ℕ) → o ≡ option_map placed_row (placed_of (entry_of bytes r))
  row_says r None none bytes = sym (ap (λ (x : Option Placed). option_map placed_row x) (row_nowhere r none bytes))
  row_says r (Some row) some bytes =
      let size : HasItemSize (length (bytes_in r.blocks bytes 0 r.length)) row.body =
      subst (λ (k : ℕ). HasItemSize k row.body) (sym (data_length bytes r)) ((finds r.length r.meta row).0 some).rules.size_is in
      sym (ap (λ (x : Option Placed). option_map placed_row x) (row_placed r row some bytes)
      ∙ ap (λ (b : ItemBody). Some (record { parent = row.parent; name = row.name; body = b })) (same_body row.body (bytes_in r.blocks bytes 0 r.length) size))

  entry_says : (r : Record) → at (item_key n) records ≡ Some r → (bytes : ℕ → List ℕ) → item_of r.meta r.length ≡ option_map placed_row (items_in records bytes n)
  entry_says r is bytes =
      row_says r (item_of r.meta r.length) refl bytes
      ∙ sym (ap (λ (x : Option Placed). option_map placed_row x) (items_at bytes records n low high rising ∙ ap (placed_rec bytes) is))

  pub nothing_says : at (item_key n) records ≡ None → (bytes : ℕ → List ℕ) → items_in records bytes n ≡ None
  nothing_says none bytes = items_at bytes records n low high rising ∙ ap (placed_rec bytes) none

  pub entry_told : (meta : List ℕ) (size : ℕ) → option_map (λ r. r.meta) (at (item_key n) records) ≡ Some meta → Some size ≡ option_map (λ r. r.length) (at (item_key n) records)
      → (bytes : ℕ → List ℕ) → item_of meta size ≡ option_map placed_row (items_in records bytes n)
  entry_told meta size meta_is size_is bytes = by_record (at (item_key n) records) refl
    where
      by_record : (o : Option Record) → at (item_key n) records ≡ o → item_of meta size ≡ option_map placed_row (items_in records bytes n)
      by_record None none = let clash : None ≡ Some meta = sym (ap (λ (o : Option Record). option_map (λ (r : Record). r.meta) o) none) ∙ meta_is in cc
      by_record (Some r) some =
          let m : r.meta ≡ meta = same_Some r.meta meta (sym (ap (λ (o : Option Record). option_map (λ (r : Record). r.meta) o) some) ∙ meta_is) in
          let s : r.length ≡ size = same_Some r.length size (sym (ap (λ (o : Option Record). option_map (λ (r : Record). r.length) o) some) ∙ sym size_is) in
          sym (λ i. item_of (m i) (s i)) ∙ entry_says r some bytes

-- what a reading tells is what stands
pub row_told : {P : Type 0} (o : Option Placed) → IsSome o → option_map placed_row o ≡ None → P
row_told None there is = cc
row_told (Some x) there is = cc
