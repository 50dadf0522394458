-- The room that the records of a volume take is the room that the volume takes.
use Rattle.std.proofs.Common.{◌≡◌, inl, inr, ℕ, ◌+◌, ◌*◌, ◌≤◌, List, [], ◌∷◌, ◌++◌, length, refl, sym, ap, ◌∙◌, subst, Option, Some, None, arith, length-append}
use Rattle.std.specs.Option.{option_map, option_map_or, IsSome, IfSome}
use Rattle.std.specs.Ordering.{nat_cmp}
use Rattle.std.specs.List.{All, sum_by, flat_map}
use Rattle.std.specs.Map.{values_of}
use Rattle.std.proofs.lemmas.List.Sums.{sum_by-cons}
use Rattle.std.proofs.lemmas.List.FromFn.{length-map-range_with_len}
use Rattle.std.proofs.lemmas.Map.Views.{IfSome-lookup_from_All}
use Rattle.std.specs.BTreeMap.{is_at}
use Rattle.tm_chain.specs.Blob.{bytes_in, byte_in, blob_len}
use Rattle.tm_codec.specs.Fields.{u32_text, short_text}
use Rattle.tm_codec.proofs.Fields.{length-u32_text}
use Rattle.tm_records.specs.declared.record.Record.{Record}
use Rattle.tm_records.specs.Records.{Records, at}
use Rattle.tm_table.specs.Text.{record_text, table_text}
use Rattle.tm_table.proofs.Standing.{length-record_text}
use Rattle.tm_image.specs.Reads.{Entry, Entries, entry_of, entries_of}
use Rattle.tm_image.specs.Seen.{IsKept, IsSound as IsSoundImage}
use Rattle.tm_items.specs.Placings.{Placed}
use Rattle.tm_items.specs.Computed.{last_name}
use Rattle.tm_items.specs.Placings.{ReadsAs}
use Rattle.tm_items.specs.Rules.{IsSound}
use Rattle.tm_items.proofs.Reading.{tree_reads}
use Rattle.tm_items.proofs.Weighing.{weighs_alike, counts_alike}
use Rattle.tm_image.specs.Room as image_room
use Rattle.tm_image.specs.Reads as image_reads
use Rattle.tm_image.specs.Layout.{blocks_for, places}
use Rattle.tm_nodes.specs.Attrs.{attrs_text}
use Rattle.tm_nodes.specs.Items.{item_text, item_kind, item_attrs, item_tail, item_name, IsItemOfSize, HasItemSize}
use Rattle.tm_nodes.specs.Kinds.{kind_text}
use Rattle.tm_nodes.specs.Records.{volume_of, paths_of}
use Rattle.tm_nodes.specs.Spelled.{IsSpelled}
use Rattle.tm_nodes.proofs.ItemLemmas.{item_finds}
use Rattle.tm_nodes.proofs.HeadLemmas.{volume_finds}
use Rattle.tm_nodes.proofs.RowLemmas.{paths_finds}
use Rattle.tm_nodes.specs.Headers.{volume_text}
use Rattle.tm_nodes.specs.Paths.{paths_text}
use Rattle.tm_tree.specs.declared.item.Item.{Item}
use Rattle.tm_tree.specs.declared.node.LeafRow.TheVariants as leaf
use Rattle.tm_tree.specs.declared.record.ItemBody.{ItemBody}
use Rattle.tm_tree.specs.declared.record.ItemBody.TheVariants as body
use Rattle.tm_tree.specs.declared.record.ItemRow.{ItemRow}
use Rattle.tm_tree.specs.Items.{bytes_of}
use Rattle.tm_volume_records.specs.Records.{head_key, journal_key, item_key, entry_at, item_with, placed_with, placed_of}
use Rattle.tm_volume.specs.Room.{body_of, row_of, item_len, record_len, head_len, text_len, table_len, data_len}
use Rattle.tm_volume_records.specs.Rules.{IsItem, HasData, IsGoodVolume, IsVolumeKey}
use Rattle.tm_volume.specs.Seen.{Seen, IsReady, entries_on, items_on, tree_on, stored_on}
use Rattle.tm_volume_records.proofs.Slots.{Rising, entry_is, placings_on, range_key, numbered_on}
use Rattle.tm_volume.proofs.Weights.{each_found, Fits, weigh_records}
use Rattle.tm_base.specs.Limits.{max_items}

pub data_length : (bytes : ℕ → List ℕ) (r : Record) → length (entry_of bytes r).bytes ≡ r.length
unfolding bytes_in
data_length bytes r = length-map-range_with_len (byte_in r.blocks bytes) 0 r.length

-- ---- the text of an item is as long whatever its folder

pub part_len : (row : ItemRow) → length (item_text row) ≡ length (kind_text (item_kind row.body)) + 4 + length (short_text (item_name row.name)) + length (attrs_text (item_attrs row.body)) + length (item_tail row.body)
unfolding item_text
part_len row =
    let k = kind_text (item_kind row.body) in
    let u = u32_text row.parent in
    let n = short_text (item_name row.name) in
    let a = attrs_text (item_attrs row.body) in
    let t = item_tail row.body in
    omega (arith, length-append (k ++ u ++ n ++ a) t, length-append (k ++ u ++ n) a, length-append (k ++ u) n, length-append k u, length-u32_text row.parent)

pub len_alike : (a b : ItemRow) → a.name ≡ b.name → a.body ≡ b.body → length (item_text a) ≡ length (item_text b)
len_alike a b names bodies =
    let same : length (kind_text (item_kind a.body)) + 4 + length (short_text (item_name a.name)) + length (attrs_text (item_attrs a.body)) + length (item_tail a.body)
    ≡ length (kind_text (item_kind b.body)) + 4 + length (short_text (item_name b.name)) + length (attrs_text (item_attrs b.body)) + length (item_tail b.body)
    = λ i. length (kind_text (item_kind (bodies i))) + 4 + length (short_text (item_name (names i))) + length (attrs_text (item_attrs (bodies i))) + length (item_tail (bodies i)) in
    part_len a ∙ same ∙ sym (part_len b)

-- a body with its data, and without them again
pub body_again : (b : ItemBody) (bytes : List ℕ) → HasItemSize (length bytes) b → body_of (item_with b bytes) ≡ b
body_again (body.Folder attrs) bytes h = refl
body_again (body.Leaf (leaf.File attrs stamp size)) bytes h = λ i. body.Leaf (leaf.File attrs stamp (sym h i))
body_again (body.Leaf (leaf.Link attrs stamp target)) bytes h = refl

pub data_again : (b : ItemBody) (bytes : List ℕ) → HasData b (length bytes) → length (bytes_of (item_with b bytes)) ≡ length bytes
data_again (body.Folder attrs) bytes h = sym h
data_again (body.Leaf (leaf.File attrs stamp size)) bytes h = refl
data_again (body.Leaf (leaf.Link attrs stamp target)) bytes h = sym h

-- what a record costs of the table's text
abbrev pub text_cost : Record → ℕ
text_cost r = 20 + length r.meta + 4 * length r.blocks

abbrev pub text_weight : Placed → ℕ
text_weight x = item_len x.name x.item

abbrev pub data_weight : Placed → ℕ
data_weight x = blob_len (length (bytes_of x.item))

module _ (bytes : ℕ → List ℕ) (next : ℕ) (r : Record) (kept : IsKept r) (item : IsItem next (entry_of bytes r)) where
  spelled : IsSpelled item_text (IsItemOfSize (length (entry_of bytes r).bytes)) r.meta item.row
  spelled = (item_finds (length (entry_of bytes r).bytes)).is r.meta item.row item.meta

  abbrev pub placed : Placed
  placed = placed_with (entry_of bytes r).bytes item.row

  pub placed_is : placed_of (entry_of bytes r) ≡ Some placed
  placed_is = ap (option_map (placed_with (entry_of bytes r).bytes)) item.meta

  pub data_costs : length r.blocks ≡ data_weight placed
  data_costs = kept.many ∙ ap blob_len (sym (data_length bytes r)) ∙ ap blob_len (sym (data_again item.row.body (entry_of bytes r).bytes item.bytes))

  meta_len : length r.meta ≡ length (item_text (row_of placed.name placed.item))
  meta_len = ap length spelled.spelled ∙ len_alike item.row (row_of placed.name placed.item) refl (sym (body_again item.row.body (entry_of bytes r).bytes spelled.rules.size_is))

  pub text_costs : text_cost r ≡ text_weight placed
  text_costs = let m = meta_len in let d = data_costs in λ i. 20 + m i + 4 * d i

-- ---- all records

-- what is known of a volume in memory whose data are these bytes
pub record Known (m : Seen) (bytes : ℕ → List ℕ) : Type 0 where
  pub rising : Rising m.image.records
  pub kept : (k : ℕ) (r : Record) → at k m.image.records ≡ Some r → IsKept r
  pub sound : IsSound (items_on m bytes)
  pub good : IsGoodVolume (entries_on m bytes) m.tag
  pub head : option_map (λ r. volume_of r.meta) (at head_key m.image.records) ≡ Some (Some m.head)

found_by : {X Y : Type 0} (f : X → Y) (o : Option X) (y : Y) → option_map f o ≡ Some y → (x : X) × (o ≡ Some x) × (f x ≡ y)
found_by f None y h = cc
found_by f (Some x) y h = (x, refl, cc)

some_same : {X : Type 0} {x y : X} → Some x ≡ Some y → x ≡ y
some_same h = cc

on_option : (cost : Record → ℕ) (f : ℕ → ℕ) (o : Option Record) → ((r : Record) → o ≡ Some r → cost r ≡ f r.length) → option_map_or cost o 0 ≡ option_map_or f (option_map (λ r. r.length) o) 0
on_option cost f None costs = refl
on_option cost f (Some r) costs = costs r refl

ones : {X : Type 0} (xs : List X) → sum_by (λ x. 1) xs ≡ length xs
ones [] = refl
ones (x ∷ xs) = sum_by-cons (λ x. 1) x xs ∙ omega (arith, ones xs)

ones_values : (es : Records) → sum_by (λ r. 1) (values_of es) ≡ length es
ones_values [] = refl
ones_values (e ∷ es) = sum_by-cons (λ r. 1) e.1 (values_of es) ∙ omega (arith, ones_values es)

pub text_sum : (es : Records) → length (table_text es) ≡ sum_by text_cost (values_of es)
unfolding table_text
text_sum [] = refl
text_sum (e ∷ es) = omega (arith, length-append (record_text e) (flat_map record_text es), length-record_text e, text_sum es, sum_by-cons text_cost e.1 (values_of es))

pub found_kept : (es : Records) → All IsKept (values_of es) → (k : ℕ) (r : Record) → at k es ≡ Some r → IsKept r
found_kept es all k r is = subst (λ o. IfSome o IsKept) is (IfSome-lookup_from_All IsKept (is_at (nat_cmp k)) es all)

module _ (m : Seen) (bytes : ℕ → List ℕ) (known : Known m bytes) where
  pub rising : Rising m.image.records
  rising = known.rising

  pub kept_at : (k : ℕ) (r : Record) → at k m.image.records ≡ Some r → IsKept r
  kept_at = known.kept

  pub entry_there : (k : ℕ) (r : Record) → at k m.image.records ≡ Some r → entry_at k (entries_on m bytes) ≡ Some (entry_of bytes r)
  entry_there k r is = entry_is bytes k m.image.records ∙ ap (option_map (entry_of bytes)) is

  pub key_there : (k : ℕ) (r : Record) → at k m.image.records ≡ Some r → IsVolumeKey k
  key_there k r is = (known.good k).known (subst (λ (o : Option Entry). IsSome o) (sym (entry_there k r is)) refl)

  pub item_there : (n : ℕ) (r : Record) → 1 ≤ n → n ≤ max_items → at (item_key n) m.image.records ≡ Some r → IsItem m.tag.next (entry_of bytes r)
  item_there n r lo hi is = subst (λ (o : Option Entry). IfSome o (IsItem m.tag.next)) (entry_there (item_key n) r is) ((known.good (item_key n)).item n lo hi refl).item

  module _ (cost : Record → ℕ) (weight : Placed → ℕ) (costs : (r : Record) (kept : IsKept r) (item : IsItem m.tag.next (entry_of bytes r)) → cost r ≡ weight (placed_with (entry_of bytes r).bytes item.row)) where
    fits : (k : ℕ) (r : Record) → at k m.image.records ≡ Some r → Fits bytes cost weight (k, r)
    fits k r is = elim (key_there k r is) [
      | inl one ↦ inl one
      | inr later ↦ elim later [
        | inl two ↦ inr (inl two)
        | inr item ↦
            let here : at (item_key item.0) m.image.records ≡ Some r = subst (λ j. at j m.image.records ≡ Some r) item.3 is in
            let told = item_there item.0 r item.1 item.2 here in
            inr (inr (record {
              is_key = range_key k (omega (arith, item.3, item.1)) (omega (arith, item.3, item.2));
              placed = placed bytes m.tag.next r (kept_at k r is) told;
              is = placed_is bytes m.tag.next r (kept_at k r is) told;
              costs = costs r (kept_at k r is) told;
            }))
      ]
    ]

    -- by a weight of each item
    pub records_weigh : sum_by cost (values_of m.image.records) ≡ option_map_or cost (at head_key m.image.records) 0 + option_map_or cost (at journal_key m.image.records) 0 + sum_by (λ row. weight row.1) (placings_on bytes m.image.records)
    records_weigh = weigh_records bytes cost weight m.image.records rising (each_found (Fits bytes cost weight) m.image.records rising fits)

  -- ---- the head, the journal and the items

  pub head_record : (r : Record) × (at head_key m.image.records ≡ Some r) × (volume_of r.meta ≡ Some m.head)
  head_record = found_by (λ (r : Record). volume_of r.meta) (at head_key m.image.records) (Some m.head) known.head

  pub head_meta : head_record.0.meta ≡ volume_text m.head
  head_meta = (volume_finds.is head_record.0.meta m.head head_record.2).spelled

  journal_meta : (r : Record) → at journal_key m.image.records ≡ Some r → r.meta ≡ []
  journal_meta r is = subst (λ (o : Option Entry). IfSome o (λ e. e.meta ≡ [])) (entry_there journal_key r is) ((known.good journal_key).journal refl).meta

  journal_costs : (cost : Record → ℕ) (f : ℕ → ℕ) → ((r : Record) → at journal_key m.image.records ≡ Some r → cost r ≡ f r.length)
      → option_map_or cost (at journal_key m.image.records) 0 ≡ option_map_or f (stored_on m bytes).journal 0
  journal_costs cost f costs = on_option cost f (at journal_key m.image.records) costs

  journal_text : option_map_or text_cost (at journal_key m.image.records) 0 ≡ option_map_or (record_len 0) (stored_on m bytes).journal 0
  journal_text = journal_costs text_cost (record_len 0) (λ r is. let a = journal_meta r is in let b = (kept_at journal_key r is).many in λ i. 20 + length (a i) + 4 * b i)

  journal_data : option_map_or (λ (r : Record). length r.blocks) (at journal_key m.image.records) 0 ≡ option_map_or blob_len (stored_on m bytes).journal 0
  journal_data = journal_costs (λ r. length r.blocks) blob_len (λ r is. (kept_at journal_key r is).many)

  pub reads : ReadsAs (items_on m bytes) (tree_on m bytes)
  reads = tree_reads (placings_on bytes m.image.records) (numbered_on bytes m.image.records rising) known.sound

  tree_weighs : (w : Option (List ℕ) → Item → ℕ) → sum_by (λ row. w (last_name row.0) row.1) (tree_on m bytes) ≡ sum_by (λ row. w row.1.name row.1.item) (placings_on bytes m.image.records)
  tree_weighs w = weighs_alike w (placings_on bytes m.image.records) (tree_on m bytes) (numbered_on bytes m.image.records rising) known.sound reads

  -- the records are the head, the journal if it stands, and the items
  pub count_is : length m.image.records ≡ 1 + option_map_or (λ _. 1) (stored_on m bytes).journal 0 + length (tree_on m bytes)
  count_is =
      let one : Record → ℕ = λ r. 1 in
      sym (ones_values m.image.records)
      ∙ omega (
        arith,
        records_weigh (λ _. 1) (λ _. 1) (λ r kept item. refl),
        ap (λ o. option_map_or one o 0) head_record.1,
        journal_costs (λ _. 1) (λ _. 1) (λ r is. refl),
        ones (placings_on bytes m.image.records),
        counts_alike (placings_on bytes m.image.records) (tree_on m bytes) (numbered_on bytes m.image.records rising) known.sound reads,
      )

  module _ (fixed_is : option_map (λ e. paths_of e.bytes) (entry_at head_key (entries_on m bytes)) ≡ Some (Some m.fixed)) where
    head_fixed : paths_of (entry_of bytes head_record.0).bytes ≡ Some m.fixed
    head_fixed = some_same (sym (ap (option_map (λ (e : Entry). paths_of e.bytes)) (entry_there head_key head_record.0 head_record.1)) ∙ fixed_is)

    head_size : head_record.0.length ≡ length (paths_text m.fixed)
    head_size = sym (data_length bytes head_record.0) ∙ ap length (paths_finds.is (entry_of bytes head_record.0).bytes m.fixed head_fixed).spelled

    head_blocks : length head_record.0.blocks ≡ blob_len (length (paths_text m.fixed))
    head_blocks = (kept_at head_key head_record.0 head_record.1).many ∙ ap blob_len head_size

    head_text : option_map_or text_cost (at head_key m.image.records) 0 ≡ head_len (stored_on m bytes).volume
    head_text = ap (λ o. option_map_or text_cost o 0) head_record.1 ∙ (let a = head_meta in let b = head_blocks in λ i. 20 + length (a i) + 4 * b i)

    head_data : option_map_or (λ (r : Record). length r.blocks) (at head_key m.image.records) 0 ≡ blob_len (length (paths_text m.fixed))
    head_data = ap (λ o. option_map_or (λ (r : Record). length r.blocks) o 0) head_record.1 ∙ head_blocks

    -- ---- the room

    pub text_is : length (table_text m.image.records) ≡ text_len (stored_on m bytes)
    text_is = text_sum m.image.records
        ∙ omega (arith, records_weigh text_cost text_weight (λ r kept item. text_costs bytes m.tag.next r kept item), head_text, journal_text, tree_weighs (λ name e. item_len name e))

    pub table_is : image_room.table_len m.image.records ≡ table_len (stored_on m bytes)
    table_is = ap blocks_for text_is

    pub data_is : image_reads.data_len m.image.records ≡ data_len (stored_on m bytes)
    data_is = omega (arith, records_weigh (λ r. length r.blocks) data_weight (λ r kept item. data_costs bytes m.tag.next r kept item), head_data, journal_data, tree_weighs (λ name e. blob_len (length (bytes_of e))))

-- ---- the blocks that are free

-- where nothing is staged
pub free_here : (m : Seen) (blocks free : ℕ) → IsReady m blocks → IsSoundImage m.image → free ≡ image_room.free_of m.image → free + 3 + length (places m.image.layout) + image_reads.data_len m.image.records + 0 ≡ length m.image.used
    → image_room.free_of m.image + 3 + image_room.table_len m.image.records + image_reads.data_len m.image.records ≡ blocks
free_here m blocks free ready sound is rule =
    let table : length (places m.image.layout) ≡ image_room.table_len m.image.records = sound.many ∙ ap blocks_for ready.settled in
    omega (arith, is, rule, table, ready.count)
