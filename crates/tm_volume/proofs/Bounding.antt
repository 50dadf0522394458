-- The items of a volume keep the bounds of records.
use Rattle.std.proofs.Common.{◌≡◌, inl, inr, ℕ, ◌<◌, ◌≤◌, ◌==◌, true, false, List, [], ◌∷◌, length, refl, sym, ap, ◌∙◌, subst, ⊎_elim, Option, Some, None, IfSome, is_some, arith}
use Rattle.std.specs.List.{All}
use Rattle.std.specs.Cmp.{unsigned_Decides}
use Rattle.std.specs.Option.{option_map}
use Rattle.std.proofs.lemmas.Bool.{cases_lt}
use Rattle.std.proofs.lemmas.List.Elements.{All-cons}
use Rattle.tm_base.specs.IsName.{IsName}
use Rattle.tm_base.specs.Paths.{Names}
use Rattle.tm_image.specs.Reads.{entry_of}
use Rattle.tm_items.specs.Computed.{SoundReads, CountsAlike, AreNumbered}
use Rattle.tm_items.specs.Laws.{FewNumbers}
use Rattle.tm_items.specs.Placings.{Placed, Walks, ReadsAs}
use Rattle.tm_items.specs.Rules.{climbs}
use Rattle.tm_items.proofs.Walking.{climbs_far, climbs_walk}
use Rattle.tm_nodes.specs.Attrs.{IsAttrs}
use Rattle.tm_nodes.specs.Items.{item_attrs, IsItemTail, IsItemRow}
use Rattle.tm_nodes.specs.Records.{item_of}
use Rattle.tm_records.specs.declared.record.Record.{Record}
use Rattle.tm_records.specs.Records.{Records, at}
use Rattle.tm_tree.specs.declared.item.Item.{Item}
use Rattle.tm_tree.specs.declared.node.LeafRow.TheVariants as leaf
use Rattle.tm_tree.specs.declared.record.ItemBody.{ItemBody}
use Rattle.tm_tree.specs.declared.record.ItemBody.TheVariants as body
use Rattle.tm_tree.specs.declared.record.ItemRow.{ItemRow}
use Rattle.tm_tree.specs.Items.{attrs_of, bytes_of}
use Rattle.tm_tree.specs.Trees.{item_at}
use Rattle.tm_volume_records.specs.Records.{item_key, item_with, placed_with, placings_of}
use Rattle.tm_volume_records.proofs.Slots.{placed_rec, items_at, items_out, numbered_on}
use Rattle.tm_volume.specs.Bounds.{HasFields, HasBounds, KeptIsTree, KeptAreFew, ItemsKeepBounds}
use Rattle.tm_volume.specs.Seen.{Seen, IsKept, entries_on, items_on, tree_on}
use Rattle.tm_volume.proofs.Rows.{FindsItems, data_length}
use Rattle.tm_base.proofs.Facts.{none_some}
use Rattle.tm_base.specs.Limits.{max_items, max_file_bytes, max_names}

some_same : {X : Type 0} {a b : X} → Some a ≡ Some b → a ≡ b
some_same h = cc

is_one : (n : ℕ) → (n == 1) ≡ true → 1 ≡ n
is_one n e = sym ((unsigned_Decides n 1).0 e)

-- what a row says of its item
row_attrs : (b : ItemBody) (bytes : List ℕ) → attrs_of (item_with b bytes) ≡ item_attrs b
row_attrs (body.Folder attrs) bytes = refl
row_attrs (body.Leaf (leaf.File attrs stamp size)) bytes = refl
row_attrs (body.Leaf (leaf.Link attrs stamp target)) bytes = refl

row_fields : (b : ItemBody) (bytes : List ℕ) → IsItemTail b → HasFields (item_with b bytes)
row_fields (body.Folder attrs) bytes h = tt
row_fields (body.Leaf (leaf.File attrs stamp size)) bytes h = h
row_fields (body.Leaf (leaf.Link attrs stamp target)) bytes h = h

row_size : (b : ItemBody) (bytes : List ℕ) → length bytes ≤ max_file_bytes → length (bytes_of (item_with b bytes)) ≤ max_file_bytes
row_size (body.Folder attrs) bytes h = omega arith
row_size (body.Leaf (leaf.File attrs stamp size)) bytes h = h
row_size (body.Leaf (leaf.Link attrs stamp target)) bytes h = omega arith

-- an item's record keeps the rules of a row, and its length
record IsOfRow (x : Placed) : Type 0 where
  row : ItemRow
  contents : List ℕ
  size : length contents ≤ max_file_bytes
  is : x ≡ placed_with contents row
  rules : IsItemRow row

module _ (m : Seen) (bytes : ℕ → List ℕ) (kept : IsKept m) where
  abbrev records : Records
  records = m.image.records

  numbered : AreNumbered (placings_of (entries_on m bytes))
  numbered = numbered_on bytes records kept.image.rising

  range : (n : ℕ) (x : Placed) → items_on m bytes n ≡ Some x → (1 ≤ n) × (n ≤ max_items)
  range n x is = (
    ⊎_elim (λ (lt : n < 1). none_some (sym (items_out bytes records n (inl lt)) ∙ is)) (λ (le : 1 ≤ n). le) (cases_lt n 1),
    ⊎_elim (λ (lt : max_items < n). none_some (sym (items_out bytes records n (inr lt)) ∙ is)) (λ (le : n ≤ max_items). le) (cases_lt max_items n),
  )

  module _ (finds : FindsItems) where
    of_row : (n : ℕ) (x : Placed) → items_on m bytes n ≡ Some x → IsOfRow x
    of_row n x is = let r = range n x is in by_record (at (item_key n) records) (kept.lengths n r.0 r.1) (sym (items_at bytes records n r.0 r.1 kept.image.rising) ∙ is)
      where
        by_row : (r : Record) (o : Option ItemRow) → r.length ≤ max_file_bytes → item_of r.meta r.length ≡ o → option_map (placed_with (entry_of bytes r).bytes) o ≡ Some x → IsOfRow x
        by_row r None short read h = none_some h
        by_row r (Some row) short read h = record { row = row; contents = (entry_of bytes r).bytes; size = omega (arith, short, data_length bytes r); is = sym (some_same h); rules = ((finds r.length r.meta row).0 read).rules.rules }

        by_record : (o : Option Record) → IfSome o (λ r. r.length ≤ max_file_bytes) → placed_rec bytes o ≡ Some x → IsOfRow x
        by_record None short h = none_some h
        by_record (Some r) short h = by_row r (item_of r.meta r.length) short refl (ap (λ k. option_map (placed_with (entry_of bytes r).bytes) (item_of r.meta k)) (sym (data_length bytes r)) ∙ h)

    near : (n : ℕ) (x : Placed) → items_on m bytes n ≡ Some x → climbs max_names (items_on m bytes) n ≡ true
    near n x is = elim (n == 1) as (λ b. (n == 1) ≡ b → climbs max_names (items_on m bytes) n ≡ true) [
      | true ↦ λ e. subst (λ (k : ℕ). climbs max_names (items_on m bytes) k ≡ true) (is_one n e) (climbs_walk (items_on m bytes) 1 [] max_names refl (omega arith))
      | false ↦ λ e. ((kept.sound bytes n).placed x is e).near
    ] refl

    named : (x : Placed) (name : List ℕ) → x.name ≡ Some name → IsOfRow x → IsName name
    named x name is of = subst (λ (o : Option (List ℕ)). IfSome o IsName) (sym (ap (λ (y : Placed). y.name) of.is) ∙ is) of.rules.name

    names : (a n : ℕ) (p : Names) → Walks (items_on m bytes) a p n → All IsName p
    names a n [] w = λ i d below. absurd (omega (arith, below))
    names a n (name ∷ p) w = let c = w.1 in All-cons IsName name p (named c.placed name c.name (of_row w.0 c.placed c.is)) (names w.0 n p w.2)

    bounds : (reads : ReadsAs (items_on m bytes) (tree_on m bytes)) (p : Names) (e : Item) → item_at (tree_on m bytes) p ≡ Some e → HasBounds p e
    bounds reads p e is =
        let s = reads.only p e is in
        let row = of_row s.number s.placed s.is in
        let far = climbs_far (items_on m bytes) 1 s.number p max_names s.walks (near s.number s.placed s.is) in
        let item : e ≡ item_with row.row.body row.contents = sym s.item ∙ ap (λ (x : Placed). x.item) row.is in
        record {
          short = omega (arith, far.1);
          names = names 1 s.number p s.walks;
          attrs = subst (λ a. IsAttrs a) (sym (ap attrs_of item ∙ row_attrs row.row.body row.contents)) row.rules.attrs;
          fields = subst HasFields (sym item) (row_fields row.row.body row.contents row.rules.tail);
          size = subst (λ (x : Item). length (bytes_of x) ≤ max_file_bytes) (sym item) (row_size row.row.body row.contents row.size);
        }

pub items_keep_bounds : FindsItems → SoundReads → ItemsKeepBounds
items_keep_bounds finds sound_reads m bytes p e kept is =
    let reads = (sound_reads (placings_of (entries_on m bytes)) (numbered m bytes kept) (kept.sound bytes)).0 in
    bounds m bytes kept finds reads p e is

pub kept_is_tree : SoundReads → KeptIsTree
kept_is_tree sound_reads m bytes kept = (sound_reads (placings_of (entries_on m bytes)) (numbered m bytes kept) (kept.sound bytes)).1

pub kept_are_few : SoundReads → CountsAlike → FewNumbers → KeptAreFew
kept_are_few sound_reads counts few m bytes kept =
    let placings = placings_of (entries_on m bytes) in
    let reads = (sound_reads placings (numbered m bytes kept) (kept.sound bytes)).0 in
    let alike = counts placings (tree_on m bytes) (numbered m bytes kept) (kept.sound bytes) reads in
    let most = few placings max_items (numbered m bytes kept) (λ n there. let x = some_of (items_on m bytes n) there in range m bytes kept n x.0 x.1) in
    omega (arith, alike, most)
  where
    some_of : (o : Option Placed) → is_some o ≡ true → (x : Placed) × (o ≡ Some x)
    some_of None h = absurd (cc h)
    some_of (Some x) h = (x, refl)
