-- Parts of a file of a volume in memory.
use Rattle.std.proofs.Common.{◌≡◌, ℕ, ◌+◌, ◌≤◌, true, List, [], length, take, drop, refl, sym, ap, ◌∙◌, subst, Option, Some, Err, is_some, IsSome, IfSome, arith}
use Rattle.std.proofs.lemmas.Option.{same_Some}
use Rattle.tm_base.specs.Paths.{Names}
use Rattle.tm_base.specs.declared.refused.Refused.{Refused}
use Rattle.tm_chain.specs.Blob.{bytes_in}
use Rattle.tm_chain.proofs.Held.{part_of_held}
use Rattle.tm_items.specs.Index.{Numbers}
use Rattle.tm_items.specs.Placings.{Placed}
use Rattle.tm_items.proofs.Finding.{stands_found}
use Rattle.tm_records.specs.Records.{at as record_at}
use Rattle.tm_records.specs.declared.record.Record.{Record}
use Rattle.tm_tree.specs.Items.{is_file, bytes_of}
use Rattle.tm_tree.specs.Trees.{item_at}
use Rattle.tm_tree.specs.Walks.{walk}
use Rattle.tm_tree.specs.declared.item.Item.{Item}
use Rattle.tm_tree.specs.declared.node.LeafRow.TheVariants as leaf
use Rattle.tm_tree.specs.declared.record.ItemBody.{ItemBody}
use Rattle.tm_tree.specs.declared.record.ItemBody.TheVariants as body
use Rattle.tm_world.specs.Disk.{Disk}
use Rattle.tm_world.specs.declared.world.Side.{Side}
use Rattle.tm_world.specs.declared.world.Side.TheVariants.{Volume}
use Rattle.tm_volume_records.specs.Records.{item_key, item_with, placed_with}
use Rattle.tm_volume.specs.Seen.{Seen, items_on, tree_on}
use Rattle.tm_volume_records.proofs.Slots.{Rising}
use Rattle.tm_volume.proofs.Rows.{HasRow, has_row, data_length}
use Rattle.tm_volume.proofs.Finding.{OnShelf, are_on, IsFound}

-- a file stands at a path, and has the bytes of the range
abbrev pub IsFileFor : Seen → Names → ℕ → ℕ → Type 0
IsFileFor m p from len = (bytes : ℕ → List ℕ) → (e : Item) × (item_at (tree_on m bytes) p ≡ Some e) × (is_file e ≡ true) × (from + len ≤ length (bytes_of e))

no_bytes : ℕ → List ℕ
no_bytes b = []

file_bytes : (b : ItemBody) (bytes : List ℕ) → is_file (item_with b bytes) ≡ true → bytes_of (item_with b bytes) ≡ bytes
file_bytes (body.Folder attrs) bytes is = cc
file_bytes (body.Leaf (leaf.File attrs stamp count)) bytes is = refl
file_bytes (body.Leaf (leaf.Link attrs stamp target)) bytes is = cc

module _ (m : Seen) (rising : Rising m.image.records) (p : Names) (n : ℕ) (found : IsFound m p n) where
  found_row : HasRow m.image.records n
  found_row = has_row m.image.records rising n (λ bytes. ap is_some (found bytes).is)

  -- the file's bytes are the record's data
  held : (bytes : ℕ → List ℕ) (e : Item) → item_at (tree_on m bytes) p ≡ Some e → is_file e ≡ true → bytes_of e ≡ bytes_in found_row.rec.blocks bytes 0 found_row.rec.length
  held bytes e is file =
      let whole = bytes_in found_row.rec.blocks bytes 0 found_row.rec.length in
      let placed : (found bytes).placed ≡ placed_with whole found_row.row = same_Some (found bytes).placed (placed_with whole found_row.row) (sym (found bytes).is ∙ found_row.placed bytes) in
      let same : e ≡ item_with found_row.row.body whole = same_Some e (found bytes).placed.item (sym is ∙ (found bytes).stands) ∙ ap (λ (x : Placed). x.item) placed in
      ap bytes_of same ∙ file_bytes found_row.row.body whole (ap is_file (sym same) ∙ file)

  record_there : IsSome (record_at (item_key n) m.image.records)
  record_there = ap is_some found_row.at_key

  module _ (from len : ℕ) (file : IsFileFor m p from len) where
    in_range : from + len ≤ found_row.rec.length
    in_range =
        let f = file no_bytes in
        let long : length (bytes_of f.0) ≡ found_row.rec.length = ap length (held no_bytes f.0 f.1 f.2) ∙ data_length no_bytes found_row.rec in
        omega (arith, f.3, long)

    range_there : IfSome (record_at (item_key n) m.image.records) (λ r. from + len ≤ r.length)
    range_there = subst (λ (o : Option Record). IfSome o (λ r. from + len ≤ r.length)) (sym found_row.at_key) in_range

    part_read : (bytes : ℕ → List ℕ) (into : List ℕ) → IfSome (record_at (item_key n) m.image.records) (λ r. into ≡ bytes_in r.blocks bytes from len)
        → IfSome (item_at (tree_on m bytes) p) (λ e. into ≡ take len (drop from (bytes_of e)))
    part_read bytes into is =
        let f = file bytes in
        let into_is : into ≡ bytes_in found_row.rec.blocks bytes from len = subst (λ (o : Option Record). IfSome o (λ r. into ≡ bytes_in r.blocks bytes from len)) found_row.at_key is in
        subst (λ (o : Option Item). IfSome o (λ e. into ≡ take len (drop from (bytes_of e)))) (sym f.1)
        (into_is ∙ sym (part_of_held found_row.rec.blocks bytes found_row.rec.length from len in_range) ∙ ap (λ (b : List ℕ). take len (drop from b)) (sym (held bytes f.0 f.1 f.2)))

-- where a file stands the walk finds it
pub file_is_found : {P : Type 0} (m : Seen) (numbers : Numbers) → OnShelf m numbers → (p : Names) (from len : ℕ) (why : Refused) → IsFileFor m p from len
    → ((bytes : ℕ → List ℕ) → walk (tree_on m bytes) p ≡ Err why) → P
file_is_found m numbers on p from len why file refused =
    let f = file no_bytes in
    let found = stands_found (items_on m no_bytes) (tree_on m no_bytes) p f.0 (are_on m numbers on no_bytes) f.1 in
    let clash = sym (refused no_bytes) ∙ found.1.walk_is in cc

-- ---- as a volume in memory is seen

module _ (v m : Seen) (same : v ≡ m) (rising : Rising v.image.records) (p : Names) (n : ℕ) (found : IsFound m p n) where
  back : IsFound v p n
  back = subst (λ (w : Seen). IsFound w p n) (sym same) found

  pub there_seen : IsSome (record_at (item_key n) v.image.records)
  there_seen = record_there v rising p n back

  module _ (from len : ℕ) (file : IsFileFor m p from len) where
    file_back : IsFileFor v p from len
    file_back = subst (λ (w : Seen). IsFileFor w p from len) (sym same) file

    pub range_seen : IfSome (record_at (item_key n) v.image.records) (λ r. from + len ≤ r.length)
    range_seen = range_there v rising p n back from len file_back

    pub part_seen : (side : Side) (disks : Side → Disk) (into : List ℕ) → side ≡ Volume
        → IfSome (record_at (item_key n) v.image.records) (λ r. into ≡ bytes_in r.blocks (disks side).bytes from len)
        → IfSome (item_at (tree_on m (disks Volume).bytes) p) (λ e. into ≡ take len (drop from (bytes_of e)))
    part_seen side disks into is read =
        subst (λ (w : Seen). IfSome (item_at (tree_on w (disks Volume).bytes) p) (λ e. into ≡ take len (drop from (bytes_of e)))) same
        (part_read v rising p n back from len file_back (disks Volume).bytes into
        (subst (λ (s : Side). IfSome (record_at (item_key n) v.image.records) (λ r. into ≡ bytes_in r.blocks (disks s).bytes from len)) is read))
