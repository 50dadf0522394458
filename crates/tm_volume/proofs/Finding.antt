-- The way to an item of a volume in memory.
use Rattle.std.proofs.Common.{◌≡◌, ℕ, ◌+◌, ◌<◌, Bool, true, false, List, length, slice_get, get_or, refl, sym, ap, ◌∙◌, subst, Option, Some, None, Ok, Err, is_some}
use Rattle.std.proofs.lemmas.Option.{same_Some, slice_get_read}
use Rattle.std.specs.Option.{option_map}
use Rattle.tm_base.specs.Paths.{Names}
use Rattle.tm_base.specs.declared.refused.Refused.TheVariants.{NotFound, NotFolder}
use Rattle.tm_image.specs.Seen.{IsSound as ImageIsSound}
use Rattle.tm_items.specs.Changes.{Are}
use Rattle.tm_items.specs.Finding.{FoundAt, OnWay}
use Rattle.tm_items.specs.Index.{Numbers}
use Rattle.tm_items.specs.Places.{at_name}
use Rattle.tm_items.specs.Placings.{Placed}
use Rattle.tm_items.specs.Rules.{is_folder_placed}
use Rattle.tm_items.proofs.Finding.{way_starts, way_stands, way_goes_on, way_misses, way_is_blocked, way_ends}
use Rattle.tm_items.proofs.Reading.{tree_reads}
use Rattle.tm_records.specs.Records.{Records}
use Rattle.tm_tree.specs.Walks.{walk}
use Rattle.tm_tree.specs.declared.item.Item.{Item}
use Rattle.tm_tree.specs.declared.record.ItemRow.{ItemRow}
use Rattle.tm_volume.specs.Room.{body_of, placed_row}
use Rattle.tm_volume_records.specs.Records.{placings_of, items_in, IsThere}
use Rattle.tm_volume.specs.Seen.{Seen, IsShelf, entries_on, items_on, tree_on}
use Rattle.tm_volume_records.proofs.Slots.{Rising, numbered_on}

-- a volume keeps its rules, and its records stand by rising key
pub record OnShelf (m : Seen) (numbers : Numbers) : Type 0 where
  pub shelf : IsShelf m numbers
  pub rising : Rising m.image.records

pub on_shelf : (v m : Seen) (numbers : Numbers) → v ≡ m → IsShelf v numbers → ImageIsSound v.image → OnShelf m numbers
on_shelf v m numbers is shelf sound = subst (λ (w : Seen). OnShelf w numbers) is (record { shelf = shelf; rising = sound.rising })

pub are_on : (m : Seen) (numbers : Numbers) → OnShelf m numbers → (bytes : ℕ → List ℕ) → Are (items_on m bytes) (tree_on m bytes)
are_on m numbers on bytes = record {
  sound = on.shelf.sound bytes;
  reads = tree_reads (placings_of (entries_on m bytes)) (numbered_on bytes m.image.records on.rising) (on.shelf.sound bytes);
}

-- the way down the first i names has come to n, whatever the bytes
abbrev pub IsOnWay : Seen → Names → ℕ → ℕ → Type 0
IsOnWay m p i n = (bytes : ℕ → List ℕ) → OnWay (items_on m bytes) (tree_on m bytes) p i n

pub starts_on : (m : Seen) (p : Names) → IsOnWay m p 0 1
starts_on m p bytes = way_starts (items_on m bytes) (tree_on m bytes) p

module _ (v m : Seen) (same : v ≡ m) (numbers : Numbers) (on : OnShelf m numbers) (p : Names) (i n : ℕ) (way : IsOnWay m p i n) where
  pub stands_on_way : IsThere v.image.records n
  stands_on_way = subst (λ (w : Seen). IsThere w.image.records n) (sym same) (λ bytes. way_stands (items_on m bytes) (tree_on m bytes) p i n (are_on m numbers on bytes) (way bytes))

  kind_on_way : (b : Bool) → ((bytes : ℕ → List ℕ) → b ≡ is_folder_placed (items_in v.image.records bytes n)) → (bytes : ℕ → List ℕ) → is_folder_placed (items_on m bytes n) ≡ b
  kind_on_way b is = subst (λ (w : Seen). (bytes : ℕ → List ℕ) → is_folder_placed (items_on w bytes n) ≡ b) same (λ bytes. sym (is bytes))

  pub blocked_on_way : i < length p → (b : Bool) → ((bytes : ℕ → List ℕ) → b ≡ is_folder_placed (items_in v.image.records bytes n)) → b ≡ false
      → (bytes : ℕ → List ℕ) → walk (tree_on m bytes) p ≡ Err NotFolder
  blocked_on_way low b is leaf bytes = way_is_blocked (items_on m bytes) (tree_on m bytes) p i n (are_on m numbers on bytes) (way bytes) low (kind_on_way b is bytes ∙ leaf)

  pub misses_on_way : (name : List ℕ) → slice_get p i ≡ Some name → (b : Bool) → ((bytes : ℕ → List ℕ) → b ≡ is_folder_placed (items_in v.image.records bytes n)) → b ≡ true
      → None ≡ numbers (at_name n name) → (bytes : ℕ → List ℕ) → walk (tree_on m bytes) p ≡ Err NotFound
  misses_on_way name at b is folder none bytes =
      way_misses (items_on m bytes) (tree_on m bytes) numbers p i n name (are_on m numbers on bytes) (on.shelf.index_is bytes) (way bytes) at (kind_on_way b is bytes ∙ folder) (sym none)

  pub goes_on_way : (name : List ℕ) (k : ℕ) → slice_get p i ≡ Some name → Some k ≡ numbers (at_name n name) → IsOnWay m p (i + 1) k
  goes_on_way name k at some bytes = way_goes_on (items_on m bytes) (tree_on m bytes) numbers p i n k name (are_on m numbers on bytes) (on.shelf.index_is bytes) (way bytes) at (sym some)

  pub ends_on_way : i ≡ length p → (bytes : ℕ → List ℕ) → FoundAt (items_on m bytes) (tree_on m bytes) p n
  ends_on_way end bytes = way_ends (items_on m bytes) (tree_on m bytes) p i n (are_on m numbers on bytes) (way bytes) end

-- the name of a turn
pub name_at : (names p : Names) (i : ℕ) (name : List ℕ) → names ≡ p → i < length names → name ≡ get_or names i name → slice_get p i ≡ Some name
name_at names p i name same low is = subst (λ (q : Names). slice_get q i ≡ Some name) same (slice_get_read names (length names) i name refl low is)

-- ---- what was found

abbrev pub IsFound : Seen → Names → ℕ → Type 0
IsFound m p n = (bytes : ℕ → List ℕ) → FoundAt (items_on m bytes) (tree_on m bytes) p n

pub found_there : (v m : Seen) → v ≡ m → (p : Names) (n : ℕ) → IsFound m p n → IsThere v.image.records n
found_there v m same p n found = subst (λ (w : Seen). IsThere w.image.records n) (sym same) (λ bytes. ap is_some (found bytes).is)

-- its row
abbrev pub IsRowAt : Records → ℕ → ItemRow → Type 0
IsRowAt records n row = (bytes : ℕ → List ℕ) → option_map placed_row (items_in records bytes n) ≡ Some row

pub row_found : (v m : Seen) → v ≡ m → (p : Names) (n : ℕ) (row : ItemRow) (found : IsFound m p n) → IsRowAt v.image.records n row
    → (bytes : ℕ → List ℕ) → placed_row (found bytes).placed ≡ row
row_found v m same p n row found is bytes =
    let here : IsRowAt m.image.records n row = subst (λ (w : Seen). IsRowAt w.image.records n row) same is in
    same_Some (placed_row (found bytes).placed) row (sym (ap (λ (o : Option Placed). option_map placed_row o) (found bytes).is) ∙ here bytes)

pub finds_row : (v m : Seen) → v ≡ m → (p : Names) (n : ℕ) (row : ItemRow) → IsFound m p n → IsRowAt v.image.records n row
    → (bytes : ℕ → List ℕ) → (e : Item) × (walk (tree_on m bytes) p ≡ Ok e) × (row.body ≡ body_of e)
finds_row v m same p n row found is bytes =
    ((found bytes).placed.item, (found bytes).walk_is, ap (λ (r : ItemRow). r.body) (sym (row_found v m same p n row found is bytes)))
