-- The records of a volume: which key has what, and the numbered items that they hold.
use Rattle.std.specs.Prelude.{ℕ, ◌+◌, ◌-◌, ◌^◌, Bool, ◌&&◌, nat_le, if◌then◌else◌, Option, Some, None, IsSome, List, [], ◌∷◌, length}
use Rattle.std.specs.BTreeMap.{is_at}
use Rattle.std.specs.List.{flat_map}
use Rattle.std.specs.Map.{lookup}
use Rattle.std.specs.Option.{option_map}
use Rattle.std.specs.Ordering.{nat_cmp}
use Rattle.tm_image.specs.Reads.{Entry, Entries, entries_of}
use Rattle.tm_items.specs.Computed.{Placings, items_of}
use Rattle.tm_items.specs.Placings.{Placed, Items}
use Rattle.tm_nodes.specs.Records.{item_of}
use Rattle.tm_records.specs.Records.{Records}
use Rattle.tm_tree.specs.declared.item.Item.{Item}
use Rattle.tm_tree.specs.declared.item.Item.TheVariants as item
use Rattle.tm_tree.specs.declared.node.LeafRow.TheVariants as leaf
use Rattle.tm_tree.specs.declared.record.ItemBody.{ItemBody}
use Rattle.tm_tree.specs.declared.record.ItemBody.TheVariants as body
use Rattle.tm_tree.specs.declared.record.ItemRow.{ItemRow}
use Rattle.tm_base.specs.Limits.{max_items}

-- the head: the name, the id and the capacity, and the fixed paths
abbrev pub head_key : ℕ
head_key = 1

-- the journal rows
abbrev pub journal_key : ℕ
journal_key = 2

-- the item of a number, which is from 1 to the most items
abbrev pub item_key : ℕ → ℕ
item_key n = 2 ^ 62 + n

abbrev pub is_item_key : ℕ → Bool
is_item_key key = nat_le (2 ^ 62 + 1) key && nat_le key (2 ^ 62 + max_items)

-- the entry at a key
abbrev pub entry_at : ℕ → Entries → Option Entry
entry_at key entries = lookup (is_at (nat_cmp key)) entries

-- ---- the items

-- what a record is, with its data
abbrev pub item_with : ItemBody → List ℕ → Item
item_with (body.Folder attrs) bytes = item.Folder attrs
item_with (body.Leaf (leaf.File attrs stamp size)) bytes = item.File attrs stamp bytes
item_with (body.Leaf (leaf.Link attrs stamp target)) bytes = item.Link attrs stamp target

abbrev pub placed_with : List ℕ → ItemRow → Placed
placed_with bytes row = record { parent = row.parent; name = row.name; item = item_with row.body bytes }

-- the item of an entry whose meta is an item's
abbrev pub placed_of : Entry → Option Placed
placed_of e = option_map (placed_with e.bytes) (item_of e.meta (length e.bytes))

abbrev pub numbered : ℕ → Option Placed → Placings
numbered n None = []
numbered n (Some x) = (n, x) ∷ []

abbrev pub placing_of : ℕ × Entry → Placings
placing_of e = if is_item_key e.0 then numbered (e.0 - 2 ^ 62) (placed_of e.1) else []

-- the items, by rising number
unfoldable pub placings_of : Entries → Placings
placings_of entries = flat_map placing_of entries

-- what stands under each number, whose data are in blocks with these bytes
abbrev pub items_in : Records → (ℕ → List ℕ) → Items
items_in records bytes = items_of (placings_of (entries_of bytes records))

-- an item stands under a number, whatever the bytes
abbrev pub IsThere : Records → ℕ → Type 0
IsThere records n = (bytes : ℕ → List ℕ) → IsSome (items_in records bytes n)
