-- What each record of a volume must keep, against all of them.
use Rattle.std.specs.Prelude.{◌≡◌, ◌⊎◌, ℕ, ◌<◌, ◌≤◌, Some, IsSome, IfSome, List, [], length, ◌^◌}
use Rattle.std.specs.List.{All}
use Rattle.tm_image.specs.Reads.{Entry, Entries}
use Rattle.tm_items.specs.Computed.{items_of}
use Rattle.tm_items.specs.Rules.{FollowsRules}
use Rattle.tm_nodes.specs.declared.volume.VolumeHead.{VolumeHead}
use Rattle.tm_nodes.specs.Records.{item_of, volume_of, paths_of, rows_of}
use Rattle.tm_base.specs.Paths.{Names}
use Rattle.tm_records.specs.Records.{Records, at}
use Rattle.tm_tree.specs.declared.node.LeafRow.TheVariants as leaf
use Rattle.tm_tree.specs.declared.record.ItemBody.{ItemBody}
use Rattle.tm_tree.specs.declared.record.ItemBody.TheVariants as body
use Rattle.tm_tree.specs.declared.record.ItemRow.{ItemRow}
use Rattle.tm_tree.specs.declared.rows.Row.{Row}
use Rattle.tm_volume_records.specs.Records.{head_key, journal_key, item_key, entry_at, placings_of}
use Rattle.tm_base.specs.Limits.{max_items, max_events, max_file_bytes}

-- the clean mark, the generation and the next number
pub record Tag : Type 0 where
  pub clean : ℕ
  pub generation : ℕ
  pub next : ℕ

-- the tag's fields are within their bounds
pub record IsTagged (tag : Tag) : Type 0 where
  pub clean_most : tag.clean ≤ 1
  pub generation_least : 1 ≤ tag.generation
  pub generation_most : tag.generation < 2 ^ 62
  pub next_least : 1 ≤ tag.next
  pub next_most : tag.next ≤ 2 ^ 62

-- the keys of a volume
abbrev pub IsVolumeKey : ℕ → Type 0
IsVolumeKey key = (key ≡ head_key) ⊎ (key ≡ journal_key) ⊎ ((n : ℕ) × (1 ≤ n) × (n ≤ max_items) × (key ≡ item_key n))

-- a head with a capacity from 1 to the most events, and fixed paths for its data
pub record IsHead (e : Entry) : Type 0 where
  pub head : VolumeHead
  pub meta : volume_of e.meta ≡ Some head
  pub capacity : (1 ≤ head.capacity) × (head.capacity ≤ max_events)
  pub fixed : List Names
  pub bytes : paths_of e.bytes ≡ Some fixed

pub record HasHead (entries : Entries) : Type 0 where
  pub entry : Entry
  pub is : entry_at head_key entries ≡ Some entry
  pub head : IsHead entry

-- a row of the journal: its id is one that was drawn
abbrev pub IsDrawn : ℕ → ℕ → Type 0
IsDrawn next id = (1 ≤ id) × (id < next)

-- the journal of a volume that was closed cleanly: no more rows than the head says
pub record IsJournal (entries : Entries) (next : ℕ) (e : Entry) : Type 0 where
  pub rows : List Row
  pub bytes : rows_of e.bytes ≡ Some rows
  pub few : (head : VolumeHead) → (h : Entry) → entry_at head_key entries ≡ Some h → volume_of h.meta ≡ Some head → length rows ≤ head.capacity
  pub drawn : All (λ row. IsDrawn next row.id) rows

-- the record of a volume that was closed cleanly is there; its meta is empty, whatever the mark
pub record HasJournal (entries : Entries) (tag : Tag) : Type 0 where
  pub meta : IfSome (entry_at journal_key entries) (λ e. e.meta ≡ [])
  pub there : tag.clean ≡ 1 → IsSome (entry_at journal_key entries)
  pub rows : tag.clean ≡ 1 → IfSome (entry_at journal_key entries) (IsJournal entries tag.next)

-- a file has at most so many bytes, and nothing else has data
abbrev pub HasData : ItemBody → ℕ → Type 0
HasData (body.Folder attrs) size = size ≡ 0
HasData (body.Leaf (leaf.File attrs stamp count)) size = size ≤ max_file_bytes
HasData (body.Leaf (leaf.Link attrs stamp target)) size = size ≡ 0

-- no item has more bytes than a file may have
abbrev pub AreShort : Records → Type 0
AreShort records = (n : ℕ) → 1 ≤ n → n ≤ max_items → IfSome (at (item_key n) records) (λ r. r.length ≤ max_file_bytes)

-- the stamp of a file or link was drawn
abbrev pub HasStamp : ℕ → ItemBody → Type 0
HasStamp next (body.Folder attrs) = Unit {0}
HasStamp next (body.Leaf (leaf.File attrs stamp count)) = IsDrawn next stamp
HasStamp next (body.Leaf (leaf.Link attrs stamp target)) = IsDrawn next stamp

-- an item's record by itself
pub record IsItem (next : ℕ) (e : Entry) : Type 0 where
  pub row : ItemRow
  pub meta : item_of e.meta (length e.bytes) ≡ Some row
  pub bytes : HasData row.body (length e.bytes)
  pub stamp : HasStamp next row.body

-- the item of a number, by itself and in its place; number 1 is there
pub record HasItem (entries : Entries) (next n : ℕ) : Type 0 where
  pub item : IfSome (entry_at (item_key n) entries) (IsItem next)
  pub place : FollowsRules (items_of (placings_of entries)) n

-- the rules of one key
pub record IsGoodKey (entries : Entries) (tag : Tag) (key : ℕ) : Type 0 where
  pub known : IsSome (entry_at key entries) → IsVolumeKey key
  pub head : key ≡ head_key → HasHead entries
  pub journal : key ≡ journal_key → HasJournal entries tag
  pub item : (n : ℕ) → 1 ≤ n → n ≤ max_items → key ≡ item_key n → HasItem entries tag.next n

-- every key keeps its rules
abbrev pub IsGoodVolume : Entries → Tag → Type 0
IsGoodVolume entries tag = (key : ℕ) → IsGoodKey entries tag key

-- the least key that breaks a rule
pub record IsLeastBad (entries : Entries) (tag : Tag) (key : ℕ) : Type 0 where
  pub bad : IsGoodKey entries tag key → ⊥
  pub below : (other : ℕ) → other < key → IsGoodKey entries tag other
