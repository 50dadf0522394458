-- Items as they are read: what their records say, each by itself and in its place.
use Rattle.std.specs.Prelude.{◌+◌, ◌≡◌, ℕ, ◌<◌, ◌≤◌, Bool, true, false, ◌&&◌, ◌==◌, not, is_some, Option, Some, None, IfSome, Result, Ok, Err, List, length}
use Rattle.std.specs.List.{All, slice_get}
use Rattle.std.specs.Option.{option_map}
use Rattle.tm_image.specs.Reads.{Entries, entries_of}
use Rattle.tm_items.specs.Computed.{items_of}
use Rattle.tm_items.specs.Placings.{Placed, Items}
use Rattle.tm_items.specs.Rules.{FollowsRules}
use Rattle.tm_image.specs.declared.error.LoadError.{LoadError}
use Rattle.tm_image.specs.declared.error.LoadError.TheVariants.{Unformatted, Bad, Fault, Memory}
use Rattle.tm_nodes.specs.declared.volume.VolumeHead.{VolumeHead}
use Rattle.tm_tree.specs.declared.rows.Row.{Row}
use Rattle.tm_world.specs.declared.cause.Cause.TheVariants as cause
use Rattle.tm_nodes.specs.Records.{item_of, volume_of, rows_of}
use Rattle.tm_records.specs.declared.record.Record.{Record}
use Rattle.tm_records.specs.Records.{Records, at}
use Rattle.tm_tree.specs.Items.{is_folder, exclusion}
use Rattle.tm_tree.specs.Extras.{value_of}
use Rattle.tm_tree.specs.declared.record.ItemBody.{ItemBody}
use Rattle.tm_tree.specs.declared.record.ItemBody.TheVariants as body
use Rattle.tm_tree.specs.declared.record.ItemRow.{ItemRow}
use Rattle.tm_volume_records.specs.declared.positions.Position.{Position}
use Rattle.tm_volume_records.specs.Records.{head_key, item_key, placings_of}
use Rattle.tm_volume_records.specs.Rules.{Tag, HasData, HasStamp, IsDrawn, IsGoodKey}
use Rattle.tm_base.specs.Limits.{max_items}

-- ---- rows

abbrev pub row_of_record : Option Record → Option ItemRow
row_of_record None = None
row_of_record (Some r) = item_of r.meta r.length

-- the row of a number, if a record stands there that reads as an item
abbrev pub row_in : Records → ℕ → Option ItemRow
row_in records n = row_of_record (at (item_key n) records)

-- a record keeps the rules of an item by itself
pub record IsOwn (next : ℕ) (r : Record) : Type 0 where
  pub row : ItemRow
  pub meta : item_of r.meta r.length ≡ Some row
  pub bytes : HasData row.body r.length
  pub stamp : HasStamp next row.body

-- the record of a number does, if there is one
abbrev pub KeepsOwn : Records → ℕ → ℕ → Type 0
KeepsOwn records next n = IfSome (at (item_key n) records) (IsOwn next)

-- ---- positions: where the item of a number stands, under which name, and whether it is a folder

abbrev pub is_folder_body : ItemBody → Bool
is_folder_body (body.Folder attrs) = true
is_folder_body (body.Leaf leaf) = false

abbrev pub position_of_row : ItemRow → Position
position_of_row row = record { parent = row.parent; name = row.name; is_folder = is_folder_body row.body }

abbrev pub position_or : Option (Option Position) → Option Position
position_or None = None
position_or (Some position) = position

abbrev pub position_at : List (Option Position) → ℕ → Option Position
position_at positions n = position_or (slice_get positions n)

abbrev pub is_folder_position : Option Position → Bool
is_folder_position None = false
is_folder_position (Some position) = position.is_folder

abbrev pub position_of : Placed → Position
position_of x = record { parent = x.parent; name = x.name; is_folder = is_folder x.item }

-- the positions are those of the items
pub record ArePositions (items : Items) (positions : List (Option Position)) : Type 0 where
  pub each : (n : ℕ) → position_at positions n ≡ option_map position_of (items n)

-- the positions below a number are those of the records
pub record ArePositionsBelow (records : Records) (n : ℕ) (positions : List (Option Position)) : Type 0 where
  pub many : length positions ≤ n
  pub none : position_at positions 0 ≡ None
  pub each : (m : ℕ) → 1 ≤ m → m < n → position_at positions m ≡ option_map position_of_row (row_in records m)

-- no item has a number from one on and below another
abbrev pub NoneBetween : Records → ℕ → ℕ → Type 0
NoneBetween records from n = (m : ℕ) → from ≤ m → m < n → at (item_key m) records ≡ None

-- ---- the least number of a record that is bad by itself, or one above all

pub record IsWorst (records : Records) (next n worst : ℕ) : Type 0 where
  pub least : 1 ≤ worst
  pub most : worst ≤ max_items + 1
  pub below : (m : ℕ) → 1 ≤ m → m < n → m < worst → KeepsOwn records next m
  pub bad : worst < n → KeepsOwn records next worst → ⊥
  pub high : n ≤ worst → worst ≡ max_items + 1

-- ---- the root

-- whether a row may stand under number 1
abbrev pub is_root_body : ItemBody → Bool
is_root_body (body.Folder attrs) = not (is_some (value_of exclusion attrs.extra))
is_root_body (body.Leaf leaf) = false

abbrev pub is_root_row : Option ItemRow → Bool
is_root_row None = false
is_root_row (Some row) = (row.parent == 0) && not (is_some row.name) && is_root_body row.body

-- ---- the first number that breaks a rule

abbrev pub items_from : Records → (ℕ → List ℕ) → Items
items_from records bytes = items_of (placings_of (entries_of bytes records))

pub record IsFirstBad (records : Records) (next n : ℕ) : Type 0 where
  pub least : 1 ≤ n
  pub most : n ≤ max_items
  pub own : (m : ℕ) → 1 ≤ m → m < n → KeepsOwn records next m
  pub place : (bytes : ℕ → List ℕ) (m : ℕ) → m < n → FollowsRules (items_from records bytes) m
  pub bad : (bytes : ℕ → List ℕ) → KeepsOwn records next n → FollowsRules (items_from records bytes) n → ⊥

-- ---- the head and the journal

-- a call that reads answers `Bad` for this key alone, and only where this holds
abbrev pub IfBadAt : {A : Type 0} → Result A LoadError → ℕ → Type 0 → Type 0
IfBadAt (Ok a) key P = Unit {0}
IfBadAt (Err Unformatted) key P = ⊥
IfBadAt (Err (Bad why place)) key P = (why ≡ cause.Record) × (place ≡ key) × P
IfBadAt (Err Fault) key P = Unit {0}
IfBadAt (Err Memory) key P = Unit {0}

-- the head that the records have
abbrev pub HeadIn : Records → VolumeHead → Type 0
HeadIn records head = option_map (λ r. volume_of r.meta) (at head_key records) ≡ Some (Some head)

-- data that are journal rows: no more than so many, whose ids were drawn
pub record AreRows (capacity next : ℕ) (bytes : List ℕ) : Type 0 where
  pub rows : List Row
  pub is : rows_of bytes ≡ Some rows
  pub few : length rows ≤ capacity
  pub drawn : All (λ row. IsDrawn next row.id) rows

-- ---- all keys

-- every key below this one keeps its rules
abbrev pub ArePassed : Entries → Tag → ℕ → Type 0
ArePassed entries tag key = (other : ℕ) → other < key → IsGoodKey entries tag other

-- a call that reads answers `Bad` for a record alone, whose key has this
abbrev pub IfBadKey : {A : Type 0} → Result A LoadError → (ℕ → Type 0) → Type 0
IfBadKey (Ok a) P = Unit {0}
IfBadKey (Err Unformatted) P = ⊥
IfBadKey (Err (Bad why place)) P = (why ≡ cause.Record) × P place
IfBadKey (Err Fault) P = Unit {0}
IfBadKey (Err Memory) P = Unit {0}
