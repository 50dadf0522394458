-- Fields and records, read from the front of bytes.
use Rattle.std.specs.Prelude.{ℕ, zero, suc, ◌+◌, ◌-◌, ◌*◌, ◌^◌, Bool, true, not, ◌&&◌, ◌||◌, ◌==◌, nat_lt, nat_le, if◌then◌else◌, Option, Some, None, option_map, unwrap_or, List, [], ◌∷◌, length, take, drop, slice_get, codes, bytes_eq}
use Rattle.std.specs.declared.cmp.Ordering.{Ordering}
use Rattle.std.specs.Ordering.{nat_cmp, is_lt}
use Rattle.std.specs.List.{list_all}
use Rattle.std.specs.Str.{is_utf8}
use Rattle.tm_base.specs.Limits.{max_extras, max_name_bytes, max_names, max_target_bytes, max_value_bytes}
use Rattle.tm_base.specs.Paths.{Names, name_cmp, path_cmp}
use Rattle.tm_base.specs.Days.{last_moment}
use Rattle.tm_tree.specs.declared.attrs.Attrs.{Attrs}
use Rattle.tm_tree.specs.declared.node.Child.{Child}
use Rattle.tm_tree.specs.declared.node.LeafRow.{LeafRow}
use Rattle.tm_tree.specs.declared.node.LeafRow.TheVariants as leaf
use Rattle.tm_tree.specs.declared.node.NodeBody.{NodeBody}
use Rattle.tm_tree.specs.declared.node.NodeBody.TheVariants as node
use Rattle.tm_tree.specs.declared.node.NodeRow.{NodeRow}
use Rattle.tm_tree.specs.declared.record.ItemBody.{ItemBody}
use Rattle.tm_tree.specs.declared.record.ItemBody.TheVariants as item
use Rattle.tm_tree.specs.declared.record.ItemRow.{ItemRow}
use Rattle.tm_tree.specs.declared.rows.Row.{Row}
use Rattle.tm_tree.specs.Extras.{Values}
use Rattle.tm_nodes.specs.declared.kind.Kind.{Kind}
use Rattle.tm_nodes.specs.declared.kind.Kind.TheVariants as kind
use Rattle.tm_nodes.specs.declared.volume.VolumeHead.{VolumeHead}
use Rattle.tm_nodes.specs.declared.snapshot.SnapshotRow.{SnapshotRow}
use Rattle.tm_nodes.specs.Readers.{Reader, ◌>>=◌, done, only_if, many}

-- ---- fields

-- the first byte
unfoldable pub next_byte : Reader ℕ
next_byte [] = None
next_byte (b ∷ rest) = if nat_lt b 256 then Some (b, rest) else None

-- a number of so many bytes, the highest of them first
unfoldable pub number_at : ℕ → Reader ℕ
number_at zero = done 0
number_at (suc k) = do
  high ← next_byte
  low ← number_at k
  done (high * 256 ^ k + low)

-- numbers by their bits
unfoldable pub u8_at : Reader ℕ
u8_at = number_at 1

unfoldable pub u16_at : Reader ℕ
u16_at = number_at 2

unfoldable pub u32_at : Reader ℕ
u32_at = number_at 4

unfoldable pub u64_at : Reader ℕ
u64_at = number_at 8

unfoldable pub u128_at : Reader ℕ
u128_at = number_at 16

-- so many bytes
unfoldable pub bytes_at : ℕ → Reader (List ℕ)
bytes_at n bytes = if nat_le n (length bytes) then Some (take n bytes, drop n bytes) else None

-- bytes after one byte with their number
unfoldable pub short_at : Reader (List ℕ)
short_at = do
  n ← u8_at
  bytes_at n

-- bytes after two bytes with their number
unfoldable pub long_at : Reader (List ℕ)
long_at = do
  n ← u16_at
  bytes_at n

-- ---- names and targets

-- `IsName` as a test
unfoldable pub is_name : List ℕ → Bool
is_name bytes =
    nat_le 1 (length bytes) && nat_le (length bytes) max_name_bytes && is_utf8 bytes && list_all (λ b. not (b == 47) && not (b == 0)) bytes
    && not (bytes_eq bytes (codes ".")) && not (bytes_eq bytes (codes ".."))

-- a name after its length
unfoldable pub name_at : Reader (List ℕ)
name_at = do
  name ← short_at
  only_if (is_name name) name

-- `IsTarget` as a test
unfoldable pub is_target : List ℕ → Bool
is_target bytes = nat_le 1 (length bytes) && nat_le (length bytes) max_target_bytes && is_utf8 bytes && list_all (λ b. not (b == 0)) bytes

-- a target after its length
unfoldable pub target_at : Reader (List ℕ)
target_at = do
  target ← long_at
  only_if (is_target target) target

-- a date
unfoldable pub moment_at : Reader ℕ
moment_at = do
  seconds ← u64_at
  only_if (nat_le seconds last_moment) seconds

-- ---- attributes

-- the last of a list
abbrev pub last_of : {A : Type 0} → List A → Option A
last_of xs = slice_get xs (length xs - 1)

-- above the one before it, where there is one
abbrev pub is_after : {A : Type 0} → (A → A → Ordering) → Option A → A → Bool
is_after cmp None a = true
is_after cmp (Some before) a = is_lt (cmp before a)

-- an extra attribute
unfoldable pub extra_at : Reader (List ℕ × List ℕ)
extra_at = do
  name ← name_at
  value ← long_at
  only_if (nat_le (length value) max_value_bytes) (name, value)

-- one whose name is above that of the one before it
unfoldable pub next_extra_at : Option (List ℕ × List ℕ) → Reader (List ℕ × List ℕ)
next_extra_at before = do
  extra ← extra_at
  only_if (is_after name_cmp (option_map (λ x. x.0) before) extra.0) extra

-- extra attributes after their number
unfoldable pub extras_at : Reader Values
extras_at = do
  n ← u8_at
  count ← only_if (nat_le n max_extras) n
  many next_extra_at count None

-- attributes
unfoldable pub attrs_at : Reader Attrs
attrs_at = do
  mode ← u16_at
  uid ← u32_at
  gid ← u32_at
  modified ← moment_at
  extra ← extras_at
  only_if (nat_le mode 4095) (record { mode = mode; uid = uid; gid = gid; modified = modified; extra = extra })

-- ---- items and nodes

-- the kind of a byte
abbrev pub kind_of : ℕ → Option Kind
kind_of n = if n == 1 then Some kind.Folder else if n == 2 then Some kind.File else if n == 3 then Some kind.Link else None

-- only where there is a value
abbrev pub or_none : {A : Type 0} → Option A → Reader A
or_none None bytes = None
or_none (Some a) bytes = Some (a, bytes)

-- a kind
unfoldable pub kind_at : Reader Kind
kind_at = do
  n ← u8_at
  or_none (kind_of n)

-- what follows the attributes of a file, whose data have so many bytes
unfoldable pub file_at : ℕ → Attrs → Reader LeafRow
file_at size attrs = do
  stamp ← u64_at
  done (leaf.File attrs stamp size)

-- what follows the attributes of a link
unfoldable pub link_at : Attrs → Reader LeafRow
link_at attrs = do
  stamp ← u64_at
  target ← target_at
  done (leaf.Link attrs stamp target)

-- a name, or none where it is empty
unfoldable pub item_name_at : Reader (Option (List ℕ))
item_name_at = do
  name ← short_at
  only_if (length name == 0 || is_name name) (if length name == 0 then None else Some name)

-- what follows the attributes of an item
unfoldable pub item_body_at : ℕ → Attrs → Kind → Reader ItemBody
item_body_at size attrs kind.Folder = done (item.Folder attrs)
item_body_at size attrs kind.File = file_at size attrs >>= λ leaf. done (item.Leaf leaf)
item_body_at size attrs kind.Link = link_at attrs >>= λ leaf. done (item.Leaf leaf)

-- an item, whose data have so many bytes
unfoldable pub item_at : ℕ → Reader ItemRow
item_at size = do
  what ← kind_at
  parent ← u32_at
  name ← item_name_at
  attrs ← attrs_at
  body ← item_body_at size attrs what
  done (record { parent = parent; name = name; body = body })

-- an entry
unfoldable pub child_at : Reader Child
child_at = do
  name ← name_at
  number ← u64_at
  done (record { name = name; node = number })

-- one whose name is above that of the one before it
unfoldable pub next_child_at : Option Child → Reader Child
next_child_at before = do
  child ← child_at
  only_if (is_after name_cmp (option_map (λ x. x.name) before) child.name) child

-- entries after their number
unfoldable pub entries_at : Reader (List Child)
entries_at = do
  count ← u32_at
  many next_child_at count None

-- what follows the attributes of a node
unfoldable pub node_body_at : ℕ → Attrs → Kind → Reader NodeBody
node_body_at size attrs kind.Folder = entries_at >>= λ entries. done (node.Folder attrs entries)
node_body_at size attrs kind.File = file_at size attrs >>= λ leaf. done (node.Leaf leaf)
node_body_at size attrs kind.Link = link_at attrs >>= λ leaf. done (node.Leaf leaf)

-- a node, whose data have so many bytes
unfoldable pub node_at : ℕ → Reader NodeRow
node_at size = do
  what ← kind_at
  label ← u64_at
  links ← u64_at
  attrs ← attrs_at
  body ← node_body_at size attrs what
  done (record { label = label; links = links; body = body })

-- ---- paths and rows

-- a path after the number of its names
unfoldable pub path_at : Reader Names
path_at = do
  n ← u8_at
  count ← only_if (nat_le n max_names) n
  many (λ before. name_at) count None

-- one above the one before it, and never the root
unfoldable pub next_path_at : Option Names → Reader Names
next_path_at before = do
  path ← path_at
  only_if (is_lt (path_cmp (unwrap_or before []) path)) path

-- `AreFlags` as a test
unfoldable pub are_flags : ℕ → Bool
are_flags flags = flags == 0 || (flags == 1 || (flags == 3 || flags == 5))

-- a journal row
unfoldable pub row_at : Reader Row
row_at = do
  id ← u64_at
  flags ← u8_at
  path ← path_at
  only_if (are_flags flags) (record { id = id; path = path; flags = flags })

-- one whose id is above that of the one before it
unfoldable pub next_row_at : Option Row → Reader Row
next_row_at before = do
  row ← row_at
  only_if (is_after nat_cmp (option_map (λ x. x.id) before) row.id) row

-- ---- heads

-- the head of a volume
unfoldable pub volume_at : Reader VolumeHead
volume_at = do
  id ← u128_at
  capacity ← u32_at
  name ← name_at
  done (record { id = id; capacity = capacity; name = name })

-- a snapshot
unfoldable pub snapshot_at : Reader SnapshotRow
snapshot_at = do
  date ← moment_at
  id ← u128_at
  generation ← u64_at
  cursor ← u64_at
  volume ← name_at
  root ← u64_at
  done (record { date = date; id = id; mark = record { generation = generation; cursor = cursor }; volume = volume; root = root })
