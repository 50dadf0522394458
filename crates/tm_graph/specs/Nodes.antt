-- Counted nodes under numbers.
use Rattle.std.specs.Prelude.{◌≡◌, ℕ, ◌+◌, ◌-◌, ◌<◌, ◌≤◌, ◌^◌, Bool, true, false, ◌==◌, nat_le, Option, Some, None, is_some, List, [], map, length, slice_get, count_by, sum_by}
use Rattle.std.specs.Option.{option_map, unwrap_or}
use Rattle.std.specs.List.Sorted.{IsStrictlySortedBy}
use Rattle.std.specs.Ordering.{nat_cmp}
use Rattle.std.specs.Map.{lookup, keys_of, values_of, set_value}
use Rattle.std.specs.BTreeMap.{is_at, insert_entry}
use Rattle.tm_base.specs.Paths.{name_cmp}
use Rattle.tm_tree.specs.declared.node.Child.{Child}
use Rattle.tm_tree.specs.declared.node.LeafRow.{LeafRow}
use Rattle.tm_tree.specs.declared.node.LeafRow.TheVariants.{File, Link}
use Rattle.tm_tree.specs.declared.node.NodeBody.{NodeBody}
use Rattle.tm_tree.specs.declared.node.NodeBody.TheVariants.{Folder, Leaf}
use Rattle.tm_tree.specs.declared.node.NodeRow.{NodeRow}

-- nodes by rising number
abbrev pub Nodes : Type 0
Nodes = List (ℕ × NodeRow)

-- the node of a number
abbrev pub node : Nodes → ℕ → Option NodeRow
node g n = lookup (is_at (nat_cmp n)) g

abbrev pub body_entries : NodeBody → List Child
body_entries (Folder attrs entries) = entries
body_entries (Leaf leaf) = []

-- a folder's entries; a file or link has none
abbrev pub entries_of : NodeRow → List Child
entries_of row = body_entries row.body

abbrev pub is_folder_body : NodeBody → Bool
is_folder_body (Folder attrs entries) = true
is_folder_body (Leaf leaf) = false

abbrev pub is_folder : NodeRow → Bool
is_folder row = is_folder_body row.body

abbrev pub with_links : NodeRow → ℕ → NodeRow
with_links row links = record row { links = links }

abbrev pub refilled : NodeBody → List Child → NodeBody
refilled (Folder attrs held) entries = Folder attrs entries
refilled (Leaf leaf) entries = Leaf leaf

-- a folder with these entries in place of its own
abbrev pub with_entries : NodeRow → List Child → NodeRow
with_entries row entries = record row { body = refilled row.body entries }

-- ---- bytes

abbrev pub leaf_bytes : LeafRow → ℕ
leaf_bytes (File attrs stamp length) = length
leaf_bytes (Link attrs stamp target) = 0

abbrev pub body_bytes : NodeBody → ℕ
body_bytes (Folder attrs entries) = 0
body_bytes (Leaf leaf) = leaf_bytes leaf

-- the bytes of a file's node; none of a folder's or link's
abbrev pub bytes_of : NodeRow → ℕ
bytes_of row = body_bytes row.body

-- the bytes of all files, each counted once
abbrev pub stored_in : Nodes → ℕ
stored_in g = sum_by bytes_of (values_of g)

-- ---- links

-- how many of these entries name q
abbrev pub times : ℕ → List Child → ℕ
times q entries = count_by (λ child. child.node == q) entries

-- how many entries of a node name q
abbrev pub row_names : ℕ → NodeRow → ℕ
row_names q row = times q (entries_of row)

-- the same of a node that may be absent
abbrev pub names : ℕ → Option NodeRow → ℕ
names q o = unwrap_or (option_map (row_names q) o) 0

-- how many entries of all nodes name q
abbrev pub named : Nodes → ℕ → ℕ
named g q = sum_by (row_names q) (values_of g)

-- the links of q, 0 where it isn't there
abbrev pub links_of : Nodes → ℕ → ℕ
links_of g q = unwrap_or (option_map (λ row. row.links) (node g q)) 0

-- the links of q that no entry accounts for
abbrev pub root_links : Nodes → ℕ → ℕ
root_links g q = links_of g q - named g q

-- ---- the invariant

-- entries by rising name
abbrev pub NamesRise : List Child → Type 0
NamesRise entries = IsStrictlySortedBy name_cmp (map (λ child. child.name) entries)

-- names rise in each folder, and no node names itself or a higher one; links are left aside
pub record Descends (g : Nodes) : Type 0 where
  pub rises : (n : ℕ) (row : NodeRow) → node g n ≡ Some row → NamesRise (entries_of row)
  pub falls : (n q : ℕ) → n ≤ q → names q (node g n) ≡ 0

-- each node that an entry names is there, below the entry's folder, and has at least as many links as entries that name it
pub record IsGraph (g : Nodes) : Type 0 where
  pub in_order : IsStrictlySortedBy nat_cmp (keys_of g)
  pub rises : (n : ℕ) (row : NodeRow) → node g n ≡ Some row → NamesRise (entries_of row)
  pub falls : (n q : ℕ) → n ≤ q → names q (node g n) ≡ 0
  pub counted : (q : ℕ) → named g q ≤ links_of g q
  pub few : (q : ℕ) → links_of g q ≤ 2 ^ 62
  pub low : (q : ℕ) → is_some (node g q) ≡ true → q ≤ 2 ^ 62

-- no node is without links
abbrev pub IsLinked : Nodes → Type 0
IsLinked g = (q : ℕ) → is_some (node g q) ≡ true → 0 < links_of g q

-- ---- the numbers in use

abbrev pub key_of : Option (ℕ × NodeRow) → ℕ
key_of None = 0
key_of (Some row) = row.0

-- the greatest number, 0 where there is no node
abbrev pub greatest : Nodes → ℕ
greatest g = key_of (slice_get g (length g - 1))

-- ---- changes that add

abbrev pub more : ℕ → NodeRow → NodeRow
more count row = with_links row (row.links + count)

abbrev pub linked_at : Option NodeRow → Nodes → ℕ → Nodes
linked_at None g n = g
linked_at (Some row) g n = set_value (is_at (nat_cmp n)) g (more 1 row)

-- n has one link more
abbrev pub linked : Nodes → ℕ → Nodes
linked g n = linked_at (node g n) g n

-- each node has a link more for each of these entries that names it
abbrev pub gained : List Child → Nodes → Nodes
gained entries g = map (λ row. (row.0, more (times row.0 entries) row.1)) g

abbrev pub new_node : ℕ → NodeBody → NodeRow
new_node label body = record { label = label; links = 0; body = body }

-- one node more, above all others and with no links yet
abbrev pub added : Nodes → ℕ → NodeBody → Nodes
added g label body = insert_entry nat_cmp (gained (body_entries body) g) (greatest g + 1) (new_node label body)

-- a new folder may have these entries: names rise, and each entry's node is there and may have so many links more
pub record MayHold (g : Nodes) (entries : List Child) : Type 0 where
  pub rises : NamesRise entries
  pub there : (q : ℕ) → 0 < times q entries → is_some (node g q) ≡ true
  pub few : (q : ℕ) → 0 < times q entries → links_of g q + times q entries ≤ 2 ^ 62

-- whether a node is there and may have so many links more
abbrev pub has_room : ℕ → Option NodeRow → Bool
has_room count None = false
has_room count (Some row) = nat_le (row.links + count) (2 ^ 62)
