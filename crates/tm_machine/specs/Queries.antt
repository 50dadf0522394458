-- The data lines of the lines that read.
use Rattle.std.specs.Prelude.{ℕ, if◌then◌else◌, Option, Some, None, List, [], ◌∷◌, ◌++◌, length, map, count_by, ◌-◌, slice_get}
use Rattle.std.specs.List.{filter_map}
use Rattle.std.specs.Option.{option_map, option_map_or}
use Rattle.tm_base.specs.Paths.{Names}
use Rattle.tm_reply.specs.declared.row.Attributes.{Attributes}
use Rattle.tm_reply.specs.declared.row.Kind.{Kind}
use Rattle.tm_reply.specs.declared.row.Kind.TheVariants as kind
use Rattle.tm_reply.specs.declared.row.ListedName.{ListedName}
use Rattle.tm_reply.specs.declared.row.ListedName.TheVariants as called
use Rattle.tm_reply.specs.declared.row.ReplyRow.{ReplyRow}
use Rattle.tm_reply.specs.declared.row.ReplyRow.TheVariants as row
use Rattle.tm_text.specs.declared.place.Which.{Which}
use Rattle.tm_text.specs.declared.place.Which.TheVariants as which
use Rattle.tm_text.specs.declared.place.StorePath.{StorePath}
use Rattle.tm_text.specs.declared.place.StorePath.TheVariants as place
use Rattle.tm_text.specs.declared.place.SnapshotAt.{SnapshotAt}
use Rattle.tm_text.specs.declared.place.ItemAt.{ItemAt}
use Rattle.tm_tree.specs.declared.attrs.Attrs.{Attrs}
use Rattle.tm_tree.specs.declared.item.Item.{Item}
use Rattle.tm_tree.specs.declared.item.Item.TheVariants.{Folder, File, Link}
use Rattle.tm_tree.specs.declared.item.Labelled.{Labelled}
use Rattle.tm_tree.specs.declared.node.LeafRow.{LeafRow}
use Rattle.tm_tree.specs.declared.node.LeafRow.TheVariants as leaf
use Rattle.tm_graph.specs.Nodes.{Nodes, node, entries_of as entries_in}
use Rattle.tm_identity.specs.Identities.{links}
use Rattle.tm_identity.specs.Sums.{stored_bytes}
use Rattle.tm_store_records.specs.declared.snapshot.Snapshot.{Snapshot as HeldSnapshot}
use Rattle.tm_store.specs.declared.finding.Kind.{Kind as NodeKind}
use Rattle.tm_store.specs.declared.finding.Kind.TheVariants as node_kind
use Rattle.tm_store_records.specs.Sizes.{free_blocks, node_count, trees_in}
use Rattle.tm_store_records.specs.States.{item_on}
use Rattle.tm_tree.specs.declared.node.Child.{Child}
use Rattle.tm_tree.specs.declared.node.NodeBody.{NodeBody}
use Rattle.tm_tree.specs.declared.node.NodeBody.TheVariants as node_body
use Rattle.tm_tree.specs.declared.node.NodeRow.{NodeRow}
use Rattle.tm_tree.specs.declared.record.ItemBody.{ItemBody}
use Rattle.tm_tree.specs.declared.record.ItemBody.TheVariants as body
use Rattle.tm_tree.specs.Copies.{LabelledTree, bare}
use Rattle.tm_tree.specs.Items.{attrs_of, is_folder}
use Rattle.tm_tree.specs.Listings.{entries_of}
use Rattle.tm_tree.specs.Lookups.{snapshot_at, snapshot_under}
use Rattle.tm_tree.specs.States.{VolumeState, StoreState, Snapshot, latest}
use Rattle.tm_tree.specs.Trees.{Tree, at, item_at}
use Rattle.tm_tree.specs.Views.{view}

-- ---- an item and what it holds

abbrev pub attributes : Attrs → Attributes
attributes a = record { mode = a.mode; uid = a.uid; gid = a.gid; modified = a.modified; extras = length a.extra }

-- the line of an item
abbrev pub item_row : Item → ListedName → ReplyRow
item_row (Folder a) name = row.Folder (attributes a) name
item_row (File a stamp bytes) name = row.File (attributes a) (length bytes) stamp name
item_row (Link a stamp target) name = row.Link (attributes a) stamp name target

-- the line of an item's record, a file by its length
abbrev pub body_row : ItemBody → ListedName → ReplyRow
body_row (body.Folder a) name = row.Folder (attributes a) name
body_row (body.Leaf (leaf.File a stamp size)) name = row.File (attributes a) size stamp name
body_row (body.Leaf (leaf.Link a stamp target)) name = row.Link (attributes a) stamp name target

-- the attributes of a record
abbrev pub body_attrs : ItemBody → Attrs
body_attrs (body.Folder a) = a
body_attrs (body.Leaf (leaf.File a stamp size)) = a
body_attrs (body.Leaf (leaf.Link a stamp target)) = a

abbrev pub extra_row : List ℕ × List ℕ → ReplyRow
extra_row extra = row.Extra extra.0 extra.1

-- the lines of its extras, by rising name
abbrev pub extra_rows : Attrs → List ReplyRow
extra_rows a = map extra_row a.extra

-- the line of an entry
abbrev pub named_row : List ℕ × Item → ReplyRow
named_row entry = item_row entry.1 (called.Entry entry.0)

-- an item with its extras, and, if it is a folder, its entries
abbrev pub shown_rows : Item → Names → List (List ℕ × Item) → List ReplyRow
shown_rows e p entries =
    item_row e (called.Path p) ∷ extra_rows (attrs_of e) ++ (if is_folder e then map named_row entries else [])

-- the lines of what stands at p
abbrev pub list_rows : Tree → Names → List ReplyRow
list_rows t p = option_map_or (λ e. shown_rows e p (entries_of t p)) (item_at t p) []

-- ---- nodes

abbrev pub node_attributes : NodeBody → Attrs
node_attributes (node_body.Folder a entries) = a
node_attributes (node_body.Leaf (leaf.File a stamp size)) = a
node_attributes (node_body.Leaf (leaf.Link a stamp target)) = a

-- the file or link that a node is; none of a folder
abbrev pub leaf_in : NodeBody → Option LeafRow
leaf_in (node_body.Folder a entries) = None
leaf_in (node_body.Leaf l) = Some l

-- the line of a node, a file by its length
abbrev pub node_line : NodeBody → ListedName → ReplyRow
node_line (node_body.Folder a entries) name = row.Folder (attributes a) name
node_line (node_body.Leaf (leaf.File a stamp size)) name = row.File (attributes a) size stamp name
node_line (node_body.Leaf (leaf.Link a stamp target)) name = row.Link (attributes a) stamp name target

abbrev pub child_line : Nodes → Child → Option ReplyRow
child_line g c = option_map (λ r. node_line r.body (called.Entry c.name)) (node g c.node)

-- the lines of entries
abbrev pub child_lines : Nodes → List Child → List ReplyRow
child_lines g children = filter_map (child_line g) children

-- an entry's name and item, files with these bytes
abbrev pub read_item : (ℕ → List ℕ) → Nodes → Child → Option (List ℕ × Item)
read_item files g c = option_map (λ r. (c.name, item_on (files c.node) r.body)) (node g c.node)

-- a node with its extras, and, if it is a folder, its entries
abbrev pub node_lines : Nodes → NodeRow → Names → List ReplyRow
node_lines g r p = node_line r.body (called.Path p) ∷ extra_rows (node_attributes r.body) ++ child_lines g (entries_in r)

-- ---- contents

abbrev pub content_row : Item → List ReplyRow
content_row (Folder a) = []
content_row (File a stamp bytes) = row.Contents bytes ∷ []
content_row (Link a stamp target) = row.Target target ∷ []

-- the contents of the file at p, or the target of the link
abbrev pub content_rows : Tree → Names → List ReplyRow
content_rows t p = option_map_or content_row (item_at t p) []

-- ---- the store

abbrev pub path_row : List ℕ → Snapshot → ReplyRow
path_row machine s = row.SnapshotPath machine s.date

abbrev pub snapshot_paths : StoreState → List ReplyRow
snapshot_paths store = map (path_row store.machine) store.snapshots

abbrev pub latest_path : StoreState → List ReplyRow
latest_path store = option_map_or (λ s. row.SnapshotPath store.machine s.date ∷ []) (latest store) []

abbrev pub date_row : Snapshot → ReplyRow
date_row s = row.Snapshot s.date

-- a machine's snapshots by rising date, and the latest
abbrev pub machine_rows : StoreState → List ReplyRow
machine_rows store =
    map date_row store.snapshots
    ++ option_map_or (λ s. row.Latest s.date ∷ []) (latest store) []

-- ---- the same, by the snapshots in memory

abbrev pub held_paths : List ℕ → List HeldSnapshot → List ReplyRow
held_paths machine snapshots = map (λ s. row.SnapshotPath machine s.date) snapshots

abbrev pub held_dates : List HeldSnapshot → List ReplyRow
held_dates snapshots = map (λ s. row.Snapshot s.date) snapshots

abbrev pub held_latest : Option HeldSnapshot → List ReplyRow
held_latest found = option_map_or (λ s. row.Latest s.date ∷ []) found []

abbrev pub held_machine : List HeldSnapshot → List ReplyRow
held_machine snapshots = held_dates snapshots ++ held_latest (slice_get snapshots (length snapshots - 1))

-- ---- what a store path names

-- the date of a snapshot that a store path names; none for the latest
abbrev pub date_of : Which → Option ℕ
date_of which.Latest = None
date_of (which.At date) = Some date

-- the snapshot that a store path names
abbrev pub named_snapshot : StoreState → SnapshotAt → Option Snapshot
named_snapshot store at = snapshot_at store at.machine (date_of at.at)

-- and under the name of its volume
abbrev pub holding_snapshot : StoreState → ItemAt → Option Snapshot
holding_snapshot store item = snapshot_under store item.snapshot.machine (date_of item.snapshot.at) item.volume

-- what is stored in a snapshot; nothing where there is none
abbrev pub stored_tree : Option Snapshot → Tree
stored_tree None = []
stored_tree (Some s) = bare s.tree

abbrev pub store_rows : StoreState → StorePath → List ReplyRow
store_rows store place.Top = row.Machine store.machine ∷ []
store_rows store (place.Machine machine) = machine_rows store
store_rows store (place.Snapshot at) = option_map_or (λ s. row.Volume s.volume s.id ∷ []) (named_snapshot store at) []
store_rows store (place.Item item) = list_rows (stored_tree (holding_snapshot store item)) item.path

-- ---- in numbers

abbrev pub kind_of : Item → Kind
kind_of (Folder a) = kind.Folder
kind_of (File a stamp bytes) = kind.File
kind_of (Link a stamp target) = kind.Link

-- a node's kind, as a reply names it
abbrev pub reply_kind : NodeKind → Kind
reply_kind node_kind.Folder = kind.Folder
reply_kind node_kind.File = kind.File
reply_kind node_kind.Link = kind.Link

-- what is stored in a snapshot, with its labels; nothing where there is none
abbrev pub labelled_tree : Option Snapshot → LabelledTree
labelled_tree None = []
labelled_tree (Some s) = s.tree

-- the line of an item that stands at p of one of these trees: its kind, its label and the links of its identity
abbrev pub stat_row : List LabelledTree → Names → Labelled → ReplyRow
stat_row trees p l = row.Stat (kind_of l.item) l.label (links trees l.label p)

abbrev pub stat_rows : StoreState → ItemAt → List ReplyRow
stat_rows store item = option_map_or (λ l. stat_row (trees_in store) item.path l ∷ []) (at (labelled_tree (holding_snapshot store item)) item.path) []

-- the line of a store on an image of so many blocks: its free blocks, its identities, their bytes and its snapshots
abbrev pub df_rows : ℕ → StoreState → List ReplyRow
df_rows blocks store = row.Df blocks (free_blocks blocks store) (node_count store) (stored_bytes (trees_in store)) (length store.snapshots) ∷ []

-- ---- a backup

-- the folders of the view, each of which a backup walks
abbrev pub walked : VolumeState → ℕ
walked v = count_by (λ entry. is_folder entry.1) (view v.contents.fixed v.contents.tree)
