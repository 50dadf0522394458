-- Items: what stands at a path, without what is beneath it.
use Rattle.std.specs.Prelude.{ℕ, Bool, true, false, ◌&&◌, ◌==◌, nat_eq, List, [], Option, Some, None, is_some, codes}
use Rattle.std.specs.Cmp.Lexicographic.{pointwise}
use Rattle.tm_tree.specs.declared.attrs.Attrs.{Attrs}
use Rattle.tm_tree.specs.declared.item.Item.{Item}
use Rattle.tm_tree.specs.declared.item.Item.TheVariants.{Folder, File, Link}
use Rattle.tm_tree.specs.Extras.{Values, value_of}

abbrev pub attrs_of : Item → Attrs
attrs_of (Folder a) = a
attrs_of (File a s b) = a
attrs_of (Link a s t) = a

-- the item with other attributes
abbrev pub with_attrs : Attrs → Item → Item
with_attrs a (Folder b) = Folder a
with_attrs a (File b s x) = File a s x
with_attrs a (Link b s t) = Link a s t

abbrev pub is_folder : Item → Bool
is_folder (Folder a) = true
is_folder (File a s b) = false
is_folder (Link a s t) = false

abbrev pub is_file : Item → Bool
is_file (Folder a) = false
is_file (File a s b) = true
is_file (Link a s t) = false

abbrev pub is_link : Item → Bool
is_link (Folder a) = false
is_link (File a s b) = false
is_link (Link a s t) = true

-- the stamp of a file or link
abbrev pub stamp_of : Item → Option ℕ
stamp_of (Folder a) = None
stamp_of (File a s b) = Some s
stamp_of (Link a s t) = Some s

-- a file or link gets a new stamp, and a folder has none
abbrev pub stamped : ℕ → Item → Item
stamped stamp (Folder a) = Folder a
stamped stamp (File a s b) = File a stamp b
stamped stamp (Link a s t) = Link a stamp t

-- the contents of a file
abbrev pub bytes_of : Item → List ℕ
bytes_of (Folder a) = []
bytes_of (File a s b) = b
bytes_of (Link a s t) = []

-- the name of the attribute that excludes an item from backups
abbrev pub exclusion : List ℕ
exclusion = codes "com.apple.metadata:com_apple_backup_excludeItem"

-- whether it carries the exclusion attribute
abbrev pub is_excluded : Item → Bool
is_excluded e = is_some (value_of exclusion (attrs_of e).extra)

-- the attributes of new items: 755 for folders and links, 644 for files, user 501, group 20, no extras
abbrev pub new_attrs : ℕ → ℕ → Attrs
new_attrs mode moment = record { mode = mode; uid = 501; gid = 20; modified = moment; extra = [] }

abbrev pub new_folder : ℕ → Item
new_folder moment = Folder (new_attrs 493 moment)

abbrev pub new_file : ℕ → ℕ → List ℕ → Item
new_file moment stamp bytes = File (new_attrs 420 moment) stamp bytes

abbrev pub new_link : ℕ → ℕ → List ℕ → Item
new_link moment stamp target = Link (new_attrs 493 moment) stamp target

-- a folder gets this date, and a file or link stays
abbrev pub dated : Item → ℕ → Item
dated (Folder a) moment = Folder (record a { modified = moment })
dated (File a s b) moment = File a s b
dated (Link a s t) moment = Link a s t

abbrev pub same_extras : Values → Values → Bool
same_extras a b = pointwise (λ x y. pointwise nat_eq x.0 y.0 && pointwise nat_eq x.1 y.1) a b

abbrev pub same_attrs : Attrs → Attrs → Bool
same_attrs a b = (a.mode == b.mode) && (a.uid == b.uid) && (a.gid == b.gid) && (a.modified == b.modified) && same_extras a.extra b.extra

-- whether two items are the same, without what is beneath them
abbrev pub same_item : Item → Item → Bool
same_item (Folder a) (Folder b) = same_attrs a b
same_item (File a s x) (File b t y) = same_attrs a b && (s == t) && pointwise nat_eq x y
same_item (Link a s x) (Link b t y) = same_attrs a b && (s == t) && pointwise nat_eq x y
same_item _ _ = false
