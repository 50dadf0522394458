-- Local listings: what one folder holds, without what is beneath.
use Rattle.std.specs.Prelude.{ℕ, Option, Some, None, List, map, length}
use Rattle.tm_base.specs.Paths.{Names}
use Rattle.tm_tree.specs.declared.item.Item.{Item}
use Rattle.tm_tree.specs.declared.item.Item.TheVariants.{Folder, File, Link}
use Rattle.tm_tree.specs.declared.listing.ListKind.{ListKind}
use Rattle.tm_tree.specs.declared.listing.ListKind.TheVariants as kind
use Rattle.tm_tree.specs.declared.listing.ListRow.{ListRow}
use Rattle.tm_tree.specs.declared.listing.Listing.{Listing}
use Rattle.tm_tree.specs.Trees.{Tree, item_at, children, last_of}

-- a file by its length, a link whole, and of a folder that it is one
abbrev pub listed : Item → ListKind
listed (Folder a) = kind.Folder
listed (File a s b) = kind.File a s (length b)
listed (Link a s t) = kind.Link a s t

abbrev pub list_rows : Tree → Names → List ListRow
list_rows t p = map (λ row. record { name = last_of row.0; kind = listed row.1 }) (children t p)

abbrev pub listing_of : Option Item → List ListRow → Option Listing
listing_of None rows = None
listing_of (Some (Folder a)) rows = Some (record { attrs = a; rows = rows })
listing_of (Some (File a s b)) rows = None
listing_of (Some (Link a s t)) rows = None

-- none where no folder stands at p; else its attributes and what it holds, by rising name
abbrev pub listing : Tree → Names → Option Listing
listing t p = listing_of (item_at t p) (list_rows t p)

-- the entries of the folder at p with their names, by rising name
abbrev pub entries_of : Tree → Names → List (List ℕ × Item)
entries_of t p = map (λ row. (last_of row.0, row.1)) (children t p)
