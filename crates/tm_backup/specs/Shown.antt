-- The listings of the view.
use Rattle.std.specs.Prelude.{◌≡◌, ℕ, Bool, not, is_some, ◌||◌, Some, List, map, filter}
use Rattle.tm_base.specs.Paths.{Names}
use Rattle.tm_tree.specs.declared.item.Item.{Item}
use Rattle.tm_tree.specs.declared.listing.ListKind.{ListKind}
use Rattle.tm_tree.specs.declared.listing.ListRow.{ListRow}
use Rattle.tm_tree.specs.declared.listing.Listing.{Listing}
use Rattle.tm_tree.specs.declared.node.LeafRow.TheVariants as leaf
use Rattle.tm_tree.specs.declared.record.ItemBody.{ItemBody}
use Rattle.tm_tree.specs.declared.record.ItemBody.TheVariants as body
use Rattle.tm_tree.specs.Contents.{is_fixed}
use Rattle.tm_tree.specs.Extras.{Values, value_of}
use Rattle.tm_tree.specs.Items.{exclusion, is_excluded}
use Rattle.tm_tree.specs.Listings.{listed}
use Rattle.tm_tree.specs.Trees.{Tree, item_at, children, last_of}
use Rattle.tm_volume.specs.Seen.{Seen, tree_on}
use Rattle.tm_backup.specs.declared.view.Folder.{Folder}

-- an item that stands at p, other than the root, is left out
abbrev pub is_out : List Names → Names → Item → Bool
is_out fixed p e = is_excluded e || is_fixed fixed p

-- what stands at p is listed as this kind, whatever the bytes of files
abbrev pub IsListed : Seen → Names → ListKind → Type 0
IsListed v p kind = (bytes : ℕ → List ℕ) → (e : Item) × (item_at (tree_on v bytes) p ≡ Some e) × (listed e ≡ kind)

-- what a folder of the view is, as a listing
abbrev pub listing_of : Folder → Listing
listing_of f = record { attrs = f.attrs; rows = f.rows.items }

-- the rows of the folder at p that are not left out
abbrev pub shown_rows : List Names → Tree → Names → List ListRow
shown_rows fixed t p = map (λ row. record { name = last_of row.0; kind = listed row.1 }) (filter (λ row. not (is_out fixed row.0 row.1)) (children t p))

abbrev pub has_exclusion : Values → Bool
has_exclusion extra = is_some (value_of exclusion extra)

-- whether an item with this record carries the exclusion attribute
abbrev pub body_excluded : ItemBody → Bool
body_excluded (body.Folder attrs) = has_exclusion attrs.extra
body_excluded (body.Leaf (leaf.File attrs stamp size)) = has_exclusion attrs.extra
body_excluded (body.Leaf (leaf.Link attrs stamp target)) = has_exclusion attrs.extra
