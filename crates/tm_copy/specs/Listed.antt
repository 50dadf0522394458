-- What a listing tells of the tree.
use Rattle.std.specs.Prelude.{◌≡◌, ℕ, true, Some, List, [], ◌∷◌, ◌++◌, length}
use Rattle.std.specs.List.{All}
use Rattle.tm_base.specs.Paths.{Names}
use Rattle.tm_tree.specs.declared.item.Item.TheVariants.{Folder, File, Link}
use Rattle.tm_tree.specs.declared.listing.ListKind.{ListKind}
use Rattle.tm_tree.specs.declared.listing.ListKind.TheVariants as kind
use Rattle.tm_tree.specs.declared.listing.Listing.{Listing}
use Rattle.tm_tree.specs.Listings.{listing, list_rows}
use Rattle.tm_tree.specs.Trees.{Tree, item_at, folder_at, IsTree}

-- what stands at a path is listed as this kind
abbrev pub StandsAs : Tree → Names → ListKind → Type 0
StandsAs t p kind.Folder = folder_at t p ≡ true
StandsAs t p (kind.File attrs stamp size) = (bytes : List ℕ) × (item_at t p ≡ Some (File attrs stamp bytes)) × (length bytes ≡ size)
StandsAs t p (kind.Link attrs stamp target) = item_at t p ≡ Some (Link attrs stamp target)

-- an item stands under the name of each row, and is of its kind
abbrev pub RowsStandIn : Type 0
RowsStandIn = (t : Tree) (p : Names) → IsTree t → All (λ row. StandsAs t (p ++ row.name ∷ []) row.kind) (list_rows t p)

-- a listing has the folder's attributes and rows
abbrev pub ListsFolder : Type 0
ListsFolder = (t : Tree) (p : Names) (l : Listing) → listing t p ≡ Some l → (item_at t p ≡ Some (Folder l.attrs)) × (l.rows ≡ list_rows t p)
