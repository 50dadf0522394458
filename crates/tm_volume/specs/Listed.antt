-- What a folder's listing says of its entries in the index.
use Rattle.std.specs.Prelude.{◌≡◌, ℕ, Option, Some, None, List, [], ◌∷◌, ◌++◌}
use Rattle.tm_items.specs.Computed.{path_to}
use Rattle.tm_items.specs.Index.{Numbers}
use Rattle.tm_items.specs.Listing.{AreEntries}
use Rattle.tm_items.specs.Placings.{Placed, Items}
use Rattle.tm_records.specs.Records.{Records}
use Rattle.tm_tree.specs.Listings.{listed}
use Rattle.tm_tree.specs.Trees.{Tree, put}
use Rattle.tm_tree.specs.declared.listing.ListKind.{ListKind}
use Rattle.tm_tree.specs.declared.listing.ListKind.TheVariants as kind
use Rattle.tm_tree.specs.declared.listing.ListRow.{ListRow}
use Rattle.tm_tree.specs.declared.node.LeafRow.TheVariants as leaf
use Rattle.tm_tree.specs.declared.record.ItemBody.{ItemBody}
use Rattle.tm_tree.specs.declared.record.ItemBody.TheVariants as body
use Rattle.tm_volume_records.specs.Records.{items_in, IsThere}
use Rattle.tm_base.specs.Limits.{max_names}

-- what a listing says of an item, by its record
abbrev pub listed_body : ItemBody → ListKind
listed_body (body.Folder attrs) = kind.Folder
listed_body (body.Leaf (leaf.File attrs stamp length)) = kind.File attrs stamp length
listed_body (body.Leaf (leaf.Link attrs stamp target)) = kind.Link attrs stamp target

-- items stand under the numbers of all entries, whatever the bytes
abbrev pub AreThere : Records → List (List ℕ × ℕ) → Type 0
AreThere records [] = Unit {0}
AreThere records (e ∷ es) = IsThere records e.1 × AreThere records es

abbrev pub listed_row : List ℕ → Option Placed → List ListRow
listed_row name None = []
listed_row name (Some x) = record { name = name; kind = listed x.item } ∷ []

-- the rows of these entries
abbrev pub listed_rows : Items → List (List ℕ × ℕ) → List ListRow
listed_rows items [] = []
listed_rows items (e ∷ es) = listed_row e.0 (items e.1) ++ listed_rows items es

-- these are the rows of the entries of a folder
pub record HasListed (records : Records) (numbers : Numbers) (k : ℕ) (rows : List ListRow) : Type 0 where
  pub entries : List (List ℕ × ℕ)
  pub are_entries : AreEntries numbers k entries
  pub are : (bytes : ℕ → List ℕ) → rows ≡ listed_rows (items_in records bytes) entries

-- the item under a number is put at its path, if one stands there
pub record AddsItem (items : Items) (n : ℕ) (old new : Tree) : Type 0 where
  pub there : (x : Placed) → items n ≡ Some x → new ≡ put old (path_to max_names items n) x.item
  pub nowhere : items n ≡ None → new ≡ old
