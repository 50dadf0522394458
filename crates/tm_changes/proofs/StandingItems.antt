-- An item that stands in a folder.
use Rattle.std.proofs.Common.{◌≡◌, ℕ, refl, ◌≤◌, ◌==◌, false, List, [], sym, ap, ◌∙◌, subst, Option, Some, IsSome}
use Rattle.std.specs.Option.{option_map}
use Rattle.tm_base.specs.Paths.{Names, is_root, parent_of}
use Rattle.tm_image.specs.Reads.{entry_of}
use Rattle.tm_items.specs.Finding.{FoundAt}
use Rattle.tm_items.specs.Index.{Numbers}
use Rattle.tm_items.specs.Placings.{Placed, Walks}
use Rattle.tm_items.proofs.Reading.{last_step}
use Rattle.tm_items.proofs.Finding.{from_root}
use Rattle.tm_items.proofs.Parents.{not_one}
use Rattle.tm_tree.specs.declared.record.ItemRow.{ItemRow}
use Rattle.tm_changes.specs.Placing.{IsRowAt}
use Rattle.tm_volume_records.specs.Records.{items_in, placed_with, IsThere}
use Rattle.tm_volume.specs.Room.{placed_row}
use Rattle.tm_volume.specs.Seen.{Seen, items_on, tree_on}
use Rattle.tm_volume.proofs.Rows.{number_low}
use Rattle.tm_volume.proofs.Finding.{OnShelf, are_on}
use Rattle.tm_changes.proofs.ItemRecords.{row_item}
use Rattle.tm_changes.proofs.Destinations.{row_stands}
use Rattle.tm_base.specs.Limits.{max_items}

same_placed : {a b : Placed} → Some a ≡ Some b → a ≡ b
same_placed h = cc

-- what the records say of a row
abbrev pub Tells : Seen → ℕ → ItemRow → Type 0
Tells m n row = (bytes : ℕ → List ℕ) → option_map placed_row (items_in m.image.records bytes n) ≡ Some row

module _ (m : Seen) (n0 : Numbers) (on : OnShelf m n0) (p : Names) (n : ℕ) (found : (bytes : ℕ → List ℕ) → FoundAt (items_on m bytes) (tree_on m bytes) p n) where
  pub there : (bytes : ℕ → List ℕ) → IsSome (items_on m bytes n)
  there bytes = subst (λ (o : Option Placed). IsSome o) (sym (found bytes).is) refl

  pub range : (1 ≤ n) × (n ≤ max_items)
  range = number_low m.image.records n there

  module _ (below : is_root p ≡ false) (old : ItemRow) (old_at : IsRowAt m.image.records n old) where
    pub placed : (bytes : ℕ → List ℕ) → items_on m bytes n ≡ Some (placed_with (entry_of bytes old_at.rec).bytes old)
    placed bytes = row_item m.image.records n old old_at bytes on.rising range.0 range.1

    pub not_root : (n == 1) ≡ false
    not_root = not_one (items_on m (λ _. [])) n p below (found (λ _. [])).walks

    pub folder_walks : (bytes : ℕ → List ℕ) → Walks (items_on m bytes) 1 (parent_of p) old.parent
    folder_walks bytes =
        let l = last_step (items_on m bytes) 1 n p below (found bytes).walks in
        let same : l.child.placed ≡ placed_with (entry_of bytes old_at.rec).bytes old = same_placed (sym l.child.is ∙ placed bytes) in
        let at_k : l.folder ≡ old.parent = sym l.child.parent ∙ ap (λ (x : Placed). x.parent) same in
        subst (λ (j : ℕ). Walks (items_on m bytes) 1 (parent_of p) j) at_k l.walks

    pub folder_there : (bytes : ℕ → List ℕ) → IsSome (items_on m bytes old.parent)
    folder_there bytes =
        let y = from_root (items_on m bytes) (are_on m n0 on bytes).sound old.parent (parent_of p) (folder_walks bytes) in
        subst (λ (o : Option Placed). IsSome o) (sym y.1) refl

    pub folder_range : (1 ≤ old.parent) × (old.parent ≤ max_items)
    folder_range = number_low m.image.records old.parent folder_there

  -- the row that is read under its number, and its folder
  module _ (old : ItemRow) (told : Tells m n old) where
    pub row_here : IsRowAt m.image.records n old
    row_here = row_stands m.image.records on.rising n there old told

    pub folder_here : is_root p ≡ false → IsThere m.image.records old.parent
    folder_here below = folder_there below old row_here
