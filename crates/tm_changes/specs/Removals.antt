-- The edit that removes an item.
use Rattle.std.specs.Prelude.{◌≡◌, ◌==◌, ℕ, Bool, false, Some, None, List, [], ◌∷◌, length}
use Rattle.tm_base.specs.Paths.{Names, is_root}
use Rattle.tm_items.specs.Finding.{FoundAt}
use Rattle.tm_items.specs.Index.{Numbers}
use Rattle.tm_items.specs.Listing.{AreEntries}
use Rattle.tm_items.specs.Placings.{Placed}
use Rattle.tm_nodes.specs.Items.{item_text}
use Rattle.tm_records.specs.declared.record.Body.TheVariants.{Kept}
use Rattle.tm_tree.specs.declared.change.Change.{Change}
use Rattle.tm_tree.specs.declared.change.Change.TheVariants as change
use Rattle.tm_tree.specs.declared.record.ItemRow.{ItemRow}
use Rattle.tm_tree.specs.Trees.{last_of}
use Rattle.tm_volume.specs.declared.edit.Edit.{Edit}
use Rattle.tm_changes.specs.Placing.{IsRowAt, dated_row}
use Rattle.tm_volume_records.specs.Records.{journal_key, item_key}
use Rattle.tm_volume.specs.Seen.{Seen, items_on, tree_on}

-- this change removes what stands at p
abbrev pub IsRemoval : Change → Names → Type 0
IsRemoval (change.Rm q) p = q ≡ p
IsRemoval (change.Rmdir q) p = q ≡ p
IsRemoval _ p = ⊥

-- n stands at p, which isn't the root, and nothing stands in it
pub record IsLoose (m : Seen) (p : Names) (n : ℕ) : Type 0 where
  pub found : (bytes : ℕ → List ℕ) → FoundAt (items_on m bytes) (tree_on m bytes) p n
  pub below : is_root p ≡ false
  pub empty : (bytes : ℕ → List ℕ) (k : ℕ) (x : Placed) → items_on m bytes k ≡ Some x → (k == 1) ≡ false → (x.parent == n) ≡ false

-- n leaves its folder, which is dated; the journal is no longer kept
pub record Removes (m : Seen) (p : Names) (n moment : ℕ) (e : Edit) : Type 0 where
  pub old : ItemRow
  pub old_at : IsRowAt m.image.records n old
  pub folder : ItemRow
  pub folder_at : IsRowAt m.image.records old.parent folder
  pub remove : e.remove.items ≡ journal_key ∷ item_key n ∷ []
  pub put : e.put.items ≡ record { key = item_key old.parent; meta = item_text (dated_row folder moment); body = Kept } ∷ []
  pub enter : e.enter ≡ None
  pub leave : e.leave ≡ Some (record { parent = old.parent; name = last_of p })
  pub fixed : e.fixed ≡ None

-- a folder has no entries
pub record IsBare (numbers : Numbers) (k : ℕ) (bare : Bool) : Type 0 where
  pub entries : List (List ℕ × ℕ)
  pub are : AreEntries numbers k entries
  pub is : bare ≡ (length entries == 0)
