-- The edit that moves an item.
use Rattle.std.specs.Prelude.{◌≡◌, ◌≤◌, ◌+◌, ◌||◌, ℕ, Bool, true, false, not, is_some, Some, None, Result, Ok, Err, List, [], ◌∷◌, ◌++◌, length}
use Rattle.tm_base.specs.IsName.{IsName}
use Rattle.tm_base.specs.Paths.{Names, is_root, is_prefix}
use Rattle.tm_base.specs.declared.refused.Refused.{Refused}
use Rattle.tm_base.specs.declared.refused.Refused.TheVariants.{NotFound, Exists, NotFolder, IntoSelf}
use Rattle.tm_items.specs.Finding.{FoundAt}
use Rattle.tm_nodes.specs.Items.{item_text}
use Rattle.tm_records.specs.declared.record.Body.TheVariants.{Kept}
use Rattle.tm_tree.specs.declared.record.ItemRow.{ItemRow}
use Rattle.tm_tree.specs.Refusing.{Tests}
use Rattle.tm_tree.specs.Trees.{item_at, last_of}
use Rattle.tm_volume.specs.declared.edit.Edit.{Edit}
use Rattle.tm_changes.specs.Placing.{IsRowAt, dated_row}
use Rattle.tm_volume_records.specs.Records.{journal_key, item_key}
use Rattle.tm_volume.specs.Seen.{Seen, items_on, tree_on}
use Rattle.tm_changes.specs.declared.destination.Destination.{Destination}
use Rattle.tm_changes.specs.Destinations.{LeadsInto, goes_nowhere, goes_into_folder}
use Rattle.tm_base.specs.Limits.{max_names}

-- a row in another place
abbrev pub moved_row : ItemRow → ℕ → List ℕ → ItemRow
moved_row row k called = record { parent = k; name = Some called; body = row.body }

-- n stands at a, the walk to the folder of b comes to the folder k, nothing stands at b, which isn't at or beneath a, and
-- nothing would stand under too many names
pub record IsMovable (m : Seen) (a b : Names) (n k : ℕ) : Type 0 where
  pub found : (bytes : ℕ → List ℕ) → FoundAt (items_on m bytes) (tree_on m bytes) a n
  pub below : is_root a ≡ false
  pub into : (bytes : ℕ → List ℕ) → LeadsInto (items_on m bytes) (tree_on m bytes) b k
  pub below_to : is_root b ≡ false
  pub none : (bytes : ℕ → List ℕ) → item_at (tree_on m bytes) b ≡ None
  pub apart : is_prefix a b ≡ false
  pub short : (bytes : ℕ → List ℕ) (rest : Names) → is_some (item_at (tree_on m bytes) (a ++ rest)) ≡ true → length b + length rest ≤ max_names

-- n leaves its folder for the folder k; both are dated, and may be the same; the journal is no longer kept
pub record Shifts (m : Seen) (a b : Names) (n k moment : ℕ) (e : Edit) : Type 0 where
  pub old : ItemRow
  pub old_at : IsRowAt m.image.records n old
  pub from : ItemRow
  pub from_at : IsRowAt m.image.records old.parent from
  pub into : ItemRow
  pub into_at : IsRowAt m.image.records k into
  pub called : IsName (last_of b)
  pub remove : e.remove.items ≡ journal_key ∷ []
  pub put : e.put.items ≡ record { key = item_key n; meta = item_text (moved_row old k (last_of b)); body = Kept } ∷ record { key = item_key old.parent; meta = item_text (dated_row from moment); body = Kept }
      ∷ record { key = item_key k; meta = item_text (dated_row into moment); body = Kept } ∷ []
  pub enter : e.enter ≡ Some (record { parent = k; name = last_of b; number = n })
  pub leave : e.leave ≡ Some (record { parent = old.parent; name = last_of a })
  pub fixed : e.fixed ≡ None

-- ---- the tests of a move

-- the walk to what is moved, by its number or why it stops
abbrev pub starts_nowhere : Result ℕ Refused → Bool
starts_nowhere (Ok n) = false
starts_nowhere (Err NotFound) = true
starts_nowhere (Err _) = false

abbrev pub starts_blocked : Result ℕ Refused → Bool
starts_blocked (Ok n) = false
starts_blocked (Err NotFound) = false
starts_blocked (Err _) = true

-- by where the walks end, whether something stands there, and whether that is at or beneath what is moved
abbrev pub move_tests : Result ℕ Refused → Destination → Bool → Bool → Tests
move_tests start into there inside =
    (starts_nowhere start || goes_nowhere into, NotFound) ∷ (there, Exists) ∷ (starts_blocked start || not (goes_into_folder into), NotFolder) ∷ (inside, IntoSelf) ∷ []
