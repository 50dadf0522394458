-- Items without data, made.
use Rattle.std.specs.Prelude.{◌≡◌, ℕ, ◌+◌, ◌^◌, ◌≤◌, false, Option, Some, None, Result, Ok, Err, List}
use Rattle.tm_base.specs.Paths.{Names, is_root}
use Rattle.tm_base.specs.declared.refused.LineFault.{LineFault}
use Rattle.tm_base.specs.declared.refused.LineFault.TheVariants.{Refused as RefusedFor, Fault, Memory}
use Rattle.tm_tree.specs.Changes.{tests}
use Rattle.tm_tree.specs.Items.{new_attrs}
use Rattle.tm_tree.specs.Refusing.{first_refused}
use Rattle.tm_tree.specs.Trees.{item_at, last_of}
use Rattle.tm_tree.specs.declared.change.Change.{Change}
use Rattle.tm_tree.specs.declared.change.Change.TheVariants.{Mkdir, Ln}
use Rattle.tm_tree.specs.declared.node.LeafRow.TheVariants as leaf
use Rattle.tm_tree.specs.declared.record.ItemBody.{ItemBody}
use Rattle.tm_tree.specs.declared.record.ItemBody.TheVariants as body
use Rattle.tm_changes.specs.declared.creation.NewItem.{NewItem}
use Rattle.tm_changes.specs.declared.creation.NewItem.TheVariants as new
use Rattle.tm_changes.specs.declared.creation.Creation.{Creation}
use Rattle.tm_changes.specs.Placing.{IsNewRow}
use Rattle.tm_volume_records.specs.Rules.{IsGoodVolume}
use Rattle.tm_volume.specs.Seen.{Seen, entries_on, items_on, tree_on, volume_on}
use Rattle.tm_changes.specs.Destinations.{LeadsInto}

-- the change that makes such an item at a path
abbrev pub making : Names → NewItem → Change
making p new.Folder = Mkdir p
making p (new.Link target) = Ln p target

-- what its record says of it, at this date and with this stamp
abbrev pub new_body : NewItem → ℕ → ℕ → ItemBody
new_body new.Folder date stamp = body.Folder (new_attrs 493 date)
new_body (new.Link target) date stamp = body.Leaf (leaf.Link (new_attrs 493 date) stamp target)

-- the plan of such an item, in the folder of this number; two numbers are drawn
abbrev pub creation_of : Names → NewItem → ℕ → ℕ → ℕ → Creation
creation_of p item folder date drawn = record {
  folder = folder;
  row = record { parent = folder; name = Some (last_of p); body = new_body item date drawn };
  date = date;
  next = drawn + 2;
}

-- a plan by which it can be made, but for the lack of room
pub record IsCreation (m : Seen) (p : Names) (item : NewItem) (moment : Option ℕ) (plan : Creation) : Type 0 where
  pub is : plan ≡ creation_of p item plan.folder plan.date m.tag.next
  pub dated : moment ≡ Some plan.date
  pub into : (bytes : ℕ → List ℕ) → LeadsInto (items_on m bytes) (tree_on m bytes) p plan.folder
  pub none : (bytes : ℕ → List ℕ) → item_at (tree_on m bytes) p ≡ None
  pub below : is_root p ≡ false
  pub row : IsNewRow plan.row plan.folder (last_of p) plan.next
  pub drawn : plan.next ≤ 2 ^ 62
  pub passes : (bytes : ℕ → List ℕ) → IsGoodVolume (entries_on m bytes) m.tag → first_refused (tests (volume_on m bytes).contents (making p item) moment) ≡ None

-- what planning answers: a plan, or why the item can't be made
abbrev pub FindsCreation : Seen → Names → NewItem → Option ℕ → Result Creation LineFault → Type 0
FindsCreation m p item moment (Ok plan) = IsCreation m p item moment plan
FindsCreation m p item moment (Err (RefusedFor why)) = (bytes : ℕ → List ℕ) → IsGoodVolume (entries_on m bytes) m.tag → first_refused (tests (volume_on m bytes).contents (making p item) moment) ≡ Some why
FindsCreation m p item moment (Err (Fault side)) = ⊥
FindsCreation m p item moment (Err Memory) = Unit {0}
