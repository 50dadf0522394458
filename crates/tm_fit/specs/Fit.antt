-- A volume and a store that fit: a stamp tells an item.
use Rattle.std.specs.Prelude.{◌≡◌, ℕ, ◌<◌, ◌≤◌, Option, Some, None, List, [], ◌∷◌}
use Rattle.tm_base.specs.Paths.{Names}
use Rattle.tm_tree.specs.declared.item.Item.{Item}
use Rattle.tm_tree.specs.Copies.{bare}
use Rattle.tm_tree.specs.Items.{stamp_of}
use Rattle.tm_tree.specs.States.{VolumeState, StoreState, Snapshot}
use Rattle.tm_tree.specs.Trees.{Tree, IsTree, item_at}

-- each stamp is below the next number
abbrev pub StampsBelow : ℕ → Tree → Type 0
StampsBelow next t = (p : Names) (e : Item) (s : ℕ) → item_at t p ≡ Some e → stamp_of e ≡ Some s → s < next

-- no stamp stands at two paths
abbrev pub StampsDiffer : Tree → Type 0
StampsDiffer t = (p q : Names) (d e : Item) (s : ℕ) → item_at t p ≡ Some d → item_at t q ≡ Some e → stamp_of d ≡ Some s → stamp_of e ≡ Some s → p ≡ q

-- items of one tree and of another that have one stamp are equal
abbrev pub StampsAgree : Tree → Tree → Type 0
StampsAgree t u = (p q : Names) (d e : Item) (s : ℕ) → item_at t p ≡ Some d → item_at u q ≡ Some e → stamp_of d ≡ Some s → stamp_of e ≡ Some s → d ≡ e

pub record VolumeFits (v : VolumeState) : Type 0 where
  pub tree : IsTree v.contents.tree
  pub below : StampsBelow v.contents.next v.contents.tree
  pub differ : StampsDiffer v.contents.tree
  pub counted : 1 ≤ v.contents.next

-- a snapshot of the volume: its stamps and its cursor were drawn, its generation was the volume's, and its stamps tell items
pub record SnapshotFits (v : VolumeState) (s : Snapshot) : Type 0 where
  pub agree : StampsAgree (bare s.tree) v.contents.tree
  pub below : StampsBelow v.contents.next (bare s.tree)
  pub cursor : s.cursor < v.contents.next
  pub generation : s.generation ≤ v.generation

-- each of these that has the volume's id fits it
abbrev pub SnapshotsFit : VolumeState → List Snapshot → Type 0
SnapshotsFit v [] = Unit {0}
SnapshotsFit v (s ∷ snapshots) = (s.id ≡ v.id → SnapshotFits v s) × SnapshotsFit v snapshots

abbrev pub StoreFits : VolumeState → Option StoreState → Type 0
StoreFits v None = Unit {0}
StoreFits v (Some store) = SnapshotsFit v store.snapshots

-- the volume fits, and the store fits it; without a volume all fits
abbrev pub Fits : Option VolumeState → Option StoreState → Type 0
Fits None store = Unit {0}
Fits (Some v) store = VolumeFits v × StoreFits v store
