-- New volumes and stores, backups and later generations.
use Rattle.std.proofs.Common.{◌≡◌, ℕ, ◌≤◌, ◌==◌, ◌||◌, if◌then◌else◌, Bool, true, false, cond, not, List, [], ◌∷◌, ◌++◌, refl, sym, ap, ◌∙◌, Option, Some, None, arith}
use Rattle.std.proofs.lemmas.Bool.Decides.{nat_tests}
use Rattle.std.specs.BTreeMap.{is_at}
use Rattle.std.specs.List.{list_any}
use Rattle.tm_base.specs.Paths.{Names, path_cmp}
use Rattle.tm_tree.specs.declared.item.Item.{Item}
use Rattle.tm_tree.specs.Copies.{bare, copied_label}
use Rattle.tm_tree.specs.Items.{stamp_of, new_folder}
use Rattle.tm_tree.specs.States.{VolumeState, StoreState, Snapshot, new_volume, snapshot_of, base}
use Rattle.tm_tree.specs.Trees.{Tree, item_at, new_tree}
use Rattle.tm_tree.specs.Views.{view, is_hidden, hidden_paths}
use Rattle.tm_tree.proofs.CopyProofs.{bare_labelled}
use Rattle.tm_tree.proofs.NewTrees.{new_kept}
use Rattle.tm_tree.proofs.ViewsKept.{item_at-view}
use Rattle.tm_fit.specs.Fit.{VolumeFits, SnapshotFits, SnapshotsFit, StoreFits}
use Rattle.tm_fit.specs.Laws.{BackupFits, NewVolumeFits, NewVolumeAloneFits, NewStoreFits, LaterGenerationFits, with_generation}

no_some : {A : Type 0} (s : ℕ) → None ≡ Some s → A
no_some s h = absurd (cc)

abbrev stamp_in : Option Item → Option ℕ
stamp_in None = None
stamp_in (Some e) = stamp_of e

-- ---- a new volume

-- the root alone has no stamp
alone : (moment s : ℕ) (p : Names) (e : Item) → item_at (new_tree (new_folder moment)) p ≡ Some e → stamp_of e ≡ Some s → ⊥
alone moment s p e there is =
    elim (is_at (path_cmp p) []) as (λ b. (if b then Some (new_folder moment) else None) ≡ Some e → ⊥) [
      | true ↦ λ h. no_some s (ap stamp_in h ∙ is)
      | false ↦ λ h. nothing h
    ] there
  where
    nothing : None ≡ Some e → ⊥
    nothing h = cc

new_fits : (name : List ℕ) (id capacity moment : ℕ) → VolumeFits (new_volume name id capacity moment)
new_fits name id capacity moment = record {
  tree = new_kept moment;
  below = λ p e s there is. absurd (alone moment s p e there is);
  differ = λ p q d e s here there sd se. absurd (alone moment s p d here sd);
  counted = omega arith;
}

pub new_volume_alone_fits : NewVolumeAloneFits
new_volume_alone_fits name id capacity moment = (new_fits name id capacity moment, tt)

none_has : (v : VolumeState) (id : ℕ) → v.id ≡ id → (list : List Snapshot) → list_any (λ s. s.id == id) list ≡ false → SnapshotsFit v list
none_has v id is [] h = tt
none_has v id is (s ∷ list) h = (λ same. absurd (clash (sym (first (s.id == id) (list_any (λ x. x.id == id) list) h) ∙ equal (same ∙ is))), none_has v id is list (rest (s.id == id) (list_any (λ x. x.id == id) list) h))
  where
    clash : false ≡ true → ⊥
    clash e = cc

    equal : s.id ≡ id → (s.id == id) ≡ true
    equal e = grind (arith, nat_tests)

    first : (a b : Bool) → (a || b) ≡ false → a ≡ false
    first true b h = h
    first false b h = refl

    rest : (a b : Bool) → (a || b) ≡ false → b ≡ false
    rest true b h = absurd (clash (sym h))
    rest false b h = h

pub new_volume_fits : NewVolumeFits
new_volume_fits name id capacity moment store free = (new_fits name id capacity moment, none_has (new_volume name id capacity moment) id refl store.snapshots free)

-- ---- a new store, and a later generation

pub new_store_fits : NewStoreFits
new_store_fits v machine h = (h.0, tt)

module _ (v : VolumeState) (generation : ℕ) (later : v.generation ≤ generation) where
  abbrev after : VolumeState
  after = with_generation v generation

  later_snapshots : (list : List Snapshot) → SnapshotsFit v list → SnapshotsFit after list
  later_snapshots [] h = tt
  later_snapshots (s ∷ list) h = (λ same. one (h.0 same), later_snapshots list h.1)
    where
      one : SnapshotFits v s → SnapshotFits after s
      one k = record { agree = k.agree; below = k.below; cursor = k.cursor; generation = let g : s.generation ≤ v.generation = k.generation in omega arith }

  later_store : (store : Option StoreState) → StoreFits v store → StoreFits after store
  later_store None h = tt
  later_store (Some store) h = later_snapshots store.snapshots h

pub later_generation_fits : LaterGenerationFits
later_generation_fits v store generation later h =
    (record { tree = h.0.tree; below = h.0.below; differ = h.0.differ; counted = h.0.counted }, later_store v generation later store h.1)

-- ---- a backup

module _ (v : VolumeState) (store : StoreState) (date : ℕ) (fits : VolumeFits v) where
  abbrev seen : Tree
  seen = view v.contents.fixed v.contents.tree

  abbrev made : Snapshot
  made = snapshot_of store v date

  -- what the view has stands in the tree
  in_tree : (p : Names) (e : Item) → item_at seen p ≡ Some e → item_at v.contents.tree p ≡ Some e
  in_tree p e there = shown (not (is_hidden (hidden_paths v.contents.fixed v.contents.tree) p)) (sym (item_at-view v.contents.fixed v.contents.tree p) ∙ there)
    where
      shown : (b : Bool) → cond b (item_at v.contents.tree p) None ≡ Some e → item_at v.contents.tree p ≡ Some e
      shown true h = h
      shown false h = absurd (cc)

  whole : bare made.tree ≡ seen
  whole = bare_labelled (copied_label store.number (base store v.id) seen) seen

  in_copy : (p : Names) (e : Item) → item_at (bare made.tree) p ≡ Some e → item_at v.contents.tree p ≡ Some e
  in_copy p e there = in_tree p e (ap (λ (t : Tree). item_at t p) (sym whole) ∙ there)

  made_fits : SnapshotFits v made
  made_fits = record {
    agree = λ p q d e s here there sd se. same p q d e (fits.differ p q d e s (in_copy p d here) there sd se) (in_copy p d here) there;
    below = λ p e s there is. fits.below p e s (in_copy p e there) is;
    cursor = let k : 1 ≤ v.contents.next = fits.counted in omega arith;
    generation = omega arith;
  }
    where
      same : (p q : Names) (d e : Item) → p ≡ q → item_at v.contents.tree p ≡ Some d → item_at v.contents.tree q ≡ Some e → d ≡ e
      same p q d e at here there = inner d e (sym here ∙ ap (item_at v.contents.tree) at ∙ there)
        where
          inner : (d e : Item) → Some d ≡ Some e → d ≡ e
          inner d e h = cc

  with_made : (list : List Snapshot) → SnapshotsFit v list → SnapshotsFit v (list ++ made ∷ [])
  with_made [] h = (λ same. made_fits, tt)
  with_made (s ∷ list) h = (h.0, with_made list h.1)

pub backup_fits : BackupFits
backup_fits v store date h = (h.0, with_made v store date h.0 store.snapshots h.1)
