-- What becomes of an entry.
use Rattle.std.proofs.Common.{if◌then◌else◌, ◌≡◌, ℕ, ◌≤◌, Bool, true, false, cond, not, Option, Some, None, IfSome, List, [], ◌∷◌, ◌++◌, length, refl, sym, ap, ◌∙◌, subst, arith}
use Rattle.tm_base.specs.Paths.{Names}
use Rattle.tm_base.specs.Limits.{max_file_bytes}
use Rattle.tm_chain.specs.Blob.{blob_len, bytes_in}
use Rattle.tm_world.specs.declared.bytes.Blob.{Blob}
use Rattle.tm_world.specs.Log.{Log}
use Rattle.tm_tree.specs.declared.attrs.Attrs.{Attrs}
use Rattle.tm_tree.specs.declared.item.Item.{Item}
use Rattle.tm_tree.specs.declared.item.Item.TheVariants as item
use Rattle.tm_tree.specs.declared.listing.ListKind.TheVariants as kind
use Rattle.tm_tree.specs.Items.{bytes_of}
use Rattle.tm_tree.specs.Trees.{Tree, IsTree, item_at, is_some_folder, folder_at}
use Rattle.tm_tree.specs.Copies.{bare}
use Rattle.tm_tree.specs.Views.{is_hidden, hidden_paths, view}
use Rattle.tm_tree.proofs.ViewsKept.{item_at-view}
use Rattle.tm_graph.specs.Nodes.{IsGraph}
use Rattle.tm_store_records.specs.Held.{Held}
use Rattle.tm_volume.specs.Bounds.{ItemsKeepBounds}
use Rattle.tm_volume.specs.Seen.{Seen, IsKept, tree_on}
use Rattle.tm_copy.specs.Keeping.{kept_file}
use Rattle.tm_copy.specs.Listed.{StandsAs}
use Rattle.tm_copy.specs.Building.{Backup, base_at, IsSound}
use Rattle.tm_copy.specs.Driving.{base_child}
use Rattle.tm_copy.proofs.Finishes.{base_goes_down}
use Rattle.tm_backup.specs.Growing.{Suits}
use Rattle.tm_backup.specs.EntryPlans.{IsFileOf, kind_blocks, IsPlanFor}
use Rattle.tm_backup.specs.Steps.{volume_bytes}
use Rattle.tm_backup.specs.Taking.{view_on, prev_on, backup_of}
use Rattle.tm_backup.specs.declared.stage.EntryPlan.TheVariants as plan
use Rattle.tm_backup.proofs.Keeping.{sound_of, kept_was, none_was, file_kept, file_new, link_here}
use Rattle.tm_backup.proofs.Taking.{taken_at_folder}

-- an item of the view is one of the tree
pub view_item : (fixed : List Names) (t : Tree) (p : Names) (e : Item) → item_at (view fixed t) p ≡ Some e → item_at t p ≡ Some e
view_item fixed t p e is = by_hidden (is_hidden (hidden_paths fixed t) p) (sym (item_at-view fixed t p) ∙ is)
  where
    by_hidden : (h : Bool) → cond (not h) (item_at t p) None ≡ Some e → item_at t p ≡ Some e
    by_hidden true g = absurd (cc g)
    by_hidden false g = g

-- a file of the view is one of the volume
pub file_of : (v : Seen) (p : Names) (a : Attrs) (stamp size : ℕ) (bytes : ℕ → List ℕ) → StandsAs (view_on v bytes) p (kind.File a stamp size) → IsFileOf size (item_at (tree_on v bytes) p)
file_of v p a stamp size bytes s = (item.File a stamp s.0, view_item v.fixed (tree_on v bytes) p (item.File a stamp s.0) s.1, refl, s.2)

-- and has no more bytes than a file may have
pub file_small : (v : Seen) (p : Names) (a : Attrs) (stamp size : ℕ) → ItemsKeepBounds → IsKept v → ((bytes : ℕ → List ℕ) → StandsAs (view_on v bytes) p (kind.File a stamp size)) → size ≤ max_file_bytes
file_small v p a stamp size bounds kept stands =
    let file = file_of v p a stamp size (λ _. []) (stands (λ _. [])) in
    omega (arith, file.3, (bounds v (λ _. []) p file.0 kept file.1).size)

module _ (told : Type 0) (s : Held) (v : Seen) (l : Log) (p : Names) (base root : Option ℕ) (files bytes : ℕ → List ℕ) (graph : IsGraph s.nodes) (tree : IsTree (view_on v bytes)) (suits : Suits told s l p base root bytes) where
  abbrev b : Backup
  b = backup_of s files root (view_on v bytes)

  pub sound_here : IsSound b
  sound_here = sound_of s files root (view_on v bytes) graph suits.based tree

  -- ---- a file

  kept_here : (stamp : ℕ) (o : Option ℕ) → kept_file s.nodes base stamp ≡ o → kept_file b.graph (base_at b p) stamp ≡ o
  kept_here stamp o h = ap (λ (n : Option ℕ). kept_file s.nodes n stamp) (sym suits.here) ∙ h

  -- that is kept
  pub kept_blocks : (a : Attrs) (stamp size n : ℕ) → kept_file s.nodes base stamp ≡ Some n → kind_blocks (item_at (bare (prev_on s files root)) p) (kind.File a stamp size) ≡ []
  kept_blocks a stamp size n h = ap (λ (k : Bool). if k then [] else blob_len size ∷ []) (kept_was b sound_here p stamp n (kept_here stamp (Some n) h))

  pub kept_plan : (more : ℕ → List ℕ) (a : Attrs) (stamp size n : ℕ) → StandsAs (view_on v bytes) p (kind.File a stamp size) → kept_file s.nodes base stamp ≡ Some n → IsPlanFor told b more p (plan.Kept n)
  kept_plan more a stamp size n stands h = file_kept s files root (view_on v bytes) sound_here p a stamp n stands.0 stands.1 (kept_here stamp (Some n) h)

  -- that is new
  pub new_blocks : (a : Attrs) (stamp size : ℕ) → kept_file s.nodes base stamp ≡ None → kind_blocks (item_at (bare (prev_on s files root)) p) (kind.File a stamp size) ≡ blob_len size ∷ []
  new_blocks a stamp size h = ap (λ (k : Bool). if k then [] else blob_len size ∷ []) (none_was b sound_here p stamp (kept_here stamp None h))

  pub new_plan : (more : ℕ → List ℕ) (a : Attrs) (stamp size : ℕ) (blob : Blob) → StandsAs (view_on v bytes) p (kind.File a stamp size) → kept_file s.nodes base stamp ≡ None
      → blob.length ≡ size → size ≤ max_file_bytes → length blob.blocks ≡ blob_len size → (told → IfSome (item_at (tree_on v (volume_bytes l)) p) (λ e. bytes_in blob.blocks more 0 blob.length ≡ bytes_of e))
      → IsPlanFor told b more p (plan.File a stamp blob)
  new_plan more a stamp size blob stands h long small many holds = (
    stands.0,
    file_new s files root (view_on v bytes) sound_here p a stamp stands.0 stands.1 (kept_here stamp None h),
    kept_here stamp None h,
    long ∙ sym stands.2,
    subst (λ k. k ≤ max_file_bytes) (sym long) small,
    many ∙ ap blob_len (sym long),
    λ t.
        let there : item_at (tree_on v (volume_bytes l)) p ≡ Some (item.File a stamp stands.0) = ap (λ (x : ℕ → List ℕ). item_at (tree_on v x) p) (sym (suits.read t)) ∙ view_item v.fixed (tree_on v bytes) p (item.File a stamp stands.0) stands.1 in
        subst (λ o. IfSome o (λ e. bytes_in blob.blocks more 0 blob.length ≡ bytes_of e)) there (holds t),
  )

  -- ---- an entry

  -- the base's node beneath it
  pub entry_suits : (name : List ℕ) (below : Option ℕ) → below ≡ base_child s.nodes base name → Suits told s l (p ++ name ∷ []) below root bytes
  entry_suits name below is = record {
    read = suits.read;
    based = suits.based;
    here = is ∙ ap (λ (n : Option ℕ). base_child s.nodes n name) suits.here ∙ (base_goes_down b sound_here).1 p name;
  }

  pub folder_plan : (more : ℕ → List ℕ) (q : Names) → folder_at (view_on v bytes) q ≡ true → IsPlanFor told b more q plan.Folder
  folder_plan more q folder = by_item (item_at (view_on v bytes) q) refl folder
    where
      by_item : (o : Option Item) → item_at (view_on v bytes) q ≡ o → is_some_folder o ≡ true → IsPlanFor told b more q plan.Folder
      by_item None is f = absurd (cc f)
      by_item (Some (item.Folder a)) is f = (a, taken_at_folder (prev_on s files root) (view_on v bytes) q a is)
      by_item (Some (item.File a n x)) is f = absurd (cc f)
      by_item (Some (item.Link a n x)) is f = absurd (cc f)

  pub link_plan : (more : ℕ → List ℕ) (q : Names) (a : Attrs) (stamp : ℕ) (target : List ℕ) → StandsAs (view_on v bytes) q (kind.Link a stamp target) → IsPlanFor told b more q (plan.Link a stamp target)
  link_plan more q a stamp target stands = let h = link_here s files root (view_on v bytes) sound_here q a stamp target stands in (h.found, h.here, h.leaf, h.told, h.new)
