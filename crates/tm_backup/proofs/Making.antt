-- What a walked view makes, as a backup.
use Rattle.std.proofs.Common.{◌≡◌, ℕ, ◌+◌, ◌≤◌, Option, List, [], refl, sym, ap, subst, arith}
use Rattle.std.specs.List.{All}
use Rattle.tm_base.specs.Paths.{Names}
use Rattle.tm_blockmap.specs.Counts.{times}
use Rattle.tm_world.specs.declared.bytes.Blob.{Blob}
use Rattle.tm_world.specs.Log.{Log}
use Rattle.tm_tree.specs.Trees.{IsTree}
use Rattle.tm_graph.specs.Nodes.{greatest, IsGraph}
use Rattle.tm_store_records.specs.Held.{Held, IsWhole}
use Rattle.tm_volume.specs.Seen.{Seen}
use Rattle.tm_copy.specs.Making.{Making, begun}
use Rattle.tm_copy.specs.Building.{Backup, first, next, IsSound, AreNew, Builds}
use Rattle.tm_copy.specs.Driving.{IsBackedUp}
use Rattle.tm_copy.proofs.Finishes.{none_are_new, backup_is_built}
use Rattle.tm_backup.specs.Growing.{blocks_in, IsFilled}
use Rattle.tm_backup.specs.Steps.{volume_bytes, store_bytes}
use Rattle.tm_backup.specs.Taking.{base_root, view_on, backup_of}
use Rattle.tm_backup.specs.Walking.{FolderGrows}
use Rattle.tm_backup.proofs.Basing.{root_based}
use Rattle.tm_backup.proofs.Keeping.{sound_of}
use Rattle.tm_backup.proofs.Rooted.{suits_root}

-- all of the view is backed up by these new nodes, and each blob among them holds its file
pub record IsMadeOf (told : Type 0) (b : Backup) (bytes : ℕ → List ℕ) (m : Making) (n : ℕ) (staged : List ℕ) : Type 0 where
  pub sound : IsSound b
  pub begins : m.first ≡ first b
  pub are : AreNew b m.nodes
  pub other : ℕ → List ℕ
  pub up : IsBackedUp b m.nodes other n
  pub filled : All (IsFilled told (next b m.nodes) bytes other) m.blobs
  pub paid : (k : ℕ) → blocks_in m.blobs k ≤ times k staged

module _ (told : Type 0) (s after : Held) (v : Seen) (l end : Log) (id : ℕ) (m : Making) (n : ℕ) (files : ℕ → List ℕ) (whole : IsWhole s) (graph : IsGraph s.nodes) (tree : IsTree (view_on v (volume_bytes l))) (unstaged : s.staged ≡ []) where
  abbrev b : Backup
  b = backup_of s files (base_root s id) (view_on v (volume_bytes l))

  abbrev none : Making
  none = begun s.number (greatest s.nodes + 1)

  from_root : FolderGrows told s after v l end [] (base_root s id) none m n → IsMadeOf told b (store_bytes end) m n after.staged
  from_root grows =
      let g = grows (base_root s id) files (volume_bytes l) (λ k. []) (suits_root told s l [] (base_root s id) id id whole refl refl refl) (none_are_new b) in
      let sound = sound_of s files (base_root s id) (view_on v (volume_bytes l)) graph (λ r e. root_based s id r whole e) tree in
      let low : next b [] ≡ first b = omega arith in
      let builds : Builds b m.nodes g.other (first b) (next b m.nodes) [] n = subst (λ (lo : ℕ). Builds b m.nodes g.other lo (next b m.nodes) [] n) low g.has in
      let blobs : g.grown.blobs ≡ m.blobs = sym g.grown.blobs_are in
      record {
        sound = sound;
        begins = g.grown.first;
        are = g.grown.are;
        other = g.other;
        up = backup_is_built b m.nodes g.other n sound g.grown.are builds;
        filled = subst (λ (xs : List (ℕ × Blob)). All (IsFilled told (next b m.nodes) (store_bytes end) g.other) xs) blobs g.grown.filled;
        paid = λ k. omega (arith, g.grown.paid k, ap (λ (xs : List (ℕ × Blob)). blocks_in xs k) blobs, ap (times k) unstaged, nothing k);
      }
    where
      nothing : (k : ℕ) → times k [] ≡ 0
      nothing k = refl

  pub made_of : (p : Names) (base : Option ℕ) (old : Making) → p ≡ [] → base ≡ base_root s id → old ≡ none → FolderGrows told s after v l end p base old m n → IsMadeOf told b (store_bytes end) m n after.staged
  made_of p base old root is begins grows = from_root
      (subst (λ (o : Making). FolderGrows told s after v l end [] (base_root s id) o m n) begins
      (subst (λ (r : Option ℕ). FolderGrows told s after v l end [] r old m n) is
      (subst (λ (q : Names). FolderGrows told s after v l end q base old m n) root grows)))
