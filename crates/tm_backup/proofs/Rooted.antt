-- The walk of a whole view, from the root.
use Rattle.std.proofs.Common.{◌≡◌, ℕ, ◌≤◌, true, not, Option, Some, None, is_some, List, [], ◌∷◌, length, filter, refl, sym, ap, ◌∙◌, arith}
use Rattle.std.specs.List.{count_by}
use Rattle.std.proofs.lemmas.List.{length-map}
use Rattle.std.proofs.lemmas.List.Sums.{length-filter, count_by-le-length}
use Rattle.tm_base.specs.Paths.{Names}
use Rattle.tm_base.specs.Limits.{max_items}
use Rattle.tm_tree.specs.declared.item.Item.{Item}
use Rattle.tm_tree.specs.Items.{is_folder}
use Rattle.tm_tree.specs.Trees.{Tree, beneath}
use Rattle.tm_tree.specs.Views.{is_hidden, hidden_paths}
use Rattle.tm_tree.specs.States.{base}
use Rattle.tm_tree.specs.Copies.{LabelledTree}
use Rattle.tm_graph.specs.Nodes.{Nodes, node}
use Rattle.tm_copy.specs.Copying.{node_under}
use Rattle.tm_copy.proofs.Ways.{number_here}
use Rattle.tm_store_records.specs.Held.{Held, IsWhole, store_on, files_of}
use Rattle.tm_volume.specs.Seen.{Seen, tree_on}
use Rattle.tm_world.specs.Log.{Log}
use Rattle.std.specs.List.{flat_map}
use Rattle.tm_backup.specs.Growing.{Suits, counted, folders_from, staging_from}
use Rattle.tm_backup.specs.Steps.{volume_bytes, store_bytes}
use Rattle.tm_backup.specs.Taking.{base_root, prev_on, view_on}
use Rattle.tm_backup.specs.Walk.{folders, staging, staging_in}
use Rattle.tm_backup.proofs.Basing.{root_based, base_tree}

here_root : (g : Nodes) (root : Option ℕ) → ((r : ℕ) → root ≡ Some r → is_some (node g r) ≡ true) → node_under g root [] ≡ root
here_root g None based = refl
here_root g (Some r) based = number_here g r (based r refl)

pub suits_root : (told : Type 0) (s : Held) (l : Log) (p : Names) (base : Option ℕ) (id other : ℕ) → IsWhole s → p ≡ [] → other ≡ id → base ≡ base_root s other
    → Suits told s l p base (base_root s id) (volume_bytes l)
suits_root told s l p base id other whole root same is = record {
  read = λ t. refl;
  based = λ r e. root_based s id r whole e;
  here = is ∙ ap (base_root s) same ∙ sym (here_root s.nodes (base_root s id) (λ r e. root_based s id r whole e)) ∙ ap (node_under s.nodes (base_root s id)) (sym root);
}

-- all is beneath the root
all_beneath : (t : Tree) → beneath t [] ≡ t
all_beneath [] = refl
all_beneath (row ∷ t) = ap (λ (u : Tree). row ∷ u) (all_beneath t)

folders_all : (t : Tree) → folders_from t [] ≡ folders t
folders_all t = ap folders (all_beneath t)

-- what is staged from the root down is all that is staged
pub staging_root : (s : Held) (l : Log) (id : ℕ) (t : Tree) (p : Names) → p ≡ []
    → staging (base (store_on s (store_bytes l)) id) t ≡ staging_from (prev_on s (files_of s.image.records (store_bytes l)) (base_root s id)) t p
staging_root s l id t p root =
    ap (λ (prev : LabelledTree). staging prev t) (base_tree s (store_bytes l) id)
    ∙ ap (flat_map (staging_in (prev_on s (files_of s.image.records (store_bytes l)) (base_root s id)) t)) (sym (folders_all t))
    ∙ ap (staging_from (prev_on s (files_of s.image.records (store_bytes l)) (base_root s id)) t) (sym root)

-- ---- how many folders there are

pub view_few : (v : Seen) (bytes : ℕ → List ℕ) → length (view_on v bytes) ≤ length (tree_on v bytes)
view_few v bytes =
    let shown = λ (row : Names × Item). not (is_hidden (hidden_paths v.fixed (tree_on v bytes)) row.0) in
    omega (arith, length-filter shown (tree_on v bytes), count_by-le-length shown (tree_on v bytes))

-- where the count stood still at its end, or didn't come there
pub walked_counted : (v : Seen) (bytes : ℕ → List ℕ) (p : Names) (old walked : ℕ) → length (tree_on v bytes) ≤ max_items → p ≡ [] → old ≡ 0
    → counted walked 0 ≡ counted old (length (folders_from (view_on v bytes) p)) → walked ≡ count_by (λ (row : Names × Item). is_folder row.1) (view_on v bytes)
walked_counted v bytes p old walked few root none is =
    let t = view_on v bytes in
    let folder = λ (row : Names × Item). is_folder row.1 in
    let many : length (folders_from t p) ≡ count_by folder t =
    ap (λ (q : Names). length (folders_from t q)) root ∙ ap length (folders_all t) ∙ length-map (filter folder t) (λ (row : Names × Item). row.0) ∙ length-filter folder t in
    let low : count_by folder t ≤ max_items = omega (arith, count_by-le-length folder t, view_few v bytes, few) in
    still (count_by folder t) low (is ∙ (λ i. counted (none i) (many i)))
  where
    still : (n : ℕ) → n ≤ max_items → counted walked 0 ≡ counted 0 n → walked ≡ n
    still n low same = omega (arith, low, same)

pub walked_all : (v : Seen) (bytes : ℕ → List ℕ) (p : Names) (old walked : ℕ) → length (tree_on v bytes) ≤ max_items → p ≡ [] → old ≡ 0 → walked ≡ counted old (length (folders_from (view_on v bytes) p))
    → walked ≡ count_by (λ (row : Names × Item). is_folder row.1) (view_on v bytes)
walked_all v bytes p old walked few root none is = walked_counted v bytes p old walked few root none (within old (length (folders_from (view_on v bytes) p)) is)
  where
    within : (a b : ℕ) → walked ≡ counted a b → counted walked 0 ≡ counted a b
    within a b e = omega (arith, e)
