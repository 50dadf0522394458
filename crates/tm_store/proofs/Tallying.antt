-- The bytes of all nodes of a store are fewer than 2^64.
use Rattle.std.proofs.Common.{◌≡◌, ⊎_elim, ℕ, zero, suc, ◌*◌, ◌^◌, ◌<◌, ◌≤◌, Some, List, [], ◌∷◌, length, sum_by, refl, subst, arith}
use Rattle.std.specs.Prelude.{slice_get}
use Rattle.std.specs.Map.{values_of}
use Rattle.std.proofs.lemmas.Bool.{cases_lt}
use Rattle.std.proofs.lemmas.List.Sums.{sum_by-cons}
use Rattle.tm_base.specs.Limits.{max_file_bytes, max_nodes}
use Rattle.tm_graph.specs.Nodes.{Nodes, node, stored_in, body_bytes}
use Rattle.tm_identity.specs.Stored.{node_length, body_length}
use Rattle.tm_tree.specs.declared.node.LeafRow.TheVariants.{File, Link}
use Rattle.tm_tree.specs.declared.node.NodeBody.{NodeBody}
use Rattle.tm_tree.specs.declared.node.NodeBody.TheVariants.{Folder, Leaf}
use Rattle.tm_tree.specs.declared.node.NodeRow.{NodeRow}
use Rattle.tm_store_records.specs.Heads.{heads_of}
use Rattle.tm_store_records.specs.Found.{node_key, nodes_in}
use Rattle.tm_store_records.specs.Held.{Held, IsWhole}
use Rattle.tm_store_records.proofs.NextKeyLemmas.{Sorted}
use Rattle.tm_store_records.proofs.Placed.{at_place}
use Rattle.tm_store.proofs.Recorded.{NodesAreFound, small_node}

body_same : (body : NodeBody) → body_bytes body ≡ body_length body
body_same (Folder attrs entries) = refl
body_same (Leaf (File attrs stamp size)) = refl
body_same (Leaf (Link attrs stamp target)) = refl

-- both sums count the same bytes
pub sums_same : (g : Nodes) → stored_in g ≡ sum_by node_length (values_of g)
sums_same g = λ i. sum_by (λ (row : NodeRow). body_same row.body i) (values_of g)

at_index : {X : Type 0} (g : List X) (i : ℕ) → i < length g → (x : X) × (slice_get g i ≡ Some x)
at_index [] i lt = absurd (omega (arith, lt))
at_index (x ∷ g) zero lt = (x, refl)
at_index (x ∷ g) (suc i) lt = at_index g i (omega (arith, lt))

sum_most : (g : Nodes) → ((i : ℕ) (e : ℕ × NodeRow) → slice_get g i ≡ Some e → node_length e.1 ≤ max_file_bytes) → sum_by node_length (values_of g) ≤ max_file_bytes * length g
sum_most [] each = omega arith
sum_most (e ∷ g) each =
    let one = each 0 e refl in
    let rest = sum_most g (λ i. each (suc i)) in
    omega (arith, one, rest, sum_by-cons node_length e.1 (values_of g))

pub few_bytes : NodesAreFound → (h : Held) → IsWhole h → Sorted h.nodes → Sorted (heads_of h.image.records) → stored_in h.nodes < 2 ^ 64
few_bytes law h whole sorted rising =
    let few : length h.nodes ≤ max_nodes = ⊎_elim
    (λ (more : max_nodes < length h.nodes). absurd (
    let e = at_index h.nodes max_nodes more in
    let listed : slice_get (nodes_in (heads_of h.image.records)) max_nodes ≡ Some e.0 = subst (λ (g : Nodes). slice_get g max_nodes ≡ Some e.0) whole.nodes_are e.1 in
    let low = ((whole.good (node_key e.0.0)).node_rules max_nodes e.0 listed refl).few in
    omega (arith, low)))
    (λ (le : length h.nodes ≤ max_nodes). le)
    (cases_lt max_nodes (length h.nodes)) in
    let sum = sum_most h.nodes (λ i e is.
    small_node law (heads_of h.image.records) e.0 e.1 rising (λ key head there. (whole.good key).reads head there)
    (subst (λ (g : Nodes). node g e.0 ≡ Some e.1) whole.nodes_are (at_place h.nodes i e sorted is))) in
    omega (arith, few, sum, sums_same h.nodes)
