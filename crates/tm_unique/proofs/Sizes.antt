-- Sums over what is beneath a node, one level at a time.
use Rattle.std.proofs.Common.{zero, suc, ◌≡◌, ℕ, ◌+◌, ◌<◌, true, Option, Some, None, List, [], ◌∷◌, refl, sym, ap, ◌∙◌, arith, sum_by, ◌==◌, if◌then◌else◌}
use Rattle.std.specs.List.{AllByRecursion}
use Rattle.std.specs.Map.{values_of}
use Rattle.std.proofs.lemmas.Bool.Decides.{nat_tests}
use Rattle.tm_tree.specs.declared.node.Child.{Child}
use Rattle.tm_tree.specs.declared.node.LeafRow.TheVariants.{File, Link}
use Rattle.tm_tree.specs.declared.node.NodeBody.{NodeBody}
use Rattle.tm_tree.specs.declared.node.NodeBody.TheVariants.{Folder, Leaf}
use Rattle.tm_tree.specs.declared.node.NodeRow.{NodeRow}
use Rattle.tm_graph.specs.Nodes.{Nodes, node, entries_of, names, body_bytes, stored_in, IsGraph}
use Rattle.tm_graph.proofs.PlaceAt.{lower}
use Rattle.tm_identity.specs.Stored.{body_length, node_length}
use Rattle.tm_identity.specs.Uniques.{only_with, only_to, only_of}
use Rattle.tm_identity.proofs.Others.{each, same_sums}

-- one more than all that stands beneath
abbrev pub size_with : Option NodeRow → (ℕ → ℕ) → ℕ
size_with None below = 1
size_with (Some row) below = 1 + sum_by (λ child. below child.node) (entries_of row)

abbrev pub size_to : ℕ → Nodes → ℕ → ℕ
size_to zero g n = 1
size_to (suc depth) g n = size_with (node g n) (size_to depth g)

abbrev pub size_of : Nodes → ℕ → ℕ
size_of g n = size_to (suc n) g n

module _ (g : Nodes) (is : IsGraph g) where
  lows : (n : ℕ) (row : NodeRow) → node g n ≡ Some row → AllByRecursion (λ c. c.node < n) (entries_of row)
  lows n row e = lower n (entries_of row) (λ q le. sym (ap (names q) e) ∙ is.falls n q le)

  only_depth : (c d n : ℕ) → n < c → n < d → only_to c g n ≡ only_to d g n
  only_depth zero d n h k = absurd (omega arith)
  only_depth (suc c) zero n h k = absurd (omega arith)
  only_depth (suc c) (suc d) n h k = elim (node g n) as (λ o. node g n ≡ o → only_with o (only_to c g) ≡ only_with o (only_to d g)) [
    | None ↦ λ e. refl
    | Some row ↦ λ e. ap (λ s. if row.links == 1 then node_length row + s else 0)
        (same_sums (λ child. only_to c g child.node) (λ child. only_to d g child.node) (entries_of row) (each (entries_of row) (λ child low. only_depth c d child.node (omega arith) (omega arith)) (lows n row e)))
  ] refl

  size_depth : (c d n : ℕ) → n < c → n < d → size_to c g n ≡ size_to d g n
  size_depth zero d n h k = absurd (omega arith)
  size_depth (suc c) zero n h k = absurd (omega arith)
  size_depth (suc c) (suc d) n h k = elim (node g n) as (λ o. node g n ≡ o → size_with o (size_to c g) ≡ size_with o (size_to d g)) [
    | None ↦ λ e. refl
    | Some row ↦ λ e. ap (λ s. 1 + s)
        (same_sums (λ child. size_to c g child.node) (λ child. size_to d g child.node) (entries_of row) (each (entries_of row) (λ child low. size_depth c d child.node (omega arith) (omega arith)) (lows n row e)))
  ] refl

  pub only_is : (n : ℕ) (row : NodeRow) → node g n ≡ Some row → only_of g n ≡ (if row.links == 1 then node_length row + sum_by (λ child. only_of g child.node) (entries_of row) else 0)
  only_is n row e = ap (λ o. only_with o (only_to n g)) e ∙ ap (λ s. if row.links == 1 then node_length row + s else 0)
      (same_sums (λ child. only_to n g child.node) (λ child. only_of g child.node) (entries_of row) (each (entries_of row) (λ child low. only_depth n (suc child.node) child.node low (omega arith)) (lows n row e)))

  pub size_is : (n : ℕ) (row : NodeRow) → node g n ≡ Some row → size_of g n ≡ 1 + sum_by (λ child. size_of g child.node) (entries_of row)
  size_is n row e = ap (λ o. size_with o (size_to n g)) e ∙ ap (λ s. 1 + s)
      (same_sums (λ child. size_to n g child.node) (λ child. size_of g child.node) (entries_of row) (each (entries_of row) (λ child low. size_depth n (suc child.node) child.node low (omega arith)) (lows n row e)))

-- a node with one link counts, with all beneath it
pub only_one : (g : Nodes) → IsGraph g → (n : ℕ) (row : NodeRow) → node g n ≡ Some row → row.links ≡ 1 → only_of g n ≡ node_length row + sum_by (λ child. only_of g child.node) (entries_of row)
only_one g is n row e one = only_is g is n row e ∙ ap (λ b. if b then node_length row + sum_by (λ (child : Child). only_of g child.node) (entries_of row) else 0) test
  where
    test : (row.links == 1) ≡ true
    test = grind (arith, nat_tests)

-- ---- both sums over all nodes count the same bytes

body_same : (body : NodeBody) → body_bytes body ≡ body_length body
body_same (Folder attrs entries) = refl
body_same (Leaf (File attrs stamp length)) = refl
body_same (Leaf (Link attrs stamp target)) = refl

pub sums_same : (g : Nodes) → stored_in g ≡ sum_by node_length (values_of g)
sums_same g = λ i. sum_by (λ (row : NodeRow). body_same row.body i) (values_of g)
