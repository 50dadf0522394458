-- A node's links are the links of its identity.
use Rattle.std.specs.Prelude.{◌≡◌, ℕ, List}
use Rattle.tm_base.specs.Paths.{Names}
use Rattle.tm_tree.specs.declared.item.Labelled.{Labelled}
use Rattle.tm_tree.specs.declared.node.NodeRow.{NodeRow}
use Rattle.tm_graph.specs.Nodes.{Nodes, links_of}
use Rattle.tm_identity.specs.Identities.{links}
use Rattle.tm_identity.specs.Stores.{IsStore, IsUnderRoot, Labels, label_of, trees_of}

abbrev pub LinksAreCounted : Type 0
LinksAreCounted = (v : ℕ → NodeRow → Labelled) (g : Nodes) (roots : List ℕ) → Labels v g → IsStore g roots
    → (r n : ℕ) (p : Names) → IsUnderRoot g roots r p n → links (trees_of v g roots) (label_of g n) p ≡ links_of g n
