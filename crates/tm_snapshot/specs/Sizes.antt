-- The sizes of the store that a finished backup makes.
use Rattle.std.specs.Prelude.{◌≡◌, ◌≤◌, ℕ, List, [], ◌∷◌, ◌++◌, length}
use Rattle.tm_base.specs.Limits.{max_nodes}
use Rattle.tm_tree.specs.declared.rows.Mark.{Mark}
use Rattle.tm_graph.specs.declared.built.Built.{Built}
use Rattle.tm_store_records.specs.Held.{Held, IsWhole}
use Rattle.tm_store_records.specs.Built.{IsBuilt, snapshot_built, all_nodes, store_completed}
use Rattle.tm_store_records.specs.Room.{store_blocks}
use Rattle.tm_store_records.specs.Sizes.{table_blocks, node_count}
use Rattle.tm_snapshot.specs.Completing.{count_after}

-- the sizes of the store that a finished backup makes: of its table, and how many nodes it has
pub record AreCompletedSizes (h : Held) (built : Built) (date : ℕ) (volume : List ℕ) (id : ℕ) (mark : Mark) (bytes : ℕ → List ℕ) : Type 0 where
  pub table : table_blocks (store_completed h built date volume id mark bytes) ≡ store_blocks h.machine (h.snapshots ++ snapshot_built h built date volume id mark ∷ []) (all_nodes h built)
  pub nodes : node_count (store_completed h built date volume id mark bytes) ≡ count_after h built

-- what was built tells them, even where there would be too many nodes
abbrev pub CompletedIsSized : Type 0
CompletedIsSized = (h : Held) (built : Built) (date : ℕ) (volume : List ℕ) (id : ℕ) (mark : Mark) (bytes : ℕ → List ℕ) → IsWhole h → IsBuilt h built → length built.nodes ≤ max_nodes
    → AreCompletedSizes h built date volume id mark bytes
