-- The tree under a node.
use Rattle.std.specs.Prelude.{◌≡◌, ℕ, zero, suc, Option, Some, None, List, [], ◌∷◌, map}
use Rattle.std.specs.List.{flat_map}
use Rattle.std.specs.List.Sorted.{IsStrictlySortedBy}
use Rattle.std.specs.Map.{keys_of}
use Rattle.std.specs.Option.{option_map}
use Rattle.tm_base.specs.Paths.{Names, path_cmp}
use Rattle.tm_tree.specs.declared.item.Labelled.{Labelled}
use Rattle.tm_tree.specs.declared.node.NodeRow.{NodeRow}
use Rattle.tm_tree.specs.Trees.{at}
use Rattle.tm_graph.specs.Nodes.{Nodes, node, entries_of, IsGraph}
use Rattle.tm_graph.specs.Walks.{child_named}

-- the child of that name, if the node is a folder that has it
abbrev pub child_of : Option NodeRow → List ℕ → Option ℕ
child_of None name = None
child_of (Some row) name = child_named (entries_of row) name

-- ---- what stands at a path

abbrev pub and_then : {A B : Type 0} → Option A → (A → Option B) → Option B
and_then None f = None
and_then (Some x) f = f x

-- what v reads of the node at a path beneath node n
abbrev pub value_at : {X : Type 0} → (ℕ → NodeRow → X) → Nodes → ℕ → Names → Option X
value_at v g n [] = option_map (v n) (node g n)
value_at v g n (name ∷ p) = and_then (child_of (node g n) name) (λ m. value_at v g m p)

abbrev pub number : ℕ → NodeRow → ℕ
number n row = n

-- the node at a path beneath node n
abbrev pub number_at : Nodes → ℕ → Names → Option ℕ
number_at g n p = value_at number g n p

-- ---- all paths

-- the rows of an entry: each path goes on from its name
abbrev pub under : {X : Type 0} → List ℕ → List (Names × X) → List (Names × X)
under name t = map (λ row. (name ∷ row.0, row.1)) t

abbrev pub rows_with : {X : Type 0} → (ℕ → NodeRow → X) → Option NodeRow → ℕ → (ℕ → List (Names × X)) → List (Names × X)
rows_with v None n rows = []
rows_with v (Some row) n rows = ([], v n row) ∷ flat_map (λ child. under child.name (rows child.node)) (entries_of row)

-- the paths at and beneath node n that are less than `depth` deep, each with what v reads of its node
abbrev pub rows_to : {X : Type 0} → (ℕ → NodeRow → X) → ℕ → Nodes → ℕ → List (Names × X)
rows_to v zero g n = []
rows_to v (suc depth) g n = rows_with v (node g n) n (rows_to v depth g)

-- the tree under node n: a child's number is below its folder's, so no path is more than n deep
abbrev pub rows_of : {X : Type 0} → (ℕ → NodeRow → X) → Nodes → ℕ → List (Names × X)
rows_of v g n = rows_to v (suc n) g n

-- the rows stand in path order, and at each path is what the way down from the node comes to
abbrev pub RowsStand : Type 0
RowsStand = (v : ℕ → NodeRow → Labelled) (g : Nodes) (n : ℕ) → IsGraph g
    → IsStrictlySortedBy path_cmp (keys_of (rows_of v g n)) × ((p : Names) → at (rows_of v g n) p ≡ value_at v g n p)
