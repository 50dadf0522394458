-- The way down from a node along names.
use Rattle.std.specs.Prelude.{ℕ, if◌then◌else◌, Option, Some, None, Result, Ok, Err, List, [], ◌∷◌}
use Rattle.tm_base.specs.Paths.{Names, same_name}
use Rattle.tm_graph.specs.declared.walk.Walk.{Walk}
use Rattle.tm_graph.specs.declared.walk.Walk.TheVariants.{NotFound, NotFolder}
use Rattle.tm_tree.specs.declared.node.Child.{Child}
use Rattle.tm_tree.specs.declared.node.NodeRow.{NodeRow}
use Rattle.tm_graph.specs.Nodes.{Nodes, node, entries_of, is_folder}

-- the child of that name
abbrev pub child_named : List Child → List ℕ → Option ℕ
child_named [] name = None
child_named (child ∷ entries) name = if same_name child.name name then Some child.node else child_named entries name

abbrev pub found : Option ℕ → Result ℕ Walk
found None = Err NotFound
found (Some n) = Ok n

abbrev pub step : Option NodeRow → List ℕ → Result ℕ Walk
step None name = Err NotFound
step (Some row) name = if is_folder row then found (child_named (entries_of row) name) else Err NotFolder

abbrev pub onward : Result ℕ Walk → (ℕ → Result ℕ Walk) → Result ℕ Walk
onward (Err why) way = Err why
onward (Ok n) way = way n

-- the node at the end of the way down
abbrev pub down : Nodes → ℕ → Names → Result ℕ Walk
down g n [] = Ok n
down g n (name ∷ rest) = onward (step (node g n) name) (λ m. down g m rest)
