-- The identity of a stored item is its label and its path: what one backup copied at one path.
use Rattle.std.specs.Prelude.{ℕ, Bool, false, ◌==◌, nat_eq, if◌then◌else◌, Option, Some, None, List, filter, map, count_by}
use Rattle.std.specs.Set.{distinct_count}
use Rattle.tm_base.specs.Paths.{Names, parent_of, is_root}
use Rattle.tm_tree.specs.declared.item.Labelled.{Labelled}
use Rattle.tm_tree.specs.Trees.{at}
use Rattle.tm_tree.specs.Copies.{LabelledTree}

abbrev pub has_label : Option Labelled → ℕ → Bool
has_label None label = false
has_label (Some l) label = l.label == label

-- whether the tree holds the identity (label, p)
abbrev pub holds : LabelledTree → ℕ → Names → Bool
holds t label p = has_label (at t p) label

abbrev pub label_of_item : Option Labelled → ℕ
label_of_item None = 0
label_of_item (Some l) = l.label

-- the labels of the folders that hold the identity, one for each tree that has it; the folders all stand at the parent's
-- path, so their labels tell their identities apart
abbrev pub holders : List LabelledTree → ℕ → Names → List ℕ
holders trees label p = map (λ t. label_of_item (at t (parent_of p))) (filter (λ t. holds t label p) trees)

-- the links of an identity: how many identities of folders hold it, or for a root how many snapshots
abbrev pub links : List LabelledTree → ℕ → Names → ℕ
links trees label p = if is_root p then count_by (λ t. holds t label p) trees else distinct_count nat_eq (holders trees label p)
