-- Labelled trees, and the labelled copy that a backup makes.
use Rattle.std.specs.Prelude.{◌≡◌, ℕ, Bool, ◌&&◌, if◌then◌else◌, Option, Some, None, List, map}
use Rattle.std.specs.Cmp.Lexicographic.{pointwise}
use Rattle.std.specs.List.Sorted.{IsStrictlySortedBy}
use Rattle.std.specs.Map.{keys_of}
use Rattle.tm_base.specs.Paths.{Names, path_cmp, same_path}
use Rattle.tm_tree.specs.declared.item.Labelled.{Labelled}
use Rattle.tm_tree.specs.Items.{same_item}
use Rattle.tm_tree.specs.Trees.{Tree, at, beneath}

-- a tree whose items carry the number of the backup that first copied them
abbrev pub LabelledTree : Type 0
LabelledTree = List (Names × Labelled)

-- without the labels
abbrev pub bare : LabelledTree → Tree
bare t = map (λ row. (row.0, row.1.item)) t

abbrev pub same_tree : Tree → Tree → Bool
same_tree t u = pointwise (λ a b. same_path a.0 b.0 && same_item a.1 b.1) t u

-- all at p and beneath it is in `prev` as it is now
abbrev pub is_same_at : LabelledTree → Tree → Names → Bool
is_same_at prev now p = same_tree (bare (beneath prev p)) (beneath now p)

abbrev pub label_or : Option Labelled → ℕ → ℕ
label_or None k = k
label_or (Some l) k = l.label

-- the label at p of the copy by backup k: the old one where all at p and beneath it is as it was, else k
abbrev pub copied_label : ℕ → LabelledTree → Tree → Names → ℕ
copied_label k prev now p = if is_same_at prev now p then label_or (at prev p) k else k

abbrev pub with_labels : (Names → ℕ) → Tree → LabelledTree
with_labels label t = map (λ row. (row.0, record { label = label row.0; item = row.1 })) t

-- the copy of `now` by backup k over the tree `prev`; over none where that is empty
abbrev pub copy : ℕ → LabelledTree → Tree → LabelledTree
copy k prev now = with_labels (copied_label k prev now) now

-- a copy is a whole copy: without its labels it is the tree now, whatever it was copied over
abbrev pub CopyIsWhole : Type 0
CopyIsWhole = (k : ℕ) (prev : LabelledTree) (now : Tree) → bare (copy k prev now) ≡ now

-- a copy over the same tree is that tree, labels and all
abbrev pub CopyOverSame : Type 0
CopyOverSame = (k : ℕ) (prev : LabelledTree) → IsStrictlySortedBy path_cmp (keys_of prev) → copy k prev (bare prev) ≡ prev

-- what a copy has at p and beneath it is the copy of what is there
abbrev pub CopyOfPart : Type 0
CopyOfPart = (k : ℕ) (prev : LabelledTree) (now : Tree) (p : Names) → beneath (copy k prev now) p ≡ copy k (beneath prev p) (beneath now p)
