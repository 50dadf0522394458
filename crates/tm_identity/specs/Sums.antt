-- Sums over identities, each counted once.
use Rattle.std.specs.Prelude.{ℕ, ◌+◌, Bool, if◌then◌else◌, List, [], ◌∷◌, length, sum_by}
use Rattle.std.specs.List.{list_any}
use Rattle.tm_base.specs.Paths.{Names}
use Rattle.tm_tree.specs.declared.item.Labelled.{Labelled}
use Rattle.tm_tree.specs.Items.{bytes_of}
use Rattle.tm_tree.specs.Trees.{beneath}
use Rattle.tm_tree.specs.Copies.{LabelledTree}
use Rattle.tm_identity.specs.Identities.{holds}

abbrev pub is_elsewhere : List LabelledTree → ℕ → Names → Bool
is_elsewhere others label p = list_any (λ t. holds t label p) others

-- the sum of w over the identities of t that stand in none of the others
abbrev pub sum_beside : (Labelled → ℕ) → List LabelledTree → LabelledTree → ℕ
sum_beside w others t = sum_by (λ row. if is_elsewhere others row.1.label row.0 then 0 else w row.1) t

-- the sum of w over all identities: each counts in the last tree that has it
abbrev pub sum_once : (Labelled → ℕ) → List LabelledTree → ℕ
sum_once w [] = 0
sum_once w (t ∷ trees) = sum_beside w trees t + sum_once w trees

-- the same, where w may look at the whole tree and at the path
abbrev pub sum_apart : (LabelledTree → Names → Labelled → ℕ) → List LabelledTree → LabelledTree → ℕ
sum_apart w others t = sum_by (λ row. if is_elsewhere others row.1.label row.0 then 0 else w t row.0 row.1) t

abbrev pub sum_over : (LabelledTree → Names → Labelled → ℕ) → List LabelledTree → ℕ
sum_over w [] = 0
sum_over w (t ∷ trees) = sum_apart w trees t + sum_over w trees

-- the bytes of a file; none of a folder or link
abbrev pub item_length : Labelled → ℕ
item_length l = length (bytes_of l.item)

-- the bytes that a store keeps: the lengths of its file identities
abbrev pub stored_bytes : List LabelledTree → ℕ
stored_bytes trees = sum_once item_length trees

-- how many identities there are
abbrev pub identity_count : List LabelledTree → ℕ
identity_count trees = sum_once (λ _. 1) trees

-- the unique bytes of p in the snapshot t: the lengths of the file identities at p and beneath it that stand in no other snapshot
abbrev pub unique_bytes : List LabelledTree → LabelledTree → Names → ℕ
unique_bytes others t p = sum_beside item_length others (beneath t p)
