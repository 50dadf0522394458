-- The rows of a journal by rising id, and what touches make of them.
use Rattle.std.specs.Prelude.{ℕ, ◌+◌, ◌%◌, Bool, not, ◌&&◌, ◌||◌, if◌then◌else◌, ◌==◌, nat_lt, List, [], ◌∷◌, ◌++◌, filter, length, map}
use Rattle.std.specs.Ordering.{nat_cmp}
use Rattle.std.specs.List.Sorted.{IsStrictlySortedBy}
use Rattle.tm_base.specs.Paths.{same_path, is_prefix}
use Rattle.tm_tree.specs.declared.rows.Row.{Row}
use Rattle.tm_tree.specs.declared.rows.Touch.{Touch}

-- the flag MustScanSubDirs: all beneath the path too
abbrev pub must_scan : ℕ → Bool
must_scan flags = flags % 2 == 1

-- whether a touch takes an older row away: one at its path that has no flags, and with MustScanSubDirs each at or beneath it
abbrev pub replaces : Row → Row → Bool
replaces touch row = (same_path touch.path row.path && (row.flags == 0)) || (must_scan touch.flags && is_prefix touch.path row.path)

-- one row at the root
abbrev pub root_row : ℕ → ℕ → List Row
root_row id flags = record { id = id; path = []; flags = flags } ∷ []

-- more rows than the capacity become one at the root: MustScanSubDirs and UserDropped
abbrev pub capped : ℕ → ℕ → List Row → List Row
capped capacity newest rows = if nat_lt capacity (length rows) then root_row newest 3 else rows

abbrev pub add_touch : ℕ → List Row → Row → List Row
add_touch capacity rows touch = capped capacity touch.id (filter (λ row. not (replaces touch row)) rows ++ touch ∷ [])

-- all events dropped: MustScanSubDirs and KernelDropped
abbrev pub dropped : ℕ → List Row
dropped id = root_row id 5

-- the rows with ids above a cursor
abbrev pub rows_above : ℕ → List Row → List Row
rows_above cursor rows = filter (λ row. nat_lt cursor row.id) rows

abbrev pub row_of : ℕ → Touch → Row
row_of id touch = record { id = id; path = touch.path; flags = touch.flags }

-- the touches of a line, which draw one id after the other
abbrev pub add_touches : ℕ → ℕ → List Row → List Touch → List Row
add_touches capacity next rows [] = rows
add_touches capacity next rows (touch ∷ touches) = add_touches capacity (next + 1) (add_touch capacity rows (row_of next touch)) touches

-- by rising id
abbrev pub AreRising : List Row → Type 0
AreRising rows = IsStrictlySortedBy nat_cmp (map (λ row. row.id) rows)
