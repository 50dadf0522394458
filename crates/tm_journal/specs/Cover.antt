-- What rows cover, and that touches and drops never cover less.
use Rattle.std.specs.Prelude.{◌≡◌, ℕ, ◌<◌, Bool, true, ◌||◌, if◌then◌else◌, List}
use Rattle.std.specs.List.{list_any}
use Rattle.tm_base.specs.Paths.{Names, same_path, is_prefix}
use Rattle.tm_tree.specs.declared.rows.Row.{Row}
use Rattle.tm_tree.specs.declared.rows.Touch.{Touch}
use Rattle.tm_journal.specs.Rows.{must_scan, rows_above, row_of, add_touch, add_touches, dropped}

-- a row covers its own path, and with MustScanSubDirs everything beneath
abbrev pub covers : Row → Names → Bool
covers row path = if must_scan row.flags then is_prefix row.path path else same_path row.path path

abbrev pub are_covering : List Row → Names → Bool
are_covering rows path = list_any (λ row. covers row path) rows

-- whether the rows above a cursor cover a path
abbrev pub covered_since : ℕ → List Row → Names → Bool
covered_since cursor rows path = are_covering (rows_above cursor rows) path

abbrev pub touched : List Touch → Names → Bool
touched touches path = list_any (λ touch. covers (row_of 0 touch) path) touches

-- what the rows above a cursor covered stays covered by them, and so is what the touches cover
abbrev pub TouchesStayCovered : Type 0
TouchesStayCovered =
    (capacity cursor next : ℕ) (rows : List Row) (touches : List Touch) (path : Names)
    → cursor < next
    → (covered_since cursor rows path || touched touches path) ≡ true
    → covered_since cursor (add_touches capacity next rows touches) path ≡ true

abbrev pub TouchStaysCovered : Type 0
TouchStaysCovered =
    (capacity cursor : ℕ) (rows : List Row) (touch : Row) (path : Names)
    → cursor < touch.id
    → (covered_since cursor rows path || covers touch path) ≡ true
    → covered_since cursor (add_touch capacity rows touch) path ≡ true

-- after a drop all is covered
abbrev pub DropCoversAll : Type 0
DropCoversAll = (cursor id : ℕ) (path : Names) → cursor < id → covered_since cursor (dropped id) path ≡ true
