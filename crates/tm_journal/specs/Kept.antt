-- How a journal keeps its rows: by rising path, so that a touch finds those that it takes away by halving. No clause that a
-- caller reads speaks of it.
use Rattle.std.specs.Prelude.{◌≡◌, ℕ, ◌++◌, Bool, false, if◌then◌else◌, ◌||◌, nat_lt, List, [], ◌∷◌, ⊤}
use Rattle.std.specs.Ordering.{is_lt}
use Rattle.std.specs.List.{AllByRecursion}
use Rattle.tm_base.specs.Paths.{Names, path_cmp}
use Rattle.tm_tree.specs.declared.rows.Row.{Row}
use Rattle.tm_journal.specs.Cover.{covers}
use Rattle.tm_journal.specs.Journals.{IsInOrder}

-- before the first whose id isn't below
abbrev pub put_by_id : Row → List Row → List Row
put_by_id row [] = row ∷ []
put_by_id row (next ∷ rows) = if nat_lt next.id row.id then next ∷ put_by_id row rows else row ∷ next ∷ rows

-- the rows that a caller sees
abbrev pub by_id : List Row → List Row
by_id [] = []
by_id (row ∷ rows) = put_by_id row (by_id rows)

abbrev pub is_before : Row → Names → Bool
is_before row path = is_lt (path_cmp row.path path)

-- what a touch covers stands between the rows before its path and those that this test refuses
abbrev pub reaches : Row → Row → Bool
reaches touch row = is_before row touch.path || covers touch row.path

-- no row is before one in front of it
abbrev pub IsByPath : List Row → Type 0
IsByPath [] = ⊤
IsByPath (row ∷ rows) = AllByRecursion (λ later. is_before later row.path ≡ false) rows × IsByPath rows

-- the row at the root that an overflow or a drop left, and the others
pub record IsKept (capacity : ℕ) (root rows : List Row) : Type 0 where
  pub in_order : IsInOrder capacity (by_id (root ++ rows))
  pub by_path : IsByPath rows
