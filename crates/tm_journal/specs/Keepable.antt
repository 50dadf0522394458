-- Rows that an image may keep, and that touches and drops leave such rows.
use Rattle.std.specs.Prelude.{◌≡◌, ℕ, ◌+◌, ◌<◌, ◌≤◌, ◌⊎◌, List, length, All}
use Rattle.tm_tree.specs.declared.rows.Row.{Row}
use Rattle.tm_tree.specs.declared.rows.Touch.{Touch}
use Rattle.tm_journal.specs.Rows.{AreRising, add_touches, dropped, rows_above}

-- 0, 1, 3 or 5
abbrev pub AreFlags : ℕ → Type 0
AreFlags flags = (flags ≡ 0) ⊎ (flags ≡ 1) ⊎ (flags ≡ 3) ⊎ (flags ≡ 5)

-- of a volume whose next number is `next`
pub record AreKeepable (capacity next : ℕ) (rows : List Row) : Type 0 where
  pub rising : AreRising rows
  pub few : length rows ≤ capacity
  pub low : All (λ row. 1 ≤ row.id) rows
  pub below : All (λ row. row.id < next) rows
  pub flags : All (λ row. AreFlags row.flags) rows

-- the touches of a line draw one number each
abbrev pub TouchesStayKeepable : Type 0
TouchesStayKeepable =
    (capacity next : ℕ) (rows : List Row) (touches : List Touch)
    → 1 ≤ capacity → 1 ≤ next
    → All (λ touch. AreFlags touch.flags) touches
    → AreKeepable capacity next rows
    → AreKeepable capacity (next + length touches) (add_touches capacity next rows touches)

-- a drop draws one
abbrev pub DropStaysKeepable : Type 0
DropStaysKeepable = (capacity id : ℕ) → 1 ≤ capacity → 1 ≤ id → AreKeepable capacity (id + 1) (dropped id)

-- numbers may be drawn for something else
abbrev pub LaterStaysKeepable : Type 0
LaterStaysKeepable = (capacity next later : ℕ) (rows : List Row) → next ≤ later → AreKeepable capacity next rows → AreKeepable capacity later rows

-- read from 0 they are all of them
abbrev pub KeepableAreAboveZero : Type 0
KeepableAreAboveZero = (capacity next : ℕ) (rows : List Row) → AreKeepable capacity next rows → rows_above 0 rows ≡ rows
