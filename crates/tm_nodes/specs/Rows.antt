-- Kept journal rows.
use Rattle.std.specs.Prelude.{◌≡◌, ℕ, ◌^◌, ◌<◌, ◌⊎◌, List, ◌++◌, map, All, flat_map}
use Rattle.std.specs.Ordering.{nat_cmp}
use Rattle.std.specs.List.Sorted.{IsStrictlySortedBy}
use Rattle.tm_tree.specs.declared.rows.Row.{Row}
use Rattle.tm_codec.specs.Fields.{u8_text, u64_text}
use Rattle.tm_nodes.specs.Paths.{path_text, IsPath}

-- the id, the flags and the path
unfoldable pub row_text : Row → List ℕ
row_text row = u64_text row.id ++ u8_text row.flags ++ path_text row.path

-- 0, 1, 3 or 5
abbrev pub AreFlags : ℕ → Type 0
AreFlags flags = (flags ≡ 0) ⊎ (flags ≡ 1) ⊎ (flags ≡ 3) ⊎ (flags ≡ 5)

-- an id that fits its field, flags and a path
pub record IsRow (row : Row) : Type 0 where
  pub id : row.id < 2 ^ 64
  pub flags : AreFlags row.flags
  pub path : IsPath row.path

-- one after the other, up to the end
unfoldable pub rows_text : List Row → List ℕ
rows_text rows = flat_map row_text rows

-- by rising id
pub record AreRows (rows : List Row) : Type 0 where
  pub each : All IsRow rows
  pub rising : IsStrictlySortedBy nat_cmp (map (λ row. row.id) rows)
