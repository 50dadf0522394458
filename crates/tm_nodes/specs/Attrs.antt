-- The attributes of an item in its record.
use Rattle.std.specs.Prelude.{ℕ, ◌^◌, ◌<◌, ◌≤◌, List, ◌++◌, length, All, flat_map}
use Rattle.std.specs.Map.{keys_of}
use Rattle.std.specs.List.Sorted.{IsStrictlySortedBy}
use Rattle.tm_base.specs.Limits.{max_extras, max_value_bytes}
use Rattle.tm_base.specs.IsName.{IsName}
use Rattle.tm_base.specs.Paths.{name_cmp}
use Rattle.tm_base.specs.Days.{last_moment}
use Rattle.tm_tree.specs.declared.attrs.Attrs.{Attrs}
use Rattle.tm_codec.specs.Fields.{u8_text, u16_text, u32_text, u64_text, short_text, long_text}

-- an extra attribute: its name and its value
unfoldable pub extra_text : List ℕ × List ℕ → List ℕ
extra_text extra = short_text extra.0 ++ long_text extra.1

-- the mode, the user, the group, the date, and the extra attributes after their number
unfoldable pub attrs_text : Attrs → List ℕ
attrs_text a =
    u16_text a.mode ++ u32_text a.uid ++ u32_text a.gid ++ u64_text a.modified ++ u8_text (length a.extra) ++ flat_map extra_text a.extra

-- a name, and at most 4,096 bytes of value
pub record IsExtra (extra : List ℕ × List ℕ) : Type 0 where
  pub name : IsName extra.0
  pub value : length extra.1 ≤ max_value_bytes

-- a mode of at most 7777 (octal), a date of at most the year 9999, and at most 16 extra attributes by rising name
pub record IsAttrs (a : Attrs) : Type 0 where
  pub mode : a.mode ≤ 4095
  pub uid : a.uid < 2 ^ 32
  pub gid : a.gid < 2 ^ 32
  pub modified : a.modified ≤ last_moment
  pub few : length a.extra ≤ max_extras
  pub each : All IsExtra a.extra
  pub rising : IsStrictlySortedBy name_cmp (keys_of a.extra)
