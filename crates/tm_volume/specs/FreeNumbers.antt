-- Numbers that no item has, and how many items there are.
use Rattle.std.specs.Prelude.{◌≡◌, ℕ, ◌≤◌, ◌+◌, ◌-◌, None, IsSome, length}
use Rattle.std.specs.Option.{option_map, option_map_or}
use Rattle.tm_items.specs.Placings.{Items}
use Rattle.tm_records.specs.Records.{Records, at}
use Rattle.tm_volume_records.specs.Records.{item_key, journal_key}
use Rattle.tm_base.specs.Limits.{max_items}

-- a number that no item has
pub record IsUnused (items : Items) (n : ℕ) : Type 0 where
  pub low : 2 ≤ n
  pub high : n ≤ max_items
  pub free : items n ≡ None

-- each number but the root's is an item's
abbrev pub AreTaken : Records → Type 0
AreTaken records = (n : ℕ) → 2 ≤ n → n ≤ max_items → IsSome (at (item_key n) records)

-- 1 where the journal has a record, else 0
abbrev pub journal_count : Records → ℕ
journal_count records = option_map_or (λ _. 1) (option_map (λ r. r.length) (at journal_key records)) 0

-- how many items there are, counted by records: all but those of the head and the journal
abbrev pub counted_items : Records → ℕ
counted_items records = length records - (1 + journal_count records)
