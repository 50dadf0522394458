-- Which records a table may have.
use Rattle.std.specs.Prelude.{◌≡◌, ◌<◌, ◌≤◌, ◌+◌, ◌*◌, ◌/◌, ◌^◌, ℕ, [], ◌∷◌, length, Option, Some, None}
use Rattle.std.specs.List.{All}
use Rattle.tm_records.specs.declared.record.Record.{Record}
use Rattle.tm_records.specs.Records.{Records}

-- a key is above the one before, if there is one
abbrev pub IsAbove : Option ℕ → ℕ → Type 0
IsAbove None key = Unit {0}
IsAbove (Some low) key = low < key

-- a record after the key `before`, in an image of so many blocks: its data are no longer than the image, and lie in as
-- many blocks as they fill, none of the first three
pub record IsRecord (total : ℕ) (before : Option ℕ) (e : ℕ × Record) : Type 0 where
  pub above : IsAbove before e.0
  pub key : e.0 < 2 ^ 64
  pub meta : length e.1.meta < 2 ^ 32
  pub size : e.1.length ≤ 4096 * total
  pub many : length e.1.blocks ≡ (e.1.length + 4095) / 4096
  pub each : All (λ b. (3 ≤ b) × (b < total)) e.1.blocks

-- records by rising key, the first after the key `before`
abbrev pub AreRecords : ℕ → Option ℕ → Records → Type 0
AreRecords total before [] = Unit {0}
AreRecords total before (e ∷ es) = IsRecord total before e × AreRecords total (Some e.0) es

-- the last key of records, or the key before them
abbrev pub last_key : Option ℕ → Records → Option ℕ
last_key before [] = before
last_key before (e ∷ es) = last_key (Some e.0) es
