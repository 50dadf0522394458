-- A table in a test.
use Rattle.std.specs.Prelude.{◌≡◌, ◌≤◌, ◌<◌, ◌^◌, ℕ, List, length, slice_index}
use Rattle.std.specs.List.{All}
use Rattle.std.specs.Map.{keys_of, values_of}
use Rattle.tm_blockmap.specs.Marks.{AreMarks}
use Rattle.tm_blockmap.specs.Counts.{times}
use Rattle.tm_records.specs.Records.{Records}
use Rattle.tm_pages.specs.Paged.{IsPaged, lengths, blocks_of}
use Rattle.tm_runs.specs.declared.holder.Holder.{Holder}
use Rattle.tm_runs.specs.Marks.{AreHolders}
use Rattle.tm_runs.specs.Changes.{AreNumbered, IsChangedAt}
use Rattle.pages_tests.specs.declared.table.Held.{Held}
use Rattle.pages_tests.specs.declared.table.Table.{Table}

-- records that were others, with pages of these lengths, and differ from them at these keys alone
pub record IsChange (new : Records) (lens : List ℕ) (holders : List Holder) (keys : List ℕ) : Type 0 where
  pub old : Records
  pub some : 0 < length lens
  pub paged : IsPaged lens
  pub numbered : AreNumbered old
  pub new_numbered : AreNumbered new
  pub are : AreHolders old lens holders
  pub changed : IsChangedAt keys old new

-- pages of these records, on used blocks
pub record ArePagesOf (records : Records) (marks : List ℕ) (held : Held) : Type 0 where
  pub paged : IsPaged (lengths held.pages.items)
  pub are : AreHolders records (lengths held.pages.items) held.holders.items
  pub used : (b : ℕ) → times b (blocks_of held.pages.items) ≤ slice_index marks b

-- a table in an image of so many blocks
pub record HasPages (table : Table) (total : ℕ) : Type 0 where
  pub keys : All (λ k. k < 2 ^ 64) (keys_of table.records.entries)
  pub metas : All (λ r. length r.meta < 2 ^ 32) (values_of table.records.entries)
  pub paged : IsPaged (lengths table.pages.items)
  pub are : AreHolders table.records.entries (lengths table.pages.items) table.holders.items
  pub used : (b : ℕ) → times b (blocks_of table.pages.items) ≤ slice_index table.map b
  pub are_marks : AreMarks table.map
  pub count : length table.map ≡ total
  pub small : length table.map ≤ 2 ^ 32
