-- What is kept at a path: the blocks of an image, and when each of them was written and all were synced.
-- Times are numbers of changes in the record.
use Rattle.std.specs.Prelude.{◌≡◌, ◌≤◌, ℕ, true, List, length, Option, Some, None, replicate, slice_index_or, slice_index, nat_lt}
use Rattle.std.specs.Option.{ForSome}
use Rattle.tm_base.specs.Limits.{max_blocks}
use Rattle.tm_world.specs.Disk.{Disk, nothing}

pub record SiteView : Type 0 where
  pub path : List ℕ
  -- how many blocks the image has that stands there, or none where nothing stands
  pub count : Option ℕ
  pub blocks : List (List ℕ)
  pub times : List ℕ
  pub settled : ℕ

-- the bytes of a block of zeros
abbrev pub zero_block : List ℕ
zero_block = replicate 4096 0

-- a path at which nothing stands, and memory for so many blocks of zeros
abbrev pub blank : List ℕ → ℕ → SiteView
blank path n = record { path = path; count = None; blocks = replicate n zero_block; times = replicate n 0; settled = 0 }

-- the disk of so many of these blocks; those written later than they were synced are loose
unfoldable pub disk_in : Option ℕ → List (List ℕ) → List ℕ → ℕ → Disk
disk_in None blocks times settled = nothing
disk_in (Some n) blocks times settled = record {
  there = true;
  count = n;
  bytes = λ b. slice_index_or blocks b zero_block;
  loose = λ b. nat_lt settled (slice_index times b);
}

-- the disk that stands there
abbrev pub disk_of : SiteView → Disk
disk_of site = disk_in site.count site.blocks site.times site.settled

abbrev pub count_at : SiteView → ℕ
count_at site = (disk_of site).count

-- nothing there was written or synced after this time
pub record IsBy (time : ℕ) (site : SiteView) : Type 0 where
  pub settled : site.settled ≤ time
  pub written : (b : ℕ) → slice_index site.times b ≤ time

-- the image has no more blocks than are kept; where none stands, all are zeros that were never written
pub record KeepsImage (count : Option ℕ) (blocks : List (List ℕ)) (times : List ℕ) : Type 0 where
  pub same : length times ≡ length blocks
  pub most : length blocks ≤ max_blocks
  pub within : ForSome count (λ n. n ≤ length blocks)
  pub zeros : count ≡ None → (b : ℕ) → slice_index_or blocks b zero_block ≡ zero_block
  pub unwritten : count ≡ None → (b : ℕ) → slice_index times b ≡ 0
