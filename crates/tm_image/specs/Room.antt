-- The rule of room.
use Rattle.std.specs.Prelude.{◌≡◌, ◌≤◌, ◌-◌, ◌*◌, max, ℕ, List, length, sum}
use Rattle.std.specs.List.{sum_by}
use Rattle.tm_blockmap.specs.Counts.{times}
use Rattle.tm_records.specs.Records.{Records}
use Rattle.tm_records.specs.declared.record.Put.{Put}
use Rattle.tm_records.specs.Puts.{brought}
use Rattle.tm_table.specs.Text.{table_text}
use Rattle.tm_image.specs.Layout.{places, blocks_for}
use Rattle.tm_image.specs.Seen.{Seen, staged}

-- how many blocks the table of these records takes
abbrev pub table_len : Records → ℕ
table_len records = blocks_for (length (table_text records))

-- how many blocks are free
abbrev pub free_of : Seen → ℕ
free_of m = length m.used - sum m.used

-- what a commit needs whose table has t2 blocks in place of t, and which releases r blocks of data
abbrev pub need_of : ℕ → ℕ → ℕ → ℕ
need_of t t2 r = max t2 (2 * t2 - t - r)

-- at least as many blocks are free as the table has
abbrev pub HasRoom : Seen → Type 0
HasRoom m = length (places m.layout) ≤ free_of m

-- these are the blocks of all staged blobs, each as often as it stands there
abbrev pub AreStaged : List ℕ → Seen → Type 0
AreStaged blocks m = (b : ℕ) → times b blocks ≡ staged b m

-- how many blocks the puts bring
abbrev pub brought_len : List Put → ℕ
brought_len puts = sum_by (λ p. length (brought p.body)) puts
