-- What callers see of an image in memory, and what stands on the disk beneath it.
use Rattle.std.specs.Prelude.{◌≡◌, ◌≤◌, ◌<◌, ◌+◌, ◌-◌, ◌/◌, ◌^◌, ℕ, List, length, slice_index}
use Rattle.std.specs.List.{All}
use Rattle.std.specs.List.Sorted.{IsStrictlySortedBy}
use Rattle.std.specs.Ordering.{nat_cmp}
use Rattle.std.specs.Map.{keys_of, values_of}
use Rattle.tm_base.specs.Limits.{max_blocks}
use Rattle.tm_world.specs.Disk.{Disk}
use Rattle.tm_world.specs.declared.world.Side.{Side}
use Rattle.tm_gate.specs.declared.root.Root.{Root}
use Rattle.tm_gate.specs.Root.{IsRoot}
use Rattle.tm_blockmap.specs.Marks.{AreMarks}
use Rattle.tm_blockmap.specs.Counts.{times}
use Rattle.tm_records.specs.declared.record.Record.{Record}
use Rattle.tm_records.specs.Records.{Records}
use Rattle.tm_table.specs.Text.{table_text}
use Rattle.tm_image.specs.Layout.{Layout, places, first_of, blocks_for}
use Rattle.tm_image.specs.Content.{Content, in_data, IsAtRest}
use Rattle.tm_image.specs.Reads.{kept}

-- its side, the records, the used blocks, where the table lies, the root, and the slot that is named
pub record Seen : Type 0 where
  pub side : Side
  pub records : Records
  pub used : List ℕ
  pub layout : Layout
  pub root : Root
  pub named : ℕ

abbrev pub content_of : Seen → Content
content_of m = record { blocks = length m.used; records = m.records; layout = m.layout; root = m.root }

-- how often a block is owned: by the gate, the table and the data
abbrev pub owned : ℕ → Seen → ℕ
owned b m = kept b + times b (places m.layout) + in_data b m.records

-- what is used and nobody's is staged
abbrev pub staged : ℕ → Seen → ℕ
staged b m = slice_index m.used b - owned b m

-- a record has a meta that can be spelled, and as many blocks as its data fill
pub record IsKept (r : Record) : Type 0 where
  pub meta : length r.meta < 2 ^ 32
  pub many : length r.blocks ≡ (r.length + 4095) / 4096

-- what an image keeps
pub record IsSound (m : Seen) : Type 0 where
  pub marks : AreMarks m.used
  pub owners : (b : ℕ) → owned b m ≤ slice_index m.used b
  pub small : length m.used ≤ max_blocks
  pub low : 1 ≤ m.named
  pub high : m.named ≤ 2
  pub rising : IsStrictlySortedBy nat_cmp (keys_of m.records)
  pub keys : All (λ k. k < 2 ^ 64) (keys_of m.records)
  pub each : All IsKept (values_of m.records)
  pub root : IsRoot m.side (length m.used) m.root
  pub first : m.root.first ≡ first_of m.layout
  pub many : length (places m.layout) ≡ blocks_for m.root.table_len

-- but for which blocks are used all is as it was
pub record HasSameImage (old new : Seen) : Type 0 where
  pub side : new.side ≡ old.side
  pub records : new.records ≡ old.records
  pub layout : new.layout ≡ old.layout
  pub root : new.root ≡ old.root
  pub named : new.named ≡ old.named
  pub size : length new.used ≡ length old.used

-- no commit is under way: the root names a text as long as that of the records
abbrev pub IsSettled : Seen → Type 0
IsSettled m = m.root.table_len ≡ length (table_text m.records)

-- the disk holds what the image has, and all of it is stable
abbrev pub Stands : Seen → Disk → Type 0
Stands m disk = IsAtRest (content_of m) m.named disk
