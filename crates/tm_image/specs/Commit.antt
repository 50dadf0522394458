-- A commit.
use Rattle.std.specs.Prelude.{◌≡◌, ◌≤◌, ◌<◌, ◌+◌, ◌-◌, ◌/◌, ◌^◌, ℕ, List, length, slice_index, sum}
use Rattle.std.specs.List.{sum_by}
use Rattle.tm_world.specs.Disk.{Disk}
use Rattle.tm_blockmap.specs.Counts.{times}
use Rattle.tm_records.specs.declared.record.Put.{Put}
use Rattle.tm_records.specs.declared.record.Body.{Body}
use Rattle.tm_records.specs.declared.record.Body.TheVariants.{Kept, Empty, New}
use Rattle.tm_records.specs.declared.log.Undo.{Undo}
use Rattle.tm_records.specs.Records.{Records, at}
use Rattle.tm_records.specs.Puts.{CanPut, with_puts, brought}
use Rattle.tm_records.specs.Removes.{without}
use Rattle.tm_records.specs.Undo.{let_go}
use Rattle.tm_table.specs.Text.{table_text}
use Rattle.tm_gate.specs.declared.root.Root.{Root}
use Rattle.tm_gate.specs.Root.{after_root}
use Rattle.tm_image.specs.Layout.{places, first_of, blocks_for}
use Rattle.tm_image.specs.Content.{Content, in_data, reached}
use Rattle.tm_image.specs.Reads.{data_len, entries_of, LeavesOneOf}
use Rattle.tm_image.specs.Seen.{Seen, owned}
use Rattle.tm_image.specs.Room.{brought_len, need_of, table_len}

-- the records with these puts, and without these keys
abbrev pub changed : List ℕ → List Put → Records → Records
changed remove put records = without remove (with_puts put records)

-- how many blocks of data such a commit releases
abbrev pub released_by : List ℕ → List Put → Records → ℕ
released_by remove put records = data_len records + brought_len put - data_len (changed remove put records)

-- how many free blocks such a commit needs
abbrev pub commit_need : List ℕ → List Put → Records → ℕ
commit_need remove put records = need_of (table_len records) (table_len (changed remove put records)) (released_by remove put records)

-- a stop during such a commit, on a disk with these bytes, leaves the records and the tag before it or those after it
abbrev pub LeavesCommit : List ℕ → List Put → List ℕ → Seen → (ℕ → List ℕ) → Disk → Type 0
LeavesCommit remove put tag old bytes =
    LeavesOneOf old.side (entries_of bytes old.records) old.root.tag (entries_of bytes (changed remove put old.records)) tag

-- how often a block stands in the blobs that puts bring
abbrev pub brought_by : ℕ → List Put → ℕ
brought_by b puts = sum_by (λ p. times b (brought p.body)) puts

-- a blob has as many blocks as it fills
abbrev pub IsFilled : Body → Type 0
IsFilled Kept = Unit {0}
IsFilled Empty = Unit {0}
IsFilled (New blob) = length blob.blocks ≡ (blob.length + 4095) / 4096

-- a put that these records can take
pub record IsPut (records : Records) (p : Put) : Type 0 where
  pub can : CanPut p.body (at p.key records)
  pub key : p.key < 2 ^ 64
  pub meta : length p.meta < 2 ^ 32
  pub filled : IsFilled p.body

-- how often a block stands in what was let go, and how many were
abbrev pub released : ℕ → List Undo → ℕ
released b log = sum_by (λ u. times b (let_go u)) log

abbrev pub released_len : List Undo → ℕ
released_len log = sum_by (λ u. length (let_go u)) log

-- a commit that this image is ready for: its text, the blocks for it, and what was let go
pub record IsFor (text blocks : List ℕ) (log : List Undo) (m : Seen) : Type 0 where
  pub text_is : text ≡ table_text m.records
  pub some : 0 < length text
  pub many : length blocks ≡ blocks_for (length text)
  pub held : (b : ℕ) → owned b m + times b blocks + released b log ≤ slice_index m.used b
  pub room : length blocks + sum m.used ≤ length m.used + length (places m.layout) + released_len log

-- the root of the commit: it names the new table and has the new tag
abbrev pub next_root : List ℕ → List ℕ → List ℕ → Root → Root
next_root blocks text tag root = after_root root (record root { first = first_of blocks; table_len = length text; tag = tag })

-- what the commit makes of the content
abbrev pub next_content : List ℕ → List ℕ → List ℕ → Seen → Content
next_content blocks text tag m = record { blocks = length m.used; records = m.records; layout = blocks; root = next_root blocks text tag m.root }

-- the commit stands: its table is the table, and what it let go is free
pub record IsFinished (old new : Seen) (text blocks : List ℕ) (log : List Undo) (tag : List ℕ) : Type 0 where
  pub side : new.side ≡ old.side
  pub records : new.records ≡ old.records
  pub layout : new.layout ≡ blocks
  pub root : new.root ≡ next_root blocks text tag old.root
  pub size : length new.used ≡ length old.used
  pub used : (b : ℕ) → slice_index new.used b + times b (places old.layout) + released b log ≡ slice_index old.used b

-- all that the old content reaches is the table, the data, and what was let go
pub record IsCovered (old : Content) (m : Seen) (log : List Undo) : Type 0 where
  pub blocks : old.blocks ≡ length m.used
  pub each : (b : ℕ) → reached b old ≤ times b (places m.layout) + in_data b m.records + released b log
