-- What an image stands for: a map from keys to metas and data, and a tag.
use Rattle.std.specs.Prelude.{◌≡◌, ◌⊎◌, ◌<◌, ◌≤◌, ◌+◌, ℕ, List, map, length, cond, nat_lt, Option, None, option_map, unwrap_or}
use Rattle.std.specs.List.{sum_by}
use Rattle.std.specs.Map.{values_of}
use Rattle.tm_world.specs.Disk.{Disk, Image, IsLeft}
use Rattle.tm_world.specs.declared.world.Side.{Side}
use Rattle.tm_gate.specs.Root.{IsRoot}
use Rattle.tm_blockmap.specs.Counts.{times}
use Rattle.tm_chain.specs.Blob.{bytes_in}
use Rattle.tm_records.specs.declared.record.Record.{Record}
use Rattle.tm_records.specs.Records.{Records}
use Rattle.tm_table.specs.Text.{table_text}
use Rattle.tm_table.specs.Good.{AreRecords}
use Rattle.tm_image.specs.Layout.{places, first_of}
use Rattle.tm_image.specs.Content.{Content, in_data, Holds}

-- a meta and data
pub record Entry : Type 0 where
  pub meta : List ℕ
  pub bytes : List ℕ

-- each with its key
abbrev pub Entries : Type 0
Entries = List (ℕ × Entry)

-- what a record says, its data read from these blocks
abbrev pub entry_of : (ℕ → List ℕ) → Record → Entry
entry_of bytes r = record { meta = r.meta; bytes = bytes_in r.blocks bytes 0 r.length }

abbrev pub entries_of : (ℕ → List ℕ) → Records → Entries
entries_of bytes records = map (λ e. (e.0, entry_of bytes e.1)) records

-- blocks 0 to 2 are those of the gate
abbrev pub kept : ℕ → ℕ
kept b = cond (nat_lt b 3) 1 0

-- how many blocks the data of a record have, none where there is none
abbrev pub blocks_of : Option Record → ℕ
blocks_of found = unwrap_or (option_map (λ r. length r.blocks) found) 0

-- how many blocks the data have
abbrev pub data_len : Records → ℕ
data_len records = sum_by (λ r. length r.blocks) (values_of records)

-- a content that keeps the rules of an image: its root and its records are good, its root names its table,
-- no block is claimed twice, and as many blocks are free as the table has
pub record IsGood (side : Side) (c : Content) : Type 0 where
  pub root : IsRoot side c.blocks c.root
  pub first : c.root.first ≡ first_of c.layout
  pub size : c.root.table_len ≡ length (table_text c.records)
  pub records : AreRecords c.blocks None c.records
  pub inside : (b : ℕ) → 0 < times b (places c.layout) → b < c.blocks
  pub once : (b : ℕ) → kept b + times b (places c.layout) + in_data b c.records ≤ 1
  pub room : 3 + data_len c.records + (length (places c.layout) + length (places c.layout)) ≤ c.blocks

-- an image stands for these entries and this tag, wherever the table lies
pub record ReadsAsTable (side : Side) (entries : Entries) (tag : List ℕ) (image : Image) : Type 0 where
  pub content : Content
  pub good : IsGood side content
  pub holds : Holds content image.bytes image
  pub entries_are : entries ≡ entries_of image.bytes content.records
  pub tag_is : tag ≡ content.root.tag

-- whatever a stop leaves stands for these entries and this tag
abbrev pub LeavesRead : Side → Entries → List ℕ → Disk → Type 0
LeavesRead side entries tag disk = (image : Image) → IsLeft disk image → ReadsAsTable side entries tag image

-- whatever a stop leaves stands for the old entries and tag, or for the new
abbrev pub LeavesOneOf : Side → Entries → List ℕ → Entries → List ℕ → Disk → Type 0
LeavesOneOf side old old_tag new new_tag disk = (image : Image) → IsLeft disk image → ReadsAsTable side old old_tag image ⊎ ReadsAsTable side new new_tag image
