-- A side before it is formatted, and what a stop leaves while it is.
use Rattle.std.specs.Prelude.{◌≡◌, ◌≢◌, ◌⊎◌, ◌<◌, ◌≤◌, ◌+◌, ◌*◌, ◌^◌, ℕ, List, [], length, slice_index, false}
use Rattle.std.specs.List.{All}
use Rattle.std.specs.List.Sorted.{IsStrictlySortedBy}
use Rattle.std.specs.Ordering.{nat_cmp}
use Rattle.std.specs.Map.{keys_of, values_of}
use Rattle.tm_base.specs.Limits.{max_blocks}
use Rattle.tm_world.specs.Disk.{Disk, Image, IsLeft}
use Rattle.tm_world.specs.declared.world.Side.{Side}
use Rattle.tm_gate.specs.Selector.{named_by, named_slot}
use Rattle.tm_gate.specs.Slot.{HasMagic}
use Rattle.tm_blockmap.specs.Marks.{AreMarks}
use Rattle.tm_blockmap.specs.Counts.{times}
use Rattle.tm_records.specs.Records.{Records}
use Rattle.tm_table.specs.Text.{table_text}
use Rattle.tm_image.specs.Layout.{blocks_for}
use Rattle.tm_records.specs.declared.record.Record.{Record}
use Rattle.tm_records.specs.declared.record.Put.{Put}
use Rattle.tm_records.specs.declared.record.Body.TheVariants.{Empty}
use Rattle.tm_image.specs.Content.{Content, in_data, reached, Holds}
use Rattle.tm_image.specs.Reads.{Entries, ReadsAsTable, kept}

-- the named slot lacks the magic
abbrev pub LacksMagic : (ℕ → List ℕ) → Type 0
LacksMagic bytes = ¬ HasMagic (named_slot bytes)

-- it lacks it, whatever a stop leaves: the selector and the slot that it names are stable
pub record IsBlank (disk : Disk) : Type 0 where
  pub lacks : LacksMagic disk.bytes
  pub selector_stable : disk.loose 0 ≡ false
  pub slot_stable : disk.loose (named_by (disk.bytes 0)) ≡ false

-- a record of a new image: it has no data
pub record IsFirstPut (p : Put) : Type 0 where
  pub body : p.body ≡ Empty
  pub key : p.key < 2 ^ 64
  pub meta : length p.meta < 2 ^ 32

-- the record that it makes
pub record IsWithoutData (r : Record) : Type 0 where
  pub meta : length r.meta < 2 ^ 32
  pub length : r.length ≡ 0
  pub blocks : r.blocks ≡ []

-- whatever a stop leaves is unformatted, or stands for these entries and this tag
abbrev pub LeavesNoneOr : Side → Entries → List ℕ → Disk → Type 0
LeavesNoneOr side entries tag disk = (image : Image) → IsLeft disk image → LacksMagic image.bytes ⊎ ReadsAsTable side entries tag image

-- a content without data, for the blocks of this disk
pub record IsFirst (c : Content) (disk : Disk) : Type 0 where
  pub count : disk.count ≡ c.blocks
  pub high : (b : ℕ) → 0 < reached b c → 3 ≤ b
  pub empty : (b : ℕ) → in_data b c.records ≡ 0

-- whatever a stop leaves is unformatted, or holds this
abbrev pub LeavesNoneOrHeld : Content → (ℕ → List ℕ) → Disk → Type 0
LeavesNoneOrHeld c data_bytes disk = (image : Image) → IsLeft disk image → LacksMagic image.bytes ⊎ Holds c data_bytes image

-- a new image of so many blocks in memory: its records without data, the blocks of its table, the used blocks, the text
pub record IsDraft (total : ℕ) (es : Records) (table used text : List ℕ) : Type 0 where
  pub small : total ≤ max_blocks
  pub rising : IsStrictlySortedBy nat_cmp (keys_of es)
  pub keys : All (λ k. k < 2 ^ 64) (keys_of es)
  pub each : All IsWithoutData (values_of es)
  pub some : es ≢ []
  pub text_is : text ≡ table_text es
  pub many : length table ≡ blocks_for (length text)
  pub used_is : (b : ℕ) → slice_index used b ≡ kept b + times b table
  pub size : length used ≡ total
  pub marks : AreMarks used
  pub room : 3 + 2 * length table ≤ total
