-- Records in an image of so many blocks, where their table lies, and the root that names it; what a disk holds of them, and
-- what a stop leaves.
use Rattle.std.specs.Prelude.{◌≡◌, ◌⊎◌, ◌<◌, ◌≤◌, ◌+◌, ℕ, List, false}
use Rattle.std.specs.List.{sum_by}
use Rattle.std.specs.Map.{values_of}
use Rattle.tm_world.specs.Disk.{Disk, Image, IsLeft}
use Rattle.tm_gate.specs.declared.root.Root.{Root}
use Rattle.tm_gate.specs.Selector.{named_slot}
use Rattle.tm_gate.specs.Slot.{slot_of}
use Rattle.tm_gate.specs.Gate.{IsGate}
use Rattle.tm_blockmap.specs.Counts.{times}
use Rattle.tm_records.specs.Records.{Records}
use Rattle.tm_table.specs.Text.{table_text}
use Rattle.tm_image.specs.Layout.{Layout, places, LiesAt}

-- how often a block stands in the data
abbrev pub in_data : ℕ → Records → ℕ
in_data b records = sum_by (λ r. times b r.blocks) (values_of records)

pub record Content : Type 0 where
  pub blocks : ℕ
  pub records : Records
  pub layout : Layout
  pub root : Root

-- how often a block is reached from it
abbrev pub reached : ℕ → Content → ℕ
reached b c = times b (places c.layout) + in_data b c.records

-- an image names this root and holds this table, and its data blocks hold these bytes
pub record Holds (c : Content) (data_bytes : ℕ → List ℕ) (image : Image) : Type 0 where
  pub count : image.count ≡ c.blocks
  pub slot : named_slot image.bytes ≡ slot_of c.root
  pub table : LiesAt c.layout (table_text c.records) image.bytes
  pub each : (b : ℕ) → 0 < in_data b c.records → image.bytes b ≡ data_bytes b

-- a disk holds this, and all that is reached from it is stable
pub record IsAtRest (c : Content) (named : ℕ) (disk : Disk) : Type 0 where
  pub count : disk.count ≡ c.blocks
  pub gate : IsGate disk named (slot_of c.root)
  pub table : LiesAt c.layout (table_text c.records) disk.bytes
  pub high : (b : ℕ) → 0 < reached b c → 3 ≤ b
  pub stable : (b : ℕ) → 0 < reached b c → disk.loose b ≡ false

-- a new content beside the old one: the blocks that are written for it are nobody's
pub record IsBeside (old new : Content) (written : List ℕ) : Type 0 where
  pub blocks : new.blocks ≡ old.blocks
  pub high : (b : ℕ) → 0 < times b written + reached b new → 3 ≤ b
  pub apart : (b : ℕ) → 0 < times b written → reached b old + in_data b new.records ≡ 0
  pub once : (b : ℕ) → times b written ≤ 1

-- these blocks, this text and this root are those of the content
pub record Writes (c : Content) (blocks text : List ℕ) (root : Root) : Type 0 where
  pub blocks_are : blocks ≡ c.layout
  pub text_is : text ≡ table_text c.records
  pub root_is : root ≡ c.root

-- whatever a stop leaves holds this
abbrev pub LeavesSame : Content → (ℕ → List ℕ) → Disk → Type 0
LeavesSame c data_bytes disk = (image : Image) → IsLeft disk image → Holds c data_bytes image

-- whatever a stop leaves holds the old or the new
abbrev pub LeavesEither : Content → Content → (ℕ → List ℕ) → Disk → Type 0
LeavesEither old new data_bytes disk = (image : Image) → IsLeft disk image → Holds old data_bytes image ⊎ Holds new data_bytes image
