-- What the calls of a volume answer.
use Rattle.std.specs.Prelude.{◌≡◌, ◌≤◌, ℕ, ◌^◌, ◌-◌, false, Option, Some, Result, Ok, Err}
use Rattle.tm_base.specs.declared.refused.Refused.{Refused}
use Rattle.tm_base.specs.declared.refused.LineFault.{LineFault}
use Rattle.tm_base.specs.declared.refused.LineFault.TheVariants.{Refused as RefusedFor, Fault, Memory}
use Rattle.tm_tree.specs.declared.item.Item.{Item}
use Rattle.tm_tree.specs.declared.record.ItemRow.{ItemRow}
use Rattle.tm_image.specs.Load.{Fails}
use Rattle.tm_image.specs.Reads.{Entries, ReadsAsTable}
use Rattle.tm_world.specs.Disk.{Image}
use Rattle.tm_world.specs.declared.cause.Cause.{Cause}
use Rattle.tm_world.specs.declared.cause.Cause.TheVariants as cause
use Rattle.tm_world.specs.declared.world.Side.TheVariants.{Volume as OfVolume}
use Rattle.tm_volume.specs.Reads.{SideReads, tag_bytes}
use Rattle.tm_volume.specs.Room.{body_of}
use Rattle.tm_volume_records.specs.Rules.{Tag, IsTagged, IsGoodVolume, IsLeastBad}
use Rattle.tm_volume.specs.Stored.{StoredVolume}
use Rattle.tm_base.specs.Limits.{max_blocks}

-- the item that a walk comes to, with a file's length in place of its bytes, or why the walk stops
abbrev pub FindsRow : Result Item Refused → Result ItemRow LineFault → Type 0
FindsRow way (Ok row) = (e : Item) × (way ≡ Ok e) × (row.body ≡ body_of e)
FindsRow way (Err (RefusedFor why)) = way ≡ Err why
FindsRow way (Err (Fault side)) = ⊥
FindsRow way (Err Memory) = Unit {0}

-- a step of reading a volume's image fails, at this place: a step of every image's, or a record's rule, or the generations
-- are spent
abbrev pub FailsVolume : Image → Cause → ℕ → Type 0
FailsVolume image cause.Record place = (entries : Entries) × (tag : Tag) × IsTagged tag × ReadsAsTable OfVolume entries (tag_bytes tag) image × IsLeastBad entries tag place
FailsVolume image cause.Spent place =
    (entries : Entries) × (tag : Tag) × IsTagged tag × ReadsAsTable OfVolume entries (tag_bytes tag) image × IsGoodVolume entries tag × (tag.clean ≡ 0) × (tag.generation ≡ 2 ^ 62 - 1) × (place ≡ 0)
FailsVolume image other place = Fails OfVolume image.count image.bytes other place

-- ---- laws

-- one check fails, at one place
abbrev pub OneVolumeFailure : Type 0
OneVolumeFailure = (image : Image) (why why2 : Cause) (place place2 : ℕ) → image.count ≤ max_blocks
    → FailsVolume image why place → FailsVolume image why2 place2 → (why2 ≡ why) × (place2 ≡ place)

-- a volume that was not closed cleanly and has the last generation
pub record IsSpent (s : Option StoredVolume) : Type 0 where
  pub volume : StoredVolume
  pub is : s ≡ Some volume
  pub unclean : volume.clean ≡ false
  pub last : volume.volume.generation ≡ 2 ^ 62 - 1

-- no check fails of an image that reads as something, but that the generations are spent
abbrev pub ReadsOrFailsVolume : Type 0
ReadsOrFailsVolume = (image : Image) (s : Option StoredVolume) (why : Cause) (place : ℕ) → 3 ≤ image.count → image.count ≤ max_blocks
    → SideReads image s → FailsVolume image why place → (why ≡ cause.Spent) × IsSpent s
