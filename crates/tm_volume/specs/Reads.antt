-- Which volume an image reads as, and what a stop leaves.
use Rattle.std.specs.Prelude.{◌≡◌, ◌⊎◌, ℕ, ◌==◌, ◌<◌, false, Option, Some, None, length, ◌≤◌}
use Rattle.std.specs.Option.{option_map}
use Rattle.tm_gate.specs.Load.{IsUnformatted}
use Rattle.tm_gate.specs.Tag.{volume_tag}
use Rattle.tm_image.specs.Reads.{Entry, Entries, ReadsAsTable}
use Rattle.tm_items.specs.Computed.{items_of}
use Rattle.tm_items.specs.Placings.{ReadsAs}
use Rattle.tm_nodes.specs.declared.volume.VolumeHead.{VolumeHead}
use Rattle.tm_nodes.specs.Records.{volume_of, paths_of}
use Rattle.std.specs.Prelude.{List}
use Rattle.tm_tree.specs.States.{VolumeState}
use Rattle.tm_world.specs.Disk.{Disk, Image, IsLeft}
use Rattle.tm_world.specs.declared.world.Side.{Side}
use Rattle.tm_volume_records.specs.Records.{head_key, journal_key, entry_at, placings_of}
use Rattle.tm_volume_records.specs.Rules.{Tag, IsTagged, IsGoodVolume}
use Rattle.tm_volume.specs.Stored.{StoredVolume}
use Rattle.tm_base.specs.Limits.{max_blocks}

-- the tag says this
abbrev pub tag_bytes : Tag → List ℕ
tag_bytes tag = volume_tag tag.clean tag.generation tag.next

-- the head says this of the volume, and its data are the fixed paths
pub record HeadIs (e : Entry) (v : VolumeState) : Type 0 where
  pub head : VolumeHead
  pub meta : volume_of e.meta ≡ Some head
  pub name : v.name ≡ head.name
  pub id : v.id ≡ head.id
  pub capacity : v.capacity ≡ head.capacity
  pub fixed : paths_of e.bytes ≡ Some v.contents.fixed

-- entries and a tag are those of this volume: the items read as its tree
pub record VolumeIs (entries : Entries) (tag : Tag) (s : StoredVolume) : Type 0 where
  pub entry : Entry
  pub at_head : entry_at head_key entries ≡ Some entry
  pub head : HeadIs entry s.volume
  pub tree : ReadsAs (items_of (placings_of entries)) s.volume.contents.tree
  pub generation : s.volume.generation ≡ tag.generation
  pub next : s.volume.contents.next ≡ tag.next
  pub clean : s.clean ≡ (tag.clean == 1)
  pub journal : s.journal ≡ option_map (λ e. length e.bytes) (entry_at journal_key entries)

-- an image reads as this volume: its entries keep the rules and are those of the volume
pub record VolumeReads (image : Image) (s : StoredVolume) : Type 0 where
  pub entries : Entries
  pub tag : Tag
  pub tagged : IsTagged tag
  pub reads : ReadsAsTable Side.Volume entries (tag_bytes tag) image
  pub good : IsGoodVolume entries tag
  pub is : VolumeIs entries tag s

-- an image has fewer than 3 blocks, or its named slot lacks the magic
abbrev pub IsUnformattedImage : Image → Type 0
IsUnformattedImage image = (image.count < 3) ⊎ ((named : ℕ) × IsUnformatted image.bytes named)

-- an image reads as a volume, or is unformatted
abbrev pub SideReads : Image → Option StoredVolume → Type 0
SideReads image None = IsUnformattedImage image
SideReads image (Some s) = VolumeReads image s

-- whatever a stop leaves reads as this
abbrev pub LeavesSide : Option StoredVolume → Disk → Type 0
LeavesSide s disk = (image : Image) → IsLeft disk image → SideReads image s

-- whatever a stop leaves reads as the one or the other
abbrev pub LeavesEither : Option StoredVolume → Option StoredVolume → Disk → Type 0
LeavesEither old new disk = (image : Image) → IsLeft disk image → SideReads image old ⊎ SideReads image new

-- an unformatted disk, of which nothing is unsynced
pub record IsBlank (disk : Disk) : Type 0 where
  pub unformatted : (disk.count < 3) ⊎ ((named : ℕ) × IsUnformatted disk.bytes named)
  pub stable : (b : ℕ) → disk.loose b ≡ false

-- an image reads as at most one volume, and as none where it is unformatted
abbrev pub OneSide : Type 0
OneSide = (image : Image) (s t : Option StoredVolume) → image.count ≤ max_blocks → SideReads image s → SideReads image t → s ≡ t

-- a stop leaves an unformatted disk unformatted
abbrev pub BlankLeaves : Type 0
BlankLeaves = (disk : Disk) → IsBlank disk → LeavesSide None disk
