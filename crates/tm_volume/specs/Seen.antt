-- What callers see of a volume in memory, and what stands on the disk beneath it.
use Rattle.std.specs.Prelude.{◌≡◌, ◌==◌, ℕ, Some, List, length}
use Rattle.std.specs.Option.{option_map}
use Rattle.tm_base.specs.Paths.{Names}
use Rattle.tm_image.specs.Reads.{Entries, entries_of}
use Rattle.tm_image.specs.Room.{HasRoom}
use Rattle.tm_image.specs.Seen.{Seen as ImageSeen, IsSound as IsSoundImage, Stands, IsSettled, staged}
use Rattle.tm_items.specs.Computed.{items_of, tree_of}
use Rattle.tm_items.specs.Index.{IsIndex, Numbers}
use Rattle.tm_items.specs.Placings.{Items}
use Rattle.tm_items.specs.Rules.{IsSound}
use Rattle.tm_nodes.specs.declared.volume.VolumeHead.{VolumeHead}
use Rattle.tm_nodes.specs.Records.{volume_of, paths_of}
use Rattle.tm_records.specs.Records.{at}
use Rattle.tm_tree.specs.Trees.{Tree}
use Rattle.tm_tree.specs.States.{VolumeState}
use Rattle.tm_world.specs.Disk.{Disk}
use Rattle.tm_world.specs.declared.world.Side.{Side}
use Rattle.tm_volume_records.specs.Records.{head_key, journal_key, entry_at, placings_of}
use Rattle.tm_volume.specs.Reads.{tag_bytes, LeavesSide}
use Rattle.tm_volume_records.specs.Rules.{Tag, AreShort, IsTagged, IsGoodVolume}
use Rattle.tm_volume.specs.Stored.{StoredVolume}

-- its image, its head, the fixed paths, the tag, and how many folders were listed
pub record Seen : Type 0 where
  pub image : ImageSeen
  pub head : VolumeHead
  pub fixed : List Names
  pub tag : Tag
  pub looks : ℕ

-- ---- the volume, whose data are in blocks with these bytes

abbrev pub entries_on : Seen → (ℕ → List ℕ) → Entries
entries_on m bytes = entries_of bytes m.image.records

abbrev pub items_on : Seen → (ℕ → List ℕ) → Items
items_on m bytes = items_of (placings_of (entries_on m bytes))

abbrev pub tree_on : Seen → (ℕ → List ℕ) → Tree
tree_on m bytes = tree_of (placings_of (entries_on m bytes))

abbrev pub volume_on : Seen → (ℕ → List ℕ) → VolumeState
volume_on m bytes = record {
  name = m.head.name;
  id = m.head.id;
  capacity = m.head.capacity;
  generation = m.tag.generation;
  contents = record { tree = tree_on m bytes; fixed = m.fixed; next = m.tag.next };
}

abbrev pub stored_on : Seen → (ℕ → List ℕ) → StoredVolume
stored_on m bytes = record {
  volume = volume_on m bytes;
  clean = m.tag.clean == 1;
  journal = option_map (λ r. r.length) (at journal_key m.image.records);
}

-- ---- what a volume keeps, whatever the bytes of its data

-- the items keep their rules and their lengths, and the index has the number of each place
pub record IsShelf (m : Seen) (numbers : Numbers) : Type 0 where
  pub side : m.image.side ≡ Side.Volume
  pub tag_is : m.image.root.tag ≡ tag_bytes m.tag
  pub tagged : IsTagged m.tag
  pub head_is : option_map (λ r. volume_of r.meta) (at head_key m.image.records) ≡ Some (Some m.head)
  pub sound : (bytes : ℕ → List ℕ) → IsSound (items_on m bytes)
  pub lengths : AreShort m.image.records
  pub index_is : (bytes : ℕ → List ℕ) → IsIndex (items_on m bytes) numbers

-- what every volume in memory keeps: its image, the tag, the head, and the items, of which none is longer than files may be
pub record IsKept (m : Seen) : Type 0 where
  pub image : IsSoundImage m.image
  pub side : m.image.side ≡ Side.Volume
  pub tag_is : m.image.root.tag ≡ tag_bytes m.tag
  pub tagged : IsTagged m.tag
  pub head_is : option_map (λ r. volume_of r.meta) (at head_key m.image.records) ≡ Some (Some m.head)
  pub sound : (bytes : ℕ → List ℕ) → IsSound (items_on m bytes)
  pub lengths : AreShort m.image.records

-- the rules of a volume and of its image hold, with some index
pub record IsShelved (m : Seen) : Type 0 where
  pub numbers : Numbers
  pub shelf : IsShelf m numbers
  pub image : IsSoundImage m.image

-- no commit is under way, as many blocks are free as the table has, the side has so many blocks, and none is staged
pub record IsReady (m : Seen) (blocks : ℕ) : Type 0 where
  pub settled : IsSettled m.image
  pub space : HasRoom m.image
  pub count : length m.image.used ≡ blocks
  pub unstaged : (b : ℕ) → staged b m.image ≡ 0

-- ---- the disk

-- the disk holds the image, its entries keep the rules of a volume, and the data of the head are the fixed paths
pub record StandsOn (m : Seen) (disk : Disk) : Type 0 where
  pub stands : Stands m.image disk
  pub good : IsGoodVolume (entries_on m disk.bytes) m.tag
  pub fixed : option_map (λ e. paths_of e.bytes) (entry_at head_key (entries_on m disk.bytes)) ≡ Some (Some m.fixed)

-- whatever a stop leaves of the disk on which a volume stands reads as that volume
abbrev pub StandsLeaves : Type 0
StandsLeaves = (m : Seen) (blocks : ℕ) (disk : Disk) → IsKept m → IsReady m blocks → StandsOn m disk → LeavesSide (Some (stored_on m disk.bytes)) disk
