-- What every layer above may rely on.
use Rattle.std.specs.Prelude.{◌≡◌, ◌<◌, ◌≤◌, ◌+◌, ◌*◌, ℕ, List, length, map, option_map}
use Rattle.std.specs.List.Sorted.{IsStrictlySortedBy, IsStrictlyIncreasing}
use Rattle.std.specs.Ordering.{nat_cmp}
use Rattle.std.specs.Map.{keys_of}
use Rattle.tm_base.specs.Limits.{max_blocks}
use Rattle.tm_world.specs.Disk.{Disk, Image}
use Rattle.tm_world.specs.declared.world.Side.{Side}
use Rattle.tm_world.specs.declared.cause.Cause.{Cause}
use Rattle.tm_blockmap.specs.Counts.{times}
use Rattle.tm_chain.specs.Blob.{bytes_in}
use Rattle.tm_records.specs.declared.record.Put.{Put}
use Rattle.tm_records.specs.Records.{Records, at}
use Rattle.tm_image.specs.Layout.{places}
use Rattle.tm_image.specs.Reads.{Entries, entry_of, entries_of, data_len, ReadsAsTable, LeavesRead}
use Rattle.tm_image.specs.Seen.{Seen, IsSound, IsSettled, Stands}
use Rattle.tm_image.specs.Room.{table_len, free_of, HasRoom, AreStaged}
use Rattle.tm_image.specs.Commit.{changed}
use Rattle.tm_image.specs.Blank.{LacksMagic}
use Rattle.tm_image.specs.Load.{Fails}
use Rattle.tm_image.specs.Lookups.{entry_at, put_at, record_with, entry_with, unless_removed}

-- what stands is read from whatever a stop leaves
abbrev pub StandingIsLeft : Type 0
StandingIsLeft = (m : Seen) (disk : Disk) → IsSound m → IsSettled m → HasRoom m → Stands m disk → LeavesRead m.side (entries_of disk.bytes m.records) m.root.tag disk

-- and from the disk itself
abbrev pub StandingIsRead : Type 0
StandingIsRead = (m : Seen) (disk : Disk) → IsSound m → IsSettled m → HasRoom m → Stands m disk
    → ReadsAsTable m.side (entries_of disk.bytes m.records) m.root.tag (record { count = disk.count; bytes = disk.bytes })

-- an image stands for one map and one tag at most
abbrev pub OneReading : Type 0
OneReading = (side : Side) (entries entries2 : Entries) (tag tag2 : List ℕ) (image : Image) → image.count ≤ max_blocks
    → ReadsAsTable side entries tag image → ReadsAsTable side entries2 tag2 image → (entries2 ≡ entries) × (tag2 ≡ tag)

-- one that stands for something is formatted
abbrev pub ReadsOrLacks : Type 0
ReadsOrLacks = (side : Side) (entries : Entries) (tag : List ℕ) (image : Image) → ReadsAsTable side entries tag image → LacksMagic image.bytes → ⊥

-- and none of its checks fails
abbrev pub ReadsOrFails : Type 0
ReadsOrFails = (side : Side) (entries : Entries) (tag : List ℕ) (image : Image) (cause : Cause) (place : ℕ) → image.count ≤ max_blocks
    → ReadsAsTable side entries tag image → Fails side image.count image.bytes cause place → ⊥

-- checks are made of what is formatted
abbrev pub FailsOrLacks : Type 0
FailsOrLacks = (side : Side) (blocks : ℕ) (bytes : ℕ → List ℕ) (cause : Cause) (place : ℕ) → Fails side blocks bytes cause place → LacksMagic bytes → ⊥

-- one check fails, at one place
abbrev pub OneFailure : Type 0
OneFailure = (side : Side) (blocks : ℕ) (bytes : ℕ → List ℕ) (cause cause2 : Cause) (place place2 : ℕ) → blocks ≤ max_blocks
    → Fails side blocks bytes cause place → Fails side blocks bytes cause2 place2 → (cause2 ≡ cause) × (place2 ≡ place)

-- the record at a key after changes, of which no two put at one key
abbrev pub ChangedAt : Type 0
ChangedAt = (k : ℕ) (remove : List ℕ) (put : List Put) (records : Records) → IsStrictlySortedBy nat_cmp (keys_of records) → IsStrictlyIncreasing (map (λ p. p.key) put)
    → at k (changed remove put records) ≡ unless_removed k remove (record_with (put_at k put) (at k records))

-- the entry at a key is that of the record there
abbrev pub EntryAt : Type 0
EntryAt = (k : ℕ) (bytes : ℕ → List ℕ) (records : Records) → entry_at k (entries_of bytes records) ≡ option_map (entry_of bytes) (at k records)

-- so the entry there after changes is a function of the entry before
abbrev pub EntryChangedAt : Type 0
EntryChangedAt = (k : ℕ) (bytes : ℕ → List ℕ) (remove : List ℕ) (put : List Put) (records : Records) → IsStrictlySortedBy nat_cmp (keys_of records) → IsStrictlyIncreasing (map (λ p. p.key) put)
    → entry_at k (entries_of bytes (changed remove put records)) ≡ unless_removed k remove (entry_with bytes (put_at k put) (entry_at k (entries_of bytes records)))

-- blocks that hold the same bytes hold the same blob
abbrev pub BlobStays : Type 0
BlobStays = (blocks : List ℕ) (old new : ℕ → List ℕ) (count : ℕ) → count ≤ 4096 * length blocks → ((b : ℕ) → 0 < times b blocks → new b ≡ old b) → bytes_in blocks new 0 count ≡ bytes_in blocks old 0 count

-- the table of a settled image has the blocks that its text takes
abbrev pub TableFits : Type 0
TableFits = (m : Seen) → IsSound m → IsSettled m → length (places m.layout) ≡ table_len m.records

-- where the blocks are: free, the gate's, the table's, of data, or staged
abbrev pub BlocksAreShared : Type 0
BlocksAreShared = (m : Seen) (blobs : List ℕ) → IsSound m → AreStaged blobs m → free_of m + 3 + length (places m.layout) + data_len m.records + length blobs ≡ length m.used
