-- The tag alone takes another's place.
use Rattle.std.proofs.Common.{◌≡◌, ℕ, ◌-◌, ◌≤◌, List, [], refl, arith}
use Rattle.tm_world.specs.Disk.{Disk}
use Rattle.tm_world.specs.Outside.{disk}
use Rattle.tm_world.specs.Log.{Log, now}
use Rattle.tm_world.specs.Runs.{Runs}
use Rattle.tm_world.proofs.Going.{Runs-weaker}
use Rattle.tm_gate.specs.declared.root.Root.{Root}
use Rattle.tm_gate.specs.Root.{after_root}
use Rattle.tm_gate.specs.Tag.{IsTag}
use Rattle.tm_gate.specs.Slot.{slot_of}
use Rattle.tm_gate.specs.Gate.{IsTurned, LeavesOldOrNew}
use Rattle.tm_chain.specs.Differs.{DiffersIn}
use Rattle.tm_image.specs.Content.{IsAtRest, IsBeside, LeavesEither}
use Rattle.tm_image.specs.Reads.{entries_of, LeavesOneOf}
use Rattle.tm_image.specs.Seen.{Seen, IsSound, IsSettled, content_of, Stands}
use Rattle.tm_image.specs.Room.{HasRoom}
use Rattle.tm_image.proofs.Stopping.{turn_leaves, turned_rest, turned_data}
use Rattle.tm_image.proofs.Standing.{good, leaves_one_of, entries_same}

-- the root with another tag
abbrev pub tagged : List ℕ → Root → Root
tagged tag root = after_root root (record root { tag = tag })

-- the image with another tag
abbrev pub Tagged : List ℕ → ℕ → Seen → Seen
Tagged tag named m = record { side = m.side; records = m.records; used = m.used; layout = m.layout; root = tagged tag m.root; named = named }

nothing_differs : (d : Disk) → DiffersIn [] d d
nothing_differs d = record { there = refl; count = refl; bytes = λ b out. refl; loose = λ b out. refl }

module _ (m : Seen) (sound : IsSound m) (tag : List ℕ) (is_tag : IsTag m.side tag) where
  pub sound_tagged : (named : ℕ) → 1 ≤ named → named ≤ 2 → IsSound (Tagged tag named m)
  sound_tagged named low high = record {
    marks = sound.marks;
    owners = sound.owners;
    small = sound.small;
    low = low;
    high = high;
    rising = sound.rising;
    keys = sound.keys;
    each = sound.each;
    root = record { kind = sound.root.kind; version = sound.root.version; first_least = sound.root.first_least; first_most = sound.root.first_most; length_least = sound.root.length_least; length_most = sound.root.length_most; tag = is_tag };
    first = sound.first;
    many = sound.many;
  }

  module _ (d0 : Disk) (rest : Stands m d0) where
    beside : IsBeside (content_of m) (content_of (Tagged tag m.named m)) []
    beside = record {
      blocks = refl;
      high = λ b some. rest.high b (omega (arith, some));
      apart = λ b some. absurd (omega (arith, some));
      once = λ b. omega arith;
    }

    pub tagged_leaves : (d : Disk) → LeavesOldOrNew d0 (3 - m.named) (slot_of (tagged tag m.root)) d → LeavesEither (content_of m) (content_of (Tagged tag m.named m)) d0.bytes d
    tagged_leaves d leaves = turn_leaves (content_of m) (content_of (Tagged tag m.named m)) m.named sound.low sound.high [] beside d0 d0 rest (nothing_differs d0) rest.table d leaves

    pub tagged_rest : (d : Disk) → IsTurned d0 (3 - m.named) (slot_of (tagged tag m.root)) d → IsAtRest (content_of (Tagged tag m.named m)) (3 - m.named) d
    tagged_rest d turned = turned_rest (content_of m) (content_of (Tagged tag m.named m)) m.named sound.low sound.high [] beside d0 d0 rest (nothing_differs d0) rest.table d turned

    pub tagged_data : (d : Disk) → IsTurned d0 (3 - m.named) (slot_of (tagged tag m.root)) d → entries_of d.bytes m.records ≡ entries_of d0.bytes m.records
    tagged_data d turned = entries_same m.records d.bytes d0.bytes sound.each (turned_data (content_of m) (content_of (Tagged tag m.named m)) m.named sound.low sound.high [] beside d0 d0 rest (nothing_differs d0) rest.table d turned)

  pub tagged_run : (l0 l1 : Log) → Stands m (disk m.side (now l0)) → IsSettled m → HasRoom m → Runs m.side (LeavesOldOrNew (disk m.side (now l0)) (3 - m.named) (slot_of (tagged tag m.root))) l0 l1
      → Runs m.side (LeavesOneOf m.side (entries_of (disk m.side (now l0)).bytes m.records) m.root.tag (entries_of (disk m.side (now l0)).bytes m.records) tag) l0 l1
  tagged_run l0 l1 rest settled room runs =
      let d0 : Disk = disk m.side (now l0) in
      Runs-weaker m.side _ (LeavesOneOf m.side (entries_of (disk m.side (now l0)).bytes m.records) m.root.tag (entries_of (disk m.side (now l0)).bytes m.records) tag) l0 l1
      (λ d leaves. leaves_one_of m.side (content_of m) (content_of (Tagged tag m.named m)) d0.bytes (good m sound settled room) sound.each (good (Tagged tag m.named m) (sound_tagged m.named sound.low sound.high) settled room) sound.each d
      (tagged_leaves d0 rest d leaves))
      runs
