-- A store in memory, over an image.
use Rattle.std.specs.Prelude.{◌≡◌, ◌<◌, ◌^◌, ℕ, Option, Some, List, [], length, map}
use Rattle.std.specs.List.{All}
use Rattle.std.specs.Option.{option_map, unwrap_or}
use Rattle.tm_base.specs.Limits.{max_snapshots}
use Rattle.tm_world.specs.declared.world.Side.TheVariants.{Store}
use Rattle.tm_chain.specs.Blob.{bytes_in}
use Rattle.tm_records.specs.Records.{Records, at}
use Rattle.tm_tree.specs.States.{StoreState}
use Rattle.tm_graph.specs.Nodes.{Nodes}
use Rattle.tm_image.specs.Seen.{Seen, IsSound, IsSettled}
use Rattle.tm_image.specs.Room.{HasRoom, AreStaged}
use Rattle.tm_store_records.specs.declared.snapshot.Snapshot.{Snapshot}
use Rattle.tm_store_records.specs.Heads.{heads_of}
use Rattle.tm_store_records.specs.Found.{node_key, machine_in, snapshots_in, nodes_in}
use Rattle.tm_store_records.specs.Rules.{IsGoodStore}
use Rattle.tm_store_records.specs.Tags.{tag_of, FitsTag}
use Rattle.tm_store_records.specs.States.{StoredStore, snapshot_on}

-- the image, what its records stand for, the date of the backup that runs, the date that the tag has, the number of the
-- next backup, and the blocks of the staged blobs
pub record Held : Type 0 where
  pub image : Seen
  pub nodes : Nodes
  pub machine : List ℕ
  pub snapshots : List Snapshot
  pub running : Option ℕ
  pub stored : Option ℕ
  pub number : ℕ
  pub staged : List ℕ

-- a backup of this date may finish
pub record MayFinish (h : Held) (date : ℕ) : Type 0 where
  pub later : All (λ s. s.date < date) h.snapshots
  pub few : length h.snapshots < max_snapshots
  pub number : h.number < 2 ^ 40

-- what is in memory is what the image has, which keeps the rules; no commit is under way
pub record IsWhole (h : Held) : Type 0 where
  pub side : h.image.side ≡ Store
  pub sound : IsSound h.image
  pub settled : IsSettled h.image
  pub space : HasRoom h.image
  pub good : IsGoodStore (heads_of h.image.records) h.number
  pub machine_is : machine_in (heads_of h.image.records) ≡ Some h.machine
  pub nodes_are : h.nodes ≡ nodes_in (heads_of h.image.records)
  pub snapshots_are : h.snapshots ≡ snapshots_in (heads_of h.image.records)
  pub tag : h.image.root.tag ≡ tag_of h.stored h.number
  pub fits : FitsTag h.stored h.number
  pub runs : (date : ℕ) → h.running ≡ Some date → (h.stored ≡ Some date) × MayFinish h date
  pub blobs : AreStaged h.staged h.image

-- ---- the store that it is, files with the bytes that a disk has

abbrev pub files_of : Records → (ℕ → List ℕ) → ℕ → List ℕ
files_of records bytes n = unwrap_or (option_map (λ r. bytes_in r.blocks bytes 0 r.length) (at (node_key n) records)) []

abbrev pub store_on : Held → (ℕ → List ℕ) → StoreState
store_on h bytes = record {
  machine = h.machine;
  number = h.number;
  snapshots = map (snapshot_on (files_of h.image.records bytes) h.nodes) h.snapshots;
}

-- with the date that the tag has
abbrev pub store_stored_on : Held → (ℕ → List ℕ) → StoredStore
store_stored_on h bytes = record { store = store_on h bytes; running = h.stored }
