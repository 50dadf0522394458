-- What was read is a store, or fails a check.
use Rattle.std.proofs.Common.{◌≡◌, ℕ, List, [], Option, Some, None, Err, sym, subst, ap, ◌∙◌}
use Rattle.tm_blockmap.specs.Counts.{times}
use Rattle.tm_graph.specs.Nodes.{Nodes}
use Rattle.tm_image.specs.Laws.{StandingIsRead}
use Rattle.tm_image.specs.Load.{Fails}
use Rattle.tm_image.specs.Reads.{ReadsAsTable, entries_of}
use Rattle.tm_image.specs.Room.{HasRoom}
use Rattle.tm_image.specs.Seen.{Seen, IsSound, IsSettled, Stands, staged}
use Rattle.tm_world.specs.Disk.{Disk, Image}
use Rattle.tm_world.specs.declared.cause.Cause.{Cause}
use Rattle.tm_world.specs.declared.cause.Cause.TheVariants.{Slot, Chain, Table, Pages, Block, Room, Record, Spent}
use Rattle.tm_world.specs.declared.world.Side.{Side}
use Rattle.tm_world.specs.declared.world.Side.TheVariants.{Store}
use Rattle.tm_store_records.specs.declared.snapshot.Snapshot.{Snapshot}
use Rattle.tm_store_records.specs.Heads.{RecordHeads, heads_of}
use Rattle.tm_store_records.specs.Found.{machine_in, nodes_in, snapshots_in}
use Rattle.tm_store_records.specs.Rules.{IsGoodStore, IsLeastBadKey}
use Rattle.tm_store_records.specs.Tags.{tag_of, FitsTag}
use Rattle.tm_store_records.specs.States.{StoreFails, StoreReads, ReadsAsBadStore, image_of}
use Rattle.tm_store_records.specs.Held.{Held, IsWhole, store_stored_on}
use Rattle.tm_store_records.proofs.Storing.{heads_are, store_is}
use Rattle.tm_image.specs.declared.error.LoadError.TheVariants as load
use Rattle.tm_store_records.specs.declared.read.Contents.{Contents}
use Rattle.tm_store_records.specs.declared.read.StoreError.{StoreError}
use Rattle.tm_store_records.specs.declared.read.StoreError.TheVariants.{Bad, Memory}
use Rattle.tm_store_records.specs.Drafts.{IfBadStore, load_error}

-- a step of every image's
pub fails_store : (image : Image) (why : Cause) (place : ℕ) → Fails Store image.count image.bytes why place → StoreFails image why place
fails_store image Slot place h = h
fails_store image Chain place h = h
fails_store image Table place h = h
fails_store image Pages place h = h
fails_store image Block place h = h
fails_store image Room place h = h
fails_store image Record place h = absurd h
fails_store image Spent place h = absurd h

-- an image that was read, and what its tag says
pub record IsLoaded (m : Seen) (running : Option ℕ) (number : ℕ) : Type 0 where
  pub side : m.side ≡ Store
  pub sound : IsSound m
  pub settled : IsSettled m
  pub space : HasRoom m
  pub tag_is : m.root.tag ≡ tag_of running number
  pub fits : FitsTag running number

module _ (m : Seen) (running : Option ℕ) (number : ℕ) (is : IsLoaded m running number) where
  module _ (law : StandingIsRead) (d : Disk) (stands : Stands m d) where
    reads : ReadsAsTable Store (entries_of d.bytes m.records) (tag_of running number) (image_of d)
    reads =
        subst (λ t. ReadsAsTable Store (entries_of d.bytes m.records) t (image_of d)) is.tag_is
        (subst (λ (s : Side). ReadsAsTable s (entries_of d.bytes m.records) m.root.tag (image_of d)) is.side (law m d is.sound is.settled is.space stands))

    -- a record is wrong
    pub fails_record : (key : ℕ) → IsLeastBadKey (heads_of m.records) number key → ReadsAsBadStore (image_of d) key
    fails_record key least = record {
      entries = entries_of d.bytes m.records;
      running = running;
      number = number;
      reads = reads;
      fits = is.fits;
      least = subst (λ (heads : RecordHeads). IsLeastBadKey heads number key) (sym (heads_are m.records d.bytes)) least;
    }

    -- or all are right
    pub reads_whole : (h : Held) → h.image ≡ m → h.stored ≡ running → h.number ≡ number → IsWhole h → StoreReads (image_of d) (store_stored_on h d.bytes)
    reads_whole h image stored same whole = record {
      entries = entries_of d.bytes h.image.records;
      reads = subst (λ (s : Seen). ReadsAsTable Store (entries_of d.bytes s.records) (tag_of h.stored h.number) (image_of d)) (sym image)
          (subst (λ n. ReadsAsTable Store (entries_of d.bytes m.records) (tag_of h.stored n) (image_of d)) (sym same)
          (subst (λ o. ReadsAsTable Store (entries_of d.bytes m.records) (tag_of o number) (image_of d)) (sym stored) reads));
      fits = whole.fits;
      is = store_is h d.bytes whole;
    }

  pub loaded_whole : (nodes : Nodes) (machine : List ℕ) (snapshots : List Snapshot) (blobs : List ℕ) → ((b : ℕ) → staged b m ≡ 0)
      → IsGoodStore (heads_of m.records) number → machine_in (heads_of m.records) ≡ Some machine → nodes ≡ nodes_in (heads_of m.records) → snapshots ≡ snapshots_in (heads_of m.records) → blobs ≡ []
      → IsWhole (record { image = m; nodes = nodes; machine = machine; snapshots = snapshots; running = None; stored = running; number = number; staged = blobs })
  loaded_whole nodes machine snapshots blobs unstaged good machine_is nodes_are snapshots_are none = record {
    side = is.side;
    sound = is.sound;
    settled = is.settled;
    space = is.space;
    good = good;
    machine_is = machine_is;
    nodes_are = nodes_are;
    snapshots_are = snapshots_are;
    tag = is.tag_is;
    fits = is.fits;
    runs = λ date runs. absurd (cc runs);
    blobs = λ b. ap (λ (bs : List ℕ). times b bs) none ∙ sym (unstaged b);
  }

-- a load that fails at a bad record tells its key
pub bad_record : (why : StoreError) (cause : Cause) (place : ℕ) (P : ℕ → Type 0) → load_error why ≡ load.Bad cause place → IfBadStore {X = Contents} (Err why) P → (cause ≡ Record) × P place
bad_record (Bad key) cause place P same holds =
    let key_is : key ≡ place = cc in
    (cc, subst P key_is holds)
bad_record Memory cause place P same holds = absurd (cc same)
