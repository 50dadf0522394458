-- Where an image is bad.
use Rattle.std.specs.Prelude.{◌≡◌, ◌<◌, ◌+◌, ℕ, List, ◌++◌, length, slice_index, take, None}
use Rattle.std.specs.List.{flat_map}
use Rattle.std.specs.Map.{values_of}
use Rattle.tm_world.specs.declared.world.Side.{Side}
use Rattle.tm_world.specs.declared.cause.Cause.{Cause}
use Rattle.tm_world.specs.declared.cause.Cause.TheVariants.{Slot, Chain, Table, Pages, Block, Room, Record, Spent}
use Rattle.tm_gate.specs.declared.root.Root.{Root}
use Rattle.tm_gate.specs.Selector.{named_slot}
use Rattle.tm_gate.specs.Slot.{slot_of}
use Rattle.tm_gate.specs.Root.{IsRoot}
use Rattle.tm_gate.specs.Load.{IsBadGate}
use Rattle.tm_blockmap.specs.Counts.{times, IsDistinct}
use Rattle.tm_chain.specs.Chain.{IsChain}
use Rattle.tm_chain.specs.Way.{BreaksAt as ChainBreaksAt}
use Rattle.tm_records.specs.Records.{Records}
use Rattle.tm_table.specs.Text.{table_text}
use Rattle.tm_table.specs.Good.{AreRecords}
use Rattle.tm_table.specs.Breaks.{BreaksAt as TableBreaksAt}
use Rattle.tm_image.specs.Reads.{data_len}

-- the named slot holds this root, which is good
pub record HasRoot (side : Side) (blocks : ℕ) (bytes : ℕ → List ℕ) (root : Root) : Type 0 where
  pub slot : named_slot bytes ≡ slot_of root
  pub good : IsRoot side blocks root

-- these records have their text on this chain
pub record HasRecords (side : Side) (blocks : ℕ) (bytes : ℕ → List ℕ) (chain : List ℕ) (records : Records) : Type 0 where
  pub root : Root
  pub has : HasRoot side blocks bytes root
  pub lies : IsChain root.first root.table_len blocks chain (table_text records) bytes
  pub are : AreRecords blocks None records

-- the blocks that are claimed, in order: the chain's, and then those of each record
abbrev pub claims : List ℕ → Records → List ℕ
claims chain records = chain ++ flat_map (λ r. r.blocks) (values_of records)

-- a block is claimed a second time, and none before it
pub record IsClaimedAgain (list : List ℕ) (block : ℕ) : Type 0 where
  pub place : ℕ
  pub within : place < length list
  pub is : slice_index list place ≡ block
  pub again : 0 < times block (take place list)
  pub first : IsDistinct (take place list)

-- a step of reading fails, at this place
abbrev pub Fails : Side → ℕ → (ℕ → List ℕ) → Cause → ℕ → Type 0
Fails side blocks bytes Slot place = IsBadGate side blocks bytes place
Fails side blocks bytes Chain place = (root : Root) × HasRoot side blocks bytes root × ChainBreaksAt root.first root.table_len blocks place bytes
Fails side blocks bytes Table place = (root : Root) × HasRoot side blocks bytes root × (chain : List ℕ) × (text : List ℕ) × IsChain root.first root.table_len blocks chain text bytes × TableBreaksAt blocks text place
Fails side blocks bytes Pages place = ⊥
Fails side blocks bytes Block place = (chain : List ℕ) × (records : Records) × HasRecords side blocks bytes chain records × IsClaimedAgain (claims chain records) place
Fails side blocks bytes Room place = (chain : List ℕ) × (records : Records) × HasRecords side blocks bytes chain records × IsDistinct (claims chain records) × (place + 3 + length chain + data_len records ≡ blocks) × (place < length chain)
Fails side blocks bytes Record place = ⊥
Fails side blocks bytes Spent place = ⊥
