-- How the new nodes of a backup grow.
use Rattle.std.specs.Prelude.{◌≡◌, ℕ, ◌+◌, ◌-◌, ◌^◌, ◌<◌, ◌≤◌, min, true, is_some, Option, Some, List, ◌++◌, length}
use Rattle.std.specs.List.{All, sum_by, flat_map}
use Rattle.tm_base.specs.Paths.{Names}
use Rattle.tm_base.specs.Limits.{max_file_bytes}
use Rattle.tm_world.specs.declared.bytes.Blob.{Blob}
use Rattle.tm_world.specs.Log.{Log}
use Rattle.tm_blockmap.specs.Counts.{times}
use Rattle.tm_chain.specs.Blob.{bytes_in, blob_len}
use Rattle.tm_tree.specs.Trees.{Tree, beneath}
use Rattle.tm_tree.specs.Copies.{LabelledTree}
use Rattle.tm_graph.specs.Nodes.{Nodes, node}
use Rattle.tm_store_records.specs.Held.{Held}
use Rattle.tm_copy.specs.Copying.{node_under}
use Rattle.tm_copy.specs.Building.{Backup, next, AreNew}
use Rattle.tm_copy.specs.Making.{Making}
use Rattle.tm_backup.specs.Steps.{volume_bytes}
use Rattle.tm_backup.specs.Walk.{folders, staging_in}

-- ---- what is walked beneath a path

-- the folders at p and beneath it
abbrev pub folders_from : Tree → Names → List Names
folders_from t p = folders (beneath t p)

-- the blocks of the files that are staged there
abbrev pub staging_from : LabelledTree → Tree → Names → List ℕ
staging_from prev t p = flat_map (staging_in prev t) (folders_from t p)

-- a count that stands still at its end
abbrev pub counted : ℕ → ℕ → ℕ
counted old more = min (old + more) (2 ^ 64 - 1)

-- ---- what is made

-- the volume's blocks have these bytes, the base's root is a node of the store, and the base's node stands at p
pub record Suits (told : Type 0) (store : Held) (start : Log) (p : Names) (base root : Option ℕ) (bytes : ℕ → List ℕ) : Type 0 where
  pub read : told → bytes ≡ volume_bytes start
  pub based : (r : ℕ) → root ≡ Some r → is_some (node store.nodes r) ≡ true
  pub here : base ≡ node_under store.nodes root p

-- how often a block stands in these blobs
abbrev pub blocks_in : List (ℕ × Blob) → ℕ → ℕ
blocks_in blobs k = sum_by (λ x. times k x.1.blocks) blobs

-- the blob of a new file, whose number is below this one, has at most 16 MiB, and as many blocks as it needs, which hold the
-- file's bytes
pub record IsFilled (told : Type 0) (top : ℕ) (bytes fresh : ℕ → List ℕ) (x : ℕ × Blob) : Type 0 where
  pub below : x.0 < top
  pub small : x.1.length ≤ max_file_bytes
  pub many : length x.1.blocks ≡ blob_len x.1.length
  pub holds : told → bytes_in x.1.blocks bytes 0 x.1.length ≡ fresh x.0

-- new nodes came after the others, and blobs of the files among them, which were owed or staged meanwhile. The new files had the
-- bytes `fresh`, and with those that came have `other`
pub record Grown (told : Type 0) (b : Backup) (bytes : ℕ → List ℕ) (old new : Making) (due : ℕ → ℕ) (was staged : List ℕ) (fresh other : ℕ → List ℕ) : Type 0 where
  pub label : new.label ≡ old.label
  pub first : new.first ≡ old.first
  pub more : Nodes
  pub nodes : new.nodes ≡ old.nodes ++ more
  pub are : AreNew b new.nodes
  pub same : (m : ℕ) → m < next b old.nodes → other m ≡ fresh m
  pub blobs : List (ℕ × Blob)
  pub blobs_are : new.blobs ≡ old.blobs ++ blobs
  pub filled : All (IsFilled told (next b new.nodes) bytes other) blobs
  pub paid : (k : ℕ) → blocks_in blobs k + times k was ≡ due k + times k staged

-- and then something holds of all
pub record Grows (told : Type 0) (b : Backup) (bytes : ℕ → List ℕ) (old new : Making) (due : ℕ → ℕ) (was staged : List ℕ) (fresh : ℕ → List ℕ) (Q : (ℕ → List ℕ) → Type 0) : Type 0 where
  pub other : ℕ → List ℕ
  pub grown : Grown told b bytes old new due was staged fresh other
  pub has : Q other
