-- A file that is staged: what a stop leaves, and what stands afterwards.
use Rattle.std.proofs.Common.{◌≡◌, ◌≢◌, ℕ, ◌+◌, ◌<◌, List, ◌++◌, Result, Err, slice_index, refl, ap, ◌∙◌, subst, arith}
use Rattle.tm_blockmap.specs.Counts.{times}
use Rattle.tm_blockmap.proofs.Counting.{times-append}
use Rattle.tm_image.specs.declared.error.ImageError.{ImageError}
use Rattle.tm_image.specs.declared.error.ImageError.TheVariants as error
use Rattle.tm_image.specs.Reads.{LeavesRead, entries_of}
use Rattle.tm_image.specs.Room.{HasRoom}
use Rattle.tm_image.specs.Seen.{Seen, IsSound, IsSettled, HasSameImage, staged}
use Rattle.tm_gate.specs.declared.root.Root.{Root}
use Rattle.tm_world.specs.Outside.{disk}
use Rattle.tm_world.specs.Log.{Log, now}
use Rattle.tm_world.specs.Runs.{Runs}
use Rattle.tm_world.specs.declared.bytes.Blob.{Blob}
use Rattle.tm_world.specs.declared.world.Side.{Side}
use Rattle.tm_world.specs.declared.world.Side.TheVariants.{Store}
use Rattle.tm_world.proofs.Going.{Runs-weaker}
use Rattle.tm_store_records.specs.States.{LeavesOneStore}
use Rattle.tm_store_records.specs.Held.{Held, IsWhole, store_stored_on}
use Rattle.tm_store_records.proofs.Storing.{store_is}
use Rattle.tm_store_records.proofs.Leaving.{leaves_one_store}
use Rattle.tm_store_records.proofs.Retagging.{whole_again}

-- ---- refused

pub full_other : (e : ImageError) (need free : ℕ) → e ≡ error.Full need free → ◌≢◌ {A = Result Blob ImageError} (Err e) (Err error.Fault)
full_other e need free is bad = cc

pub memory_other : (e : ImageError) → e ≡ error.Memory → ◌≢◌ {A = Result Blob ImageError} (Err e) (Err error.Fault)
memory_other e is bad = cc

-- the image and the staged blocks stay: the store is as it was
pub as_before : (h k : Held) (image : Seen) (blocks : List ℕ) → h ≡ k → image ≡ h.image → blocks ≡ h.staged → record h { image = image; staged = blocks } ≡ k
as_before h k image blocks view same lists = (λ i. record h { image = same i; staged = lists i }) ∙ view

-- ---- staged

module _ (h : Held) (whole : IsWhole h) where
  -- a stop leaves the store as it was
  pub stage_run : (l0 l1 : Log) → Runs h.image.side (LeavesRead h.image.side (entries_of (disk h.image.side (now l0)).bytes h.image.records) h.image.root.tag) l0 l1
      → Runs Store (LeavesOneStore (store_stored_on h (disk Store (now l0)).bytes)) l0 l1
  stage_run l0 l1 runs =
      let bytes = (disk Store (now l0)).bytes in
      let here : Runs Store (LeavesRead Store (entries_of bytes h.image.records) h.image.root.tag) l0 l1
      = subst (λ (s : Side). Runs s (LeavesRead s (entries_of (disk s (now l0)).bytes h.image.records) h.image.root.tag) l0 l1) whole.side runs in
      Runs-weaker Store _ _ l0 l1 (λ d. leaves_one_store (entries_of bytes h.image.records) h.image.root.tag (store_stored_on h bytes) whole.tag whole.fits (store_is h bytes whole) Store refl d) here

  -- the blocks that were staged are used
  pub used_before : (b : ℕ) → 0 < times b h.staged → 0 < slice_index h.image.used b
  used_before b some = omega (arith, whole.blobs b, some)

  -- with more blocks staged the store is whole
  pub staged_whole : (image : Seen) (blocks : List ℕ) → HasSameImage h.image image → IsSound image → IsSettled image → HasRoom image → ((b : ℕ) → staged b image ≡ staged b h.image + times b blocks)
      → IsWhole (record h { image = image; staged = h.staged ++ blocks })
  staged_whole image blocks same sound settled space more =
      whole_again h (record h { image = image; staged = h.staged ++ blocks }) whole whole.fits (ap (λ (r : Root). r.tag) same.root ∙ whole.tag) whole.runs
      same.side same.records sound settled space refl refl refl refl
      (λ b. omega (arith, times-append b h.staged blocks, whole.blobs b, more b))
