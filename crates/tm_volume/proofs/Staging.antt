-- Data that are staged: what a stop leaves, and what stands afterwards.
use Rattle.std.proofs.Common.{◌≡◌, ◌≢◌, ℕ, ◌<◌, refl, sym, ap, ◌∙◌, subst, Some, Result, Err, arith}
use Rattle.std.specs.Option.{option_map}
use Rattle.tm_base.specs.declared.refused.LineFault.{LineFault}
use Rattle.tm_base.specs.declared.refused.LineFault.TheVariants as line
use Rattle.tm_base.specs.declared.refused.Refused.{Refused}
use Rattle.tm_base.specs.declared.refused.Refused.TheVariants.{Full}
use Rattle.tm_image.specs.Reads.{Entries, entries_of, LeavesRead}
use Rattle.tm_image.specs.Seen.{Seen as ImageSeen, Stands, HasSameImage}
use Rattle.tm_image.specs.declared.error.ImageError.{ImageError}
use Rattle.tm_image.specs.declared.error.ImageError.TheVariants as image
use Rattle.tm_items.specs.Index.{Numbers}
use Rattle.tm_nodes.specs.Records.{paths_of}
use Rattle.tm_records.specs.Records.{Records}
use Rattle.tm_world.specs.Disk.{Disk}
use Rattle.tm_world.specs.Outside.{disk}
use Rattle.tm_world.specs.Log.{Log, now}
use Rattle.tm_world.specs.Runs.{Runs}
use Rattle.tm_world.specs.declared.bytes.Blob.{Blob}
use Rattle.tm_world.specs.declared.world.Side.{Side}
use Rattle.tm_world.specs.declared.world.Side.TheVariants.{Volume as OfVolume}
use Rattle.tm_world.proofs.Going.{Runs-weaker}
use Rattle.tm_volume.specs.Edits.{IsBack}
use Rattle.tm_volume_records.specs.Records.{head_key, entry_at}
use Rattle.tm_volume.specs.Reads.{LeavesSide, tag_bytes}
use Rattle.tm_volume_records.specs.Rules.{IsGoodVolume}
use Rattle.tm_volume.specs.Seen.{Seen, IsShelf, StandsOn, entries_on, stored_on}
use Rattle.tm_volume.proofs.Editing.{With}
use Rattle.tm_volume.proofs.Retagging.{told_of}
use Rattle.tm_volume.proofs.Standing.{volume_reads}

module _ (m : Seen) (n0 : Numbers) (shelf : IsShelf m n0) where
  leaves : (d0 d : Disk) → StandsOn m d0 → LeavesRead OfVolume (entries_on m d0.bytes) (tag_bytes m.tag) d → LeavesSide (Some (stored_on m d0.bytes)) d
  leaves d0 d stands reads image left = volume_reads m d0.bytes image (told_of m n0 d0 shelf stands) (reads image left)

  run_on : (l0 l1 : Log) → StandsOn m (disk OfVolume (now l0)) → Runs OfVolume (LeavesRead OfVolume (entries_on m (disk OfVolume (now l0)).bytes) (tag_bytes m.tag)) l0 l1
      → Runs OfVolume (LeavesSide (Some (stored_on m (disk OfVolume (now l0)).bytes))) l0 l1
  run_on l0 l1 stands runs = Runs-weaker OfVolume (LeavesRead OfVolume (entries_on m (disk OfVolume (now l0)).bytes) (tag_bytes m.tag)) (LeavesSide (Some (stored_on m (disk OfVolume (now l0)).bytes))) l0 l1
      (λ d reads. leaves (disk OfVolume (now l0)) d stands reads) runs

  pub stage_run : (l0 l1 : Log) → StandsOn m (disk OfVolume (now l0))
      → Runs m.image.side (LeavesRead m.image.side (entries_of (disk m.image.side (now l0)).bytes m.image.records) m.image.root.tag) l0 l1
      → Runs OfVolume (LeavesSide (Some (stored_on m (disk OfVolume (now l0)).bytes))) l0 l1
  stage_run l0 l1 stands runs = run_on l0 l1 stands
      (subst (λ t. Runs OfVolume (LeavesRead OfVolume (entries_on m (disk OfVolume (now l0)).bytes) t) l0 l1) shelf.tag_is
      (subst (λ (s : Side). Runs s (LeavesRead s (entries_of (disk s (now l0)).bytes m.image.records) m.image.root.tag) l0 l1) shelf.side runs))

  pub stage_data : (l0 l1 : Log) → entries_of (disk m.image.side (now l1)).bytes m.image.records ≡ entries_of (disk m.image.side (now l0)).bytes m.image.records
      → entries_on m (disk OfVolume (now l1)).bytes ≡ entries_on m (disk OfVolume (now l0)).bytes
  stage_data l0 l1 same = subst (λ (s : Side). entries_of (disk s (now l1)).bytes m.image.records ≡ entries_of (disk s (now l0)).bytes m.image.records) shelf.side same

  pub stage_stands : (new : ImageSeen) (l0 l1 : Log) → HasSameImage m.image new → StandsOn m (disk OfVolume (now l0)) → Stands new (disk m.image.side (now l1))
      → entries_of (disk m.image.side (now l1)).bytes m.image.records ≡ entries_of (disk m.image.side (now l0)).bytes m.image.records
      → StandsOn (With m new m.fixed m.tag) (disk OfVolume (now l1))
  stage_stands new l0 l1 same stands on data_is =
      let entries_are : entries_of (disk OfVolume (now l1)).bytes new.records ≡ entries_on m (disk OfVolume (now l0)).bytes
      = ap (λ (rs : Records). entries_of (disk OfVolume (now l1)).bytes rs) same.records ∙ stage_data l0 l1 data_is in
      record {
        stands = subst (λ (s : Side). Stands new (disk s (now l1))) shelf.side on;
        good = subst (λ (es : Entries). IsGoodVolume es m.tag) (sym entries_are) stands.good;
        fixed = ap (λ (es : Entries). option_map (λ e. paths_of e.bytes) (entry_at head_key es)) entries_are ∙ stands.fixed;
      }

pub stage_back : (m : Seen) (new : ImageSeen) → HasSameImage m.image new → IsBack m (With m new m.fixed m.tag)
stage_back m new same = record { image = same; rest = refl }

-- ---- refused

pub full_other : (e : ImageError) (need free : ℕ) → e ≡ image.Full need free → ◌≢◌ {A = Result Blob ImageError} (Err e) (Err image.Fault)
full_other e need free is bad = cc

pub memory_other : (e : ImageError) → e ≡ image.Memory → ◌≢◌ {A = Result Blob ImageError} (Err e) (Err image.Fault)
memory_other e is bad = cc

pub full_is : (why : Refused) (need free n f : ℕ) → ◌≡◌ {A = Result Blob LineFault} (Err (line.Refused (Full need free))) (Err (line.Refused why)) → free < need → free ≡ f → need ≡ n → (why ≡ Full n f) × (f < n)
full_is why need free n f is less free_is need_is = ((let same : why ≡ Full need free = cc in same ∙ (λ i. Full (need_is i) (free_is i))), omega (arith, less, free_is, need_is))
