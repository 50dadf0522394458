-- An unsynced block may be torn, a synced one may not.
use Rattle.std.proofs.Common.{◌≡◌, ◌≢◌, ⊎_elim, ℕ, ◌+◌, true, false, cond, eqb, ltb, List, refl, sym, ◌∙◌, ap, subst, rules, tests, arith}
use Rattle.std.proofs.lemmas.Bool.{cond-true, cond-false, eq-eqb, ne_eqb, cases_eq}
use Rattle.tm_world.specs.Disk.{Disk, Image, IsLeft, written, synced}
use Rattle.tm_world.specs.Outside.{Outside, disk, put_disk}
use Rattle.tm_world.specs.Log.{Log, now, Steps}
use Rattle.tm_world.specs.Torn.{as_read, WrittenThenSynced}
use Rattle.tm_world.specs.declared.world.Side.{Side}
use Rattle.tm_world.proofs.Sides.{disk-put_disk}
use Rattle.tm_world.proofs.Disks.{bytes_here, differs-written, bytes_synced, loose_synced}

pub reads_are_left : (disk : Disk) → IsLeft disk (as_read disk)
reads_are_left disk = record { count = refl; stable = λ b is. refl }

-- the block holds these bytes, and the others what a read gives
torn_at : ℕ → List ℕ → Disk → Image
torn_at block torn disk = record { count = disk.count; bytes = λ b. cond (eqb b block) torn (disk.bytes b) }

torn_there : (block : ℕ) (torn : List ℕ) (disk : Disk) → (torn_at block torn disk).bytes block ≡ torn
unfolding torn_at
torn_there block torn disk = cond-true (eqb block block) torn (disk.bytes block) (eq-eqb block block refl)

stable_elsewhere : (block : ℕ) (bytes torn : List ℕ) (disk : Disk) (b : ℕ) → (written block bytes disk).loose b ≡ false → (torn_at block torn disk).bytes b ≡ (written block bytes disk).bytes b
unfolding torn_at written
stable_elsewhere block bytes torn disk b is = ⊎_elim
    (λ (same : b ≡ block). let loose : cond (eqb b block) true (disk.loose b) ≡ true = cond-true (eqb b block) true (disk.loose b) (eq-eqb b block same) in cc)
    (λ (ne : b ≢ block). cond-false (eqb b block) torn (disk.bytes b) (ne_eqb b block ne) ∙ sym (cond-false (eqb b block) bytes (disk.bytes b) (ne_eqb b block ne)))
    (cases_eq b block)

count-torn_at : (block : ℕ) (bytes torn : List ℕ) (disk : Disk) → (torn_at block torn disk).count ≡ (written block bytes disk).count
unfolding torn_at written
count-torn_at block bytes torn disk = refl

pub unsynced_may_tear : (block : ℕ) (bytes torn : List ℕ) (disk : Disk) → (image : Image) × IsLeft (written block bytes disk) image × (image.bytes block ≡ torn)
unsynced_may_tear block bytes torn disk = (torn_at block torn disk, record { count = count-torn_at block bytes torn disk; stable = stable_elsewhere block bytes torn disk }, torn_there block torn disk)

pub synced_stays : (disk : Disk) (image : Image) → IsLeft (synced disk) image → (block : ℕ) → image.bytes block ≡ disk.bytes block
synced_stays disk image left block = left.stable block (loose_synced disk block) ∙ bytes_synced disk block

-- a clock with a moment, and the same with one moment more
clock_of : Outside → Log
clock_of s = record { moment = 0; past = λ _. s }

then : Log → Outside → Log
then log s = record { moment = log.moment + 1; past = λ k. cond (ltb log.moment k) s (log.past k) }

now-clock_of : (s : Outside) → now (clock_of s) ≡ s
unfolding clock_of
now-clock_of s = refl

Steps-then_now : (log : Log) (s : Outside) → Steps log (then log s) s
unfolding then
Steps-then_now log s = record {
  passes = record {
    later = omega arith;
    kept = λ k le. cond-false (ltb log.moment k) s (log.past k) (search (rules, tests));
    each = λ k lt le. cond-true (ltb log.moment k) s (log.past k) (search (rules, tests));
  };
  ends = cond-true (ltb log.moment (log.moment + 1)) s (log.past (log.moment + 1)) (search (rules, tests));
}

pub can_be_met : (side : Side) (block : ℕ) (bytes torn : List ℕ) (start : Outside) → WrittenThenSynced side block bytes torn start
can_be_met side block bytes torn start =
    let old : Log = clock_of start in
    let d : Disk = written block bytes (disk side (now old)) in
    let mid : Log = then old (put_disk side d (now old)) in
    let write : Steps old mid (put_disk side d (now old)) = Steps-then_now old (put_disk side d (now old)) in
    let mid_is : disk side (now mid) ≡ d = ap (disk side) write.ends ∙ disk-put_disk side d (now old) in
    let new : Log = then mid (put_disk side (synced (disk side (now mid))) (now mid)) in
    let sync : Steps mid new (put_disk side (synced (disk side (now mid))) (now mid)) = Steps-then_now mid _ in
    let new_is : disk side (now new) ≡ synced (disk side (now mid)) = ap (disk side) sync.ends ∙ disk-put_disk side _ (now mid) in
    let tears = unsynced_may_tear block bytes torn (disk side (now old)) in
    record {
      old = old;
      mid = mid;
      new = new;
      starts = now-clock_of start;
      writes = record { left = d; differs = differs-written block bytes (disk side (now old)); ok = refl; steps = write };
      syncs = sync;
      may_tear = (tears.0, subst (λ e. IsLeft e tears.0) (sym mid_is) tears.1, tears.2);
      may_not = λ image left. synced_stays (disk side (now mid)) image (subst (λ e. IsLeft e image) new_is left) block ∙ ap (λ (e : Disk). e.bytes block) mid_is ∙ bytes_here block bytes (disk side (now old));
    }
