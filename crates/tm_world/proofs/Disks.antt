-- What a write and a sync leave of a disk, block by block.
use Rattle.std.proofs.Common.{◌≡◌, ℕ, true, false, eqb, List, refl}
use Rattle.std.proofs.lemmas.Bool.{cond-true, cond-false, eq-eqb, ne_eqb}
use Rattle.tm_world.specs.Disk.{Disk, DiffersAt, written, synced}

pub bytes_here : (block : ℕ) (bytes : List ℕ) (disk : Disk) → (written block bytes disk).bytes block ≡ bytes
unfolding written
bytes_here block bytes disk = cond-true (eqb block block) bytes (disk.bytes block) (eq-eqb block block refl)

pub differs-written : (block : ℕ) (bytes : List ℕ) (disk : Disk) → DiffersAt block disk (written block bytes disk)
unfolding written
differs-written block bytes disk = record {
  there = refl;
  count = refl;
  bytes = λ b ne. cond-false (eqb b block) bytes (disk.bytes b) (ne_eqb b block ne);
  loose = λ b ne. cond-false (eqb b block) true (disk.loose b) (ne_eqb b block ne);
}

pub differs-none : (block : ℕ) (disk : Disk) → DiffersAt block disk disk
differs-none block disk = record { there = refl; count = refl; bytes = λ b ne. refl; loose = λ b ne. refl }

pub bytes_synced : (disk : Disk) (b : ℕ) → (synced disk).bytes b ≡ disk.bytes b
unfolding synced
bytes_synced disk b = refl

pub loose_synced : (disk : Disk) (b : ℕ) → (synced disk).loose b ≡ false
unfolding synced
loose_synced disk b = refl

pub count_synced : (disk : Disk) → (synced disk).count ≡ disk.count
unfolding synced
count_synced disk = refl
