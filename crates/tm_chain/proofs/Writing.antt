-- One part more is written.
use Rattle.std.proofs.Common.{◌≡◌, ℕ, ◌+◌, ◌<◌, List, length, get_or, Result, Ok, refl, sym, ◌∙◌, ap, subst, below_more}
use Rattle.tm_world.specs.Disk.{Disk, DiffersAt, written}
use Rattle.tm_world.specs.Outside.{disk}
use Rattle.tm_world.specs.Log.{Log, now, Writes}
use Rattle.tm_world.specs.Runs.{Runs}
use Rattle.tm_world.specs.declared.world.Side.{Side}
use Rattle.tm_world.proofs.Disks.{bytes_here, differs-written}
use Rattle.tm_world.proofs.Going.{Runs-none, Runs-steps, disk_after}
use Rattle.tm_blockmap.specs.Counts.{IsDistinct}
use Rattle.tm_blockmap.proofs.Counting.{distinct-apart}
use Rattle.tm_chain.specs.Differs.{DiffersIn}
use Rattle.tm_chain.specs.Holds.{HoldsUpTo}

pub differs_in-none : (blocks : List ℕ) (d : Disk) → DiffersIn blocks d d
differs_in-none blocks d = record { there = refl; count = refl; bytes = λ b out. refl; loose = λ b out. refl }

differs_in-more : (blocks : List ℕ) (old mid new : Disk) (i : ℕ) → i < length blocks → DiffersIn blocks old mid → DiffersAt (get_or blocks i 0) mid new → DiffersIn blocks old new
differs_in-more blocks old mid new i lt so_far at = record {
  there = at.there ∙ so_far.there;
  count = at.count ∙ so_far.count;
  bytes = λ b out. at.bytes b (out i lt) ∙ so_far.bytes b out;
  loose = λ b out. at.loose b (out i lt) ∙ so_far.loose b out;
}

module _ (side : Side) (old : Log) (blocks : List ℕ) where
  abbrev P : Disk → Type 0
  P = DiffersIn blocks (disk side (now old))

  -- how far the loop has come
  pub record Written (mid : Log) : Type 0 where
    pub runs : Runs side P old mid
    pub differs : P (disk side (now mid))

  pub written-none : Written old
  written-none = record { runs = Runs-none side P old; differs = differs_in-none blocks (disk side (now old)) }

  pub written-more : (mid new : Log) (i : ℕ) (bytes : List ℕ) {T E : Type 0} {r : Result T E} → i < length blocks → Written mid → Writes side (get_or blocks i 0) bytes mid new r → Written new
  written-more mid new i bytes lt so_far w =
      let has : P w.left = differs_in-more blocks _ _ w.left i lt so_far.differs w.differs in
      record { runs = Runs-steps side P old mid new w.left so_far.runs w.steps has; differs = subst P (sym (disk_after side mid new w.left w.steps)) has }

  pub holds-more : (mid new : Log) (part : ℕ → List ℕ) (i : ℕ) (bytes : List ℕ) {T E : Type 0} {v : T} → i < length blocks → IsDistinct blocks → bytes ≡ part i → HoldsUpTo i blocks part (disk side (now mid)).bytes → Writes {T = T} {E = E} side (get_or blocks i 0) bytes mid new (Ok v)
      → HoldsUpTo (i + 1) blocks part (disk side (now new)).bytes
  holds-more mid new part i bytes lt distinct is so_far w =
      let after : disk side (now new) ≡ written (get_or blocks i 0) bytes (disk side (now mid)) = disk_after side mid new w.left w.steps ∙ w.ok in
      record {
        each = below_more (λ k. (disk side (now new)).bytes (get_or blocks k 0) ≡ part k) i
            (λ k below. ap (λ (d : Disk). d.bytes (get_or blocks k 0)) after
            ∙ (differs-written (get_or blocks i 0) bytes (disk side (now mid))).bytes (get_or blocks k 0) (λ e. distinct-apart blocks distinct k i below lt (sym e))
            ∙ so_far.each k below)
            (ap (λ (d : Disk). d.bytes (get_or blocks i 0)) after ∙ bytes_here (get_or blocks i 0) bytes (disk side (now mid)) ∙ is);
      }
