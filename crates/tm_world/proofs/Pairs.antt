-- From a run on one side to both sides and the said bytes.
use Rattle.std.proofs.Common.{◌≡◌, ℕ, ◌≤◌, List, ◌++◌, take, length, refl, sym, ◌∙◌, ap, subst, arith}
use Rattle.tm_world.specs.Disk.{Disk}
use Rattle.tm_world.specs.Outside.{Outside, disk, put_disk, spoke, AreApart}
use Rattle.tm_world.specs.Log.{Log, now, Passes, Says}
use Rattle.tm_world.specs.Runs.{OnSide, Runs, Beside, other}
use Rattle.tm_world.specs.declared.world.Side.{Side}
use Rattle.tm_world.specs.declared.world.Side.TheVariants.{Volume, Store}
use Rattle.tm_world.proofs.Sides.{disk-put_disk, disk_other-put_volume, disk_other-put_store, AreApart-put_disk, disk-spoke}
use Rattle.tm_world.proofs.Going.{Passes-weaker}

pub disk_other-put : (side : Side) (d : Disk) (s : Outside) → AreApart s → disk (other side) (put_disk side d s) ≡ disk (other side) s
disk_other-put Volume d s apart = disk_other-put_volume d s apart
disk_other-put Store d s apart = disk_other-put_store d s apart

said-put_disk : (side : Side) (d : Disk) (s : Outside) → (put_disk side d s).said ≡ s.said
unfolding put_disk
said-put_disk side d s = refl

pub OnSide-beside : (side : Side) (P : Disk → Type 0) (old new : Outside) → AreApart old → OnSide side P old new → Beside side P old new
OnSide-beside side P old new apart on = record {
  here = subst P (sym (ap (disk side) on.rest ∙ disk-put_disk side on.disk_then old)) on.has;
  there = ap (disk (other side)) on.rest ∙ disk_other-put side on.disk_then old apart;
  said = ap (λ (s : Outside). s.said) on.rest ∙ said-put_disk side on.disk_then old;
  apart = subst AreApart (sym on.rest) (AreApart-put_disk side on.disk_then old apart);
}

-- at each moment
pub Runs-beside : (side : Side) (P : Disk → Type 0) (old new : Log) → AreApart (now old) → Runs side P old new → Passes old new (Beside side P (now old))
Runs-beside side P old new apart runs = Passes-weaker old new _ _ (λ s on. OnSide-beside side P (now old) s apart on) runs.passes

-- and in the end
pub Runs-ends : (side : Side) (P : Disk → Type 0) (old new : Log) → AreApart (now old) → Runs side P old new → Beside side (λ d. d ≡ disk side (now new)) (now old) (now new)
Runs-ends side P old new apart runs = OnSide-beside side (λ d. d ≡ disk side (now new)) (now old) (now new) apart (record { disk_then = disk side (now new); has = refl; rest = runs.ends })

-- so many of these bytes are said, and both sides are as before
pub record Speaks (bytes : List ℕ) (old new : Outside) : Type 0 where
  pub count : ℕ
  pub within : count ≤ length bytes
  pub said : new.said ≡ old.said ++ take count bytes
  pub same : (side : Side) → disk side new ≡ disk side old
  pub apart : AreApart old → AreApart new

Speaks-spoke : (bytes : List ℕ) (old new : Outside) (m : ℕ) → m ≤ length bytes → new ≡ spoke (take m bytes) old → Speaks bytes old new
unfolding spoke
Speaks-spoke bytes old new m le is = record {
  count = m;
  within = le;
  said = ap (λ (s : Outside). s.said) is;
  same = λ side. ap (disk side) is ∙ disk-spoke side (take m bytes) old;
  apart = λ a. subst AreApart (sym is) a;
}

pub Says-speaks : (old new : Log) (bytes : List ℕ) (n : ℕ) → Says old new bytes n → Passes old new (Speaks bytes (now old))
Says-speaks old new bytes n says = Passes-weaker old new _ _ (λ s p. Speaks-spoke bytes (now old) s p.0 (omega (arith, p.1, says.within)) p.2) says.passes

pub Says-ends : (old new : Log) (bytes : List ℕ) (n : ℕ) → Says old new bytes n → ((now new).said ≡ (now old).said ++ take n bytes) × ((side : Side) → disk side (now new) ≡ disk side (now old)) × (AreApart (now old) → AreApart (now new))
unfolding Speaks-spoke
Says-ends old new bytes n says =
    let s = Speaks-spoke bytes (now old) (now new) n says.within says.ends in
    (s.said, s.same, s.apart)
