-- A side's disk, written over and read again.
use Rattle.std.proofs.Common.{◌≡◌, ⊎_elim, ℕ, Bool, true, false, cond, List, Some, None, refl, sym, ◌∙◌, ap, subst}
use Rattle.std.proofs.lemmas.Bool.{cond-true, cond-false, cases_Bool, false_from_ne_true}
use Rattle.std.proofs.lemmas.Slice.Eq.{bytes_eq-Decides}
use Rattle.tm_world.specs.Disk.{Disk}
use Rattle.tm_world.specs.Outside.{Outside, Place, is_place, place, disk, put_at, put_disk, spoke, AreApart}
use Rattle.tm_world.specs.declared.world.Side.{Side}
use Rattle.tm_world.specs.declared.world.Side.TheVariants.{Volume, Store}

pub is_place-same : (p : Place) → is_place p p ≡ true
is_place-same None = refl
is_place-same (Some p) = (bytes_eq-Decides p p).1 refl

pub is_place-true : (p q : Place) → is_place p q ≡ true → p ≡ q
is_place-true None None h = refl
is_place-true None (Some q) h = cc
is_place-true (Some p) None h = cc
is_place-true (Some p) (Some q) h = ap Some ((bytes_eq-Decides p q).0 h)

pub is_place-sym : (p q : Place) → is_place p q ≡ false → is_place q p ≡ false
is_place-sym p q h = false_from_ne_true (is_place q p) (λ e. let same : p ≡ q = sym (is_place-true q p e) in
    let yes : is_place p q ≡ true = subst (λ r. is_place p r ≡ true) same (is_place-same p) in cc)

place-put_at : (side : Side) (p : Place) (d : Disk) (s : Outside) → place side (put_at p d s) ≡ place side s
place-put_at Volume p d s = refl
place-put_at Store p d s = refl

pub place-put_disk : (side other : Side) (d : Disk) (s : Outside) → place other (put_disk side d s) ≡ place other s
unfolding put_disk
place-put_disk side other d s = place-put_at other (place side s) d s

stands_at : (p : Place) (d : Disk) (s : Outside) → (put_at p d s).stands p ≡ d
stands_at p d s = cond-true (is_place p p) d (s.stands p) (is_place-same p)

stands_other : (p q : Place) (d : Disk) (s : Outside) → is_place p q ≡ false → (put_at p d s).stands q ≡ s.stands q
stands_other p q d s h = cond-false (is_place p q) d (s.stands q) h

-- the disk that was put there
pub disk-put_disk : (side : Side) (d : Disk) (s : Outside) → disk side (put_disk side d s) ≡ d
unfolding disk put_disk
disk-put_disk Volume d s = stands_at s.volume d s
disk-put_disk Store d s = stands_at s.store d s

-- the other side is as it was, where the two are apart
pub disk_other-put_volume : (d : Disk) (s : Outside) → AreApart s → disk Store (put_disk Volume d s) ≡ disk Store s
unfolding disk put_disk
disk_other-put_volume d s apart = stands_other s.volume s.store d s apart

pub disk_other-put_store : (d : Disk) (s : Outside) → AreApart s → disk Volume (put_disk Store d s) ≡ disk Volume s
unfolding disk put_disk
disk_other-put_store d s apart = stands_other s.store s.volume d s (is_place-sym s.volume s.store apart)

pub AreApart-put_disk : (side : Side) (d : Disk) (s : Outside) → AreApart s → AreApart (put_disk side d s)
unfolding put_disk
AreApart-put_disk side d s apart = apart

cond_twice : (b : Bool) (d e f : Disk) → cond b e (cond b d f) ≡ cond b e f
cond_twice true d e f = refl
cond_twice false d e f = refl

same_cond : (p q : Place) (s : Outside) → cond (is_place p q) (s.stands p) (s.stands q) ≡ s.stands q
same_cond p q s = ⊎_elim
    (λ (yes : is_place p q ≡ true). cond-true _ _ _ yes ∙ ap s.stands (is_place-true p q yes))
    (λ (no : is_place p q ≡ false). cond-false _ _ _ no)
    (cases_Bool (is_place p q))

put_at_twice : (p : Place) (d e : Disk) (s : Outside) → put_at p e (put_at p d s) ≡ put_at p e s
put_at_twice p d e s = λ i. record {
  stands = λ q. cond_twice (is_place p q) d e (s.stands q) i;
  scripts = s.scripts;
  volume = s.volume;
  store = s.store;
  unread = s.unread;
  said = s.said;
}

put_at_same : (p : Place) (s : Outside) → put_at p (s.stands p) s ≡ s
put_at_same p s = λ i. record {
  stands = λ q. same_cond p q s i;
  scripts = s.scripts;
  volume = s.volume;
  store = s.store;
  unread = s.unread;
  said = s.said;
}

pub put_disk_twice : (side : Side) (d e : Disk) (s : Outside) → put_disk side e (put_disk side d s) ≡ put_disk side e s
unfolding put_disk
put_disk_twice Volume d e s = put_at_twice s.volume d e s
put_disk_twice Store d e s = put_at_twice s.store d e s

pub put_disk_same : (side : Side) (s : Outside) → put_disk side (disk side s) s ≡ s
unfolding disk put_disk
put_disk_same side s = put_at_same (place side s) s

stands_count : (p q : Place) (d : Disk) (s : Outside) → d.count ≡ (s.stands p).count → ((put_at p d s).stands q).count ≡ (s.stands q).count
stands_count p q d s same = ⊎_elim
    (λ (yes : is_place p q ≡ true). ap (λ e. e.count) (cond-true (is_place p q) d (s.stands q) yes) ∙ same ∙ ap (λ r. (s.stands r).count) (is_place-true p q yes))
    (λ (no : is_place p q ≡ false). ap (λ e. e.count) (cond-false (is_place p q) d (s.stands q) no))
    (cases_Bool (is_place p q))

-- a disk of as many blocks leaves both sides' numbers of blocks
pub count-put_disk : (side other : Side) (d : Disk) (s : Outside) → d.count ≡ (disk side s).count → (disk other (put_disk side d s)).count ≡ (disk other s).count
unfolding disk put_disk
count-put_disk side Volume d s same = stands_count (place side s) s.volume d s same
count-put_disk side Store d s same = stands_count (place side s) s.store d s same

pub disk-spoke : (side : Side) (bytes : List ℕ) (s : Outside) → disk side (spoke bytes s) ≡ disk side s
unfolding disk spoke
disk-spoke Volume bytes s = refl
disk-spoke Store bytes s = refl
