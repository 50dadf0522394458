-- What a call leaves alone, from the definitions alone.
use Rattle.std.proofs.Common.{◌≡◌, inl, inr, ⊎_elim, ℕ, ◌<◌, ◌≤◌, ◌+◌, true, false, List, Option, Some, Result, Ok, Err, OnOk, refl, sym, ◌∙◌, ap, subst, arith}
use Rattle.std.proofs.lemmas.Bool.{cond-true, cond-false, cases_Bool, cases_lt, false_from_ne_true}
use Rattle.tm_world.specs.Disk.{Disk, IsLeft, DiffersAt, synced}
use Rattle.tm_world.specs.Outside.{Outside, Place, is_place, place, disk, put_at, put_disk, made, with_made, took, spoke, attached, part_of, AreApart}
use Rattle.tm_world.specs.Log.{Log, now, Passes, Steps, Writes}
use Rattle.tm_world.specs.Runs.{OnSide, Runs, Beside, other}
use Rattle.tm_world.specs.Pairs.{Pair, MayLeave, MayHaveLeft}
use Rattle.tm_world.specs.Alone.{KeepsSide, KeepsImages, KeepsRest, AttachKeeps, InTurn}
use Rattle.tm_world.specs.declared.world.Side.{Side}
use Rattle.tm_world.specs.declared.world.Side.TheVariants.{Volume, Store}
use Rattle.tm_world.specs.declared.world.Part.TheVariants.{Script}
use Rattle.tm_world.proofs.Sides.{is_place-true, place-put_disk}
use Rattle.tm_world.proofs.Disks.{bytes_here, bytes_synced}
use Rattle.tm_world.proofs.Going.{Passes-weaker, Runs-none, Runs-steps, disk_after}
use Rattle.tm_world.proofs.Pairs.{disk_other-put, Runs-beside, Runs-ends}

-- the same disk may be left as the same images
KeepsSide-from : (side : Side) (old new : Outside) → place side new ≡ place side old → disk side new ≡ disk side old → KeepsSide side old new
KeepsSide-from side old new place_is disk_is = record {
  place_same = place_is;
  disk_same = disk_is;
  left_same = λ image. (subst (λ d. IsLeft d image) disk_is, subst (λ d. IsLeft d image) (sym disk_is));
}

elsewhere-put_disk : (side : Side) (d : Disk) (s : Outside) (at : Place) → is_place (place side s) at ≡ false → (put_disk side d s).stands at ≡ s.stands at
unfolding put_disk
elsewhere-put_disk side d s at ne = cond-false (is_place (place side s) at) d (s.stands at) ne

scripts-put_disk : (side : Side) (d : Disk) (s : Outside) → (put_disk side d s).scripts ≡ s.scripts
unfolding put_disk
scripts-put_disk side d s = refl

unread-put_disk : (side : Side) (d : Disk) (s : Outside) → (put_disk side d s).unread ≡ s.unread
unfolding put_disk
unread-put_disk side d s = refl

said-put_disk : (side : Side) (d : Disk) (s : Outside) → (put_disk side d s).said ≡ s.said
unfolding put_disk
said-put_disk side d s = refl

KeepsRest-put_disk : (side : Side) (d : Disk) (s : Outside) → KeepsRest side s (put_disk side d s)
KeepsRest-put_disk side d s = record {
  places = λ any. place-put_disk side any d s;
  elsewhere = λ at ne. elsewhere-put_disk side d s at ne;
  scripts = scripts-put_disk side d s;
  unread = unread-put_disk side d s;
  said = said-put_disk side d s;
}

pub rest_stays : (P : Disk → Type 0) (side : Side) (old new : Log) → Runs side P old new → Passes old new (KeepsRest side (now old))
rest_stays P side old new runs =
    Passes-weaker old new _ _ (λ s on. subst (KeepsRest side (now old)) (sym on.rest) (KeepsRest-put_disk side on.disk_then (now old))) runs.passes

KeepsSide-on : (P : Disk → Type 0) (side : Side) (old s : Outside) → AreApart old → OnSide side P old s → KeepsSide (other side) old s
KeepsSide-on P side old s apart on = KeepsSide-from (other side) old s
    (ap (place (other side)) on.rest ∙ place-put_disk side (other side) on.disk_then old)
    (ap (disk (other side)) on.rest ∙ disk_other-put side on.disk_then old apart)

pub other_side_stays : (P : Disk → Type 0) (side : Side) (old new : Log) → AreApart (now old) → Runs side P old new → Passes old new (KeepsSide (other side) (now old))
other_side_stays P side old new apart runs = Passes-weaker old new _ _ (λ s on. KeepsSide-on P side (now old) s apart on) runs.passes

-- a pair left at a moment at which one side has P
within_first : (P Q : Disk → Type 0) (side : Side) (old mid s : Outside) (pair : Pair) → Beside side P old s → MayLeave s pair → InTurn P Q side old mid pair
within_first P Q side old mid s pair beside leaves = record {
  one = inl (record { disk_then = disk side s; has = beside.here; left = leaves side }, subst (λ d. IsLeft d (pair (other side))) beside.there (leaves (other side)));
}

other_twice : (side : Side) → other (other side) ≡ side
other_twice Volume = refl
other_twice Store = refl

within_second : (P Q : Disk → Type 0) (side : Side) (old mid s : Outside) (pair : Pair) → Beside (other side) Q mid s → MayLeave s pair → InTurn P Q side old mid pair
within_second P Q side old mid s pair beside leaves =
    let back : disk side s ≡ disk side mid = subst (λ a. disk a s ≡ disk a mid) (other_twice side) beside.there in
    record {
      one = inr (subst (λ d. IsLeft d (pair side)) back (leaves side), record { disk_then = disk (other side) s; has = beside.here; left = leaves (other side) });
    }

pub sides_compose : (P Q : Disk → Type 0) (side : Side) (old mid new : Log) → AreApart (now old) → Runs side P old mid → Runs (other side) Q mid new
    → (pair : Pair) (said : List ℕ) → MayHaveLeft new (old.moment + 1) pair said → InTurn P Q side (now old) (now mid) pair × (said ≡ (now old).said)
sides_compose P Q side old mid new apart first second pair said left =
    let ends = Runs-ends side P old mid apart first in
    let one = Runs-beside side P old mid apart first in
    let two = Runs-beside (other side) Q mid new ends.apart second in
    ⊎_elim
    (λ (beyond : mid.moment < left.moment).
    let beside = two.each left.moment beyond left.until in
    (within_second P Q side (now old) (now mid) (new.past left.moment) pair beside left.leaves, sym left.spoken ∙ beside.said ∙ ends.said))
    (λ (within : left.moment ≤ mid.moment).
    let same : new.past left.moment ≡ mid.past left.moment = two.kept left.moment within in
    let beside = one.each left.moment (omega (arith, left.from)) within in
    (within_first P Q side (now old) (now mid) (mid.past left.moment) pair beside (subst (λ s. MayLeave s pair) same left.leaves), sym left.spoken ∙ ap (λ (s : Outside). s.said) same ∙ beside.said))
    (cases_lt mid.moment left.moment)

pub write_runs : {T E : Type 0} (side : Side) (block : ℕ) (bytes : List ℕ) (old new : Log) (result : Result T E) → Writes side block bytes old new result
    → Runs side (DiffersAt block (disk side (now old))) old new × OnOk result ((disk side (now new)).bytes block ≡ bytes)
write_runs {T} {E} side block bytes old new (Ok v) w = (
  Runs-steps side _ old old new w.left (Runs-none side _ old) w.steps w.differs,
  ap (λ (d : Disk). d.bytes block) (disk_after side old new w.left w.steps ∙ w.ok) ∙ bytes_here block bytes (disk side (now old)),
)
write_runs {T} {E} side block bytes old new (Err e) w = (Runs-steps side _ old old new w.left (Runs-none side _ old) w.steps w.differs, tt)

pub sync_runs : (side : Side) (old new : Log) → Steps old new (put_disk side (synced (disk side (now old))) (now old))
    → Runs side (λ d. d ≡ synced (disk side (now old))) old new × ((block : ℕ) → (disk side (now new)).bytes block ≡ (disk side (now old)).bytes block)
sync_runs side old new steps = (
  Runs-steps side _ old old new _ (Runs-none side _ old) steps refl,
  λ block. ap (λ (d : Disk). d.bytes block) (disk_after side old new _ steps) ∙ bytes_synced (disk side (now old)) block,
)

standing-made : (path : List ℕ) (create : Option ℕ) (s : Outside) (at : Place) → (s.stands at).there ≡ true → (with_made path create s).stands at ≡ s.stands at
standing-made path create s at there = ⊎_elim
    (λ (stands : (s.stands (Some path)).there ≡ true). ap (λ (t : Outside). t.stands at) (cond-true _ s (put_at (Some path) (made create) s) stands))
    (λ (none : (s.stands (Some path)).there ≡ false). ap (λ (t : Outside). t.stands at) (cond-false _ s (put_at (Some path) (made create) s) none)
    ∙ cond-false (is_place (Some path) at) (made create) (s.stands at) (false_from_ne_true _ (λ same.
    let is : (s.stands (Some path)).there ≡ true = subst (λ p. (s.stands p).there ≡ true) (sym (is_place-true (Some path) at same)) there in cc)))
    (cases_Bool (s.stands (Some path)).there)

elsewhere-made : (path : List ℕ) (create : Option ℕ) (s : Outside) (at : Place) → is_place (Some path) at ≡ false → (with_made path create s).stands at ≡ s.stands at
elsewhere-made path create s at ne = ⊎_elim
    (λ (stands : (s.stands (Some path)).there ≡ true). ap (λ (t : Outside). t.stands at) (cond-true _ s (put_at (Some path) (made create) s) stands))
    (λ (none : (s.stands (Some path)).there ≡ false). ap (λ (t : Outside). t.stands at) (cond-false _ s (put_at (Some path) (made create) s) none)
    ∙ cond-false (is_place (Some path) at) (made create) (s.stands at) ne)
    (cases_Bool (s.stands (Some path)).there)

-- what making an image leaves, read off by a function that putting one leaves
made-keeps : {X : Type 0} (f : Outside → X) (path : List ℕ) (create : Option ℕ) (s : Outside) → f (put_at (Some path) (made create) s) ≡ f s → f (with_made path create s) ≡ f s
made-keeps f path create s same = ⊎_elim
    (λ (stands : (s.stands (Some path)).there ≡ true). ap f (cond-true _ s (put_at (Some path) (made create) s) stands))
    (λ (none : (s.stands (Some path)).there ≡ false). ap f (cond-false _ s (put_at (Some path) (made create) s) none) ∙ same)
    (cases_Bool (s.stands (Some path)).there)

pub attach_side_keeps : (side : Side) (path : List ℕ) (create : Option ℕ) (s : Outside) → AttachKeeps side path s (attached (part_of side) path create s)
unfolding attached
attach_side_keeps Volume path create s = record {
  standing = λ at there. standing-made path create s at there;
  elsewhere = λ at ne. elsewhere-made path create s at ne;
  other_place = made-keeps (λ (t : Outside). t.store) path create s refl;
  scripts = made-keeps (λ (t : Outside). t.scripts) path create s refl;
  unread = made-keeps (λ (t : Outside). t.unread) path create s refl;
  said = made-keeps (λ (t : Outside). t.said) path create s refl;
}
attach_side_keeps Store path create s = record {
  standing = λ at there. standing-made path create s at there;
  elsewhere = λ at ne. elsewhere-made path create s at ne;
  other_place = made-keeps (λ (t : Outside). t.volume) path create s refl;
  scripts = made-keeps (λ (t : Outside). t.scripts) path create s refl;
  unread = made-keeps (λ (t : Outside). t.unread) path create s refl;
  said = made-keeps (λ (t : Outside). t.said) path create s refl;
}

-- two moments at which the same stands, and the same is attached
KeepsImages-from : (old new : Outside) → new.stands ≡ old.stands → new.scripts ≡ old.scripts → new.volume ≡ old.volume → new.store ≡ old.store → KeepsImages old new
unfolding disk
KeepsImages-from old new stands scripts volume store = record {
  sides = elim [
    | Volume ↦ KeepsSide-from Volume old new volume (λ i. stands i (volume i))
    | Store ↦ KeepsSide-from Store old new store (λ i. stands i (store i))
  ];
  stands = λ at i. stands i at;
  scripts = scripts;
}

pub attach_script_keeps : (path : List ℕ) (create : Option ℕ) (s : Outside) → KeepsImages s (attached Script path create s) × ((attached Script path create s).said ≡ s.said)
unfolding attached
attach_script_keeps path create s = (KeepsImages-from s _ refl refl refl refl, refl)

pub take_keeps : (n : ℕ) (s : Outside) → KeepsImages s (took n s) × ((took n s).said ≡ s.said)
unfolding took
take_keeps n s = (KeepsImages-from s _ refl refl refl refl, refl)

pub say_keeps : (bytes : List ℕ) (s : Outside) → KeepsImages s (spoke bytes s) × ((spoke bytes s).unread ≡ s.unread)
unfolding spoke
say_keeps bytes s = (KeepsImages-from s _ refl refl refl refl, refl)
