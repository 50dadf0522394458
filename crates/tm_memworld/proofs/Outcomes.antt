-- The counts of faults and of blocks, from what a world shows before a call and after it.
use Rattle.std.proofs.Common.{◌≡◌, ℕ, ◌-◌, Bool, true, false, cond, eqb, List, length, take, Option, Some, None, Ok, Err, IfSome, refl, sym, ◌∙◌, ap, subst, arith}
use Rattle.std.proofs.lemmas.Bool.{cond-false, ne_eqb}
use Rattle.std.proofs.lemmas.List.{take_all, append-nil}
use Rattle.tm_world.specs.Disk.{Disk, DiffersAt, written}
use Rattle.tm_world.specs.Outside.{Outside, disk, put_disk, took, spoke, part_of, attached_count}
use Rattle.tm_world.specs.Log.{Log, now, Steps, Says, Writes}
use Rattle.tm_world.specs.Faults.{Rose, NeverLess}
use Rattle.tm_world.specs.declared.world.Part.{Part}
use Rattle.tm_world.specs.declared.world.Part.TheVariants.{Volume, Store, Script, Out}
use Rattle.tm_world.specs.declared.world.Side.{Side}
use Rattle.tm_world.specs.declared.world.Side.TheVariants.{Volume as VolumeSide, Store as StoreSide}
use Rattle.tm_world.proofs.Sides.{count-put_disk, disk-spoke, put_disk_same}
use Rattle.tm_world.proofs.Disks.{differs-written, differs-none}
use Rattle.tm_memworld.specs.declared.room.Room.{Room}
use Rattle.tm_memworld.specs.Room.{spent}
use Rattle.tm_world.specs.Counts.{one_more, is_part, raised}
use Rattle.tm_memworld.specs.Torn.{loosened}
use Rattle.tm_memworld.specs.Devices.{log_of, places_of}
use Rattle.tm_memworld.specs.State.{State, called, with_outside}
use Rattle.tm_memworld.specs.World.{state, blocks_of}
use Rattle.tm_memworld.specs.declared.devices.Devices.{Devices}
use Rattle.tm_memworld.specs.declared.world.MemWorld.{MemWorld}

is_part-same : (part : Part) → is_part part part ≡ true
is_part-same Volume = refl
is_part-same Store = refl
is_part-same Script = refl
is_part-same Out = refl

pub rose : (part : Part) (old new : Part → ℕ) → new ≡ raised part old → Rose (old part) (new part)
rose part old new is =
    let more : new part ≡ one_more (old part) = (λ i. is i part) ∙ ap (λ b. cond b (one_more (old part)) (old part)) (is_part-same part) in
    omega (arith, more)

pub never_less_same : (old new : Part → ℕ) → new ≡ old → NeverLess old new
never_less_same old new is part = let same : new part ≡ old part = (λ i. is i part) in omega arith

-- both sides have as many blocks as before
pub blocks_same : (old new : MemWorld) → (state new).outside ≡ (state old).outside → blocks_of new ≡ blocks_of old
blocks_same old new is = λ i side. (disk side (is i)).count

pub blocks_put : (old new : MemWorld) (side : Side) (d : Disk) → (state new).outside ≡ put_disk side d (state old).outside → d.count ≡ (disk side (state old).outside).count → blocks_of new ≡ blocks_of old
blocks_put old new side d is same = λ i other. (ap (λ (s : Outside). (disk other s).count) is ∙ count-put_disk side other d (state old).outside same) i

disk-took : (side : Side) (n : ℕ) (s : Outside) → disk side (took n s) ≡ disk side s
unfolding disk took
disk-took VolumeSide n s = refl
disk-took StoreSide n s = refl

pub blocks_took : (old new : MemWorld) (n : ℕ) → (state new).outside ≡ took n (state old).outside → blocks_of new ≡ blocks_of old
blocks_took old new n is = λ i side. (ap (λ (s : Outside). (disk side s).count) is ∙ ap (λ (d : Disk). d.count) (disk-took side n (state old).outside)) i

pub blocks_spoke : (old new : MemWorld) (bytes : List ℕ) → (state new).outside ≡ spoke bytes (state old).outside → blocks_of new ≡ blocks_of old
blocks_spoke old new bytes is = λ i side. (ap (λ (s : Outside). (disk side s).count) is ∙ ap (λ (d : Disk). d.count) (disk-spoke side bytes (state old).outside)) i

pub attached_count-part_of : (side : Side) (s : Outside) → (disk side s).count ≡ attached_count (part_of side) s
unfolding attached_count
attached_count-part_of VolumeSide s = refl
attached_count-part_of StoreSide s = refl

pub attached_count-script : (s : Outside) → 0 ≡ attached_count Script s
unfolding attached_count
attached_count-script s = refl

-- what attaching a side answers
pub count_shown : (answer : Option ℕ) (side : Side) (part : Part) (s : Outside) → part ≡ part_of side → IfSome answer (λ n. n ≡ (disk side s).count) → IfSome answer (λ n. n ≡ attached_count part s)
count_shown None side part s is count = tt
count_shown (Some n) side part s is count = count ∙ attached_count-part_of side s ∙ ap (λ p. attached_count p s) (sym is)

-- after a call that was counted, and that the devices answered
pub answered : (w : MemWorld) (d : Devices) (writes said : ℕ) (o : Outside) (old : State) → state w ≡ record old { made = one_more old.made }
    → now (log_of d) ≡ o → places_of d ≡ places_of w.devices → d.room ≡ spent writes said w.devices.room → state (record w { devices = d }) ≡ called writes said (with_outside o old)
unfolding state
answered w d writes said o old counted then places room = λ i. record {
  outside = then i;
  places = (places ∙ ap (λ (s : State). s.places) counted) i;
  made = (counted i).made;
  failing = (counted i).failing;
  fuse = (counted i).fuse;
  calls_left = (ap (λ (r : Room). r.calls) room ∙ ap (λ (s : State). s.calls_left - 1) counted) i;
  writes_left = (ap (λ (r : Room). r.writes) room ∙ ap (λ (s : State). s.writes_left - writes) counted) i;
  said_left = (ap (λ (r : Room). r.said) room ∙ ap (λ (s : State). s.said_left - said) counted) i;
  faults = (counted i).faults;
}

-- the counts of faults after a call that was counted, and that failed
pub never_less_counted : (mid new : MemWorld) (old : State) → state mid ≡ record old { made = one_more old.made } → NeverLess (state mid).faults (state new).faults → NeverLess old.faults (state new).faults
never_less_counted mid new old counted less part = let same : (state mid).faults part ≡ old.faults part = ap (λ (s : State). s.faults part) counted in omega (arith, less part)

-- a step that says these bytes, and one that says nothing
pub says_all : (old new : Log) (bytes : List ℕ) → Steps old new (spoke bytes (now old)) → Says old new bytes (length bytes)
says_all old new bytes steps =
    let whole : bytes ≡ take (length bytes) bytes = sym (take_all (length bytes) bytes (omega arith)) in
    let is : spoke bytes (now old) ≡ spoke (take (length bytes) bytes) (now old) = ap (λ b. spoke b (now old)) whole in
    record {
      within = omega arith;
      passes = record {
        later = steps.passes.later;
        kept = steps.passes.kept;
        each = λ k lt le. (length bytes, omega arith, steps.passes.each k lt le ∙ is);
      };
      ends = steps.ends ∙ is;
    }

spoke-none : (bytes : List ℕ) (s : Outside) → spoke (take 0 bytes) s ≡ s
unfolding spoke
spoke-none bytes s = λ i. record s { said = append-nil s.said i }

pub says_none : (old new : Log) (bytes : List ℕ) → Steps old new (now old) → Says old new bytes 0
says_none old new bytes steps = record {
  within = omega arith;
  passes = record {
    later = steps.passes.later;
    kept = steps.passes.kept;
    each = λ k lt le. (0, omega arith, steps.passes.each k lt le ∙ sym (spoke-none bytes (now old)));
  };
  ends = steps.ends ∙ sym (spoke-none bytes (now old));
}

differs-loosened : (block : ℕ) (d : Disk) → DiffersAt block d (loosened block d)
unfolding loosened
differs-loosened block d = record { there = refl; count = refl; bytes = λ b ne. refl; loose = λ b ne. cond-false (eqb b block) true (d.loose b) (ne_eqb b block ne) }

writes_as : {T E : Type 0} {e : E} (side : Side) (block : ℕ) (bytes : List ℕ) (old new : Log) (d : Disk) → DiffersAt block (disk side (now old)) d → Steps old new (put_disk side d (now old))
    → Writes {T = T} {E = E} side block bytes old new (Err e)
writes_as side block bytes old new d differs steps = record { left = d; differs = differs; ok = tt; steps = steps }

-- a write that failed: its block is loose, or nothing happened
pub failed_write : {T E : Type 0} {e : E} (side : Side) (block : ℕ) (bytes : List ℕ) (old new : Log) (noted : Bool)
    → Steps old new (cond noted (put_disk side (loosened block (disk side (now old))) (now old)) (now old)) → Writes {T = T} {E = E} side block bytes old new (Err e)
failed_write side block bytes old new true steps = writes_as side block bytes old new _ (differs-loosened block (disk side (now old))) steps
failed_write side block bytes old new false steps = writes_as side block bytes old new _ (differs-none block (disk side (now old))) (subst (Steps old new) (sym (put_disk_same side (now old))) steps)

pub done_write : {T E : Type 0} {v : T} (side : Side) (block : ℕ) (bytes : List ℕ) (old new : Log) → Steps old new (put_disk side (written block bytes (disk side (now old))) (now old))
    → Writes {T = T} {E = E} side block bytes old new (Ok v)
done_write side block bytes old new steps = record { left = written block bytes (disk side (now old)); differs = differs-written block bytes (disk side (now old)); ok = refl; steps = steps }

pub blocks_failed : (old new : MemWorld) (side : Side) (block : ℕ) (noted : Bool)
    → (state new).outside ≡ cond noted (put_disk side (loosened block (disk side (state old).outside)) (state old).outside) (state old).outside → blocks_of new ≡ blocks_of old
blocks_failed old new side block true is = blocks_put old new side (loosened block (disk side (state old).outside)) is (differs-loosened block (disk side (state old).outside)).count
blocks_failed old new side block false is = blocks_same old new is
