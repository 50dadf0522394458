-- No image is written while the pair is found: attached, and synced.
use Rattle.std.proofs.Common.{◌≡◌, ◌≢◌, ℕ, Bool, true, false, List, Option, Some, refl, sym, ap, ◌∙◌, subst}
use Rattle.std.proofs.lemmas.Bool.{cond-true, cond-false}
use Rattle.tm_world.specs.Disk.{Disk, Image, IsLeft, synced}
use Rattle.tm_world.specs.Log.{Log, now, Passes, Steps}
use Rattle.tm_world.specs.Outside.{Outside, Place, attached, disk, is_place, made, place, put_disk}
use Rattle.tm_world.specs.Torn.{as_read}
use Rattle.tm_world.specs.declared.world.Part.TheVariants as part
use Rattle.tm_world.specs.declared.world.Side.{Side}
use Rattle.tm_world.specs.declared.world.Side.TheVariants.{Volume as VolumeSide, Store as StoreSide}
use Rattle.tm_world.proofs.Going.{Passes-now, Passes-weaker}
use Rattle.tm_world.proofs.Sides.{is_place-same, is_place-sym, place-put_disk}
use Rattle.tm_run.specs.Moments.{IsAttached, IsFinding, IsUntouched}
use Rattle.tm_run.specs.Pairs.{found, image_at}
use Rattle.tm_run.specs.Places.{KeepsImage}
use Rattle.tm_run.specs.Scripts.{IsReading}
use Rattle.tm_run.proofs.PairLemmas.{made_here, made_other, places_differ, said_made, said_put, volume_made}

-- ---- one image

found_there : (path : List ℕ) (create : Option ℕ) (o : Outside) → (o.stands (Some path)).there ≡ true → found path create o ≡ o.stands (Some path)
found_there path create o there = cond-true (o.stands (Some path)).there (o.stands (Some path)) (made create) there

found_absent : (path : List ℕ) (create : Option ℕ) (o : Outside) → (o.stands (Some path)).there ≡ false → found path create o ≡ made create
found_absent path create o absent = cond-false (o.stands (Some path)).there (o.stands (Some path)) (made create) absent

pub found_as_read : (path : List ℕ) (create : Option ℕ) (o : Outside) → IsLeft (found path create o) (image_at path create o)
found_as_read path create o = record { count = refl; stable = λ b loose. refl }

-- a fact by whether an image stands there
by_there : {P : Type 0} (b : Bool) → (b ≡ true → P) → (b ≡ false → P) → P
by_there true stands absent = stands refl
by_there false stands absent = absent refl

-- what stands at the path is what was found, but that it may be stable now
keeps_by : (path : List ℕ) (create : Option ℕ) (start now : Outside) → as_read (now.stands (Some path)) ≡ image_at path create start
    → ((image : Image) → IsLeft (now.stands (Some path)) image → IsLeft (found path create start) image)
    → ((now.stands (Some path)).there ≡ false → (start.stands (Some path)).there ≡ false) → KeepsImage path create start now
keeps_by path create start now reads leaves absent = record { reads = λ there. reads; leaves = λ image found. leaves image found.left; absent = absent }

-- what stands there is the same
pub keeps_same : (path : List ℕ) (create : Option ℕ) (start now : Outside) → now.stands (Some path) ≡ start.stands (Some path) → KeepsImage path create start now
keeps_same path create start now same = record {
  reads = λ there. ap as_read (same ∙ sym (found_there path create start (sym (ap (λ (d : Disk). d.there) same) ∙ there)));
  leaves = λ image leaves.
      let there : (start.stands (Some path)).there ≡ true = sym (ap (λ (d : Disk). d.there) same) ∙ leaves.there in
      subst (λ (d : Disk). IsLeft d image) (same ∙ sym (found_there path create start there)) leaves.left;
  absent = λ absent. sym (ap (λ (d : Disk). d.there) same) ∙ absent;
}

keeps_then_by : (path : List ℕ) (create : Option ℕ) (start mid now : Outside) → KeepsImage path create start mid → KeepsImage path create mid now
    → ((mid.stands (Some path)).there ≡ true → KeepsImage path create start now) × ((mid.stands (Some path)).there ≡ false → KeepsImage path create start now)
keeps_then_by path create start mid now first second = (
  λ there.
      let is : found path create mid ≡ mid.stands (Some path) = found_there path create mid there in
      record {
        reads = λ stands. second.reads stands ∙ ap as_read is ∙ first.reads there;
        leaves = λ image leaves. first.leaves image (record { there = there; left = subst (λ (d : Disk). IsLeft d image) is (second.leaves image leaves) });
        absent = λ absent. first.absent (second.absent absent);
      },
  λ none.
      let is : found path create mid ≡ found path create start = found_absent path create mid none ∙ sym (found_absent path create start (first.absent none)) in
      record {
        reads = λ stands. second.reads stands ∙ ap as_read is;
        leaves = λ image leaves. subst (λ (d : Disk). IsLeft d image) is (second.leaves image leaves);
        absent = λ absent. first.absent (second.absent absent);
      },
)

pub keeps_then : (path : List ℕ) (create : Option ℕ) (start mid now : Outside) → KeepsImage path create start mid → KeepsImage path create mid now → KeepsImage path create start now
keeps_then path create start mid now first second =
    let by = keeps_then_by path create start mid now first second in
    by_there (mid.stands (Some path)).there by.0 by.1

-- a disk is synced
keeps_synced : (path : List ℕ) (create : Option ℕ) (start now : Outside) → now.stands (Some path) ≡ synced (start.stands (Some path)) → KeepsImage path create start now
unfolding synced
keeps_synced path create start now is =
    let same : (now.stands (Some path)).there ≡ (start.stands (Some path)).there = ap (λ (d : Disk). d.there) is in
    record {
      reads = λ there. ap as_read is ∙ ap as_read (sym (found_there path create start (sym same ∙ there)));
      leaves = λ image leaves.
          let now_left : IsLeft (synced (start.stands (Some path))) image = subst (λ (d : Disk). IsLeft d image) is leaves.left in
          subst (λ (d : Disk). IsLeft d image) (sym (found_there path create start (sym same ∙ leaves.there))) (record { count = now_left.count; stable = λ b tight. now_left.stable b refl });
      absent = λ absent. sym same ∙ absent;
    }

-- an image is attached, or made
keeps_made : (path : List ℕ) (create : Option ℕ) (start now : Outside) → now.stands (Some path) ≡ found path create start → KeepsImage path create start now
keeps_made path create start now is = keeps_by path create start now (ap as_read is) (λ image left. subst (λ (d : Disk). IsLeft d image) is left)
    (λ absent. by_there (start.stands (Some path)).there
    (λ there. sym (ap (λ (d : Disk). d.there) (is ∙ found_there path create start there)) ∙ absent)
    (λ none. none))

-- ---- both

pub untouched_same : (p q : List ℕ) (create : Option ℕ) (start now : Outside) → now.stands ≡ start.stands → now.said ≡ start.said → IsUntouched p q create start now
untouched_same p q create start now stands said = record {
  volume = keeps_same p create start now (ap (λ (at : Place → Disk). at (Some p)) stands);
  store = keeps_same q create start now (ap (λ (at : Place → Disk). at (Some q)) stands);
  said = said;
}

pub finding_same : (p q : List ℕ) (create : Option ℕ) (start now : Outside) → now.stands ≡ start.stands → now.said ≡ start.said → IsFinding p q create start now
finding_same p q create start now stands said = record { untouched = untouched_same p q create start now stands said; elsewhere = λ at v z. ap (λ (f : Place → Disk). f at) stands }

pub finding_then : (p q : List ℕ) (create : Option ℕ) (start mid now : Outside) → IsFinding p q create start mid → IsFinding p q create mid now → IsFinding p q create start now
finding_then p q create start mid now first second = record {
  untouched = record {
    volume = keeps_then p create start mid now first.untouched.volume second.untouched.volume;
    store = keeps_then q create start mid now first.untouched.store second.untouched.store;
    said = second.untouched.said ∙ first.untouched.said;
  };
  elsewhere = λ at v z. second.elsewhere at v z ∙ first.elsewhere at v z;
}

-- ---- attaching

module _ (p q : List ℕ) (differ : p ≢ q) (create : Option ℕ) where
  apart : is_place (Some p) (Some q) ≡ false
  apart = places_differ p q differ

  pub volume_found : (s : Outside) → IsFinding p q create s (attached part.Volume p create s)
  unfolding attached
  volume_found s = record {
    untouched = record {
      volume = keeps_made p create s (attached part.Volume p create s) (made_here p create s);
      store = keeps_same q create s (attached part.Volume p create s) (made_other p (Some q) create s apart);
      said = said_made p create s;
    };
    elsewhere = λ at v z. made_other p at create s v;
  }

  pub store_found : (s : Outside) → IsFinding p q create s (attached part.Store q create s)
  unfolding attached
  store_found s = record {
    untouched = record {
      volume = keeps_same p create s (attached part.Store q create s) (made_other q (Some p) create s (is_place-sym (Some p) (Some q) apart));
      store = keeps_made q create s (attached part.Store q create s) (made_here q create s);
      said = said_made q create s;
    };
    elsewhere = λ at v z. made_other q at create s z;
  }

  pub both_attached : (s o : Outside) → o ≡ attached part.Store q create (attached part.Volume p create s) → IsAttached p q create s o
  unfolding attached
  both_attached s o is =
      let t = attached part.Volume p create s in
      subst (IsAttached p q create s) (sym is)
      (record {
        apart = apart;
        volume = volume_made q create t;
        store = refl;
        found = finding_then p q create s t (attached part.Store q create t) (volume_found s) (store_found t);
      })

-- ---- syncing

stands_put : (side : Side) (d : Disk) (s : Outside) (at : Place) → is_place (place side s) at ≡ false → (put_disk side d s).stands at ≡ s.stands at
unfolding put_disk
stands_put side d s at other = cond-false (is_place (place side s) at) d (s.stands at) other

stands_here : (side : Side) (d : Disk) (s : Outside) (path : List ℕ) → place side s ≡ Some path → (put_disk side d s).stands (Some path) ≡ d
unfolding put_disk
stands_here side d s path at = cond-true (is_place (place side s) (Some path)) d (s.stands (Some path)) (subst (λ (x : Place). is_place x (Some path) ≡ true) (sym at) (is_place-same (Some path)))

pub disk_is : (side : Side) (s : Outside) (path : List ℕ) → place side s ≡ Some path → disk side s ≡ s.stands (Some path)
unfolding disk
disk_is side s path at = ap s.stands at

module _ (p q : List ℕ) (create : Option ℕ) (start here : Outside) (at : IsAttached p q create start here) where
  abbrev volume_synced : Outside
  volume_synced = put_disk VolumeSide (synced (disk VolumeSide here)) here

  abbrev store_synced : Outside
  store_synced = put_disk StoreSide (synced (disk StoreSide here)) here

  other_place : (x : Place) (side : Side) (path : List ℕ) → place side here ≡ Some path → is_place (Some path) x ≡ false → is_place (place side here) x ≡ false
  other_place x side path is other = subst (λ (y : Place). is_place y x ≡ false) (sym is) other

  pub sync_volume : IsFinding p q create here (put_disk VolumeSide (synced (disk VolumeSide here)) here)
  sync_volume = record {
    untouched = record {
      volume = keeps_synced p create here volume_synced (stands_here VolumeSide (synced (disk VolumeSide here)) here p at.volume ∙ ap synced (disk_is VolumeSide here p at.volume));
      store = keeps_same q create here volume_synced (stands_put VolumeSide (synced (disk VolumeSide here)) here (Some q) (other_place (Some q) VolumeSide p at.volume at.apart));
      said = (said_put here (synced (disk VolumeSide here))).0;
    };
    elsewhere = λ x v z. stands_put VolumeSide (synced (disk VolumeSide here)) here x (other_place x VolumeSide p at.volume v);
  }

  pub sync_store : IsFinding p q create here (put_disk StoreSide (synced (disk StoreSide here)) here)
  sync_store = record {
    untouched = record {
      volume = keeps_same p create here store_synced (stands_put StoreSide (synced (disk StoreSide here)) here (Some p) (other_place (Some p) StoreSide q at.store (is_place-sym (Some p) (Some q) at.apart)));
      store = keeps_synced q create here store_synced (stands_here StoreSide (synced (disk StoreSide here)) here q at.store ∙ ap synced (disk_is StoreSide here q at.store));
      said = (said_put here (synced (disk StoreSide here))).1;
    };
    elsewhere = λ x v z. stands_put StoreSide (synced (disk StoreSide here)) here x (other_place x StoreSide q at.store z);
  }

-- an image that is attached stays so
pub still_attached : (p q : List ℕ) (create : Option ℕ) (start here now : Outside) → IsAttached p q create start here → ((side : Side) → place side now ≡ place side here) → IsFinding p q create here now
    → IsAttached p q create start now
still_attached p q create start here now at places finding = record {
  apart = at.apart;
  volume = places VolumeSide ∙ at.volume;
  store = places StoreSide ∙ at.store;
  found = finding_then p q create start here now at.found finding;
}

pub places_put : (side : Side) (d : Disk) (s o : Outside) → o ≡ put_disk side d s → (any : Side) → place any o ≡ place any s
places_put side d s o is any = ap (place any) is ∙ place-put_disk side any d s

pub volume_synced_at : (p q : List ℕ) (create : Option ℕ) (start here now : Outside) → IsAttached p q create start here → now ≡ put_disk VolumeSide (synced (disk VolumeSide here)) here → IsAttached p q create start now
volume_synced_at p q create start here now at is =
    still_attached p q create start here now at (places_put VolumeSide (synced (disk VolumeSide here)) here now is) (subst (IsFinding p q create here) (sym is) (sync_volume p q create start here at))

pub store_synced_at : (p q : List ℕ) (create : Option ℕ) (start here now : Outside) → IsAttached p q create start here → now ≡ put_disk StoreSide (synced (disk StoreSide here)) here → IsAttached p q create start now
store_synced_at p q create start here now at is =
    still_attached p q create start here now at (places_put StoreSide (synced (disk StoreSide here)) here now is) (subst (IsFinding p q create here) (sym is) (sync_store p q create start here at))

-- ---- the moments

pub finding_steps : (p q : List ℕ) (create : Option ℕ) (start : Outside) (old new : Log) (after : Outside) → Steps old new after → IsFinding p q create start after → Passes old new (IsFinding p q create start)
finding_steps p q create start old new after steps fine = Passes-weaker old new _ (IsFinding p q create start) (λ s is. subst (IsFinding p q create start) (sym is) fine) steps.passes

pub finding_reads : (p q : List ℕ) (create : Option ℕ) (old new : Log) → Passes old new (IsReading (now old)) → Passes old new (IsFinding p q create (now old))
finding_reads p q create old new passes = Passes-weaker old new _ (IsFinding p q create (now old)) (λ o reading. finding_same p q create (now old) o reading.stands reading.said) passes

pub finding_now : (p q : List ℕ) (create : Option ℕ) (old new : Log) → Passes old new (IsFinding p q create (now old)) → IsFinding p q create (now old) (now new)
finding_now p q create old new passes = Passes-now old new (IsFinding p q create (now old)) passes (finding_same p q create (now old) (now old) refl refl)
