-- A session between lines, and the moments of a line that commits on one side.
use Rattle.std.proofs.Common.{◌≡◌, ◌⊎◌, ℕ, ◌≤◌, false, Option, Some, None, IfSome, Result, Ok, Err, List, ◌∷◌, refl, sym, ◌∙◌, ap, subst, arith}
use Rattle.std.specs.Option.{option_map}
use Rattle.std.proofs.lemmas.List.Elements.{All-head}
use Rattle.std.proofs.lemmas.Option.{none-some}
use Rattle.tm_base.specs.declared.refused.LineFault.{LineFault}
use Rattle.tm_base.specs.declared.refused.LineFault.TheVariants.{Refused as RefusedFor, Fault, Memory}
use Rattle.tm_base.specs.Limits.{max_blocks}
use Rattle.tm_store.specs.Sides.{StoreSideReads, LeavesStoreSide, StoreBlankLeaves}
use Rattle.tm_store_records.specs.Held.{Held, store_stored_on}
use Rattle.tm_store_records.specs.Laws.{HeldReads}
use Rattle.tm_store_records.specs.States.{StoredStore}
use Rattle.tm_volume.specs.Reads.{SideReads, LeavesEither, LeavesSide, BlankLeaves}
use Rattle.tm_volume.specs.Seen.{Seen as VolumeSeen, IsKept, IsReady, StandsOn, StandsLeaves, stored_on}
use Rattle.tm_volume.specs.Stored.{StoredVolume}
use Rattle.tm_world.specs.Disk.{Disk, Image, IsLeft}
use Rattle.tm_world.specs.Log.{Log, now, Passes, Steps}
use Rattle.tm_world.specs.Outside.{Outside, Place, is_place, place, disk, AreApart}
use Rattle.tm_world.specs.Runs.{Beside, Runs}
use Rattle.tm_world.specs.Alone.{KeepsRest}
use Rattle.tm_world.proofs.Keeping.{rest_stays}
use Rattle.tm_world.specs.declared.world.Side.{Side}
use Rattle.tm_world.specs.declared.world.Side.TheVariants.{Volume as VolumeSide, Store as StoreSide}
use Rattle.tm_world.proofs.Going.{Passes-weaker}
use Rattle.tm_world.proofs.Pairs.{Runs-beside}
use Rattle.tm_machine.specs.Session.{Seen, state_on, VolumeStands, StoreStands, Standing, IsIdle, IsOpen, Alike, unlooked, IfReplied}
use Rattle.tm_machine.specs.States.{State, Stored, kept}
use Rattle.tm_machine.specs.Stops.{HaveNoStore, HaveNoVolume, IsAmong, IsFramed, LeavesCommits, LeavesPair}

-- ---- the same but for looks

abbrev still : VolumeSeen → VolumeSeen
still v = record v { looks = 0 }

ready_still : (v : VolumeSeen) (n : ℕ) → IsReady v n → IsReady (still v) n
ready_still v n h = record { settled = h.settled; space = h.space; count = h.count; unstaged = h.unstaged }

ready_moved : (v : VolumeSeen) (n : ℕ) → IsReady (still v) n → IsReady v n
ready_moved v n h = record { settled = h.settled; space = h.space; count = h.count; unstaged = h.unstaged }

kept_still : (v : VolumeSeen) → IsKept v → IsKept (still v)
kept_still v h = record { image = h.image; side = h.side; tag_is = h.tag_is; tagged = h.tagged; head_is = h.head_is; sound = h.sound; lengths = h.lengths }

kept_moved : (v : VolumeSeen) → IsKept (still v) → IsKept v
kept_moved v h = record { image = h.image; side = h.side; tag_is = h.tag_is; tagged = h.tagged; head_is = h.head_is; sound = h.sound; lengths = h.lengths }

stands_still : (v : VolumeSeen) (d : Disk) → StandsOn v d → StandsOn (still v) d
stands_still v d h = record { stands = h.stands; good = h.good; fixed = h.fixed }

stands_moved : (v : VolumeSeen) (d : Disk) → StandsOn (still v) d → StandsOn v d
stands_moved v d h = record { stands = h.stands; good = h.good; fixed = h.fixed }

ready_alike : (v w : Option VolumeSeen) (n : ℕ) → unlooked w ≡ unlooked v → IfSome v (λ x. IsReady x n) → IfSome w (λ x. IsReady x n)
ready_alike None None n e h = tt
ready_alike None (Some w) n e h = cc
ready_alike (Some v) None n e h = cc
ready_alike (Some v) (Some w) n e h =
    let same : still w ≡ still v = cc in
    ready_moved w n (subst (λ (x : VolumeSeen). IsReady x n) (sym same) (ready_still v n h))

kept_alike : (v w : Option VolumeSeen) → unlooked w ≡ unlooked v → IfSome v IsKept → IfSome w IsKept
kept_alike None None e h = tt
kept_alike None (Some w) e h = cc
kept_alike (Some v) None e h = cc
kept_alike (Some v) (Some w) e h =
    let same : still w ≡ still v = cc in
    kept_moved w (subst (λ (x : VolumeSeen). IsKept x) (sym same) (kept_still v h))

stands_alike : (v w : Option VolumeSeen) (d : Disk) → unlooked w ≡ unlooked v → VolumeStands v d → VolumeStands w d
stands_alike None None d e h = h
stands_alike None (Some w) d e h = cc
stands_alike (Some v) None d e h = cc
stands_alike (Some v) (Some w) d e h =
    let same : still w ≡ still v = cc in
    stands_moved w d (subst (λ (x : VolumeSeen). StandsOn x d) (sym same) (stands_still v d h))

abbrev pub stored_in : (ℕ → List ℕ) → Option VolumeSeen → Option StoredVolume
stored_in bytes v = option_map (λ w. stored_on w bytes) v

abbrev pub held_in : (ℕ → List ℕ) → Option Held → Option StoredStore
held_in bytes h = option_map (λ x. store_stored_on x bytes) h

stored_unlooked : (v : Option VolumeSeen) (bytes : ℕ → List ℕ) → stored_in bytes (unlooked v) ≡ stored_in bytes v
stored_unlooked None bytes = refl
stored_unlooked (Some v) bytes = refl

-- a session of these parts
abbrev pub seen : ℕ → ℕ → Option VolumeSeen → Option Held → Option ℕ → Seen
seen n k v h moment = record { volume_blocks = n; store_blocks = k; volume = v; store = h; moment = moment }

abbrev pub state : ℕ → ℕ → Option StoredVolume → Option StoredStore → Option ℕ → State
state n k v z moment = record { volume_blocks = n; store_blocks = k; volume = v; store = z; moment = moment }

abbrev pub pair : Option StoredVolume → Option StoredStore → Stored
pair v z = record { volume = v; store = z }

pub state_alike : (m new : Seen) (o : Outside) → Alike m new → state_on new o ≡ state_on m o
state_alike m new o alike = λ i. record {
  volume_blocks = alike.blocks_same i;
  store_blocks = alike.store_blocks_same i;
  volume = (sym (stored_unlooked new.volume (disk VolumeSide o).bytes) ∙ ap (stored_in (disk VolumeSide o).bytes) alike.volume_same ∙ stored_unlooked m.volume (disk VolumeSide o).bytes) i;
  store = ap (held_in (disk StoreSide o).bytes) alike.store_same i;
  moment = alike.moment_same i;
}

pub standing_alike : (m new : Seen) (o : Outside) → Alike m new → Standing m o → Standing new o
standing_alike m new o alike s = record {
  apart = s.apart;
  volume_side = stands_alike m.volume new.volume (disk VolumeSide o) alike.volume_same s.volume_side;
  store_side = subst (λ (h : Option Held). StoreStands h (disk StoreSide o)) (sym alike.store_same) s.store_side;
}

pub open_alike : (m new : Seen) (blocks : Side → ℕ) → Alike m new → IsOpen m blocks → IsOpen new blocks
open_alike m new blocks alike h = record {
  count = h.count ∙ sym alike.blocks_same;
  small = subst (λ (n : ℕ). n ≤ max_blocks) (sym alike.blocks_same) h.small;
  sound = kept_alike m.volume new.volume alike.volume_same h.sound;
  ready = subst (λ (n : ℕ). IfSome new.volume (λ x. IsReady x n)) (sym alike.blocks_same) (ready_alike m.volume new.volume m.volume_blocks alike.volume_same h.ready);
  store_count = h.store_count ∙ sym alike.store_blocks_same;
  store_small = subst (λ (n : ℕ). n ≤ max_blocks) (sym alike.store_blocks_same) h.store_small;
  idle = subst (λ (n : ℕ). IfSome new.store (λ x. IsIdle x n)) (sym alike.store_blocks_same) (subst (λ (o : Option Held). IfSome o (λ x. IsIdle x m.store_blocks)) (sym alike.store_same) h.idle);
}

pub alike_self : (m : Seen) → Alike m m
alike_self m = record { blocks_same = refl; store_blocks_same = refl; volume_same = refl; store_same = refl; moment_same = refl }

-- ---- what is there where the line replied

pub replied_any : {A : Type 0} (result : Result A LineFault) (fact : Type 0) → fact → IfReplied result fact
replied_any (Ok found) fact h = h
replied_any (Err (RefusedFor why)) fact h = h
replied_any (Err (Fault side)) fact h = tt
replied_any (Err Memory) fact h = tt

-- ---- at rest

-- the laws of both sides
pub record AtRest : Type 0 where
  pub volume_stands : StandsLeaves
  pub volume_blank : BlankLeaves
  pub store_stands : HeldReads
  pub store_blank : StoreBlankLeaves

volume_left : StandsLeaves → BlankLeaves → (w : Option VolumeSeen) (n : ℕ) (d : Disk) (image : Image)
    → IfSome w IsKept → IfSome w (λ v. IsReady v n) → VolumeStands w d → IsLeft d image → SideReads image (stored_in d.bytes w)
volume_left stands_leaves blank_leaves None n d image sound ready stands left = blank_leaves d stands image left
volume_left stands_leaves blank_leaves (Some v) n d image sound ready stands left = stands_leaves v n d sound ready stands image left

store_left : HeldReads → StoreBlankLeaves → (h : Option Held) (n : ℕ) (d : Disk) (image : Image)
    → IfSome h (λ x. IsIdle x n) → StoreStands h d → IsLeft d image → StoreSideReads image (held_in d.bytes h)
store_left held_reads blank_leaves None n d image idle stands left = blank_leaves d stands image left
store_left held_reads blank_leaves (Some h) n d image idle stands left = held_reads h d image idle.whole stands left

pub volume_rests : AtRest → (m : Seen) (blocks : Side → ℕ) (o : Outside) → IsOpen m blocks → Standing m o → LeavesSide (state_on m o).volume (disk VolumeSide o)
volume_rests laws m blocks o is_open standing image left =
    volume_left laws.volume_stands laws.volume_blank m.volume m.volume_blocks (disk VolumeSide o) image is_open.sound is_open.ready standing.volume_side left

pub store_rests : AtRest → (m : Seen) (blocks : Side → ℕ) (o : Outside) → IsOpen m blocks → Standing m o → LeavesStoreSide (state_on m o).store (disk StoreSide o)
store_rests laws m blocks o is_open standing image left =
    store_left laws.store_stands laws.store_blank m.store m.store_blocks (disk StoreSide o) image is_open.idle standing.store_side left

-- whatever a stop leaves between two lines reads as what is kept
pub rest_leaves : AtRest → (m : Seen) (blocks : Side → ℕ) (o : Outside) → IsOpen m blocks → Standing m o → LeavesPair (kept (state_on m o)) o
rest_leaves laws m blocks o is_open standing v z v_left z_left = record {
  volume_reads = volume_rests laws m blocks o is_open standing v v_left;
  store_reads = store_rests laws m blocks o is_open standing z z_left;
}

-- nothing but a side changes
pub framed_same : (o : Outside) → IsFramed o o
framed_same o = record { places = λ side. refl; elsewhere = λ at v z. refl }

elsewhere_by : (side : Side) (start o : Outside) → KeepsRest side start o → (at : Place) → is_place (place VolumeSide start) at ≡ false → is_place (place StoreSide start) at ≡ false → o.stands at ≡ start.stands at
elsewhere_by VolumeSide start o keeps at v z = keeps.elsewhere at v
elsewhere_by StoreSide start o keeps at v z = keeps.elsewhere at z

-- a moment of a run on one side, with all else as it was
pub record FramedBeside (side : Side) (P : Disk → Type 0) (start o : Outside) : Type 0 where
  pub beside : Beside side P start o
  pub framed : IsFramed start o

pub runs_framed : (side : Side) (P : Disk → Type 0) (start end : Log) → AreApart (now start) → Runs side P start end → Passes start end (FramedBeside side P (now start))
runs_framed side P start end apart runs =
    let one = Runs-beside side P start end apart runs in
    let rest = rest_stays P side start end runs in
    record {
      later = one.later;
      kept = one.kept;
      each = λ k lt le. record { beside = one.each k lt le; framed = record { places = (rest.each k lt le).places; elsewhere = elsewhere_by side (now start) (end.past k) (rest.each k lt le) } };
    }

pub rest_moment : (first : Stored) (made : List Stored) (o : Outside) → AreApart o → LeavesPair first o → LeavesCommits first made o o
rest_moment first made o apart leaves = record {
  apart = apart;
  framed = framed_same o;
  said = refl;
  blank = record { volume = λ none few. refl; store = λ none few. refl };
  among = λ v z v_left z_left. record { made = 0; few = omega arith; reads = leaves v z v_left z_left };
}

pub reading_moments : (first : Stored) (made : List Stored) (start end : Log) → AreApart (now start) → LeavesPair first (now start) → Steps start end (now start)
    → Passes start end (LeavesCommits first made (now start))
reading_moments first made start end apart leaves steps =
    Passes-weaker start end _ _ (λ o e. subst (LeavesCommits first made (now start)) (sym e) (rest_moment first made (now start) apart leaves)) steps.passes

-- ---- commits on one side

pub volume_moments : (old new : Option StoredVolume) (z : Option StoredStore) (made : List Stored) (start end : Log) → AreApart (now start)
    → LeavesStoreSide z (disk StoreSide (now start))
    → ((v w : Image) → SideReads v old ⊎ SideReads v new → StoreSideReads w z → IsAmong (pair old z) made v w) → (old ≡ None → HaveNoVolume made → Steps start end (now start))
    → Runs VolumeSide (LeavesEither old new) start end → Passes start end (LeavesCommits (pair old z) made (now start))
volume_moments old new z made start end apart rests among reads runs =
    let moments = runs_framed VolumeSide (LeavesEither old new) start end apart runs in
    record {
      later = moments.later;
      kept = moments.kept;
      each = λ k lt le.
          let at = moments.each k lt le in
          let beside = at.beside in
          record {
            apart = beside.apart;
            framed = at.framed;
            said = beside.said;
            blank = record { volume = λ none few. ap (disk VolumeSide) ((reads none few).passes.each k lt le); store = λ none few. beside.there };
            among = λ v w v_left w_left. among v w (beside.here v v_left) (rests w (subst (λ (d : Disk). IsLeft d w) beside.there w_left));
          };
    }

-- a disk of which a stop leaves the one or the other
abbrev pub LeavesEitherStore : Option StoredStore → Option StoredStore → Disk → Type 0
LeavesEitherStore old new disk = (image : Image) → IsLeft disk image → StoreSideReads image old ⊎ StoreSideReads image new

pub store_moments : (old new : Option StoredStore) (v : Option StoredVolume) (made : List Stored) (start end : Log) → AreApart (now start)
    → LeavesSide v (disk VolumeSide (now start))
    → ((u w : Image) → SideReads u v → StoreSideReads w old ⊎ StoreSideReads w new → IsAmong (pair v old) made u w) → (old ≡ None → HaveNoStore made → Steps start end (now start))
    → Runs StoreSide (LeavesEitherStore old new) start end → Passes start end (LeavesCommits (pair v old) made (now start))
store_moments old new v made start end apart rests among reads runs =
    let moments = runs_framed StoreSide (LeavesEitherStore old new) start end apart runs in
    record {
      later = moments.later;
      kept = moments.kept;
      each = λ k lt le.
          let at = moments.each k lt le in
          let beside = at.beside in
          record {
            apart = beside.apart;
            framed = at.framed;
            said = beside.said;
            blank = record { volume = λ none few. beside.there; store = λ none few. ap (disk StoreSide) ((reads none few).passes.each k lt le) };
            among = λ u w u_left w_left. among u w (rests u (subst (λ (d : Disk). IsLeft d u) beside.there u_left)) (beside.here w w_left);
          };
    }

-- a list of commits that has one with a volume, or with a store
pub some_volume : {P : Type 0} (s : StoredVolume) (z : Option StoredStore) (more : List Stored) → HaveNoVolume (pair (Some s) z ∷ more) → P
some_volume s z more none = absurd (none-some s (sym (All-head (λ x. x.volume ≡ None) (pair (Some s) z) more none)))

pub some_store : {P : Type 0} (v : Option StoredVolume) (s : StoredStore) (more : List Stored) → HaveNoStore (pair v (Some s) ∷ more) → P
some_store v s more none = absurd (none-some s (sym (All-head (λ x. x.store ≡ None) (pair v (Some s)) more none)))

pub none_made : (v : Option StoredVolume) (z : Option StoredStore) (made : List Stored) (u w : Image) → SideReads u v → StoreSideReads w z → IsAmong (pair v z) made u w
none_made v z made u w reads store_reads = record { made = 0; few = omega arith; reads = record { volume_reads = reads; store_reads = store_reads } }

pub one_made : (first : Stored) (v : Option StoredVolume) (z : Option StoredStore) (more : List Stored) (u w : Image) → SideReads u v → StoreSideReads w z → IsAmong first (pair v z ∷ more) u w
one_made first v z more u w reads store_reads = record { made = 1; few = omega arith; reads = record { volume_reads = reads; store_reads = store_reads } }
