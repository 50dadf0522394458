-- Opening: what an image reads as, and the commit that begins a generation.
use Rattle.std.proofs.Common.{if◌then◌else◌, ◌≡◌, ◌⊎◌, inl, ⊎_elim, ℕ, ◌+◌, ◌-◌, ◌≤◌, ◌<◌, ◌==◌, Bool, true, false, Option, Some, None, List, [], ◌∷◌, refl, sym, ◌∙◌, ap, subst, arith, ◌^◌}
use Rattle.std.specs.Option.{option_map}
use Rattle.std.proofs.lemmas.Bool.Decides.{nat_tests}
use Rattle.tm_base.specs.declared.refused.Side.{Side as RefusedSide}
use Rattle.tm_base.specs.Limits.{max_blocks}
use Rattle.tm_base.specs.declared.refused.Side.TheVariants as named
use Rattle.tm_gate.specs.Load.{IsUnformatted}
use Rattle.tm_volume.specs.Answers.{IsSpent, FailsVolume}
use Rattle.tm_volume.specs.Reads.{SideReads, LeavesSide, LeavesEither, OneSide, IsUnformattedImage}
use Rattle.tm_volume.specs.Seen.{Seen as VolumeSeen, IsKept, IsReady, StandsOn, StandsLeaves, stored_on}
use Rattle.tm_volume.specs.Stored.{StoredVolume, reopened, with_generation}
use Rattle.tm_world.specs.Disk.{Disk, Image, IsLeft}
use Rattle.tm_world.specs.Log.{Log, now, Passes, Steps}
use Rattle.tm_world.specs.Outside.{Outside, disk, AreApart}
use Rattle.tm_world.specs.Runs.{Runs}
use Rattle.tm_world.specs.Torn.{as_read}
use Rattle.tm_world.specs.declared.cause.Cause.{Cause}
use Rattle.tm_world.specs.declared.world.Side.TheVariants.{Volume as VolumeSide, Store as StoreSide}
use Rattle.tm_world.proofs.Going.{Passes-now, Passes-then, Passes-weaker, Runs-none, Runs-stays, Runs-then, Runs-weaker}
use Rattle.tm_store.specs.Sides.{StoreSideReads, LeavesStoreSide, OneStoreSide, IsUnformattedStore}
use Rattle.tm_store_records.specs.Held.{Held, store_stored_on}
use Rattle.tm_store_records.specs.States.{StoredStore, StoreReads, StoreFails}
use Rattle.tm_machine.specs.Commits.{opening, opening_of}
use Rattle.tm_machine.specs.States.{Stored, opened}
use Rattle.tm_machine.specs.Stops.{CanOpen, CanOpenStore, IsAmong, IsBadSide, IsOpening, LeavesBegun, LeavesCommits, ReadsNow}
use Rattle.tm_world.proofs.Pairs.{Runs-ends}
use Rattle.tm_machine.specs.Session.{IsSynced, Standing, StoreStands, VolumeStands, state_on}
use Rattle.tm_machine.proofs.Resting.{framed_same, pair, runs_framed, seen, stored_in, held_in, volume_moments, rest_moment, none_made, one_made}

-- ---- an image of which nothing is unsynced

pub stable_image : (d : Disk) (image : Image) → ((b : ℕ) → d.loose b ≡ false) → IsLeft d image → image ≡ as_read d
stable_image d image stable left = λ i. record { count = left.count i; bytes = λ b. left.stable b (stable b) i }

stable_leaves : (d : Disk) (r : Option StoredVolume) → ((b : ℕ) → d.loose b ≡ false) → SideReads (as_read d) r → LeavesSide r d
stable_leaves d r stable reads image left = subst (λ (x : Image). SideReads x r) (sym (stable_image d image stable left)) reads

read_now : (d : Disk) → IsLeft d (as_read d)
read_now d = record { count = refl; stable = λ b h. refl }

-- a side of so few blocks
pub small_side : (d : Disk) (count blocks : ℕ) → d.count ≡ count → count ≡ blocks → blocks ≤ max_blocks → d.count ≤ max_blocks
small_side d count blocks counts is small = omega (arith, counts, is, small)

-- a volume that stands is the one that the disk reads as
pub same_volume : OneSide → StandsLeaves → (m : VolumeSeen) (n : ℕ) (d : Disk) (r : Option StoredVolume) → d.count ≤ max_blocks → IsKept m → IsReady m n → StandsOn m d → SideReads (as_read d) r → Some (stored_on m d.bytes) ≡ r
same_volume one_side stands_leaves m n d r small sound ready stands reads =
    one_side (as_read d) (Some (stored_on m d.bytes)) r small (stands_leaves m n d sound ready stands (as_read d) (read_now d)) reads

pub no_volume : OneSide → (d : Disk) (r : Option StoredVolume) → d.count ≤ max_blocks → IsUnformattedImage (as_read d) → SideReads (as_read d) r → None ≡ r
no_volume one_side d r small unformatted reads = one_side (as_read d) None r small unformatted reads

pub unformatted_now : (d : Disk) (blocks : ℕ) → d.count ≡ blocks → (blocks < 3) ⊎ ((named : ℕ) × IsUnformatted d.bytes named) → IsUnformattedImage (as_read d)
unformatted_now d blocks many unformatted = subst (λ (n : ℕ). (n < 3) ⊎ ((named : ℕ) × IsUnformatted d.bytes named)) (sym many) unformatted

not_clean : (n : ℕ) → n ≤ 1 → (n == 1) ≡ false → n ≡ 0
not_clean n few off = grind (arith, nat_tests)

some_stored : (s t : StoredVolume) → Some s ≡ Some t → s ≡ t
some_stored s t h = cc

unspent_volume : (m : VolumeSeen) (bytes : ℕ → List ℕ) → m.tag.clean ≤ 1 → (m.tag.clean ≡ 0 → m.tag.generation + 1 < 2 ^ 62) → IsSpent (Some (stored_on m bytes)) → ⊥
unspent_volume m bytes few unspent spent =
    let same : stored_on m bytes ≡ spent.volume = some_stored (stored_on m bytes) spent.volume spent.is in
    let off : (m.tag.clean == 1) ≡ false = ap (λ (s : StoredVolume). s.clean) same ∙ spent.unclean in
    let last : m.tag.generation ≡ 2 ^ 62 - 1 = ap (λ (s : StoredVolume). s.volume.generation) same ∙ spent.last in
    let low = unspent (not_clean m.tag.clean few off) in
    omega (arith, low, last)

pub volume_opens : StandsLeaves → (m : VolumeSeen) (n : ℕ) (d : Disk) → IsKept m → IsReady m n → StandsOn m d → (m.tag.clean ≡ 0 → m.tag.generation + 1 < 2 ^ 62) → CanOpen (as_read d)
volume_opens stands_leaves m n d sound ready stands unspent = record {
  volume = Some (stored_on m d.bytes);
  reads = stands_leaves m n d sound ready stands (as_read d) (read_now d);
  unspent = unspent_volume m d.bytes (sound.tagged).clean_most unspent;
}

none_some : (s : StoredVolume) → None ≡ Some s → ⊥
none_some s h = cc

pub unformatted_opens : (image : Image) → IsUnformattedImage image → CanOpen image
unformatted_opens image un = record { volume = None; reads = un; unspent = λ spent. none_some spent.volume spent.is }

-- ---- reading it, and a commit after that

pub loads_nothing : (old new : Log) (r other : Option StoredVolume) → ((b : ℕ) → (disk VolumeSide (now old)).loose b ≡ false) → SideReads (as_read (disk VolumeSide (now old))) r
    → Steps old new (now old) → Runs VolumeSide (LeavesEither r other) old new
loads_nothing old new r other stable reads steps =
    Runs-stays VolumeSide (LeavesEither r other) old old new (Runs-none VolumeSide (LeavesEither r other) old) steps
    (λ image left. inl (stable_leaves (disk VolumeSide (now old)) r stable reads image left))

pub loads_volume : (old mid new : Log) (r : Option StoredVolume) (s : StoredVolume) → ((b : ℕ) → (disk VolumeSide (now old)).loose b ≡ false) → SideReads (as_read (disk VolumeSide (now old))) r
    → Steps old mid (now old) → Some s ≡ r → Runs VolumeSide (LeavesEither (Some s) (Some (reopened s))) mid new → Runs VolumeSide (LeavesEither r (option_map reopened r)) old new
loads_volume old mid new r s stable reads steps is runs =
    Runs-then VolumeSide (LeavesEither r (option_map reopened r)) old mid new (loads_nothing old mid r (option_map reopened r) stable reads steps)
    (subst (λ (x : Option StoredVolume). Runs VolumeSide (LeavesEither x (option_map reopened x)) mid new) is runs)

pub opened_as : OneSide → StandsLeaves → (m : VolumeSeen) (n : ℕ) (old mid : Log) (r : Option StoredVolume) → (disk VolumeSide (now old)).count ≤ max_blocks → Steps old mid (now old) → IsKept m → IsReady m n → StandsOn m (disk VolumeSide (now old))
    → SideReads (as_read (disk VolumeSide (now old))) r → Some (stored_on m (disk VolumeSide (now mid)).bytes) ≡ r
opened_as one_side stands_leaves m n old mid r small steps sound ready stands reads =
    ap (λ (o : Outside). Some (stored_on m (disk VolumeSide o).bytes)) steps.ends ∙ same_volume one_side stands_leaves m n (disk VolumeSide (now old)) r small sound ready stands reads

pub any_run : (P : Disk → Type 0) (old new : Log) → Runs VolumeSide P old new → Runs VolumeSide (λ _. Unit {0}) old new
any_run P old new runs = Runs-weaker VolumeSide P (λ _. Unit {0}) old new (λ d h. tt) runs

pub any_steps : (old new : Log) → Steps old new (now old) → Runs VolumeSide (λ _. Unit {0}) old new
any_steps old new steps = Runs-stays VolumeSide (λ _. Unit {0}) old old new (Runs-none VolumeSide (λ _. Unit {0}) old) steps tt

pub any_then : (P : Disk → Type 0) (old mid new : Log) → Steps old mid (now old) → Runs VolumeSide P mid new → Runs VolumeSide (λ _. Unit {0}) old new
any_then P old mid new steps runs = Runs-then VolumeSide (λ _. Unit {0}) old mid new (any_steps old mid steps) (any_run P mid new runs)

-- a volume that was closed cleanly stays
pub clean_stays : (s : StoredVolume) → s.clean ≡ true → reopened s ≡ s
clean_stays s clean = stays s.clean clean
  where
    stays : (b : Bool) → b ≡ true → (if b then s else record { volume = with_generation s.volume (s.volume.generation + 1); clean = false; journal = s.journal }) ≡ s
    stays true h = refl
    stays false h = cc

pub unclean_goes : (s : StoredVolume) → s.clean ≡ false → record { volume = with_generation s.volume (s.volume.generation + 1); clean = false; journal = s.journal } ≡ reopened s
unclean_goes s clean = goes s.clean clean
  where
    goes : (b : Bool) → b ≡ false → record { volume = with_generation s.volume (s.volume.generation + 1); clean = false; journal = s.journal }
        ≡ (if b then s else record { volume = with_generation s.volume (s.volume.generation + 1); clean = false; journal = s.journal })
    goes true h = cc
    goes false h = refl

-- nothing is done
pub stays_as_is : (log : Log) (old other : Option StoredVolume) → Runs VolumeSide (LeavesEither old other) log log
stays_as_is log old other = Runs-none VolumeSide (LeavesEither old other) log

-- ---- the store's side

pub stable_store : (d : Disk) (r : Option StoredStore) → ((b : ℕ) → d.loose b ≡ false) → StoreSideReads (as_read d) r → LeavesStoreSide r d
stable_store d r stable reads image left = subst (λ (x : Image). StoreSideReads x r) (sym (stable_image d image stable left)) reads

-- ---- the commits of opening

opening_case : (b : Bool) (s new : StoredVolume) (z : Option StoredStore) (u w : Image) → SideReads u (Some s) ⊎ SideReads u (Some (if b then s else new)) → StoreSideReads w z
    → IsAmong (pair (Some s) z) (if b then [] else pair (Some (if b then s else new)) z ∷ []) u w
opening_case true s new z u w h reads = ⊎_elim (λ is. none_made (Some s) z [] u w is reads) (λ is. none_made (Some s) z [] u w is reads) h
opening_case false s new z u w h reads = ⊎_elim (λ is. none_made (Some s) z _ u w is reads) (λ is. one_made (pair (Some s) z) (Some new) z [] u w is reads) h

opening_among : (r : Option StoredVolume) (z : Option StoredStore) (u w : Image) → SideReads u r ⊎ SideReads u (option_map reopened r) → StoreSideReads w z → IsAmong (pair r z) (opening_of r z) u w
opening_among None z u w h reads = ⊎_elim (λ is. none_made None z [] u w is reads) (λ is. none_made None z [] u w is reads) h
opening_among (Some s) z u w h reads = opening_case s.clean s _ z u w h reads

-- a side that is unformatted is only read
abbrev pub BlankReads : Log → Log → Type 0
BlankReads old new = SideReads (as_read (disk VolumeSide (now old))) None → Steps old new (now old)

pub opening_moments : (r : Stored) (old new : Log) → IsSynced (now old) → ReadsNow r (now old) → BlankReads old new → Runs VolumeSide (LeavesEither r.volume (option_map reopened r.volume)) old new
    → Passes old new (LeavesCommits r (opening r) (now old))
opening_moments r old new synced reads blank runs =
    volume_moments r.volume (option_map reopened r.volume) r.store (opening r) old new synced.apart (stable_store (disk StoreSide (now old)) r.store synced.store_stable reads.store_reads) (opening_among r.volume r.store)
    (λ none few. blank (subst (SideReads (as_read (disk VolumeSide (now old)))) none reads.volume_reads)) runs

-- before anything is done
at_first : (r : Stored) (o : Outside) → IsSynced o → ReadsNow r o → LeavesCommits r (opening r) o o
at_first r o synced reads = rest_moment r (opening r) o synced.apart (λ v z v_left z_left. record {
  volume_reads = stable_leaves (disk VolumeSide o) r.volume synced.volume_stable reads.volume_reads v v_left;
  store_reads = stable_store (disk StoreSide o) r.store synced.store_stable reads.store_reads z z_left;
})

-- and then the store is read
pub opening_reads : (r : Stored) (old mid new : Log) → IsSynced (now old) → ReadsNow r (now old) → BlankReads old mid → Runs VolumeSide (LeavesEither r.volume (option_map reopened r.volume)) old mid
    → Steps mid new (now mid) → Passes old new (LeavesCommits r (opening r) (now old))
opening_reads r old mid new synced reads blank runs steps =
    let first = opening_moments r old mid synced reads blank runs in
    Passes-then old mid new _ first (Passes-weaker mid new _ _ (λ o e. subst (LeavesCommits r (opening r) (now old)) (sym e) (Passes-now old mid _ first (at_first r (now old) synced reads))) steps.passes)

-- what the opened session stands on
pub opened_standing : (n k : ℕ) (v : Option VolumeSeen) (h : Option Held) (old mid new : Log) → AreApart (now old) → Runs VolumeSide (λ _. Unit {0}) old mid → Steps mid new (now mid)
    → VolumeStands v (disk VolumeSide (now mid)) → StoreStands h (disk StoreSide (now new)) → Standing (seen n k v h None) (now new)
opened_standing n k v h old mid new apart runs steps stands store_stands = record {
  apart = subst AreApart (sym steps.ends) (Runs-ends VolumeSide _ old mid apart runs).apart;
  volume_side = subst (λ (o : Outside). VolumeStands v (disk VolumeSide o)) (sym steps.ends) stands;
  store_side = store_stands;
}

-- the store's side is not touched while the volume is opened
pub other_side : (old mid : Log) → AreApart (now old) → Runs VolumeSide (λ _. Unit {0}) old mid → disk StoreSide (now mid) ≡ disk StoreSide (now old)
other_side old mid apart runs = (Runs-ends VolumeSide _ old mid apart runs).there

pub said_as_before : (old mid new : Log) → AreApart (now old) → Runs VolumeSide (λ _. Unit {0}) old mid → Steps mid new (now mid) → (now new).said ≡ (now old).said
said_as_before old mid new apart runs steps = ap (λ (o : Outside). o.said) steps.ends ∙ (Runs-ends VolumeSide _ old mid apart runs).said

-- the state of the session that is opened, where the store is read after the volume
pub opened_state : (n k : ℕ) (v : Option VolumeSeen) (h : Option Held) (r : Stored) (mid new : Outside) → new ≡ mid → stored_in (disk VolumeSide mid).bytes v ≡ option_map reopened r.volume
    → held_in (disk StoreSide new).bytes h ≡ r.store → state_on (seen n k v h None) new ≡ opened n k r
opened_state n k v h r mid new ends volume_is store_is = λ i. record {
  volume_blocks = n;
  store_blocks = k;
  volume = (ap (λ (o : Outside). stored_in (disk VolumeSide o).bytes v) ends ∙ volume_is) i;
  store = store_is i;
  moment = None;
}

-- an image that is bad: the volume's, or the store's, which the opening of the volume left as it was
pub bad_volume : (side : RefusedSide) (cause : Cause) (place n k : ℕ) (told : Type 0) (o : Outside)
    → (side ≡ named.Volume) × (3 ≤ n) × (told → FailsVolume (as_read (disk VolumeSide o)) cause place) → IsBadSide side cause place n k told o
bad_volume side cause place n k told o h = subst (λ (x : RefusedSide). IsBadSide x cause place n k told o) (sym h.0) (h.1, h.2)

pub bad_store : (side : RefusedSide) (cause : Cause) (place n k : ℕ) (told : Type 0) (o mid : Outside) → (told → disk StoreSide mid ≡ disk StoreSide o) → (told → CanOpen (as_read (disk VolumeSide o)))
    → (side ≡ named.Store) × (3 ≤ k) × (told → StoreFails (as_read (disk StoreSide mid)) cause place) → IsBadSide side cause place n k told o
bad_store side cause place n k told o mid same opens h =
    subst (λ (x : RefusedSide). IsBadSide x cause place n k told o) (sym h.0)
    (h.1, λ t. (opens t, subst (λ (d : Disk). StoreFails (as_read d) cause place) (same t) (h.2 t)))

-- the store that was read is the one that the disk reads as
pub same_store : OneStoreSide → (h : Held) (d : Disk) (r : Option StoredStore) → d.count ≤ max_blocks → StoreReads (as_read d) (store_stored_on h d.bytes) → StoreSideReads (as_read d) r → Some (store_stored_on h d.bytes) ≡ r
same_store one_side h d r small is reads = one_side (as_read d) (Some (store_stored_on h d.bytes)) r small is reads

pub no_store : OneStoreSide → (d : Disk) (r : Option StoredStore) → d.count ≤ max_blocks → IsUnformattedStore (as_read d) → StoreSideReads (as_read d) r → None ≡ r
no_store one_side d r small unformatted reads = one_side (as_read d) None r small unformatted reads

pub store_opens : (h : Held) (d : Disk) → StoreReads (as_read d) (store_stored_on h d.bytes) → CanOpenStore (as_read d)
store_opens h d is = record { store = Some (store_stored_on h d.bytes); reads = is }

pub unformatted_store_opens : (image : Image) → IsUnformattedStore image → CanOpenStore image
unformatted_store_opens image un = record { store = None; reads = un }

-- ---- what stands at both sides while the volume is opened, whatever the images are

pub opening_alone : (old new : Log) → AreApart (now old) → Runs VolumeSide (λ _. Unit {0}) old new → Passes old new (IsOpening (now old))
opening_alone old new apart runs = Passes-weaker old new _ (IsOpening (now old))
    (λ o at. record { framed = at.framed; said = at.beside.said; store_same = at.beside.there })
    (runs_framed VolumeSide (λ _. Unit {0}) old new apart runs)

pub begun_moments : (v : Option StoredVolume) (old new : Log) → AreApart (now old) → Runs VolumeSide (LeavesEither v (option_map reopened v)) old new → Passes old new (LeavesBegun v)
begun_moments v old new apart runs = Passes-weaker old new _ (LeavesBegun v) (λ o at. at.beside.here) (runs_framed VolumeSide (LeavesEither v (option_map reopened v)) old new apart runs)

-- and then the store is only read
module _ (P : Outside → Type 0) (old mid new : Log) (first : Passes old mid P) (at_start : P (now old)) (steps : Steps mid new (now mid)) where
  pub then_read : Passes old new P
  then_read = Passes-then old mid new P first (Passes-weaker mid new _ P (λ o e. subst P (sym e) (Passes-now old mid P first at_start)) steps.passes)

pub opening_alone_then : (old mid new : Log) → AreApart (now old) → Runs VolumeSide (λ _. Unit {0}) old mid → Steps mid new (now mid) → Passes old new (IsOpening (now old))
opening_alone_then old mid new apart runs steps =
    then_read (IsOpening (now old)) old mid new (opening_alone old mid apart runs) (record { framed = framed_same (now old); said = refl; store_same = refl }) steps

pub begun_then : (v : Option StoredVolume) (old mid new : Log) → IsSynced (now old) → SideReads (as_read (disk VolumeSide (now old))) v
    → Runs VolumeSide (LeavesEither v (option_map reopened v)) old mid → Steps mid new (now mid) → Passes old new (LeavesBegun v)
begun_then v old mid new synced reads runs steps =
    then_read (LeavesBegun v) old mid new (begun_moments v old mid synced.apart runs)
    (λ image left. inl (stable_leaves (disk VolumeSide (now old)) v synced.volume_stable reads image left)) steps

-- a volume that stands was not unformatted
pub stands_formatted : OneSide → StandsLeaves → (m : VolumeSeen) (n : ℕ) (old mid : Log) → (disk VolumeSide (now old)).count ≤ max_blocks → Steps old mid (now old) → IsKept m → IsReady m n
    → StandsOn m (disk VolumeSide (now old)) → SideReads (as_read (disk VolumeSide (now old))) None → ⊥
stands_formatted one_side stands_leaves m n old mid small steps sound ready stands reads =
    none_some (stored_on m (disk VolumeSide (now mid)).bytes) (sym (opened_as one_side stands_leaves m n old mid None small steps sound ready stands reads))
