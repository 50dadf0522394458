-- A change that brings data, as it was planned: what each step answers of the tests, and what a stop leaves.
use Rattle.std.proofs.Common.{◌≡◌, inl, ℕ, ◌+◌, ◌<◌, ◌≤◌, List, length, refl, sym, ap, ◌∙◌, subst, Option, Some, None, Result, Ok, Err, arith}
use Rattle.std.specs.Prelude.{OnOk, OnErr, ◌≢◌}
use Rattle.tm_base.specs.declared.refused.LineFault.{LineFault}
use Rattle.tm_base.specs.declared.refused.LineFault.TheVariants.{Refused as RefusedFor, Fault, Memory}
use Rattle.tm_base.specs.declared.refused.Refused.{Refused}
use Rattle.tm_base.specs.declared.refused.Refused.TheVariants.{Full}
use Rattle.tm_base.specs.declared.refused.Side.{Side as RefusedSide}
use Rattle.tm_chain.specs.Blob.{blob_len, bytes_in}
use Rattle.tm_image.specs.Reads.{data_len}
use Rattle.tm_image.specs.Room.{free_of, table_len, brought_len}
use Rattle.tm_tree.specs.Changes.{tests}
use Rattle.tm_tree.specs.Refusing.{first_refused}
use Rattle.tm_tree.specs.declared.change.Change.{Change}
use Rattle.tm_tree.specs.declared.rows.Touch.{Touch}
use Rattle.tm_tree.specs.Touches.{touches}
use Rattle.tm_world.specs.Disk.{Disk}
use Rattle.tm_world.specs.Log.{Log, Steps, now}
use Rattle.tm_world.specs.Outside.{Outside, disk}
use Rattle.tm_world.specs.Runs.{Runs}
use Rattle.tm_world.specs.declared.bytes.Blob.{Blob}
use Rattle.tm_world.specs.declared.world.Side.TheVariants.{Volume as OfVolume}
use Rattle.tm_world.proofs.Going.{Runs-none, Runs-stays, Runs-then, Runs-weaker}
use Rattle.tm_volume.specs.declared.edit.Edit.{Edit}
use Rattle.tm_changes.specs.Answers.{MeetsChange}
use Rattle.tm_changes.specs.Changes.{after_change, change_tests, changed, unless}
use Rattle.tm_volume.specs.Edits.{after, IsBack, IsEdit, IsGoodEdit, IsFullEdit, need_of_edit}
use Rattle.tm_volume.specs.Seen.{IsShelved}
use Rattle.tm_changes.specs.Plans.{IsGood, telling}
use Rattle.tm_volume.specs.Reads.{LeavesSide, LeavesEither}
use Rattle.tm_changes.specs.Fitting.{room_tests, staged_len}
use Rattle.tm_volume.specs.Seen.{Seen, IsKept, StandsOn, entries_on, tree_on, volume_on, stored_on}
use Rattle.tm_volume.specs.Stored.{StoredVolume}
use Rattle.tm_changes.specs.Writes.{HoldsData, IsBringing, IsBlobOf, PlansData, WritesData, staged_data}
use Rattle.tm_changes.proofs.Backing.{refused_first, passed_first}
use Rattle.tm_changes.proofs.Bringing.{stored_there, after_there, need_there, good_here, edit_there, good_there, stored_alike, brings_len, staging_refuses, commit_passes, commit_refuses}
use Rattle.tm_volume.proofs.Rooms.{Known}
use Rattle.tm_volume.proofs.Counting.{known_on}

-- a stop during staging leaves the volume as it is
pub staging_run : (old new : StoredVolume) (l0 l1 : Log) → Runs OfVolume (LeavesSide (Some old)) l0 l1 → Runs OfVolume (LeavesEither (Some old) (Some new)) l0 l1
staging_run old new l0 l1 runs = Runs-weaker OfVolume (LeavesSide (Some old)) (LeavesEither (Some old) (Some new)) l0 l1 (λ d leaves image left. inl (leaves image left)) runs

-- a refusal by the tests but for Full
pub plan_refused : (m : Seen) (blocks : ℕ) (c : Change) (moment : Option ℕ) (bytes : ℕ → List ℕ) (why : Refused)
    → first_refused (tests (volume_on m bytes).contents c moment) ≡ Some why → first_refused (change_tests blocks (stored_on m bytes) c moment) ≡ Some why
plan_refused m blocks c moment bytes why is = refused_first (tests (volume_on m bytes).contents c moment)
    (room_tests blocks (stored_on m bytes) (changed (stored_on m bytes) c moment) (blob_len (staged_len (volume_on m bytes).contents c))) why is

module _ (m : Seen) (s : IsShelved m) (blocks : ℕ) (room : free_of m.image + 3 + table_len m.image.records + data_len m.image.records ≡ blocks)
    (c : Change) (moment : Option ℕ) (size : ℕ) (e : Edit) (w : WritesData m c moment size e) (d0 : Disk) (on : StandsOn m d0) where
  abbrev old : StoredVolume
  old = stored_on m d0.bytes

  abbrev new : StoredVolume
  new = changed (stored_on m d0.bytes) c moment

  passes : first_refused (tests (volume_on m d0.bytes).contents c moment) ≡ None
  passes = w.passes d0.bytes (record { good = on.good; fixed = on.fixed })

  -- the room alone decides
  room_decides : first_refused (change_tests blocks old c moment) ≡ first_refused (room_tests blocks old new (blob_len size))
  room_decides = passed_first (tests (volume_on m d0.bytes).contents c moment) (room_tests blocks old new (blob_len (staged_len (volume_on m d0.bytes).contents c))) passes
      ∙ ap (λ n. first_refused (room_tests blocks old new (blob_len n))) (w.staged d0.bytes)

  -- the blob doesn't fit
  pub stage_refused : (why : Refused) → why ≡ Full (blob_len size + table_len m.image.records) (free_of m.image) → free_of m.image < blob_len size + table_len m.image.records
      → first_refused (change_tests blocks old c moment) ≡ Some why
  stage_refused why is less = room_decides
      ∙ staging_refuses m d0.bytes blocks (blob_len size) (known_on m s.numbers s.shelf s.image d0.bytes on.good) on.fixed room new less
      ∙ ap Some (sym is)

  -- ---- once it is staged

  module _ (n : Seen) (back : IsBack m n) (d1 : Disk) (same : entries_on m d1.bytes ≡ entries_on m d0.bytes) (on1 : StandsOn n d1)
      (blob : Blob) (of : IsBlobOf blob size) (holds : bytes_in blob.blocks d1.bytes 0 blob.length ≡ staged_data (volume_on m d0.bytes).contents c)
      (free : free_of n.image + length blob.blocks ≡ free_of m.image) (fits : blob_len size + table_len m.image.records ≤ free_of m.image)
      (e1 : Edit) (b : IsBringing e e1 blob) where
    alike : stored_on m d1.bytes ≡ old
    alike = stored_alike m d0.bytes d1.bytes same

    holds_now : HoldsData m c blob d1.bytes
    holds_now = holds ∙ ap (λ (v : StoredVolume). staged_data v.volume.contents c) (sym alike)

    pub old_is : stored_on n d1.bytes ≡ old
    old_is = stored_there m n back d1.bytes ∙ alike

    good_now : IsGood m d1.bytes
    good_now = good_here m n back d1.bytes (record { good = on1.good; fixed = on1.fixed })

    edit_is : IsEdit m e1
    edit_is = w.edit blob e1 b of

    edit_good : IsGoodEdit m e1 d1.bytes
    edit_good = w.good blob e1 b of d1.bytes holds_now good_now

    pub can_good : IsGoodEdit n e1 d1.bytes
    can_good = good_there m n back e1 d1.bytes edit_good

    made_is : stored_on (after m e1) d1.bytes ≡ new
    made_is = w.stored blob e1 b of d1.bytes holds_now ∙ ap (λ (v : StoredVolume). changed v c moment) alike

    pub new_is : stored_on (after n e1) d1.bytes ≡ new
    new_is = after_there m n back e1 d1.bytes ∙ made_is

    known : Known m d1.bytes
    known = known_on m s.numbers s.shelf s.image d1.bytes good_now.good

    brings : brought_len e1.put.items ≡ blob_len size
    brings = brings_len e e1 blob b w.first w.rest w.put w.no_data ∙ of.many

    left_is : free_of n.image + blob_len size ≡ free_of m.image
    left_is = omega (arith, free, of.many)

    room_there : first_refused (change_tests blocks old c moment) ≡ first_refused (room_tests blocks (stored_on m d1.bytes) (stored_on (after m e1) d1.bytes) (blob_len size))
    room_there = let a = alike in let k = made_is in room_decides ∙ sym (λ i. first_refused (room_tests blocks (a i) (k i) (blob_len size)))

    pub commit_fits : need_of_edit n e1 ≤ free_of n.image → first_refused (change_tests blocks old c moment) ≡ None
    commit_fits le = room_there ∙ commit_passes m d1.bytes blocks (blob_len size) known good_now.fixed room e1 edit_is edit_good brings fits (free_of n.image) left_is (omega (arith, le, need_there m n back e1))

    pub commit_full : (why : Refused) → IsFullEdit n e1 why → first_refused (change_tests blocks old c moment) ≡ Some why
    commit_full why full = let k = need_there m n back e1 in
        room_there ∙ commit_refuses m d1.bytes blocks (blob_len size) known good_now.fixed room e1 edit_is edit_good brings fits (free_of n.image) left_is (omega (arith, full.less, k))
        ∙ (λ i. Some (Full (sym k i) (free_of n.image))) ∙ ap Some (sym full.is)

    -- ---- by what the commit answers

    passed_run : (l0 l1 l2 : Log) → first_refused (change_tests blocks old c moment) ≡ None → Runs OfVolume (LeavesSide (Some old)) l0 l1
        → Runs OfVolume (LeavesEither (Some (stored_on n d1.bytes)) (Some (stored_on (after n e1) d1.bytes))) l1 l2 → Runs OfVolume (LeavesEither (Some old) (Some (after_change blocks old c moment))) l0 l2
    passed_run l0 l1 l2 none first second =
        let o = old_is in
        let k : stored_on (after n e1) d1.bytes ≡ after_change blocks old c moment = new_is ∙ sym (ap (λ (r : Option Refused). unless r old new) none) in
        Runs-then OfVolume (LeavesEither (Some old) (Some (after_change blocks old c moment))) l0 l1 l2 (staging_run old (after_change blocks old c moment) l0 l1 first)
        (subst (λ (v : StoredVolume). Runs OfVolume (LeavesEither (Some old) (Some v)) l1 l2) k
        (subst (λ (v : StoredVolume). Runs OfVolume (LeavesEither (Some v) (Some (stored_on (after n e1) d1.bytes))) l1 l2) o second))

    stopped_run : (l0 l1 l2 : Log) → l2 ≡ l1 → Runs OfVolume (LeavesSide (Some old)) l0 l1 → Runs OfVolume (LeavesEither (Some old) (Some (after_change blocks old c moment))) l0 l2
    stopped_run l0 l1 l2 still first = subst (λ (l : Log). Runs OfVolume (LeavesEither (Some old) (Some (after_change blocks old c moment))) l0 l) (sym still) (staging_run old (after_change blocks old c moment) l0 l1 first)

    pub bring_run : (r : Result (Unit {0}) LineFault) (l0 l1 l2 : Log) → Runs OfVolume (LeavesSide (Some old)) l0 l1
        → Runs OfVolume (LeavesEither (Some (stored_on n d1.bytes)) (Some (stored_on (after n e1) d1.bytes))) l1 l2
        → OnOk r (need_of_edit n e1 ≤ free_of n.image) → ((side : RefusedSide) → r ≡ Err (Fault side) → need_of_edit n e1 ≤ free_of n.image)
        → OnErr r (((side : RefusedSide) → r ≢ Err (Fault side)) → l2 ≡ l1) → Runs OfVolume (LeavesEither (Some old) (Some (after_change blocks old c moment))) l0 l2
    bring_run (Ok x) l0 l1 l2 first second ok tried still = passed_run l0 l1 l2 (commit_fits ok) first second
    bring_run (Err (RefusedFor why)) l0 l1 l2 first second ok tried still = stopped_run l0 l1 l2 (still (λ side bad. cc)) first
    bring_run (Err (Fault side)) l0 l1 l2 first second ok tried still = passed_run l0 l1 l2 (commit_fits (tried side refl)) first second
    bring_run (Err Memory) l0 l1 l2 first second ok tried still = stopped_run l0 l1 l2 (still (λ side bad. cc)) first

    pub bring_meets : (touched : List Touch) (r : Result (Unit {0}) LineFault) (v : StoredVolume) → touched ≡ touches (tree_on m d0.bytes) c
        → OnOk r (v ≡ stored_on (after n e1) d1.bytes) → OnOk r (need_of_edit n e1 ≤ free_of n.image)
        → ((why : Refused) → r ≡ Err (RefusedFor why) → IsFullEdit n e1 why) → ((side : RefusedSide) → r ≡ Err (Fault side) → side ≡ RefusedSide.Volume)
        → OnErr r (((side : RefusedSide) → r ≢ Err (Fault side)) → v ≡ old) → MeetsChange blocks old c moment v (telling r touched)
    bring_meets touched (Ok x) v told stored ok full fault back = (commit_fits ok, told, stored ∙ new_is)
    bring_meets touched (Err (RefusedFor why)) v told stored ok full fault back = (commit_full why (full why refl), back (λ side bad. cc))
    bring_meets touched (Err (Fault side)) v told stored ok full fault back = fault side refl
    bring_meets touched (Err Memory) v told stored ok full fault back = back (λ side bad. cc)

-- the edit can be made, whatever the world tells
pub can_bring : (m n : Seen) (c : Change) (moment : Option ℕ) (size : ℕ) (e e1 : Edit) (blob : Blob) → WritesData m c moment size e → IsBack m n → IsBlobOf blob size → IsBringing e e1 blob → IsEdit n e1
can_bring m n c moment size e e1 blob w back of b = edit_there m n back e1 (w.edit blob e1 b of)

-- what was planned and refused
pub plan_meets : (m : Seen) (blocks : ℕ) (c : Change) (moment : Option ℕ) (size : ℕ) (bytes : ℕ → List ℕ) (why : LineFault) → IsGood m bytes
    → PlansData m c moment size (Err why) → MeetsChange blocks (stored_on m bytes) c moment (stored_on m bytes) (Err why)
plan_meets m blocks c moment size bytes (RefusedFor why) good plan = (plan_refused m blocks c moment bytes why (plan bytes good), refl)
plan_meets m blocks c moment size bytes (Fault side) good plan = absurd plan
plan_meets m blocks c moment size bytes Memory good plan = refl

-- and is no fault
pub plan_no_fault : (m : Seen) (c : Change) (moment : Option ℕ) (size : ℕ) (plan : Result Edit LineFault) (side : RefusedSide) → PlansData m c moment size plan → plan ≡ Err (Fault side) → ⊥
plan_no_fault m c moment size plan side has is = subst (λ (r : Result Edit LineFault). PlansData m c moment size r) is has

-- what staging answers where it stages nothing
pub stage_meets : (m : Seen) (s : IsShelved m) (blocks : ℕ) (room : free_of m.image + 3 + table_len m.image.records + data_len m.image.records ≡ blocks)
    (c : Change) (moment : Option ℕ) (size : ℕ) (e : Edit) (w : WritesData m c moment size e) (d0 : Disk) (on : StandsOn m d0) (v : StoredVolume) (why : LineFault)
    → ((x : Refused) → why ≡ RefusedFor x → (x ≡ Full (blob_len size + table_len m.image.records) (free_of m.image)) × (free_of m.image < blob_len size + table_len m.image.records))
    → ((side : RefusedSide) → why ≡ Fault side → side ≡ RefusedSide.Volume) → (((side : RefusedSide) → why ≢ Fault side) → v ≡ stored_on m d0.bytes)
    → MeetsChange blocks (stored_on m d0.bytes) c moment v (Err why)
stage_meets m s blocks room c moment size e w d0 on v (RefusedFor why) full fault same = let f = full why refl in (stage_refused m s blocks room c moment size e w d0 on why f.0 f.1, same (λ side bad. cc))
stage_meets m s blocks room c moment size e w d0 on v (Fault side) full fault same = fault side refl
stage_meets m s blocks room c moment size e w d0 on v Memory full fault same = same (λ side bad. cc)

-- ---- data that are read before

pub kept_of : (m : Seen) → IsShelved m → IsKept m
kept_of m s = record { image = s.image; side = s.shelf.side; tag_is = s.shelf.tag_is; tagged = s.shelf.tagged; head_is = s.shelf.head_is; sound = s.shelf.sound; lengths = s.shelf.lengths }

module _ (m : Seen) (l0 l1 : Log) (steps : Steps l0 l1 (now l0)) (leaves : LeavesSide (Some (stored_on m (disk OfVolume (now l0)).bytes)) (disk OfVolume (now l0))) where
  -- they leave the volume as it is
  pub read_run : (new : StoredVolume) → Runs OfVolume (LeavesEither (Some (stored_on m (disk OfVolume (now l0)).bytes)) (Some new)) l0 l1
  read_run new = Runs-stays OfVolume (LeavesEither (Some (stored_on m (disk OfVolume (now l0)).bytes)) (Some new)) l0 l0 l1
      (Runs-none OfVolume (LeavesEither (Some (stored_on m (disk OfVolume (now l0)).bytes)) (Some new)) l0) steps (λ image left. inl (leaves image left))

  -- and the change follows
  pub read_then_run : (blocks after_read : ℕ) (c : Change) (moment : Option ℕ) (l2 : Log) → after_read ≡ blocks
      → Runs OfVolume (LeavesEither (Some (stored_on m (disk OfVolume (now l1)).bytes)) (Some (after_change after_read (stored_on m (disk OfVolume (now l1)).bytes) c moment))) l1 l2
      → Runs OfVolume (LeavesEither (Some (stored_on m (disk OfVolume (now l0)).bytes)) (Some (after_change blocks (stored_on m (disk OfVolume (now l0)).bytes) c moment))) l0 l2
  read_then_run blocks after_read c moment l2 same second =
      let e = steps.ends in
      let old = stored_on m (disk OfVolume (now l0)).bytes in
      Runs-then OfVolume (LeavesEither (Some old) (Some (after_change blocks old c moment))) l0 l1 l2 (read_run (after_change blocks old c moment))
      (subst (λ (n : ℕ). Runs OfVolume (LeavesEither (Some old) (Some (after_change n old c moment))) l1 l2) same
      (subst (λ (o : Outside). Runs OfVolume (LeavesEither (Some (stored_on m (disk OfVolume o).bytes)) (Some (after_change after_read (stored_on m (disk OfVolume o).bytes) c moment))) l1 l2) e second))
