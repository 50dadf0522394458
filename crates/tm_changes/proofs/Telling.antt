-- A change as it was planned: what it answers, and what a stop leaves.
use Rattle.std.proofs.Common.{◌≡◌, ◌≢◌, ℕ, List, refl, sym, ap, ◌∙◌, subst, Option, Some, None, Result, Ok, Err}
use Rattle.std.specs.Prelude.{OnOk, OnErr}
use Rattle.tm_base.specs.declared.refused.Refused.{Refused}
use Rattle.tm_base.specs.declared.refused.Side.{Side as RefusedSide}
use Rattle.tm_base.specs.declared.refused.LineFault.{LineFault}
use Rattle.tm_base.specs.declared.refused.LineFault.TheVariants.{Refused as RefusedFor, Fault, Memory}
use Rattle.tm_chain.specs.Blob.{blob_len}
use Rattle.tm_tree.specs.declared.change.Change.{Change}
use Rattle.tm_tree.specs.declared.rows.Touch.{Touch}
use Rattle.tm_tree.specs.Changes.{tests}
use Rattle.tm_tree.specs.Refusing.{first_refused}
use Rattle.tm_tree.specs.Touches.{touches}
use Rattle.tm_world.specs.Log.{Log}
use Rattle.tm_world.specs.Runs.{Runs}
use Rattle.tm_world.specs.declared.world.Side.TheVariants.{Volume as OfVolume}
use Rattle.tm_world.proofs.Going.{Runs-none}
use Rattle.tm_volume.specs.declared.edit.Edit.{Edit}
use Rattle.tm_changes.specs.Answers.{MeetsChange}
use Rattle.tm_changes.specs.Changes.{after_change, change_tests, changed, unless}
use Rattle.tm_volume.specs.Edits.{after}
use Rattle.tm_changes.specs.Plans.{IsGood, Plans, Writes, telling}
use Rattle.tm_volume.specs.Reads.{LeavesEither}
use Rattle.tm_changes.specs.Fitting.{room_tests, staged_len}
use Rattle.tm_volume.specs.Seen.{Seen, tree_on, volume_on, stored_on}
use Rattle.tm_volume.specs.Stored.{StoredVolume}
use Rattle.tm_changes.proofs.Backing.{refused_first, passed_first}

-- ---- by the answer

refused_fine : (why : Refused) (side : RefusedSide) → ◌≢◌ {A = Result (Unit {0}) LineFault} (Err (RefusedFor why)) (Err (Fault side))
refused_fine why side bad = cc

memory_fine : (side : RefusedSide) → ◌≢◌ {A = Result (Unit {0}) LineFault} (Err Memory) (Err (Fault side))
memory_fine side bad = cc

pub fine_back : (r : Result (Unit {0}) LineFault) (touched : List Touch) (told : Result (List Touch) LineFault) → told ≡ telling r touched → ((side : RefusedSide) → told ≢ Err (Fault side)) → (side : RefusedSide) → r ≢ Err (Fault side)
fine_back r touched told is fine side bad = fine side (is ∙ ap (λ x. telling x touched) bad)

pub fault_back : (r : Result (Unit {0}) LineFault) (touched : List Touch) (told : Result (List Touch) LineFault) (side : RefusedSide) → told ≡ telling r touched → told ≡ Err (Fault side) → r ≡ Err (Fault side)
fault_back (Ok x) touched told side is fault = let bad : ◌≡◌ {A = Result (List Touch) LineFault} (Ok touched) (Err (Fault side)) = sym is ∙ fault in cc
fault_back (Err why) touched told side is fault = let same : ◌≡◌ {A = Result (List Touch) LineFault} (Err why) (Err (Fault side)) = sym is ∙ fault in cc

pub err_back : (A : Type 0) (r : Result (Unit {0}) LineFault) (touched : List Touch) (told : Result (List Touch) LineFault) → told ≡ telling r touched
    → OnErr r (((side : RefusedSide) → r ≢ Err (Fault side)) → A) → OnErr told (((side : RefusedSide) → told ≢ Err (Fault side)) → A)
err_back A r touched told is h = subst (λ (x : Result (List Touch) LineFault). OnErr x (((side : RefusedSide) → x ≢ Err (Fault side)) → A)) (sym is) (by_answer r h)
  where
    by_answer : (r : Result (Unit {0}) LineFault) → OnErr r (((side : RefusedSide) → r ≢ Err (Fault side)) → A) → OnErr (telling r touched) (((side : RefusedSide) → telling r touched ≢ Err (Fault side)) → A)
    by_answer (Ok x) h = tt
    by_answer (Err why) h = λ fine. h (λ side bad. fine side (ap (λ x. telling x touched) bad))

pub both_errs : {A B C : Type 0} (r : Result (Unit {0}) LineFault) → (A → B → C) → OnErr r A → OnErr r B → OnErr r C
both_errs (Ok x) f a b = tt
both_errs (Err why) f a b = f a b

-- ---- refused before

pub planned_refused : (m : Seen) (c : Change) (moment : Option ℕ) (fault : LineFault) → Plans m c moment (Err fault) → (bytes : ℕ → List ℕ) → IsGood m bytes → (blocks : ℕ)
    → MeetsChange blocks (stored_on m bytes) c moment (stored_on m bytes) (Err fault)
planned_refused m c moment (RefusedFor why) plans bytes good blocks =
    (refused_first (tests (volume_on m bytes).contents c moment) (room_tests blocks (stored_on m bytes) (changed (stored_on m bytes) c moment) (blob_len (staged_len (volume_on m bytes).contents c))) why (plans bytes good), refl)
planned_refused m c moment (Fault side) plans bytes good blocks = absurd plans
planned_refused m c moment Memory plans bytes good blocks = refl

-- ---- written

module _ (m : Seen) (c : Change) (moment : Option ℕ) (e : Edit) (writes : Writes m c moment e) (bytes : ℕ → List ℕ) (good : IsGood m bytes) (blocks : ℕ) where
  abbrev old : StoredVolume
  old = stored_on m bytes

  abbrev then : StoredVolume
  then = stored_on (after m e) bytes

  room_is : first_refused (change_tests blocks old c moment) ≡ first_refused (room_tests blocks old then 0)
  room_is =
      let s = writes.stored bytes in
      let z = writes.unstaged bytes in
      passed_first (tests (volume_on m bytes).contents c moment) (room_tests blocks old (changed old c moment) (blob_len (staged_len (volume_on m bytes).contents c))) (writes.passes bytes good)
      ∙ (λ i. first_refused (room_tests blocks old (sym s i) (blob_len (z i))))

  pub then_is : first_refused (room_tests blocks old then 0) ≡ None → after_change blocks old c moment ≡ then
  then_is none = ap (λ (o : Option Refused). unless o old (changed old c moment)) (room_is ∙ none) ∙ sym (writes.stored bytes)

  pub told_meets : (touched : List Touch) → touched ≡ touches (tree_on m bytes) c → (r : Result (Unit {0}) LineFault) (new : StoredVolume)
      → OnOk r (new ≡ then) → OnOk r (first_refused (room_tests blocks old then 0) ≡ None)
      → ((why : Refused) → r ≡ Err (RefusedFor why) → first_refused (room_tests blocks old then 0) ≡ Some why)
      → OnErr r (((side : RefusedSide) → r ≢ Err (Fault side)) → new ≡ old)
      → ((side : RefusedSide) → r ≡ Err (Fault side) → side ≡ RefusedSide.Volume)
      → MeetsChange blocks old c moment new (telling r touched)
  told_meets touched is (Ok x) new stored fits full back fault = (room_is ∙ fits, is, stored ∙ writes.stored bytes)
  told_meets touched is (Err (RefusedFor why)) new stored fits full back fault = (room_is ∙ full why refl, back (refused_fine why))
  told_meets touched is (Err (Fault side)) new stored fits full back fault = fault side refl
  told_meets touched is (Err Memory) new stored fits full back fault = back memory_fine

  pub told_runs : (r : Result (Unit {0}) LineFault) (l0 l1 : Log) → OnOk r (first_refused (room_tests blocks old then 0) ≡ None)
      → ((side : RefusedSide) → r ≡ Err (Fault side) → first_refused (room_tests blocks old then 0) ≡ None)
      → OnErr r (((side : RefusedSide) → r ≢ Err (Fault side)) → l1 ≡ l0)
      → Runs OfVolume (LeavesEither (Some old) (Some then)) l0 l1
      → Runs OfVolume (LeavesEither (Some old) (Some (after_change blocks old c moment))) l0 l1
  told_runs (Ok x) l0 l1 fits tried still runs = subst (λ (s : StoredVolume). Runs OfVolume (LeavesEither (Some old) (Some s)) l0 l1) (sym (then_is fits)) runs
  told_runs (Err (RefusedFor why)) l0 l1 fits tried still runs =
      subst (λ (l : Log). Runs OfVolume (LeavesEither (Some old) (Some (after_change blocks old c moment))) l0 l) (sym (still (refused_fine why))) (Runs-none OfVolume (LeavesEither (Some old) (Some (after_change blocks old c moment))) l0)
  told_runs (Err (Fault side)) l0 l1 fits tried still runs = subst (λ (s : StoredVolume). Runs OfVolume (LeavesEither (Some old) (Some s)) l0 l1) (sym (then_is (tried side refl))) runs
  told_runs (Err Memory) l0 l1 fits tried still runs =
      subst (λ (l : Log). Runs OfVolume (LeavesEither (Some old) (Some (after_change blocks old c moment))) l0 l) (sym (still memory_fine)) (Runs-none OfVolume (LeavesEither (Some old) (Some (after_change blocks old c moment))) l0)
