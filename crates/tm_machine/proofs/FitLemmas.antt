-- A pair that fits stays so.
use Rattle.std.proofs.Common.{◌≡◌, ℕ, Bool, true, false, Option, Some, None, is_some, unwrap_or, nat_lt, List, [], ◌∷◌, ◌++◌, refl, sym, ◌∙◌, ap, subst}
use Rattle.std.specs.Option.{option_map}
use Rattle.tm_base.specs.declared.refused.Refused.{Refused}
use Rattle.tm_base.specs.declared.refused.Refused.TheVariants.{Already, Small, IdTaken}
use Rattle.tm_text.specs.declared.line.Line.{Line}
use Rattle.tm_text.specs.declared.line.Line.TheVariants as line
use Rattle.tm_tree.specs.declared.change.Change.{Change}
use Rattle.tm_tree.specs.Changes as contents
use Rattle.tm_tree.specs.Refusing.{Tests, first_refused, needs_moment}
use Rattle.tm_tree.specs.States.{StoreState, VolumeState, new_volume as volume_of, new_store}
use Rattle.tm_tree.proofs.Passes.{none_before, none_after}
use Rattle.tm_fit.specs.Fit.{Fits}
use Rattle.tm_fit.specs.Laws.{ChangeFits, BackupFits, NewVolumeFits, NewVolumeAloneFits, NewStoreFits, LaterGenerationFits}
use Rattle.tm_store_records.specs.States.{StoredStore}
use Rattle.tm_changes.specs.Changes as volume
use Rattle.tm_volume.specs.Stored.{StoredVolume}
use Rattle.tm_machine.specs.Changing.{change_of}
use Rattle.tm_machine.specs.Fitting.{PairFits}
use Rattle.tm_machine.specs.States.{State, store_in}
use Rattle.tm_machine.specs.Steps.{after, after_by, at_rest, backed, changed, change_tests, ended, is_taken, after_refused, after_refused_by, new_volume_tests, changeless_after, changeless_after_refused, changeless_tests, refusal, start_tests, step, tests_by, unless_refused}

-- the laws on volumes and stores
pub record FitLaws : Type 0 where
  pub changes : ChangeFits
  pub backups : BackupFits
  pub new_volumes : NewVolumeFits
  pub alone : NewVolumeAloneFits
  pub new_stores : NewStoreFits
  pub later : LaterGenerationFits

-- a store at rest is the same store
rested : (v : Option VolumeState) (z : Option StoredStore) → Fits v (store_in z) → Fits v (store_in (option_map (λ x. at_rest x.store) z))
rested v None h = h
rested v (Some z) h = h

pub ended_fits : (why : Option Refused) (s : State) → PairFits s → PairFits (ended why s)
ended_fits None s h = rested (option_map (λ v. v.volume) s.volume) s.store h
ended_fits (Some why) s h = h

changeless_after_refused_fits : (s : State) (l : Line) → PairFits s → PairFits (changeless_after_refused s l)
changeless_after_refused_fits s line.StartBackupBlock h = ended_fits (first_refused (start_tests s)) s h
changeless_after_refused_fits s _ h = h

after_refused_fits : (s : State) (l : Line) (c : Option Change) → PairFits s → PairFits (after_refused_by s l c)
after_refused_fits s l (Some c) h = h
after_refused_fits s l None h = changeless_after_refused_fits s l h

module _ (laws : FitLaws) where
  changed_fits : (blocks : ℕ) (v : StoredVolume) (store : Option StoreState) (c : Change) (moment : Option ℕ) → first_refused (volume.change_tests blocks v c moment) ≡ None
      → Fits (Some v.volume) store → Fits (Some (volume.changed v c moment).volume) store
  changed_fits blocks v store c moment none h = laws.changes v.volume store c moment (none_before (contents.tests v.volume.contents c moment) _ none) h

  change_fits : (s : State) (c : Change) (w : Option StoredVolume) → s.volume ≡ w → first_refused (change_tests s c) ≡ None → PairFits s → PairFits (changed s c)
  change_fits s c None e none h = subst (λ (x : Option StoredVolume). Fits (option_map (λ v. v.volume) (option_map (λ v. volume.changed v c s.moment) x)) (store_in s.store)) (sym e) tt
  change_fits s c (Some v) e none h =
      subst (λ (x : Option StoredVolume). Fits (option_map (λ v. v.volume) (option_map (λ v. volume.changed v c s.moment) x)) (store_in s.store)) (sym e)
      (changed_fits s.volume_blocks v (store_in s.store) c s.moment
      (sym (ap (λ (x : Option StoredVolume). first_refused (change_tests (record s { volume = x }) c)) e) ∙ none)
      (subst (λ (x : Option StoredVolume). Fits (option_map (λ v. v.volume) x) (store_in s.store)) e h))

  volume_fits : (store : Option StoreState) (name : List ℕ) (id events moment : ℕ) → is_taken store id ≡ false → Fits (Some (volume_of name id events moment)) store
  volume_fits None name id events moment free = laws.alone name id events moment
  volume_fits (Some store) name id events moment free = laws.new_volumes name id events moment store free

  store_fits : (v : Option StoredVolume) (z : Option StoredStore) (machine : List ℕ) → is_some z ≡ false → Fits (option_map (λ x. x.volume) v) (store_in z) → Fits (option_map (λ x. x.volume) v) (Some (new_store machine))
  store_fits None z machine none h = tt
  store_fits (Some v) None machine none h = laws.new_stores v.volume machine h
  store_fits (Some v) (Some z) machine none h = cc

  backed_fits : (v : Option StoredVolume) (z : Option StoredStore) (moment : Option ℕ) → Fits (option_map (λ x. x.volume) v) (store_in z) → Fits (option_map (λ x. x.volume) v) (store_in (backed v z moment))
  backed_fits None z moment h = tt
  backed_fits (Some v) None moment h = h
  backed_fits (Some v) (Some z) None h = h
  backed_fits (Some v) (Some z) (Some date) h = laws.backups v.volume z.store date h

  not_first : (t : Bool) (why : Refused) (rest : Tests) → first_refused ((t, why) ∷ rest) ≡ None → (t ≡ false) × (first_refused rest ≡ None)
  not_first true why rest h = cc
  not_first false why rest h = (refl, h)

  free_id : (s : State) (id : ℕ) → first_refused (new_volume_tests s id) ≡ None → is_taken (store_in s.store) id ≡ false
  free_id s id none =
      let rest : Tests = needs_moment s.moment ++ (is_taken (store_in s.store) id, IdTaken) ∷ [] in
      let small = (not_first (is_some s.volume) Already ((nat_lt s.volume_blocks 8, Small) ∷ rest) none).1 in
      let dated = (not_first (nat_lt s.volume_blocks 8) Small rest small).1 in
      let taken = none_after (needs_moment s.moment) ((is_taken (store_in s.store) id, IdTaken) ∷ []) dated in
      (not_first (is_taken (store_in s.store) id) IdTaken [] taken).0

  changeless_fits : (s : State) (l : Line) → first_refused (changeless_tests s l) ≡ None → PairFits s → PairFits (changeless_after s l)
  changeless_fits s (line.NewVolume name id events) none h = volume_fits (store_in s.store) name id events (unwrap_or s.moment 0) (free_id s id none)
  changeless_fits s (line.NewStore machine) none h = store_fits s.volume s.store machine (not_first (is_some s.store) Already ((nat_lt s.store_blocks 8, Small) ∷ []) none).0 h
  changeless_fits s line.StartBackupBlock none h = backed_fits s.volume s.store s.moment h
  changeless_fits s _ none h = h

  pub after_fits : (s : State) (l : Line) (c : Option Change) → first_refused (tests_by s l c) ≡ None → PairFits s → PairFits (after_by s l c)
  after_fits s l (Some c) none h = change_fits s c s.volume refl none h
  after_fits s l None none h = changeless_fits s l none h

  by_refusal : (s : State) (l : Line) (why : Option Refused) → refusal s l ≡ why → PairFits s → PairFits (unless_refused why (after_refused s l) (after s l))
  by_refusal s l None e h = after_fits s l (change_of l) e h
  by_refusal s l (Some why) e h = after_refused_fits s l (change_of l) h

  pub step_fits : (s : State) (l : Line) → PairFits s → PairFits (step s l)
  step_fits s l h = by_refusal s l (refusal s l) refl h
