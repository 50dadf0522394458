-- A pair that fits does so in whatever a stop leaves, once it is opened again.
use Rattle.std.proofs.Common.{◌≡◌, ℕ, zero, suc, ◌+◌, Bool, true, false, if◌then◌else◌, Option, Some, None, List, [], ◌∷◌, ◌++◌, take, refl, sym, subst, arith}
use Rattle.std.specs.List.{All}
use Rattle.std.specs.Option.{option_map}
use Rattle.std.proofs.lemmas.List.Elements.{All-nil, All-cons, All-append, All-head, All-tail}
use Rattle.tm_base.specs.declared.refused.Refused.{Refused}
use Rattle.tm_text.specs.declared.line.Line.{Line}
use Rattle.tm_text.specs.declared.line.Line.TheVariants as line
use Rattle.tm_tree.specs.declared.change.Change.{Change}
use Rattle.tm_tree.specs.Refusing.{first_refused}
use Rattle.tm_tree.specs.States.{StoreState, VolumeState}
use Rattle.tm_fit.specs.Fit.{Fits}
use Rattle.tm_store_records.specs.States.{StoredStore}
use Rattle.tm_volume.specs.Stored.{StoredVolume, reopened}
use Rattle.tm_machine.specs.Changing.{change_of}
use Rattle.tm_machine.specs.Commits.{commits, done_by, commits_of, ending, last_from, opening, opening_of, changeless_commits, changeless_undone, started, undone_by}
use Rattle.tm_machine.specs.Fitting.{FitsReopened, PairFits}
use Rattle.tm_machine.specs.Histories.{HeldFits, commits_in, plain_of}
use Rattle.tm_machine.specs.States.{State, Stored, opened, store_in}
use Rattle.tm_machine.specs.Steps.{begun, changeless_after, refusal, start_tests, step, tests_by, unless_refused}
use Rattle.tm_machine.proofs.FitLemmas.{FitLaws, after_fits, ended_fits, step_fits}
use Rattle.tm_machine.proofs.PlainLemmas.{plain_commits}

-- what the images keep fits as it is
abbrev StoredFits : Stored → Type 0
StoredFits r = Fits (option_map (λ v. v.volume) r.volume) (store_in r.store)

-- ---- opening

module _ (laws : FitLaws) where
  unclean_fits : (b : Bool) (v : StoredVolume) (z : Option StoreState) → Fits (Some v.volume) z → Fits (Some (reopened (record v { clean = b })).volume) z
  unclean_fits true v z h = h
  unclean_fits false v z h = laws.later v.volume z (v.volume.generation + 1) (omega arith) h

  reopened_fits : (v : Option StoredVolume) (z : Option StoreState) → Fits (option_map (λ x. x.volume) v) z → Fits (option_map (λ x. x.volume) (option_map reopened v)) z
  reopened_fits None z h = tt
  reopened_fits (Some v) z h = unclean_fits v.clean v z h

  by_mark : (b : Bool) (r : Stored) → StoredFits r → All StoredFits (if b then [] else r ∷ [])
  by_mark true r h = All-nil StoredFits
  by_mark false r h = All-cons StoredFits r [] h (All-nil StoredFits)

  -- and so it does when it is opened
  reopens : (r : Stored) → StoredFits r → FitsReopened r
  reopens r h n k = reopened_fits r.volume (store_in r.store) h

-- ---- lines

one : (r : Stored) → StoredFits r → All StoredFits (r ∷ [])
one r h = All-cons StoredFits r [] h (All-nil StoredFits)

two : (q r : Stored) → StoredFits q → StoredFits r → All StoredFits (q ∷ r ∷ [])
two q r g h = All-cons StoredFits q (r ∷ []) g (one r h)

-- the date of a backup is no matter to the fit
begun_fits : (v : Option VolumeState) (z : Option StoredStore) (moment : Option ℕ) → Fits v (store_in z) → Fits v (store_in (option_map (begun moment) z))
begun_fits v None moment h = h
begun_fits v (Some z) moment h = h

started_fits : (s : State) → PairFits s → StoredFits (started s)
started_fits s h = begun_fits (option_map (λ v. v.volume) s.volume) s.store s.moment h

ending_fits : (why : Option Refused) (s : State) → PairFits s → All StoredFits (ending why s)
ending_fits None s h = two (started s) _ (started_fits s h) (ended_fits None s h)
ending_fits (Some why) s h = All-nil StoredFits

changeless_undone_fits : (s : State) (l : Line) → PairFits s → All StoredFits (changeless_undone s l)
changeless_undone_fits s line.StartBackupBlock h = ending_fits (first_refused (start_tests s)) s h
changeless_undone_fits s _ h = All-nil StoredFits

undone_fits : (s : State) (l : Line) (c : Option Change) → PairFits s → All StoredFits (undone_by s l c)
undone_fits s l (Some c) h = All-nil StoredFits
undone_fits s l None h = changeless_undone_fits s l h

changeless_made_fits : (s : State) (l : Line) → PairFits s → PairFits (changeless_after s l) → All StoredFits (changeless_commits s l)
changeless_made_fits s (line.NewVolume name id events) h new = one _ new
changeless_made_fits s (line.NewStore machine) h new = one _ new
changeless_made_fits s line.StartBackupBlock h new = two (started s) _ (started_fits s h) new
changeless_made_fits s _ h new = All-nil StoredFits

module _ (laws : FitLaws) where
  made_fits : (s : State) (l : Line) (c : Option Change) → first_refused (tests_by s l c) ≡ None → PairFits s → All StoredFits (done_by s l c)
  made_fits s l (Some c) none h = one _ (after_fits laws s l (Some c) none h)
  made_fits s l None none h = changeless_made_fits s l h (after_fits laws s l None none h)

  by_refusal : (s : State) (l : Line) (why : Option Refused) → refusal s l ≡ why → PairFits s
      → All StoredFits (unless_refused why (undone_by s l (change_of l)) (done_by s l (change_of l)))
  by_refusal s l None e h = made_fits s l (change_of l) e h
  by_refusal s l (Some why) e h = undone_fits s l (change_of l) h

  commits_fit : (s : State) (lines : List Line) → PairFits s → All StoredFits (commits s lines)
  commits_fit s [] h = All-nil StoredFits
  commits_fit s (l ∷ lines) h =
      All-append StoredFits (commits_of s l) (commits (step s l) lines) (by_refusal s l (refusal s l) refl h) (commits_fit (step s l) lines (step_fits laws s l h))

  -- ---- at a moment of a run

  each_reopens : (rs : List Stored) → All StoredFits rs → All FitsReopened rs
  each_reopens rs all k d low = reopens laws _ (all k d low)

  opening_reopens : (v : Option StoredVolume) (z : Option StoredStore) → Fits (option_map (λ x. x.volume) (option_map reopened v)) (store_in z) → All StoredFits (opening_of v z)
  opening_reopens None z h = All-nil StoredFits
  opening_reopens (Some v) z h = by_mark laws v.clean (record { volume = Some (reopened v); store = z }) h

  -- any first part of a list of fitting commits ends in one
  last_fits : (r : Stored) (later : List Stored) (made : ℕ) → FitsReopened r → All FitsReopened later → FitsReopened (last_from r (take made later))
  last_fits r later zero h all = h
  last_fits r [] (suc made) h all = h
  last_fits r (x ∷ later) (suc made) h all = last_fits x later made (All-head FitsReopened x later all) (All-tail FitsReopened x later all)

  pub held_fits : HeldFits
  held_fits n k lines r made fits =
      let s = opened n k r in
      let lines_fit : All FitsReopened (commits_in (plain_of s lines)) = subst (All FitsReopened) (sym (plain_commits s lines)) (each_reopens (commits s lines) (commits_fit s lines (fits n k))) in
      last_fits r (opening r ++ (commits_in (plain_of s lines) ++ [])) made fits
      (All-append FitsReopened (opening r) (commits_in (plain_of s lines) ++ []) (each_reopens (opening r) (opening_reopens r.volume r.store (fits 0 0)))
      (All-append FitsReopened (commits_in (plain_of s lines)) [] lines_fit (All-nil FitsReopened)))
