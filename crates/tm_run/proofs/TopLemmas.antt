-- What a run says is what its outcome says.
use Rattle.std.proofs.Common.{if◌then◌else◌, ◌≡◌, ◌≢◌, ◌⊎◌, inl, inr, ⊎_elim, ℕ, ◌<◌, ◌≤◌, ◌-◌, ◌^◌, Bool, true, false, List, Option, Some, None, Ok, Err, ◌++◌, length, take, ap, sym, ◌∙◌, subst, refl, arith}
use Rattle.std.proofs.lemmas.Bool.{cases_lt}
use Rattle.tm_world.specs.Outside.{Outside}
use Rattle.tm_text.specs.declared.line.Line.{Line}
use Rattle.tm_text.specs.Script.{IsFirstBad}
use Rattle.tm_world.specs.Disk.{Disk, Image}
use Rattle.tm_world.specs.Outside.{Place, made}
use Rattle.tm_world.specs.Torn.{as_read}
use Rattle.tm_run.specs.declared.status.Status.{Status}
use Rattle.tm_run.specs.declared.status.Status.TheVariants as status
use Rattle.tm_run.specs.declared.top.ScriptEnd.{ScriptEnd}
use Rattle.tm_run.specs.declared.top.ScriptEnd.TheVariants.{TooLong, BadLine}
use Rattle.tm_command.specs.Command.{IsCommand}
use Rattle.tm_run.specs.Scripts.{IsReading, StandsWith}
use Rattle.tm_run.specs.Outcomes.{FitsStart, IsStart, OneStart, Outcome, OneOutcome, Ran, StartsRun, too_long, bad, bad_store, bad_volume, done_status, replies, runs, bad_line, too_long_line}
use Rattle.tm_run.specs.Ends.{IsBefore, IsDone, NotCutShort, SaysAll, SaysPrefix, Speaks, GaveOutcome, GaveRan}
use Rattle.tm_run.specs.Pairs.{AreSmall, found, image_at}
use Rattle.tm_run.specs.Claims.{KeepsBoth, LeavesEnd, NamesNoLines, PassesPlain, ReadsFit, RunsOver, StaysElsewhere, StaysFit}
use Rattle.tm_run.specs.Moments.{IsMoment, RanOver, Stage, going_on, untouched}
use Rattle.tm_run.specs.Places.{ElsewhereSame, FindsPair, KeepsImage, LeavesAt}
use Rattle.tm_command.specs.Command.{IsSomeCommand}
use Rattle.tm_world.specs.Log.{Log, now, Passes}
use Rattle.tm_world.proofs.Going.{Passes-now, Passes-then, Passes-weaker}
use Rattle.tm_volume.specs.Answers.{IsSpent}
use Rattle.tm_volume.specs.Reads.{OneSide}
use Rattle.tm_volume.specs.Stored.{StoredVolume}
use Rattle.tm_machine.specs.Commits.{LastOfOpening, last_from}
use Rattle.tm_machine.specs.Fitting.{FitsReopened}
use Rattle.tm_machine.specs.Histories.{EffectsEnd, HeldFits, History, HistoryWhereFits, PlainWhereFits, held, history_commits, plain_history}
use Rattle.tm_machine.specs.Runs.{any_refused, state_after}
use Rattle.tm_machine.specs.States.{Stored, kept, opened}
use Rattle.tm_machine.specs.Stops.{CanOpen, PairReads}
use Rattle.tm_command.proofs.CommandLemmas.{one_command}
use Rattle.tm_run.proofs.FindingLemmas.{found_as_read, keeps_same}
use Rattle.tm_run.proofs.PathLemmas.{history_ends}
use Rattle.tm_run.proofs.ScriptLemmas.{same_reads}
use Rattle.tm_run.proofs.SayLemmas.{prefix_after}
use Rattle.tm_run.specs.Readings.{ReadsLines, IsEndOfLines, EndsAsOrCut}
use Rattle.tm_base.specs.Limits.{max_blocks, max_script_bytes}

pub same_outside : (outside : Outside) → IsReading outside outside
same_outside outside = record { stands = refl; scripts = refl; volume = refl; store = refl; said = refl }

pub gave : (words : List (List ℕ)) (old mid new : Outside) (status ended : Status) (text : List ℕ) → IsReading old mid
    → Outcome words old status text → ended ≡ status → SaysAll text mid new → GaveOutcome words old new ended
gave words old mid new status ended text reading outcome is says = record {
  text = text;
  outcome = subst (λ (s : Status). Outcome words old s text) (sym is) outcome;
  said = record { all = says.all ∙ ap (λ (s : List ℕ). s ++ text) reading.said };
}

pub says_a_prefix : OneOutcome → (words : List (List ℕ)) (old mid new : Outside) (status : Status) (text : List ℕ) → AreSmall old → IsReading old mid
    → Outcome words old status text → SaysPrefix text mid new
    → (other : Status) (told : List ℕ) → Outcome words old other told → SaysPrefix told old new
says_a_prefix one words old mid new status text small reading outcome says other told gives =
    let same : text ≡ told = (one words old small status other text told outcome gives).1 in
    let in_mid : SaysPrefix told mid new = subst (λ (t : List ℕ). SaysPrefix t mid new) same says in
    record { count = in_mid.count; within = in_mid.within; part = in_mid.part ∙ ap (λ (s : List ℕ). s ++ take in_mid.count told) reading.said }

-- a run that is whole ended in no fault
pub no_fault : (ended : Status) → NotCutShort ended → ended ≢ status.OutFault
no_fault ended whole is = subst NotCutShort is whole

pub ends_well : (wanted ended : Status) → (ended ≡ wanted) ⊎ (ended ≡ status.OutFault) → NotCutShort ended → ended ≡ wanted
ends_well wanted ended (inl is) whole = is
ends_well wanted ended (inr is) whole = absurd (subst NotCutShort is whole)

pub ends_as : (wanted ended : Status) → EndsAsOrCut wanted ended → NotCutShort ended → ended ≡ wanted
ends_as wanted ended (inl is) whole = is
ends_as wanted ended (inr (inl is)) whole = absurd (subst NotCutShort is whole)
ends_as wanted ended (inr (inr is)) whole = absurd (subst NotCutShort is whole)

-- the outcomes of a script that gave no lines
pub of_long : (words : List (List ℕ)) (old : Outside) (v s p : List ℕ) (create : Option ℕ) (why : ScriptEnd) → IsCommand words v s p create → why ≡ TooLong
    → ReadsLines old p (Err why) → Outcome words old (status.Script 0) too_long_line
of_long words old v s p create why is because reads =
    let long : StandsWith old p (λ script. max_script_bytes < length script) = subst (λ (e : ScriptEnd). ReadsLines old p (Err e)) because reads in
    too_long is long.stands long.has

pub of_bad : (words : List (List ℕ)) (old : Outside) (v s p : List ℕ) (create : Option ℕ) (why : ScriptEnd) (n : ℕ) → IsCommand words v s p create → why ≡ BadLine n
    → ReadsLines old p (Err why) → Outcome words old (status.Script n) (bad_line n)
of_bad words old v s p create why n is because reads =
    let worse : StandsWith old p (λ script. (length script ≤ max_script_bytes) × IsFirstBad script n) = subst (λ (e : ScriptEnd). ReadsLines old p (Err e)) because reads in
    bad is worse.stands worse.has.0 worse.has.1

-- lines end after the images are attached
pub not_before : {P : Type 0} (ended : Status) → IsEndOfLines ended → IsBefore ended → P
not_before status.Done ends before = absurd before
not_before status.DoneRefused ends before = absurd before
not_before status.Usage ends before = absurd ends
not_before (status.Script line) ends before = absurd ends
not_before (status.BadImage side cause place) ends before = absurd before
not_before (status.Device side) ends before = absurd before
not_before status.Memory ends before = absurd before
not_before status.ScriptFault ends before = absurd ends
not_before status.OutFault ends before = absurd before

-- ---- a script whose lines are run

pub found_then : (p : List ℕ) (create : Option ℕ) (old mid : Outside) → IsReading old mid → as_read (found p create mid) ≡ as_read (found p create old)
found_then p create old mid reading = ap (λ (at : Place → Disk). as_read (if (at (Some p)).there then at (Some p) else made create)) reading.stands

abbrev pub start_of : (words : List (List ℕ)) (old mid : Outside) (v s p : List ℕ) (create : Option ℕ) (lines : List Line) → IsReading old mid → IsCommand words v s p create
    → ReadsLines old p (Ok lines) → IsStart words old lines (as_read (found v create mid)) (as_read (found s create mid))
start_of words old mid v s p create lines reading command reads = record {
  volume = v;
  store = s;
  path = p;
  create = create;
  script = reads.script;
  command = command;
  stands = reads.stands;
  short = reads.has.0;
  is_script = reads.has.1;
  volume_is = found_then v create old mid reading;
  store_is = found_then s create old mid reading;
}

pub gave_run : (words : List (List ℕ)) (old mid new : Outside) (lines : List Line) (v z : Image) (ended : Status) → IsReading old mid → IsStart words old lines v z
    → GaveRan v z lines mid new ended → GaveOutcome words old new ended
gave_run words old mid new lines v z ended reading start gave = record {
  text = gave.text;
  outcome = runs start gave.ran;
  said = record { all = (gave.said).all ∙ ap (λ (s : List ℕ). s ++ gave.text) reading.said };
}

pub run_prefix : StartsRun → (words : List (List ℕ)) (old mid new : Outside) (lines : List Line) (v z : Image) → IsReading old mid → IsStart words old lines v z
    → ((status : Status) (text : List ℕ) → Ran v z lines status text → SaysPrefix text mid new)
    → (status : Status) (text : List ℕ) → Outcome words old status text → SaysPrefix text old new
run_prefix starts words old mid new lines v z reading start says status text outcome =
    prefix_after text old mid new reading.said (says status text (starts words old lines v z status text start outcome))

-- ---- what is claimed over one start is claimed over each

module _ (one : OneStart) (words : List (List ℕ)) (outside : Outside) (lines : List Line) (v z : Image) (start : IsStart words outside lines v z) where
  pub start_tells : (P : List Line → Image → Image → List ℕ → List ℕ → Option ℕ → Type 0) → P lines v z start.volume start.store start.create
      → (others : List Line) (w y : Image) (also : IsStart words outside others w y) → P others w y also.volume also.store also.create
  start_tells P holds others w y also =
      let same = one words outside lines others v w y z start also in
      let paths = one_command words start.volume start.store start.path start.create also.volume also.store also.path also.create start.command also.command in
      subst (λ (c : Option ℕ). P others w y also.volume also.store c) paths.3
      (subst (λ (q : List ℕ). P others w y also.volume q start.create) paths.1
      (subst (λ (p : List ℕ). P others w y p start.store start.create) paths.0
      (subst (λ (u : Image). P others w u start.volume start.store start.create) same.2
      (subst (λ (u : Image). P others u z start.volume start.store start.create) same.1
      (subst (λ (ls : List Line). P ls v z start.volume start.store start.create) same.0 holds)))))

-- of the words alone
pub command_tells : (words : List (List ℕ)) (v s p : List ℕ) (create : Option ℕ) → IsCommand words v s p create → (P : List ℕ → List ℕ → Option ℕ → Type 0) → P v s create
    → (w t q : List ℕ) (make : Option ℕ) → IsCommand words w t q make → P w t make
command_tells words v s p create command P holds w t q make also =
    let paths = one_command words v s p create w t q make command also in
    subst (λ (c : Option ℕ). P w t c) paths.3 (subst (λ (y : List ℕ). P w y create) paths.1 (subst (λ (x : List ℕ). P x s create) paths.0 holds))

-- ---- no lines

pub not_started : (words : List (List ℕ)) (outside : Outside) → (IsSomeCommand words → ⊥) → NamesNoLines words outside
not_started words outside none lines v z start = none (record { volume = start.volume; store = start.store; script = start.path; create = start.create; is = start.command })

done_is_none : (b : Bool) (n : ℕ) → done_status b ≢ status.Script n
done_is_none true n is = cc is
done_is_none false n is = cc is

no_script : (v z : Image) (lines : List Line) (ended : Status) (text : List ℕ) (n : ℕ) → Ran v z lines ended text → ended ≢ status.Script n
no_script v z lines ended text n (bad_volume many fails) is = cc is
no_script v z lines ended text n (bad_store can many fails) is = cc is
no_script v z lines ended text n (replies {r} reads unspent) is = done_is_none (any_refused (opened v.count z.count r) lines) n is

pub script_not_started : StartsRun → (words : List (List ℕ)) (outside : Outside) (n : ℕ) (text : List ℕ) → Outcome words outside (status.Script n) text → NamesNoLines words outside
script_not_started starts words outside n text gives lines v z start = no_script v z lines (status.Script n) text n (starts words outside lines v z (status.Script n) text start gives) refl

-- ---- no image is another

pub speaks_stand : (old mid new : Log) (text : List ℕ) → Passes old mid (IsReading (now old)) → Passes mid new (Speaks text (now mid)) → Passes old new (λ o. o.stands ≡ (now old).stands)
speaks_stand old mid new text first says =
    let here : IsReading (now old) (now mid) = Passes-now old mid (IsReading (now old)) first (same_reads (now old)) in
    Passes-then old mid new (λ o. o.stands ≡ (now old).stands) (Passes-weaker old mid _ (λ o. o.stands ≡ (now old).stands) (λ o reading. reading.stands) first)
    (Passes-weaker mid new _ (λ o. o.stands ≡ (now old).stands) (λ o speaks. speaks.stands ∙ here.stands) says)

pub words_stand : (old new : Log) (text : List ℕ) → Passes old new (Speaks text (now old)) → Passes old new (λ o. o.stands ≡ (now old).stands)
words_stand old new text says = Passes-weaker old new _ (λ o. o.stands ≡ (now old).stands) (λ o speaks. speaks.stands) says

pub reading_stand : (old new : Log) → Passes old new (IsReading (now old)) → Passes old new (λ o. o.stands ≡ (now old).stands)
reading_stand old new passes = Passes-weaker old new _ (λ o. o.stands ≡ (now old).stands) (λ o reading. reading.stands) passes

-- then nothing elsewhere is another either
pub stand_elsewhere : (words : List (List ℕ)) (old new : Log) → Passes old new (λ o. o.stands ≡ (now old).stands) → StaysElsewhere words old new
stand_elsewhere words old new passes volume store path create command =
    Passes-weaker old new _ (ElsewhereSame volume store (now old)) (λ o stands at v z. ap (λ (f : Place → Disk). f at) stands) passes

-- and what a stop leaves is what it would have left
pub stand_fit : (words : List (List ℕ)) (old new : Log) → Passes old new (λ o. o.stands ≡ (now old).stands) → StaysFit words old new
stand_fit words old new passes volume store path create command finds = Passes-weaker old new _ (LeavesAt volume store ReadsFit)
    (λ o stands v z v_left z_left. finds v z
    ((keeps_same volume create (now old) o (ap (λ (f : Place → Disk). f (Some volume)) stands)).leaves v v_left)
    ((keeps_same store create (now old) o (ap (λ (f : Place → Disk). f (Some store)) stands)).leaves z z_left)) passes

-- ---- over a pair that fits

none_some : (s : StoredVolume) → None ≡ Some s → ⊥
none_some s h = cc

not_spent : (v : StoredVolume) → v.clean ≡ true → IsSpent (Some v) → ⊥
not_spent v clean spent =
    let same : v ≡ spent.volume = some_is v spent.volume spent.is in
    let off : v.clean ≡ false = ap (λ (s : StoredVolume). s.clean) same ∙ spent.unclean in
    cc
  where
    some_is : (s t : StoredVolume) → Some s ≡ Some t → s ≡ t
    some_is s t h = cc

generation_of : (v : StoredVolume) → IsSpent (Some v) → v.volume.generation ≡ 2 ^ 62 - 1
generation_of v spent = ap (λ (s : StoredVolume). s.volume.generation) (some_is v spent.volume spent.is) ∙ spent.last
  where
    some_is : (s t : StoredVolume) → Some s ≡ Some t → s ≡ t
    some_is s t h = cc

spent_by : (v : StoredVolume) → v.clean ≡ false → IsSpent (Some v) ⊎ ¬ IsSpent (Some v)
spent_by v unclean = ⊎_elim
    (λ (less : v.volume.generation < 2 ^ 62 - 1). inr (λ spent. absurd (omega (arith, less, generation_of v spent))))
    (λ (more : 2 ^ 62 - 1 ≤ v.volume.generation). ⊎_elim
    (λ (beyond : 2 ^ 62 - 1 < v.volume.generation). inr (λ spent. absurd (omega (arith, beyond, generation_of v spent))))
    (λ (most : v.volume.generation ≤ 2 ^ 62 - 1). inl (record { volume = v; is = refl; unclean = unclean; last = omega (arith, more, most) }))
    (cases_lt (2 ^ 62 - 1) v.volume.generation))
    (cases_lt v.volume.generation (2 ^ 62 - 1))

by_clean : (v : StoredVolume) (b : Bool) → v.clean ≡ b → IsSpent (Some v) ⊎ ¬ IsSpent (Some v)
by_clean v true clean = inr (not_spent v clean)
by_clean v false unclean = spent_by v unclean

-- whether the generations of a volume are spent
spent_or_not : (v : Option StoredVolume) → IsSpent v ⊎ ¬ IsSpent v
spent_or_not None = inr (λ spent. none_some spent.volume spent.is)
spent_or_not (Some v) = by_clean v v.clean refl

module _ (one_side : OneSide) (where_fits : HistoryWhereFits) (held_fits : HeldFits) (words : List (List ℕ)) (old new : Log) (ended : Status) (lines : List Line) (v z : Image)
    (start : IsStart words (now old) lines v z) (few : v.count ≤ max_blocks)
    (history : (r : Stored) → PairReads r v z → ¬ IsSpent r.volume → RanOver lines start.volume start.store start.create v.count z.count r old new ended)
    (shut : (CanOpen v → ⊥) → Passes old new (KeepsBoth start.volume start.store start.create (now old)))
    (finds : FindsPair start.volume start.store start.create ReadsFit (now old)) where
  abbrev LeavesFit : Outside → Type 0
  LeavesFit = LeavesAt start.volume start.store ReadsFit

  kept_fits : (o : Outside) → KeepsImage start.volume start.create (now old) o → KeepsImage start.store start.create (now old) o → LeavesFit o
  kept_fits o volume store x y x_left y_left = finds x y (volume.leaves x x_left) (store.leaves y y_left)

  stage_fits : (r : Stored) (h : History) (o : Outside) → FitsReopened r → h ≡ plain_history v.count z.count lines r → Stage h start.volume start.store start.create (now old) o → LeavesFit o
  stage_fits r h o fits is (untouched u) = kept_fits o u.volume u.store
  stage_fits r h o fits is (going_on w) = λ x y x_left y_left.
      let at = w.left x y x_left y_left in
      record { stored = held h at.made; reads = at.reads; fits = subst (λ (g : History). FitsReopened (held g at.made)) (sym is) (held_fits v.count z.count lines r at.made fits) }

  over : (f : ReadsFit v z) → IsSpent f.stored.volume ⊎ ¬ IsSpent f.stored.volume → Passes old new LeavesFit
  over f (inl spent) = Passes-weaker old new _ LeavesFit (λ o both. kept_fits o both.volume both.store)
      (shut (λ can. can.unspent (subst IsSpent (one_side v f.stored.volume can.volume few f.reads.volume_reads can.reads) spent)))
  over f (inr unspent) =
      let ran = history f.stored f.reads unspent in
      let h = ran.history in
      let is : h ≡ plain_history v.count z.count lines f.stored =
      where_fits v.count z.count lines h (subst FitsReopened (sym ran.first) f.fits) ran.is ∙ ap (plain_history v.count z.count lines) ran.first in
      Passes-weaker old new _ LeavesFit (λ o moment. stage_fits f.stored h o f.fits is moment.stage) ran.moments

  found_fit : ReadsFit v z
  found_fit =
      subst (λ (u : Image). ReadsFit u z) (sym start.volume_is)
      (subst (λ (u : Image). ReadsFit (image_at start.volume start.create (now old)) u) (sym start.store_is)
      (finds (image_at start.volume start.create (now old)) (image_at start.store start.create (now old)) (found_as_read start.volume start.create (now old)) (found_as_read start.store start.create (now old))))

  pub start_fit : Passes old new LeavesFit
  start_fit = over found_fit (spent_or_not found_fit.stored.volume)

-- ---- the clauses in the plain machine's words

module _ (plain : PlainWhereFits) (where_fits : HistoryWhereFits) (words : List (List ℕ)) (old new : Log) (ended : Status) (history : RunsOver words old new ended) (fits : FitsStart words (now old)) where
  pub passes_plain : PassesPlain words old new
  passes_plain lines v z start r reads unspent =
      let ran = history lines v z start r reads unspent in
      let is : ran.history ≡ plain_history v.count z.count lines r =
      where_fits v.count z.count lines ran.history (subst FitsReopened (sym ran.first) (fits lines v z start r reads)) ran.is ∙ ap (plain_history v.count z.count lines) ran.first in
      subst (λ (h : History). Passes old new (IsMoment h start.volume start.store start.create (now old))) is ran.moments

  done_whole : IsDone ended → NotCutShort ended
  done_whole done = by_status ended done
    where
      by_status : (e : Status) → IsDone e → NotCutShort e
      by_status status.Done d = tt
      by_status status.DoneRefused d = tt
      by_status _ d = absurd d

  pub leaves_plain : LastOfOpening → EffectsEnd → IsDone ended → LeavesEnd words (now old) (now new)
  leaves_plain opening_ends effects_end done lines v z start r reads unspent x y x_left y_left =
      let ran = history lines v z start r reads unspent in
      let h = ran.history in
      let whole = ran.whole (done_whole done) in
      let fit : FitsReopened h.first = subst FitsReopened (sym ran.first) (fits lines v z start r reads) in
      let end : last_from h.first (history_commits h) ≡ kept (state_after (opened v.count z.count r) lines) =
      history_ends opening_ends v.count z.count lines h ran.is effects_end
      ∙ ap kept (plain (opened v.count z.count h.first) lines h.done (fit v.count z.count) ran.is.does).leaves
      ∙ ap (λ (s : Stored). kept (state_after (opened v.count z.count s) lines)) ran.first in
      subst (λ (s : Stored). PairReads s x y) end (whole.left x y x_left y_left)
