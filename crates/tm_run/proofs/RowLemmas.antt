-- One run of a row after another.
use Rattle.std.proofs.Common.{◌≡◌, ◌⊎◌, inl, inr, ⊎_elim, ℕ, zero, suc, ◌<◌, ◌≤◌, List, [], ◌∷◌, ◌++◌, length, take, Option, refl, sym, ◌∙◌, ap, subst, arith, append-nil}
use Rattle.std.proofs.lemmas.List.{length-append, take_all}
use Rattle.std.proofs.lemmas.Bool.{cases_lt}
use Rattle.tm_reply.specs.Replies.{reply_text}
use Rattle.tm_world.specs.Disk.{Image}
use Rattle.tm_world.specs.Log.{now}
use Rattle.tm_world.specs.Outside.{Outside}
use Rattle.tm_machine.specs.Allowed.{commits_by, reply_of}
use Rattle.tm_machine.specs.Commits.{last_from}
use Rattle.tm_machine.specs.Fitting.{FitsReopened}
use Rattle.tm_machine.specs.Histories.{HeldFits, History, HistoryWhereFits, IsWithin, PlainIsHistory, commits_in, held, history_commits, plain_history, said_in}
use Rattle.tm_machine.specs.Session.{Effect}
use Rattle.tm_machine.specs.States.{Stored}
use Rattle.tm_machine.specs.Stops.{PairReads}
use Rattle.tm_run.specs.declared.status.Status.{Status}
use Rattle.tm_run.specs.declared.status.Status.TheVariants as status
use Rattle.tm_run.specs.Ends.{NotCutShort}
use Rattle.tm_run.specs.Moments.{IsUnderWay, IsUntouched, IsWholeRun, RanOver, Stage, going_on, untouched}
use Rattle.tm_run.specs.Outcomes.{IsStart}
use Rattle.tm_run.specs.Pairs.{image_at}
use Rattle.tm_run.specs.Places.{FindsLeft, FindsPair, Leaves, LeavesAt}
use Rattle.tm_run.specs.Rows.{AreMore, Goes, IsRun, MayGo, RowFits, RowPasses, Run, Through, Went, size_at, starts, stops}
use Rattle.tm_run.proofs.FindingLemmas.{found_as_read, untouched_same}

-- ---- how far a run came

few_said : (done : List Effect) (i : ℕ) → length (said_in (take i done)) ≤ length (said_in done)
few_said done zero = omega arith
few_said [] (suc i) = omega arith
few_said (d ∷ done) (suc i) = omega (arith, few_said done i, length-append (reply_text (reply_of d)) (said_in (take i done)), length-append (reply_text (reply_of d)) (said_in done))

few_commits : (done : List Effect) (i : ℕ) → length (commits_in (take i done)) ≤ length (commits_in done)
few_commits done zero = omega arith
few_commits [] (suc i) = omega arith
few_commits (d ∷ done) (suc i) = omega (arith, few_commits done i, length-append (commits_by d) (commits_in (take i done)), length-append (commits_by d) (commits_in done))

-- all of it
all_within : (h : History) → IsWithin h (length (said_in h.done)) (length (history_commits h))
all_within h = record {
  short = omega arith;
  few = omega arith;
  acknowledged = λ i less. omega (arith, few_commits h.done (suc i), length-append h.opening (commits_in h.done ++ h.closing), length-append (commits_in h.done) h.closing);
  not_beyond = λ i more. absurd (omega (arith, more, few_said h.done i));
}

-- nothing of it
none_within : (h : History) → IsWithin h 0 0
none_within h = record {
  short = omega arith;
  few = omega arith;
  acknowledged = λ i less. absurd (omega (arith, less));
  not_beyond = λ i more. omega arith;
}

-- a run was not cut short and came to its last moment, or not
whole_by : (ended : Status) (a b : ℕ) → NotCutShort ended → a ≤ b → (NotCutShort ended × (a ≡ b)) ⊎ (NotCutShort ended → a ≡ b → ⊥)
whole_by ended a b whole le = ⊎_elim
    (λ (less : a < b). inr (λ w same. absurd (omega (arith, less, same))))
    (λ (more : b ≤ a). inl (whole, omega (arith, le, more)))
    (cases_lt a b)

whole_or_not : (ended : Status) (a b : ℕ) → a ≤ b → (NotCutShort ended × (a ≡ b)) ⊎ (NotCutShort ended → a ≡ b → ⊥)
whole_or_not status.Done a b le = whole_by status.Done a b tt le
whole_or_not status.DoneRefused a b le = whole_by status.DoneRefused a b tt le
whole_or_not status.Usage a b le = whole_by status.Usage a b tt le
whole_or_not (status.Script line) a b le = whole_by (status.Script line) a b tt le
whole_or_not (status.BadImage side cause place) a b le = whole_by (status.BadImage side cause place) a b tt le
whole_or_not (status.Device side) a b le = inr (λ w same. w)
whole_or_not status.Memory a b le = inr (λ w same. w)
whole_or_not status.ScriptFault a b le = inr (λ w same. w)
whole_or_not status.OutFault a b le = inr (λ w same. w)

leaves_same : (path : List ℕ) (s t : Outside) (image : Image) → t ≡ s → Leaves path t image → Leaves path s image
leaves_same path s t image same leaves = subst (λ (o : Outside). Leaves path o image) same leaves

module _ (plain : PlainIsHistory) (p q : List ℕ) where
  module _ (run : Run) (Reach : Stored → Type 0) (is_run : IsRun p q run) (before : FindsPair p q run.create (λ v z. (x : Stored) × Reach x × PairReads x v z) (starts run)) where
    abbrev Came : Image → Image → Type 0
    Came v z = (y : Stored) × ((x : Stored) × Reach x × MayGo p q run x y) × PairReads y v z

    abbrev v0 : Image
    v0 = image_at p run.create (starts run)

    abbrev z0 : Image
    z0 = image_at q run.create (starts run)

    abbrev start : IsStart run.words (starts run) run.lines v0 z0
    start = record {
      volume = p;
      store = q;
      path = is_run.path;
      create = run.create;
      script = is_run.script;
      command = is_run.command;
      stands = is_run.stands;
      short = is_run.short;
      is_script = is_run.is_script;
      volume_is = refl;
      store_is = refl;
    }

    -- what the run found
    here : (x : Stored) × Reach x × PairReads x v0 z0
    here = before v0 z0 (found_as_read p run.create (starts run)) (found_as_read q run.create (starts run))

    ran : RanOver run.lines p q run.create v0.count z0.count here.0 run.old run.new run.ended
    ran = is_run.history run.lines v0 z0 start here.0 here.2 (is_run.unspent here.0 here.2)

    -- it came to its end
    came_to_end : NotCutShort run.ended → run.stopped ≡ run.new.moment → LeavesAt p q Came (stops run)
    came_to_end whole same v z find_v find_z =
        let h = ran.history in
        let end : IsWholeRun h p q (starts run) (now run.new) run.ended = ran.whole whole in
        let is : stops run ≡ now run.new = ap run.new.past same in (
          last_from h.first (history_commits h),
          (
            here.0,
            here.1,
            record {
              history = h;
              first = ran.first;
              is = ran.is;
              went = record {
                spoken = length (said_in h.done);
                made = length (history_commits h);
                within = all_within h;
                said = ap (λ (o : Outside). o.said) is ∙ end.said ∙ ap (λ (xs : List ℕ). (starts run).said ++ xs) (sym (take_all (length (said_in h.done)) (said_in h.done) (omega arith)));
                holds = ap (last_from h.first) (sym (take_all (length (history_commits h)) (history_commits h) (omega arith)));
                whole = λ w e. (end.is, refl, refl);
              };
            },
          ),
          end.left v z (leaves_same p (now run.new) (stops run) v is find_v) (leaves_same q (now run.new) (stops run) z is find_z),
        )

    -- it was stopped
    module _ (not : NotCutShort run.ended → run.stopped ≡ run.new.moment → ⊥) where
      nothing_done : IsUntouched p q run.create (starts run) (stops run) → LeavesAt p q Came (stops run)
      nothing_done u v z find_v find_z =
          let x = before v z (u.volume.leaves v find_v) (u.store.leaves z find_z) in
          let h = plain_history v0.count z0.count run.lines x.0 in (
            x.0,
            (
              x.0,
              x.1,
              record {
                history = h;
                first = refl;
                is = plain v0.count z0.count run.lines x.0;
                went = record {
                  spoken = 0;
                  made = 0;
                  within = none_within h;
                  said = u.said ∙ sym (append-nil (starts run).said);
                  holds = refl;
                  whole = λ w e. absurd (not w e);
                };
              },
            ),
            x.2,
          )

      some_done : IsUnderWay ran.history p q run.create (starts run) (stops run) → LeavesAt p q Came (stops run)
      some_done w v z find_v find_z =
          let at = w.left v z find_v find_z in (
            held ran.history at.made,
            (
              here.0,
              here.1,
              record {
                history = ran.history;
                first = ran.first;
                is = ran.is;
                went = record { spoken = w.spoken; made = at.made; within = at.within; said = w.said; holds = refl; whole = λ w e. absurd (not w e) };
              },
            ),
            at.reads,
          )

      at_stage : Stage ran.history p q run.create (starts run) (stops run) → LeavesAt p q Came (stops run)
      at_stage (untouched u) = nothing_done u
      at_stage (going_on w) = some_done w

      was_cut : LeavesAt p q Came (stops run)
      was_cut = ⊎_elim
          (λ (later : run.old.moment < run.stopped). at_stage (ran.moments.each run.stopped later is_run.until).stage)
          (λ (first : run.stopped ≤ run.old.moment).
          let same : stops run ≡ starts run = ran.moments.kept run.stopped first ∙ ap run.old.past (omega (arith, first, is_run.from)) in
          nothing_done (untouched_same p q run.create (starts run) (stops run) (ap (λ (o : Outside). o.stands) same) (ap (λ (o : Outside). o.said) same)))
          (cases_lt run.old.moment run.stopped)

    pub one_run : LeavesAt p q Came (stops run)
    one_run = ⊎_elim (λ w. came_to_end w.0 w.1) was_cut (whole_or_not run.ended run.stopped run.new.moment is_run.until)

  finds : (create : Option ℕ) (before next : Outside) (P : Image → Image → Type 0) → FindsLeft p create before next → FindsLeft q create before next → LeavesAt p q P before → FindsPair p q create P next
  finds create before next P at_p at_q left v z find_v find_z = left v z (at_p v find_v) (at_q z find_z)

  more : (runs : List Run) (Reach : Stored → Type 0) (before last : Outside) → LeavesAt p q (λ v z. (x : Stored) × Reach x × PairReads x v z) before → AreMore p q before runs last
      → LeavesAt p q (λ v z. (y : Stored) × ((x : Stored) × Reach x × Through (MayGo p q) runs x y) × PairReads y v z) last
  more [] Reach before last left same v z find_v find_z =
      let x = left v z (leaves_same p before last v same find_v) (leaves_same q before last z same find_z) in
      (x.0, (x.0, x.1, refl), x.2)
  more (run ∷ runs) Reach before last left row v z find_v find_z =
      let started = finds run.create before (starts run) (λ v z. (x : Stored) × Reach x × PairReads x v z) row.0 row.1 left in
      let came = one_run run Reach row.2 started in
      let there = more runs (λ y. (x : Stored) × Reach x × MayGo p q run x y) (stops run) last came row.3 v z find_v find_z in
      let mid = there.1 in
      (there.0, (mid.1.0, mid.1.1, (mid.0, mid.1.2, mid.2)), there.2)

pub rows_pass : PlainIsHistory → RowPasses
rows_pass plain p q x last run runs found is_run row v z find_v find_z =
    let came = one_run plain p q run (λ y. y ≡ x) is_run (λ v z find_v find_z. (x, refl, found v z find_v find_z)) in
    let there = more plain p q runs (λ y. (w : Stored) × (w ≡ x) × MayGo p q run w y) (stops run) last came row v z find_v find_z in
    let mid = there.1 in
    (there.0, (mid.0, subst (λ w. MayGo p q run w mid.0) mid.1.1 mid.1.2, mid.2), there.2)

module _ (where_fits : HistoryWhereFits) (held_fits : HeldFits) where
  one_fits : (p q : List ℕ) (run : Run) (x y : Stored) → FitsReopened x → MayGo p q run x y → Goes p q run x y × FitsReopened y
  one_fits p q run x y fits may =
      let vb = size_at p run in
      let zb = size_at q run in
      let h = may.history in
      let is : h ≡ plain_history vb zb run.lines x = where_fits vb zb run.lines h (subst FitsReopened (sym may.first) fits) may.is ∙ ap (plain_history vb zb run.lines) may.first in
      let goes : Went run (plain_history vb zb run.lines x) y = subst (λ g. Went run g y) is may.went in
      (goes, subst FitsReopened (sym goes.holds) (held_fits vb zb run.lines x goes.made fits))

  pub rows_fit : RowFits
  rows_fit p q x y [] fits same = (same, subst FitsReopened (sym same) fits)
  rows_fit p q x y (run ∷ runs) fits through =
      let one = one_fits p q run x through.0 fits through.1 in
      let rest = rows_fit p q through.0 y runs one.1 through.2 in
      ((through.0, one.0, rest.0), rest.1)
