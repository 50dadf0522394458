-- A moment of a run on the sides is a moment at the paths.
use Rattle.std.proofs.Common.{◌≡◌, ℕ, suc, ◌+◌, ◌<◌, ◌≤◌, Bool, true, false, if◌then◌else◌, List, [], ◌∷◌, ◌++◌, length, take, Option, Some, None, refl, sym, ◌∙◌, ap, subst, arith, append-nil}
use Rattle.std.specs.Option.{option_map}
use Rattle.std.proofs.lemmas.List.{length-append, take-append-le}
use Rattle.std.proofs.lemmas.List.Elements.{All-cons, All-nil}
use Rattle.std.proofs.lemmas.Option.{none-some}
use Rattle.std.proofs.Math.Seq.{take-append-add}
use Rattle.tm_text.specs.declared.line.Line.{Line}
use Rattle.tm_store_records.specs.States.{StoredStore}
use Rattle.tm_volume.specs.Stored.{StoredVolume, reopened}
use Rattle.tm_world.specs.Disk.{Disk, Image, IsLeft}
use Rattle.tm_world.specs.Log.{Log, now, Passes}
use Rattle.tm_world.specs.Outside.{Outside, Place, disk, is_place, place}
use Rattle.tm_world.proofs.Going.{Passes-now, Passes-then, Passes-weaker}
use Rattle.tm_world.specs.declared.world.Side.{Side}
use Rattle.tm_world.specs.declared.world.Side.TheVariants.{Volume as VolumeSide, Store as StoreSide}
use Rattle.tm_machine.proofs.CommitLemmas.{last_from-append}
use Rattle.tm_machine.specs.Allowed.{after_of, commits_by}
use Rattle.tm_machine.specs.Commits.{LastOfOpening, last_from, opening_of}
use Rattle.tm_machine.specs.Histories.{AreDone, EffectsEnd, History, IsBegunBy, IsHistory, IsWithin, PlainIsHistory, commits_in, held, history_commits, plain_history, said_in, state_in}
use Rattle.tm_machine.specs.Session.{Effect}
use Rattle.tm_machine.specs.States.{State, Stored, kept, opened}
use Rattle.tm_machine.specs.Stops.{HaveNoStore, HaveNoVolume, IsFramed, LeavesCommits, PairReads}
use Rattle.tm_run.specs.Done.{LeavesDone}
use Rattle.tm_run.specs.Claims.{BeginsAtMost, KeepsBoth, KeepsStore, as_found, begins}
use Rattle.tm_run.specs.Ends.{NotCutShort}
use Rattle.tm_run.specs.Moments.{BesideShut, EndsOnSides, IsAttached, IsFinding, IsHeld, IsMoment, KeepsDisks, KeepsUnformatted, OnSides, RanOnSides, RanOver, Stage, going_on, opens, runs_on, untouched}
use Rattle.tm_run.specs.declared.status.Status.{Status}
use Rattle.tm_run.proofs.DoneLemmas.{framed_same}
use Rattle.tm_run.specs.Places.{ElsewhereSame, KeepsImage, LeavesAt}
use Rattle.tm_run.proofs.FindingLemmas.{disk_is, finding_now, keeps_same, keeps_then}

abbrev pub StopsPair : (Image → Image → Type 0) → Outside → Type 0
StopsPair P now = (v z : Image) → IsLeft (disk VolumeSide now) v → IsLeft (disk StoreSide now) z → P v z

-- a side that is attached at a path is what stands there
pub at_paths : (p q : List ℕ) (P : Image → Image → Type 0) (o : Outside) → place VolumeSide o ≡ Some p → place StoreSide o ≡ Some q → StopsPair P o → LeavesAt p q P o
at_paths p q P o volume store left v z v_left z_left =
    left v z (subst (λ (d : Disk). IsLeft d v) (sym (disk_is VolumeSide o p volume)) v_left.left) (subst (λ (d : Disk). IsLeft d z) (sym (disk_is StoreSide o q store)) z_left.left)

pub elsewhere_then : (p q : List ℕ) (start here now : Outside) (volume : place VolumeSide here ≡ Some p) (store : place StoreSide here ≡ Some q)
    → ElsewhereSame p q start here → IsFramed here now → ElsewhereSame p q start now
elsewhere_then p q start here now volume store first framed at v z =
    framed.elsewhere at (subst (λ (x : Place). is_place x at ≡ false) (sym volume) v) (subst (λ (x : Place). is_place x at ≡ false) (sym store) z) ∙ first at v z

-- a side whose disk is the same is kept
pub keeps_disk : (path : List ℕ) (create : Option ℕ) (side : Side) (start here now : Outside) → place side here ≡ Some path → place side now ≡ place side here → KeepsImage path create start here
    → disk side now ≡ disk side here → KeepsImage path create start now
keeps_disk path create side start here now at framed found same =
    keeps_then path create start here now found
    (keeps_same path create here now (sym (disk_is side now path (framed ∙ at)) ∙ same ∙ disk_is side here path at))

-- ---- opening a side that is unformatted

pub opening_no_volume : (v : Option StoredVolume) (z : Option StoredStore) → v ≡ None → HaveNoVolume (opening_of v z)
opening_no_volume None z e = All-nil (λ x. x.volume ≡ None)
opening_no_volume (Some v) z e = absurd (none-some v (sym e))

no_store_by : (b : Bool) (r : Stored) → r.store ≡ None → HaveNoStore (if b then [] else r ∷ [])
no_store_by true r e = All-nil (λ x. x.store ≡ None)
no_store_by false r e = All-cons (λ x. x.store ≡ None) r [] e (All-nil (λ x. x.store ≡ None))

pub opening_no_store : (v : Option StoredVolume) (z : Option StoredStore) → z ≡ None → HaveNoStore (opening_of v z)
opening_no_store None z e = All-nil (λ x. x.store ≡ None)
opening_no_store (Some v) z e = no_store_by v.clean (record { volume = Some (reopened v); store = z }) e

module _ (opening_ends : LastOfOpening) (vb zb : ℕ) (lines : List Line) (h : History) (is : IsHistory vb zb lines h) where
  abbrev s0 : State
  s0 = opened vb zb h.first

  abbrev rest : List Stored
  rest = commits_in h.done ++ h.closing

  opened_is : last_from h.first h.opening ≡ kept s0
  opened_is = ap (last_from h.first) is.opens ∙ opening_ends vb zb h.first

  -- ---- how far the run came

  opening_within : (made : ℕ) → made ≤ length h.opening → IsWithin h 0 made
  opening_within made few = record {
    short = omega arith;
    few = omega (arith, few, length-append h.opening rest);
    acknowledged = λ i less. absurd (omega (arith, less));
    not_beyond = λ i more. omega (arith, few);
  }

  opening_held : (made : ℕ) → made ≤ length h.opening → held h made ≡ last_from h.first (take made h.opening)
  opening_held made few = ap (last_from h.first) (take-append-le made h.opening rest few)

  lines_within : (spoken made : ℕ) → spoken ≤ length (said_in h.done) → made ≤ length (commits_in h.done)
      → ((i : ℕ) → length (said_in (take i h.done)) < spoken → length (commits_in (take (suc i) h.done)) ≤ made)
      → ((i : ℕ) → spoken < length (said_in (take i h.done)) → made ≤ length (commits_in (take i h.done))) → IsWithin h spoken (length h.opening + made)
  lines_within spoken made short few acknowledged beyond = record {
    short = short;
    few = omega (arith, few, length-append h.opening rest, length-append (commits_in h.done) h.closing);
    acknowledged = λ i less. omega (arith, acknowledged i less);
    not_beyond = λ i more. omega (arith, beyond i more);
  }

  lines_held : (made : ℕ) → made ≤ length (commits_in h.done) → held h (length h.opening + made) ≡ last_from (kept s0) (take made (commits_in h.done))
  lines_held made few =
      ap (last_from h.first) (take-append-add h.opening rest made ∙ ap (λ (xs : List Stored). h.opening ++ xs) (take-append-le made (commits_in h.done) h.closing few))
      ∙ last_from-append h.first h.opening (take made (commits_in h.done))
      ∙ ap (λ (x : Stored). last_from x (take made (commits_in h.done))) opened_is

  -- ---- its moments

  module _ (p q : List ℕ) (create : Option ℕ) (start here now : Outside) (at : IsAttached p q create start here) (framed : IsFramed here now) where
    unformatted : (spoken : ℕ) → ((i : ℕ) → IsBegunBy i h.done spoken → HaveNoVolume (commits_in (take i h.done)) → h.first.volume ≡ None → disk VolumeSide now ≡ disk VolumeSide here)
        → ((i : ℕ) → IsBegunBy i h.done spoken → HaveNoStore (commits_in (take i h.done)) → h.first.store ≡ None → disk StoreSide now ≡ disk StoreSide here) → KeepsUnformatted h p q create start now spoken
    unformatted spoken volume store = record {
      volume = λ none i begun few. keeps_disk p create VolumeSide start here now at.volume (framed.places VolumeSide) at.found.untouched.volume (volume i begun few none);
      store = λ none i begun few. keeps_disk q create StoreSide start here now at.store (framed.places StoreSide) at.found.untouched.store (store i begun few none);
    }

    moment : (spoken : ℕ) → now.said ≡ start.said ++ take spoken (said_in h.done) → KeepsUnformatted h p q create start now spoken → StopsPair (IsHeld h spoken) now → IsMoment h p q create start now
    moment spoken said blank left = record {
      elsewhere = elsewhere_then p q start here now at.volume at.store at.found.elsewhere framed;
      stage = going_on (record {
        spoken = spoken;
        said = said;
        unformatted = blank;
        left = at_paths p q (IsHeld h spoken) now (framed.places VolumeSide ∙ at.volume) (framed.places StoreSide ∙ at.store) left;
      });
    }

  module _ (p q : List ℕ) (create : Option ℕ) (start here now : Outside) (at : IsAttached p q create start here) where
    opening_moment : LeavesCommits h.first h.opening here now → IsMoment h p q create start now
    opening_moment leaves = moment p q create start here now at leaves.framed 0 (leaves.said ∙ at.found.untouched.said ∙ sym (append-nil start.said))
        (unformatted p q create start here now at leaves.framed 0
        (λ i begun few none. leaves.blank.volume none (subst HaveNoVolume (sym is.opens) (opening_no_volume h.first.volume h.first.store none)))
        (λ i begun few none. leaves.blank.store none (subst HaveNoStore (sym is.opens) (opening_no_store h.first.volume h.first.store none))))
        (λ v z v_left z_left.
        let among = leaves.among v z v_left z_left in
        record { made = among.made; within = opening_within among.made among.few; reads = subst (λ (x : Stored). PairReads x v z) (sym (opening_held among.made among.few)) among.reads })

    lines_moment : LeavesDone (kept s0) h.done here now → IsMoment h p q create start now
    lines_moment leaves = moment p q create start here now at leaves.framed leaves.spoken
        (leaves.said ∙ ap (λ (xs : List ℕ). xs ++ take leaves.spoken (said_in h.done)) at.found.untouched.said)
        (unformatted p q create start here now at leaves.framed leaves.spoken
        (λ i begun few none. (leaves.blank i begun).volume (ap (option_map reopened) none) few)
        (λ i begun few none. (leaves.blank i begun).store none few))
        (λ v z v_left z_left.
        let prefix = leaves.left v z v_left z_left in
        record {
          made = length h.opening + prefix.made;
          within = lines_within leaves.spoken prefix.made leaves.short prefix.few prefix.acknowledged prefix.not_beyond;
          reads = subst (λ (x : Stored). PairReads x v z) (sym (lines_held prefix.made prefix.few)) prefix.reads;
        })

    pub side_moment : OnSides vb zb h here now → IsMoment h p q create start now
    side_moment (opens leaves) = opening_moment leaves
    side_moment (runs_on leaves) = lines_moment leaves

  -- ---- its end

  module _ (ends : EffectsEnd) where
    lines_end : (s : State) (ls : List Line) (done : List Effect) → AreDone s ls done → last_from (kept s) (commits_in done) ≡ kept (state_in s done)
    lines_end s [] [] may = refl
    lines_end s [] (o ∷ done) may = absurd may
    lines_end s (l ∷ ls) [] may = absurd may
    lines_end s (l ∷ ls) (o ∷ done) may =
        last_from-append (kept s) (commits_by o) (commits_in done) ∙ ap (λ (x : Stored). last_from x (commits_in done)) (ends s l o may.0) ∙ lines_end (after_of o) ls done may.1

    -- what the images hold after all commits is what is kept of the last state
    pub history_ends : last_from h.first (history_commits h) ≡ kept (state_in s0 h.done)
    history_ends =
        ap (λ (xs : List Stored). last_from h.first (h.opening ++ (commits_in h.done ++ xs))) is.closes
        ∙ ap (λ (xs : List Stored). last_from h.first (h.opening ++ xs)) (append-nil (commits_in h.done))
        ∙ last_from-append h.first h.opening (commits_in h.done)
        ∙ ap (λ (x : Stored). last_from x (commits_in h.done)) opened_is
        ∙ lines_end s0 lines h.done is.does

-- ---- the run at the paths, after the pair was attached there

module _ (p q : List ℕ) (create : Option ℕ) (old mid new : Log) (finding : Passes old mid (IsFinding p q create (now old))) (at : IsAttached p q create (now old) (now mid)) where
  side_framed : (vb zb : ℕ) (h : History) (o : Outside) → OnSides vb zb h (now mid) o → IsFramed (now mid) o
  side_framed vb zb h o (opens leaves) = leaves.framed
  side_framed vb zb h o (runs_on leaves) = leaves.framed

  pub ran_over : LastOfOpening → (lines : List Line) (vb zb : ℕ) (r : Stored) (ended : Status) → RanOnSides lines vb zb r mid new (EndsOnSides ended (now mid) (now new))
      → RanOver lines p q create vb zb r old new ended
  ran_over opening_ends lines vb zb r ended ran =
      let h = ran.history in
      let end_framed : IsFramed (now mid) (now new) = Passes-now mid new (IsFramed (now mid)) (Passes-weaker mid new _ (IsFramed (now mid)) (side_framed vb zb h) ran.moments) (framed_same (now mid)) in
      record {
        history = h;
        first = ran.first;
        is = ran.is;
        moments = Passes-then old mid new (IsMoment h p q create (now old))
            (Passes-weaker old mid _ (IsMoment h p q create (now old)) (λ o fine. record { elsewhere = fine.elsewhere; stage = untouched fine.untouched }) finding)
            (Passes-weaker mid new _ (IsMoment h p q create (now old)) (λ o on. side_moment opening_ends vb zb lines h ran.is p q create (now old) (now mid) o at on) ran.moments);
        whole = λ whole.
            let end = ran.ends whole in
            record {
              is = end.0;
              said = end.1.all ∙ ap (λ (xs : List ℕ). xs ++ said_in h.done) at.found.untouched.said;
              left = at_paths p q (PairReads (last_from h.first (history_commits h))) (now new) (end_framed.places VolumeSide ∙ at.volume) (end_framed.places StoreSide ∙ at.store) end.2;
            };
      }

  pub ran_elsewhere : Passes mid new (IsFramed (now mid)) → Passes old new (ElsewhereSame p q (now old))
  ran_elsewhere framed =
      Passes-then old mid new (ElsewhereSame p q (now old))
      (Passes-weaker old mid _ (ElsewhereSame p q (now old)) (λ o fine. fine.elsewhere) finding)
      (Passes-weaker mid new _ (ElsewhereSame p q (now old)) (λ o f. elsewhere_then p q (now old) (now mid) o at.volume at.store at.found.elsewhere f) framed)

  both_found : (o : Outside) → IsFinding p q create (now old) o → KeepsBoth p q create (now old) o
  both_found o fine = record { volume = fine.untouched.volume; store = fine.untouched.store }

  pub ran_shut : Passes mid new (IsFramed (now mid)) → Passes mid new (KeepsDisks (now mid)) → Passes old new (KeepsBoth p q create (now old))
  ran_shut framed same =
      Passes-then old mid new (KeepsBoth p q create (now old)) (Passes-weaker old mid _ (KeepsBoth p q create (now old)) both_found finding)
      (record {
        later = same.later;
        kept = same.kept;
        each = λ i lt le.
            let places = (framed.each i lt le).places in
            let here = same.each i lt le in
            record {
              volume = keeps_disk p create VolumeSide (now old) (now mid) (new.past i) at.volume (places VolumeSide) at.found.untouched.volume here.volume;
              store = keeps_disk q create StoreSide (now old) (now mid) (new.past i) at.store (places StoreSide) at.found.untouched.store here.store;
            };
      })

  begins_by : (r : Option StoredVolume) (o : Outside) → place VolumeSide o ≡ place VolumeSide (now mid) → BesideShut r (now mid) o → BeginsAtMost r p create (now old) o
  begins_by None o framed shut = as_found (keeps_disk p create VolumeSide (now old) (now mid) o at.volume framed at.found.untouched.volume (shut.unformatted refl))
  begins_by (Some s) o framed shut =
      begins s refl (λ image leaves. shut.begun image (subst (λ (d : Disk). IsLeft d image) (sym (disk_is VolumeSide o p (framed ∙ at.volume))) leaves.left))

  pub ran_beside : (r : Option StoredVolume) → Passes mid new (IsFramed (now mid)) → Passes mid new (BesideShut r (now mid)) → Passes old new (KeepsStore r p q create (now old))
  ran_beside r framed shut =
      Passes-then old mid new (KeepsStore r p q create (now old))
      (Passes-weaker old mid _ (KeepsStore r p q create (now old)) (λ o fine. record { volume = as_found fine.untouched.volume; store = fine.untouched.store }) finding)
      (record {
        later = shut.later;
        kept = shut.kept;
        each = λ i lt le.
            let places = (framed.each i lt le).places in
            let here = shut.each i lt le in
            record {
              volume = begins_by r (new.past i) (places VolumeSide) here;
              store = keeps_disk q create StoreSide (now old) (now mid) (new.past i) at.store (places StoreSide) at.found.untouched.store here.store;
            };
      })

-- ---- a run that came no further than finding the pair

module _ (p q : List ℕ) (create : Option ℕ) (old new : Log) (finding : Passes old new (IsFinding p q create (now old))) where
  pub ran_none : PlainIsHistory → (lines : List Line) (vb zb : ℕ) (r : Stored) (ended : Status) → ¬ NotCutShort ended → RanOver lines p q create vb zb r old new ended
  ran_none plain lines vb zb r ended cut =
      let h = plain_history vb zb lines r in
      record {
        history = h;
        first = refl;
        is = plain vb zb lines r;
        moments = Passes-weaker old new _ (IsMoment h p q create (now old)) (λ o fine. record { elsewhere = fine.elsewhere; stage = untouched fine.untouched }) finding;
        whole = λ whole. absurd (cut whole);
      }

  pub none_elsewhere : Passes old new (ElsewhereSame p q (now old))
  none_elsewhere = Passes-weaker old new _ (ElsewhereSame p q (now old)) (λ o fine. fine.elsewhere) finding

  pub none_shut : Passes old new (KeepsBoth p q create (now old))
  none_shut = Passes-weaker old new _ (KeepsBoth p q create (now old)) (λ o fine. record { volume = fine.untouched.volume; store = fine.untouched.store }) finding

  pub none_beside : (r : Option StoredVolume) → Passes old new (KeepsStore r p q create (now old))
  none_beside r = Passes-weaker old new _ (KeepsStore r p q create (now old)) (λ o fine. record { volume = as_found fine.untouched.volume; store = fine.untouched.store }) finding

-- ---- a run after something that wrote no image

module _ (p q : List ℕ) (create : Option ℕ) (start mid : Outside) (first : IsFinding p q create start mid) where
  stage_after : (h : History) (o : Outside) → Stage h p q create mid o → Stage h p q create start o
  stage_after h o (untouched u) = untouched (record {
    volume = keeps_then p create start mid o first.untouched.volume u.volume;
    store = keeps_then q create start mid o first.untouched.store u.store;
    said = u.said ∙ first.untouched.said;
  })
  stage_after h o (going_on w) = going_on (record {
    spoken = w.spoken;
    said = w.said ∙ ap (λ (xs : List ℕ). xs ++ take w.spoken (said_in h.done)) first.untouched.said;
    unformatted = record {
      volume = λ none i begun few. keeps_then p create start mid o first.untouched.volume (w.unformatted.volume none i begun few);
      store = λ none i begun few. keeps_then q create start mid o first.untouched.store (w.unformatted.store none i begun few);
    };
    left = w.left;
  })

  pub moment_after : (h : History) (o : Outside) → IsMoment h p q create mid o → IsMoment h p q create start o
  moment_after h o moment = record { elsewhere = λ at v z. moment.elsewhere at v z ∙ first.elsewhere at v z; stage = stage_after h o moment.stage }

  pub both_after : (o : Outside) → KeepsBoth p q create mid o → KeepsBoth p q create start o
  both_after o both = record {
    volume = keeps_then p create start mid o first.untouched.volume both.volume;
    store = keeps_then q create start mid o first.untouched.store both.store;
  }

  begins_after : (r : Option StoredVolume) (o : Outside) → BeginsAtMost r p create mid o → BeginsAtMost r p create start o
  begins_after r o (as_found keeps) = as_found (keeps_then p create start mid o first.untouched.volume keeps)
  begins_after r o (begins s is leaves) = begins s is leaves

  pub beside_after : (r : Option StoredVolume) (o : Outside) → KeepsStore r p q create mid o → KeepsStore r p q create start o
  beside_after r o beside = record { volume = begins_after r o beside.volume; store = keeps_then q create start mid o first.untouched.store beside.store }

module _ (p q : List ℕ) (create : Option ℕ) (old mid new : Log) (finding : Passes old mid (IsFinding p q create (now old))) where
  here : IsFinding p q create (now old) (now mid)
  here = finding_now p q create old mid finding

  pub ran_after : (lines : List Line) (vb zb : ℕ) (r : Stored) (ended : Status) → RanOver lines p q create vb zb r mid new ended → RanOver lines p q create vb zb r old new ended
  ran_after lines vb zb r ended ran =
      let h = ran.history in
      record {
        history = h;
        first = ran.first;
        is = ran.is;
        moments = Passes-then old mid new (IsMoment h p q create (now old))
            (Passes-weaker old mid _ (IsMoment h p q create (now old)) (λ o fine. record { elsewhere = fine.elsewhere; stage = untouched fine.untouched }) finding)
            (Passes-weaker mid new _ (IsMoment h p q create (now old)) (moment_after p q create (now old) (now mid) here h) ran.moments);
        whole = λ whole.
            let end = ran.whole whole in
            record { is = end.is; said = end.said ∙ ap (λ (xs : List ℕ). xs ++ said_in h.done) here.untouched.said; left = end.left };
      }

  pub elsewhere_after : Passes mid new (ElsewhereSame p q (now mid)) → Passes old new (ElsewhereSame p q (now old))
  elsewhere_after later =
      Passes-then old mid new (ElsewhereSame p q (now old)) (none_elsewhere p q create old mid finding)
      (Passes-weaker mid new _ (ElsewhereSame p q (now old)) (λ o same at v z. same at v z ∙ here.elsewhere at v z) later)

  pub shut_after : Passes mid new (KeepsBoth p q create (now mid)) → Passes old new (KeepsBoth p q create (now old))
  shut_after later =
      Passes-then old mid new (KeepsBoth p q create (now old)) (none_shut p q create old mid finding)
      (Passes-weaker mid new _ (KeepsBoth p q create (now old)) (both_after p q create (now old) (now mid) here) later)

  pub besides_after : (r : Option StoredVolume) → Passes mid new (KeepsStore r p q create (now mid)) → Passes old new (KeepsStore r p q create (now old))
  besides_after r later =
      Passes-then old mid new (KeepsStore r p q create (now old)) (none_beside p q create old mid finding r)
      (Passes-weaker mid new _ (KeepsStore r p q create (now old)) (beside_after p q create (now old) (now mid) here r) later)
