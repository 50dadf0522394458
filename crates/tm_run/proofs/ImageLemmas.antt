-- Lines over a pair of images.
use Rattle.std.proofs.Common.{◌≡◌, ◌≤◌, ◌⊎◌, inl, inr, ℕ, List, [], ◌++◌, take, Option, Some, None, arith, refl, sym, ap, ◌∙◌, subst}
use Rattle.tm_base.specs.declared.refused.Side.{Side as RefusedSide}
use Rattle.tm_base.specs.declared.refused.Side.TheVariants.{Volume as OfVolume, Store as OfStore}
use Rattle.tm_base.specs.Limits.{max_blocks}
use Rattle.tm_machine.specs.Runs.{any_refused, said_of}
use Rattle.tm_machine.specs.States.{State, Stored, kept, opened}
use Rattle.tm_machine.specs.Stops.{CanOpen, CanOpenStore, IsBadSide, IsFramed, IsOpening, KeepsBlank, LeavesBegun, LeavesCommits, LeavesPair, PairReads, ReadsNow}
use Rattle.tm_text.specs.declared.line.Line.{Line}
use Rattle.tm_store_records.specs.States.{StoreFails}
use Rattle.tm_volume.specs.Answers.{FailsVolume}
use Rattle.tm_world.specs.Disk.{Image}
use Rattle.tm_world.specs.Outside.{Outside, disk}
use Rattle.tm_world.specs.Torn.{as_read}
use Rattle.tm_world.specs.declared.cause.Cause.{Cause}
use Rattle.tm_world.specs.declared.world.Side.TheVariants.{Volume as VolumeSide, Store as StoreSide}
use Rattle.tm_run.specs.declared.status.Status.{Status}
use Rattle.tm_run.specs.declared.status.Status.TheVariants as status
use Rattle.tm_run.specs.Ends.{GaveRan, NotCutShort, SaysAll, SaysPrefix, Speaks}
use Rattle.tm_run.specs.Outcomes.{FitsPair, Ran, bad_volume, bad_store, replies, done_status, bad_image_line}
use Rattle.tm_run.specs.Pairs.{IsPair}
use Rattle.tm_volume.specs.Answers.{IsSpent}
use Rattle.tm_volume.specs.Reads.{SideReads}
use Rattle.tm_volume.specs.Stored.{StoredVolume, reopened}
use Rattle.std.specs.Option.{option_map}
use Rattle.tm_world.specs.Disk.{Disk, IsLeft}
use Rattle.tm_world.specs.Log.{Log, now, Passes, Steps}
use Rattle.tm_world.proofs.Going.{Passes-now, Passes-then, Passes-weaker}
use Rattle.tm_machine.specs.Commits.{LastOfOpening, opening}
use Rattle.tm_machine.specs.Fitting.{PairFits}
use Rattle.tm_machine.specs.Histories.{EffectsEnd, History, IsHistory, PlainMayBeDone, PlainWhereFits, commits_in, plain_of, said_in}
use Rattle.tm_machine.specs.Session.{Effect, IsSynced}
use Rattle.tm_machine.proofs.OpeningLemmas.{stable_image}
use Rattle.tm_run.specs.Done.{EndsDone, LeavesDone, SaidLines}
use Rattle.tm_run.specs.Ends.{IsCut}
use Rattle.tm_run.specs.Moments.{BesideShut, EndsOnSides, KeepsDisks, OnSides, RanOnSides, opens, runs_on}
use Rattle.tm_run.specs.Readings.{EndsAsOrCut}
use Rattle.tm_run.proofs.DoneLemmas.{commits_now, framed_same, framed_then, speaks_framed}
use Rattle.tm_run.proofs.PathLemmas.{history_ends, opening_no_store, opening_no_volume}
use Rattle.tm_run.proofs.OutcomeLemmas.{SideLaws, opens_whole, one_ran, reads_whole}
use Rattle.tm_run.proofs.SayLemmas.{all_after, prefix_after, said_nothing}

-- what the pair is read as is read now
pub reads_now : (v z : Image) (r : Stored) (now : Outside) → IsPair v z now → PairReads r v z → ReadsNow r now
reads_now v z r now pair reads =
    subst (λ (u : Image). PairReads r u (as_read (disk StoreSide now))) (sym pair.volume_is) (subst (λ (u : Image). PairReads r v u) (sym pair.store_is) reads)

-- what is read at each side
pub of_volume : (P : Image → Type 0) (v z : Image) (now : Outside) → IsPair v z now → P (as_read (disk VolumeSide now)) → P v
of_volume P v z now pair h = subst P pair.volume_is h

pub of_store : (P : Image → Type 0) (v z : Image) (now : Outside) → IsPair v z now → P (as_read (disk StoreSide now)) → P z
of_store P v z now pair h = subst P pair.store_is h

-- a pair of so many blocks
pub record Counts (v z : Image) (n k : ℕ) : Type 0 where
  pub volume_count : v.count ≡ n
  pub store_count : z.count ≡ k
  pub volume_few : v.count ≤ max_blocks
  pub store_few : z.count ≤ max_blocks

pub counts_of : (v z : Image) (now : Outside) (n k : ℕ) → IsPair v z now → (disk VolumeSide now).count ≡ n → n ≤ max_blocks → (disk StoreSide now).count ≡ k → k ≤ max_blocks → Counts v z n k
counts_of v z now n k pair counts small store_counts store_small =
    let many : v.count ≡ n = sym (ap (λ (u : Image). u.count) pair.volume_is) ∙ counts in
    let more : z.count ≡ k = sym (ap (λ (u : Image). u.count) pair.store_is) ∙ store_counts in
    record { volume_count = many; store_count = more; volume_few = omega (arith, many, small); store_few = omega (arith, more, store_small) }

-- the state of an opened session
pub opened_state : (v z : Image) (r : Stored) (n k : ℕ) (s : State) → Counts v z n k → s ≡ opened n k r → s ≡ opened v.count z.count r
opened_state v z r n k s counts same = same ∙ ap (λ (j : ℕ). opened j k r) (sym counts.volume_count) ∙ ap (λ (j : ℕ). opened v.count j r) (sym counts.store_count)

-- ---- the pair is opened

-- what it is opened as
abbrev pub OpensAs : Image → Image → State → Type 0
OpensAs v z s = (r : Stored) → PairReads r v z → s ≡ opened v.count z.count r

reads_of : (v z : Image) (can : CanOpen v) (also : CanOpenStore z) → PairReads (record { volume = can.volume; store = also.store }) v z
reads_of v z can also = record { volume_reads = can.reads; store_reads = also.reads }

pub gave_replies : (v z : Image) (lines : List Line) (old mid new : Outside) (s : State) (ended : Status) → CanOpen v → CanOpenStore z
    → OpensAs v z s → mid.said ≡ old.said → ended ≡ done_status (any_refused s lines) → SaysAll (said_of s lines) mid new → GaveRan v z lines old new ended
gave_replies v z lines old mid new s ended can also is same end says =
    let r : Stored = record { volume = can.volume; store = also.store } in
    let reads : PairReads r v z = reads_of v z can also in
    let state : s ≡ opened v.count z.count r = is r reads in
    record {
      text = said_of (opened v.count z.count r) lines;
      ran = subst (λ (e : Status). Ran v z lines e (said_of (opened v.count z.count r) lines)) (sym (end ∙ ap (λ (t : State). done_status (any_refused t lines)) state)) (replies reads can.unspent);
      said = all_after (said_of (opened v.count z.count r) lines) old mid new same (subst (λ (t : State). SaysAll (said_of t lines) mid new) state says);
    }

pub prefix_replies : SideLaws → (v z : Image) (n k : ℕ) (lines : List Line) (old mid new : Outside) (s : State) → Counts v z n k → CanOpen v → CanOpenStore z
    → OpensAs v z s → mid.said ≡ old.said → SaysPrefix (said_of s lines) mid new
    → (ended : Status) (text : List ℕ) → Ran v z lines ended text → SaysPrefix text old new
prefix_replies laws v z n k lines old mid new s counts can also is same says ended text (bad_volume {c} {place} many f) = absurd (opens_whole laws v c place many counts.volume_few can f)
prefix_replies laws v z n k lines old mid new s counts can also is same says ended text (bad_store {c} {place} first many f) = absurd (laws.store_whole z also.store c place many counts.store_few also.reads f)
prefix_replies laws v z n k lines old mid new s counts can also is same says ended text (replies {r} reads unspent) =
    prefix_after text old mid new same (subst (λ (t : State). SaysPrefix (said_of t lines) mid new) (is r reads) says)

-- ---- an image is bad

-- that side fails this check
abbrev pub IsBad : Image → Image → RefusedSide → Cause → ℕ → Type 0
IsBad v z OfVolume c place = (3 ≤ v.count) × FailsVolume v c place
IsBad v z OfStore c place = (3 ≤ z.count) × CanOpen v × StoreFails z c place

pub is_bad : (v z : Image) (now : Outside) (n k : ℕ) (told : Type 0) (side : RefusedSide) (c : Cause) (place : ℕ) → IsPair v z now → Counts v z n k → IsBadSide side c place n k told now → told → IsBad v z side c place
is_bad v z now n k told OfVolume c place pair counts bad t =
    (subst (λ (j : ℕ). 3 ≤ j) (sym counts.volume_count) bad.0, of_volume (λ (u : Image). FailsVolume u c place) v z now pair (bad.1 t))
is_bad v z now n k told OfStore c place pair counts bad t = (
  subst (λ (j : ℕ). 3 ≤ j) (sym counts.store_count) bad.0,
  of_volume CanOpen v z now pair (bad.1 t).0,
  of_store (λ (u : Image). StoreFails u c place) v z now pair (bad.1 t).1,
)

ran_bad : (v z : Image) (lines : List Line) (side : RefusedSide) (c : Cause) (place : ℕ) → IsBad v z side c place → Ran v z lines (status.BadImage side c place) (bad_image_line side c place)
ran_bad v z lines OfVolume c place bad = bad_volume bad.0 bad.1
ran_bad v z lines OfStore c place bad = bad_store bad.1 bad.0 bad.2

pub gave_bad : (v z : Image) (lines : List Line) (old mid new : Outside) (side : RefusedSide) (c : Cause) (place : ℕ) (ended : Status) → IsBad v z side c place
    → mid.said ≡ old.said → ended ≡ status.BadImage side c place → SaysAll (bad_image_line side c place) mid new → GaveRan v z lines old new ended
gave_bad v z lines old mid new side c place ended bad same end says = record {
  text = bad_image_line side c place;
  ran = subst (λ (e : Status). Ran v z lines e (bad_image_line side c place)) (sym end) (ran_bad v z lines side c place bad);
  said = all_after (bad_image_line side c place) old mid new same says;
}

pub prefix_bad : SideLaws → (v z : Image) (n k : ℕ) (lines : List Line) (old mid new : Outside) (side : RefusedSide) (c : Cause) (place : ℕ) → Counts v z n k → IsBad v z side c place
    → mid.said ≡ old.said → SaysPrefix (bad_image_line side c place) mid new
    → (ended : Status) (text : List ℕ) → Ran v z lines ended text → SaysPrefix text old new
prefix_bad laws v z n k lines old mid new side c place counts bad same says ended text ran =
    let one = (one_ran laws v z lines (status.BadImage side c place) ended (bad_image_line side c place) text counts.volume_few counts.store_few (ran_bad v z lines side c place bad) ran).1 in
    prefix_after text old mid new same (subst (λ (t : List ℕ). SaysPrefix t mid new) one says)

-- the run of a pair that was attached before
pub gave_later : (v z : Image) (lines : List Line) (old mid new : Outside) (ended : Status) → mid.said ≡ old.said → GaveRan v z lines mid new ended → GaveRan v z lines old new ended
gave_later v z lines old mid new ended same gave = record { text = gave.text; ran = gave.ran; said = all_after gave.text old mid new same gave.said }

-- ---- the run of a pair that is attached, from its parts

-- a volume that is none when it is opened was none before
unopened : (v : Option StoredVolume) → option_map reopened v ≡ None → v ≡ None
unopened None e = refl
unopened (Some v) e = cc

module _ (laws : EffectsEnd) (opening_ends : LastOfOpening) (r : Stored) (n k : ℕ) where
  abbrev s0 : State
  s0 = opened n k r

  -- a side that is unformatted is no other after it was opened
  opening_blank : (old mid now : Outside) (made : List Stored) → KeepsBlank r (opening r) old mid → KeepsBlank (kept s0) made mid now → KeepsBlank (kept s0) made old now
  opening_blank old mid now made first later = record {
    volume = λ none few.
        let was : r.volume ≡ None = unopened r.volume none in
        later.volume none few ∙ first.volume was (opening_no_volume r.volume r.store was);
    store = λ none few. later.store none few ∙ first.store none (opening_no_store r.volume r.store none);
  }

  rebased : (old mid now : Outside) (done : List Effect) → mid.said ≡ old.said → IsFramed old mid × KeepsBlank r (opening r) old mid → LeavesDone (kept s0) done mid now → LeavesDone (kept s0) done old now
  rebased old mid now done silent here leaves = record {
    framed = framed_then old mid now here.0 leaves.framed;
    spoken = leaves.spoken;
    short = leaves.short;
    said = leaves.said ∙ ap (λ (xs : List ℕ). xs ++ take leaves.spoken (said_in done)) silent;
    blank = λ i begun. opening_blank old mid now (commits_in (take i done)) here.1 (leaves.blank i begun);
    left = leaves.left;
  }

  module _ (lines : List Line) (old mid new : Log) (loading : Passes old mid (LeavesCommits r (opening r) (now old))) (silent : (now mid).said ≡ (now old).said) where
    abbrev history_of : List Effect → History
    history_of done = record { first = r; opening = opening r; done = done; closing = [] }

    -- it was opened, and then lines were done
    pub ran_on : (s : State) (ended : Status) → s ≡ s0 → SaidLines s lines mid new (λ done. EndsDone ended s done (now mid) (now new))
        → RanOnSides lines n k r old new (EndsOnSides ended (now old) (now new))
    ran_on s ended is does =
        let did : SaidLines s0 lines mid new (λ done. EndsDone ended s0 done (now mid) (now new)) =
        subst (λ (t : State). SaidLines t lines mid new (λ done. EndsDone ended t done (now mid) (now new))) is does in
        let h = history_of did.done in
        let history : IsHistory n k lines h = record { opens = refl; does = did.may; closes = refl } in
        let here = commits_now r (opening r) old mid loading in
        record {
          history = h;
          first = refl;
          is = history;
          moments = Passes-then old mid new (OnSides n k h (now old))
              (Passes-weaker old mid _ (OnSides n k h (now old)) (λ o leaves. opens leaves) loading)
              (Passes-weaker mid new _ (OnSides n k h (now old)) (λ o leaves. runs_on (rebased (now old) (now mid) o did.done silent here leaves)) did.moments);
          ends = λ whole.
              let end = did.answers whole in
              (end.0, all_after (said_in did.done) (now old) (now mid) (now new) silent end.1, subst (λ (x : Stored). LeavesPair x (now new)) (sym (history_ends opening_ends n k lines h history laws)) end.2);
        }

  -- it was cut short while it was opened
  pub ran_opening : PlainMayBeDone → (lines : List Line) (old new : Log) → Passes old new (LeavesCommits r (opening r) (now old)) → (Ends : History → Type 0) → ((h : History) → Ends h)
      → RanOnSides lines n k r old new Ends
  ran_opening plain lines old new loading Ends cut =
      let h : History = record { first = r; opening = opening r; done = plain_of s0 lines; closing = [] } in
      record {
        history = h;
        first = refl;
        is = record { opens = refl; does = plain s0 lines; closes = refl };
        moments = Passes-weaker old new _ (OnSides n k h (now old)) (λ o leaves. opens leaves) loading;
        ends = cut h;
      }

-- ---- over a pair that fits

module _ (plain : PlainWhereFits) (v z : Image) (lines : List Line) (s : State) (can : CanOpen v) (also : CanOpenStore z) (is : OpensAs v z s) (fits : FitsPair v z) where
  fits_opened : PairFits s
  fits_opened =
      let r : Stored = record { volume = can.volume; store = also.store } in
      subst PairFits (sym (is r (reads_of v z can also))) (fits r (reads_of v z can also) v.count z.count)

  pub plain_ends : (mid new : Log) (ended : Status) → SaidLines s lines mid new (λ done. EndsDone ended s done (now mid) (now new)) → NotCutShort ended
      → (ended ≡ done_status (any_refused s lines)) × SaysAll (said_of s lines) (now mid) (now new)
  plain_ends mid new ended does whole =
      let end = does.answers whole in
      let same = plain s lines does.done fits_opened does.may in
      (end.0 ∙ ap done_status same.refuses, subst (λ (text : List ℕ). SaysAll text (now mid) (now new)) same.says end.1)

  pub plain_prefix : (Answers : List Effect → Type 0) (mid new : Log) → SaidLines s lines mid new Answers → SaysPrefix (said_of s lines) (now mid) (now new)
  plain_prefix Answers mid new does =
      let same = plain s lines does.done fits_opened does.may in
      subst (λ (text : List ℕ). SaysPrefix text (now mid) (now new)) same.says
      (Passes-now mid new (SaysPrefix (said_in does.done) (now mid))
      (Passes-weaker mid new _ (SaysPrefix (said_in does.done) (now mid)) (λ o leaves. record { count = leaves.spoken; within = leaves.short; part = leaves.said }) does.moments)
      (said_nothing (said_in does.done) (now mid) (now mid) refl))

-- ---- an image that can't be opened

-- a pair that reads as something whose generations aren't spent isn't bad
pub not_bad : SideLaws → (v z : Image) (n k : ℕ) (side : RefusedSide) (c : Cause) (place : ℕ) (r : Stored) → Counts v z n k → IsBad v z side c place → PairReads r v z → ¬ IsSpent r.volume → ⊥
not_bad laws v z n k OfVolume c place r counts bad reads unspent = reads_whole laws v z r c place bad.0 counts.volume_few reads unspent bad.1
not_bad laws v z n k OfStore c place r counts bad reads unspent = laws.store_whole z r.store c place bad.0 counts.store_few reads.store_reads bad.2

pub opening_framed : (old new : Log) → Passes old new (IsOpening (now old)) → Passes old new (IsFramed (now old))
opening_framed old new passes = Passes-weaker old new _ (IsFramed (now old)) (λ o opening. opening.framed) passes

framed_now : (old new : Log) → Passes old new (IsFramed (now old)) → IsFramed (now old) (now new)
framed_now old new passes = Passes-now old new (IsFramed (now old)) passes (framed_same (now old))

-- and then something is said
pub framed_says : (old mid new : Log) (text : List ℕ) → Passes old mid (IsFramed (now old)) → Passes mid new (Speaks text (now mid)) → Passes old new (IsFramed (now old))
framed_says old mid new text first says =
    Passes-then old mid new (IsFramed (now old)) first
    (Passes-weaker mid new _ (IsFramed (now old)) (λ o speaks. framed_then (now old) (now mid) o (framed_now old mid first) (speaks_framed text (now mid) o speaks)) says)

-- or lines are done
pub framed_lines : (old mid new : Log) (first : Stored) (done : List Effect) → Passes old mid (IsFramed (now old)) → Passes mid new (LeavesDone first done (now mid)) → Passes old new (IsFramed (now old))
framed_lines old mid new first done before lines =
    Passes-then old mid new (IsFramed (now old)) before
    (Passes-weaker mid new _ (IsFramed (now old)) (λ o leaves. framed_then (now old) (now mid) o (framed_now old mid before) leaves.framed) lines)

disks_same : (o : Outside) → KeepsDisks o o
disks_same o = record { volume = refl; store = refl }

pub disks_read : (old new : Log) → Steps old new (now old) → Passes old new (KeepsDisks (now old))
disks_read old new steps = Passes-weaker old new _ (KeepsDisks (now old)) (λ o e. subst (KeepsDisks (now old)) (sym e) (disks_same (now old))) steps.passes

pub disks_says : (old mid new : Log) (text : List ℕ) → Steps old mid (now old) → Passes mid new (Speaks text (now mid)) → Passes old new (KeepsDisks (now old))
disks_says old mid new text steps says =
    let here : KeepsDisks (now old) (now mid) = Passes-now old mid (KeepsDisks (now old)) (disks_read old mid steps) (disks_same (now old)) in
    Passes-then old mid new (KeepsDisks (now old)) (disks_read old mid steps)
    (Passes-weaker mid new _ (KeepsDisks (now old))
    (λ o speaks. record { volume = speaks.pair.sides VolumeSide ∙ here.volume; store = speaks.pair.sides StoreSide ∙ here.store }) says)

module _ (r : Option StoredVolume) (old mid : Log) (synced : IsSynced (now old)) (reads : SideReads (as_read (disk VolumeSide (now old))) r)
    (alone : Passes old mid (IsOpening (now old))) (begun : Passes old mid (LeavesBegun r)) (blank : SideReads (as_read (disk VolumeSide (now old))) None → Steps old mid (now old)) where
  at_start : BesideShut r (now old) (now old)
  at_start = record {
    unformatted = λ none. refl;
    begun = λ image left. inl (subst (λ (x : Image). SideReads x r) (sym (stable_image (disk VolumeSide (now old)) image synced.volume_stable left)) reads);
    store = refl;
  }

  pub shut_opening : Passes old mid (BesideShut r (now old))
  shut_opening = record {
    later = alone.later;
    kept = alone.kept;
    each = λ i lt le. record {
      unformatted = λ none. ap (disk VolumeSide) ((blank (subst (SideReads (as_read (disk VolumeSide (now old)))) none reads)).passes.each i lt le);
      begun = begun.each i lt le;
      store = (alone.each i lt le).store_same;
    };
  }

  pub shut_says : (new : Log) (text : List ℕ) → Passes mid new (Speaks text (now mid)) → Passes old new (BesideShut r (now old))
  shut_says new text says =
      let here : BesideShut r (now old) (now mid) = Passes-now old mid (BesideShut r (now old)) shut_opening at_start in
      Passes-then old mid new (BesideShut r (now old)) shut_opening
      (Passes-weaker mid new _ (BesideShut r (now old))
      (λ o speaks. record {
        unformatted = λ none. speaks.pair.sides VolumeSide ∙ here.unformatted none;
        begun = λ image left. here.begun image (subst (λ (d : Disk). IsLeft d image) (speaks.pair.sides VolumeSide) left);
        store = speaks.pair.sides StoreSide ∙ here.store;
      }) says)

-- a status of the line on a bad image
pub cut_is_memory : {P : Type 0} (wanted ended : Status) → ¬ IsCut wanted → EndsAsOrCut wanted ended → (ended ≡ status.Memory → P) → IsCut ended → P
cut_is_memory wanted ended never (inl is) memory cut = absurd (never (subst IsCut is cut))
cut_is_memory wanted ended never (inr (inl is)) memory cut = memory is
cut_is_memory wanted ended never (inr (inr is)) memory cut = absurd (subst IsCut is cut)

pub cut_is_fault : {P : Type 0} (wanted ended : Status) → ¬ IsCut wanted → (ended ≡ wanted) ⊎ (ended ≡ status.OutFault) → IsCut ended → P
cut_is_fault wanted ended never (inl is) cut = absurd (never (subst IsCut is cut))
cut_is_fault wanted ended never (inr is) cut = absurd (subst IsCut is cut)
