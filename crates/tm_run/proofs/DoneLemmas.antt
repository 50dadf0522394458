-- How a moment of one line is a moment of this line and more.
use Rattle.std.proofs.Common.{◌≡◌, inl, inr, ℕ, zero, suc, ◌+◌, ◌<◌, ◌≤◌, ◌||◌, Bool, true, false, is_some, List, [], ◌∷◌, ◌++◌, length, take, Option, Some, None, Result, Err, IfOk, sym, ◌∙◌, ap, subst, arith, append_assoc, append-nil, refl, drop, drop-cons, get_or, add-one}
use Rattle.std.specs.List.{All}
use Rattle.std.proofs.lemmas.List.{length-append, take-append-le}
use Rattle.std.proofs.lemmas.List.Elements.{All-cons, All-head, All-nil, All-tail}
use Rattle.std.proofs.Math.Seq.{take-append_seam, take-append-add}
use Rattle.std.specs.Option.{option_map}
use Rattle.tm_base.specs.declared.refused.Refused.{Refused}
use Rattle.tm_reply.specs.Replies.{reply_text}
use Rattle.tm_volume.specs.Seen.{stored_on}
use Rattle.tm_volume.specs.Stored.{StoredVolume}
use Rattle.tm_store_records.specs.States.{StoredStore}
use Rattle.tm_store_records.specs.Held.{store_stored_on}
use Rattle.tm_text.specs.declared.line.Line.{Line}
use Rattle.tm_tree.specs.Refusing.{first_refused}
use Rattle.tm_world.specs.Disk.{Disk, IsLeft}
use Rattle.tm_world.specs.Log.{Log, now, Passes}
use Rattle.tm_world.specs.Outside.{Outside, Place, is_place}
use Rattle.tm_world.specs.declared.world.Side.{Side}
use Rattle.tm_world.specs.declared.world.Side.TheVariants.{Volume as VolumeSide, Store as StoreSide}
use Rattle.tm_world.proofs.Going.{Passes-none, Passes-now, Passes-then, Passes-weaker}
use Rattle.tm_machine.specs.Allowed.{MayDo, after_of, commits_by, reply_of}
use Rattle.tm_machine.specs.Commits.{last_from}
use Rattle.tm_machine.specs.Histories.{AreDone, EffectsEnd, IsBegunBy, PlainMayBeDone, any_refused_in, commits_in, plain_of, said_in, state_in}
use Rattle.tm_machine.specs.Session.{Effect, IsOpen, Seen, SessionLeaves, Standing, state_on}
use Rattle.tm_machine.specs.States.{State, Stored, kept}
use Rattle.tm_machine.specs.Steps.{answer}
use Rattle.tm_machine.specs.Stops.{IsFramed, KeepsBlank, LeavesCommits, LeavesPair, PairReads}
use Rattle.tm_run.specs.Done.{LeavesDone, LeavesEffect, SaidLines, replying, under_way}
use Rattle.tm_run.specs.Ends.{SaysAll, SaysPrefix, Speaks}
use Rattle.tm_run.specs.Pairs.{KeepsPair}
use Rattle.tm_machine.proofs.CommitLemmas.{last_from-append}
use Rattle.tm_run.proofs.SayLemmas.{prefix_after}

-- ---- the frame

pub framed_same : (o : Outside) → IsFramed o o
framed_same o = record { places = λ side. refl; elsewhere = λ at v z. refl }

pub framed_then : (old mid new : Outside) → IsFramed old mid → IsFramed mid new → IsFramed old new
framed_then old mid new first second = record {
  places = λ side. second.places side ∙ first.places side;
  elsewhere = λ at v z.
      second.elsewhere at (subst (λ (p : Place). is_place p at ≡ false) (sym (first.places VolumeSide)) v) (subst (λ (p : Place). is_place p at ≡ false) (sym (first.places StoreSide)) z)
      ∙ first.elsewhere at v z;
}

pub speaks_framed : (text : List ℕ) (old now : Outside) → Speaks text old now → IsFramed old now
speaks_framed text old now speaks = record { places = speaks.places; elsewhere = λ at v z. ap (λ (f : Place → Disk). f at) speaks.stands }

-- ---- a side that is unformatted

pub blank_same : (first : Stored) (made : List Stored) (o : Outside) → KeepsBlank first made o o
blank_same first made o = record { volume = λ none few. refl; store = λ none few. refl }

blank_beside : (first : Stored) (made : List Stored) (old mid o : Outside) → KeepsPair mid o → KeepsBlank first made old mid → KeepsBlank first made old o
blank_beside first made old mid o keeps blank = record {
  volume = λ none few. keeps.sides VolumeSide ∙ blank.volume none few;
  store = λ none few. keeps.sides StoreSide ∙ blank.store none few;
}

-- the last of commits that have no volume has none
none_last : (f : Stored → Option StoredVolume) (first : Stored) (made : List Stored) → f first ≡ None → All (λ x. f x ≡ None) made → f (last_from first made) ≡ None
none_last f first [] none few = none
none_last f first (x ∷ made) none few = none_last f x made (All-head (λ y. f y ≡ None) x made few) (All-tail (λ y. f y ≡ None) x made few)

none_last_store : (f : Stored → Option StoredStore) (first : Stored) (made : List Stored) → f first ≡ None → All (λ x. f x ≡ None) made → f (last_from first made) ≡ None
none_last_store f first [] none few = none
none_last_store f first (x ∷ made) none few = none_last_store f x made (All-head (λ y. f y ≡ None) x made few) (All-tail (λ y. f y ≡ None) x made few)

all_left : {A : Type 0} (P : A → Type 0) (a b : List A) → All P (a ++ b) → All P a
all_left P [] b h = All-nil P
all_left P (x ∷ a) b h = All-cons P x a (All-head P x (a ++ b) h) (all_left P a b (All-tail P x (a ++ b) h))

all_right : {A : Type 0} (P : A → Type 0) (a b : List A) → All P (a ++ b) → All P b
all_right P [] b h = h
all_right P (x ∷ a) b h = all_right P a b (All-tail P x (a ++ b) h)

-- of more commits, those that come first
blank_sooner : (first : Stored) (a b : List Stored) (old now : Outside) → KeepsBlank first a old now → KeepsBlank first (a ++ b) old now
blank_sooner first a b old now blank = record {
  volume = λ none few. blank.volume none (all_left (λ x. x.volume ≡ None) a b few);
  store = λ none few. blank.store none (all_left (λ x. x.store ≡ None) a b few);
}

-- and those that come later
blank_later : (first : Stored) (a b : List Stored) (old mid now : Outside) → KeepsBlank first a old mid → KeepsBlank (last_from first a) b mid now → KeepsBlank first (a ++ b) old now
blank_later first a b old mid now one more = record {
  volume = λ none few.
      let sooner = all_left (λ x. x.volume ≡ None) a b few in
      more.volume (none_last (λ x. x.volume) first a none sooner) (all_right (λ x. x.volume ≡ None) a b few) ∙ one.volume none sooner;
  store = λ none few.
      let sooner = all_left (λ x. x.store ≡ None) a b few in
      more.store (none_last_store (λ x. x.store) first a none sooner) (all_right (λ x. x.store ≡ None) a b few) ∙ one.store none sooner;
}

-- ---- a moment of a line

pub commits_now : (first : Stored) (later : List Stored) (old new : Log) → Passes old new (LeavesCommits first later (now old)) → IsFramed (now old) (now new) × KeepsBlank first later (now old) (now new)
commits_now first later old new passes = Passes-now old new (λ o. IsFramed (now old) o × KeepsBlank first later (now old) o)
    (Passes-weaker old new _ (λ o. IsFramed (now old) o × KeepsBlank first later (now old) o) (λ o h. (h.framed, h.blank)) passes) (framed_same (now old), blank_same first later (now old))

-- what the machine promises: the last commit is what is kept, and the plain machine may be followed
pub record EffectLaws : Type 0 where
  pub last : EffectsEnd
  pub plain : PlainMayBeDone

pub left_beside : (r : Stored) (mid o : Outside) → KeepsPair mid o → LeavesPair r mid → LeavesPair r o
left_beside r mid o keeps left v z v_left z_left =
    left v z (subst (λ (d : Disk). IsLeft d v) (keeps.sides VolumeSide) v_left) (subst (λ (d : Disk). IsLeft d z) (keeps.sides StoreSide) z_left)

-- the session after a line leaves what is kept of the state after it
pub left_after_effect : SessionLeaves → (m : Seen) (blocks : Side → ℕ) (mid : Outside) (d : Effect) → IsOpen m blocks → Standing m mid → state_on m mid ≡ after_of d → LeavesPair (kept (after_of d)) mid
left_after_effect leaves m blocks mid d is_open standing is = subst (λ (t : State). LeavesPair (kept t) mid) is (leaves m blocks mid is_open standing)

pub effect_done : (s : State) (d : Effect) (old new : Log) → Passes old new (LeavesCommits (kept s) (commits_by d) (now old)) → Passes old new (LeavesEffect s d (now old))
effect_done s d old new passes = Passes-weaker old new _ (LeavesEffect s d (now old)) (λ o leaves. under_way leaves) passes

pub effect_said : (s : State) (d : Effect) (old mid new : Log) (text : List ℕ) → Passes old mid (LeavesCommits (kept s) (commits_by d) (now old))
    → (now mid).said ≡ (now old).said → LeavesPair (kept (after_of d)) (now mid) → text ≡ reply_text (reply_of d) → Passes mid new (Speaks text (now mid)) → Passes old new (LeavesEffect s d (now old))
effect_said s d old mid new text first silent left is says =
    let here = commits_now (kept s) (commits_by d) old mid first in
    Passes-then old mid new (LeavesEffect s d (now old)) (effect_done s d old mid first)
    (Passes-weaker mid new _ (LeavesEffect s d (now old))
    (λ o speaks. replying
    (framed_then (now old) (now mid) o here.0 (speaks_framed text (now mid) o speaks))
    (subst (λ (t : List ℕ). SaysPrefix t (now old) o) is (prefix_after text (now old) (now mid) o silent speaks.said))
    (blank_beside (kept s) (commits_by d) (now old) (now mid) o speaks.pair here.1)
    (left_beside (kept (after_of d)) (now mid) o speaks.pair left))
    says)

module _ (laws : EffectLaws) where
  module _ (s : State) (l : Line) (d : Effect) (may : MayDo s l d) (done : List Effect) where
    abbrev text : List ℕ
    text = reply_text (reply_of d)

    abbrev k : ℕ
    k = length (commits_by d)

    abbrev all : List Effect
    all = d ∷ done

    first_made : (i : ℕ) → 0 < length (said_in (take i all)) → k ≤ length (commits_in (take i all))
    first_made zero h = absurd (omega (arith, h))
    first_made (suc i) h = omega (arith, length-append (commits_by d) (commits_in (take i done)))

    -- of a line whose reply is being said
    first_said : (i p : ℕ) → p ≤ length text → length (said_in (take i all)) < p → length (commits_in (take (suc i) all)) ≤ k
    first_said zero p le h = omega (arith, length-append (commits_by d) (commits_in (take zero done)))
    first_said (suc i) p le h = absurd (omega (arith, le, h, length-append text (said_in (take i done))))

    later_said : (m p : ℕ) (bound : (i : ℕ) → length (said_in (take i done)) < p → length (commits_in (take (suc i) done)) ≤ m)
        (i : ℕ) → length (said_in (take i all)) < length text + p → length (commits_in (take (suc i) all)) ≤ k + m
    later_said m p bound zero h = omega (arith, length-append (commits_by d) (commits_in (take zero done)))
    later_said m p bound (suc i) h =
        let b = bound i (omega (arith, h, length-append text (said_in (take i done)))) in
        omega (arith, b, length-append (commits_by d) (commits_in (take (suc i) done)))

    later_made : (m p : ℕ) (bound : (i : ℕ) → p < length (said_in (take i done)) → m ≤ length (commits_in (take i done)))
        (i : ℕ) → length text + p < length (said_in (take i all)) → k + m ≤ length (commits_in (take i all))
    later_made m p bound zero h = absurd (omega (arith, h))
    later_made m p bound (suc i) h =
        let b = bound i (omega (arith, h, length-append text (said_in (take i done)))) in
        omega (arith, b, length-append (commits_by d) (commits_in (take i done)))

    -- a line that was begun is among the first i, so this one is
    begun_first : (p : ℕ) (old now : Outside) → KeepsBlank (kept s) (commits_by d) old now → (i : ℕ) → IsBegunBy i all p → KeepsBlank (kept s) (commits_in (take i all)) old now
    begun_first p old now blank zero (inl less) = absurd (omega (arith, less))
    begun_first p old now blank zero (inr few) = absurd (omega (arith, few))
    begun_first p old now blank (suc i) begun = blank_sooner (kept s) (commits_by d) (commits_in (take i done)) old now blank

    begun_later : (p i : ℕ) → IsBegunBy (suc i) all (length text + p) → IsBegunBy i done p
    begun_later p i (inl less) = inl (omega (arith, less, length-append text (said_in (take i done))))
    begun_later p i (inr few) = inr (omega (arith, few))

    later_blank : (p : ℕ) (old mid now : Outside) → KeepsBlank (kept s) (commits_by d) old mid → ((i : ℕ) → IsBegunBy i done p → KeepsBlank (kept (after_of d)) (commits_in (take i done)) mid now)
        → (i : ℕ) → IsBegunBy i all (length text + p) → KeepsBlank (kept s) (commits_in (take i all)) old now
    later_blank p old mid now one more zero (inl less) = absurd (omega (arith, less))
    later_blank p old mid now one more zero (inr few) = absurd (omega (arith, few))
    later_blank p old mid now one more (suc i) begun =
        blank_later (kept s) (commits_by d) (commits_in (take i done)) old mid now one
        (subst (λ (x : Stored). KeepsBlank x (commits_in (take i done)) mid now) (sym (laws.last s l d may)) (more i (begun_later p i begun)))

    doing_so : (old now : Outside) → LeavesCommits (kept s) (commits_by d) old now → LeavesDone (kept s) all old now
    doing_so old now leaves = record {
      framed = leaves.framed;
      spoken = 0;
      short = omega arith;
      said = leaves.said ∙ sym (append-nil old.said);
      blank = begun_first 0 old now leaves.blank;
      left = λ v z v_left z_left.
          let among = leaves.among v z v_left z_left in
          record {
            made = among.made;
            few = omega (arith, among.few, length-append (commits_by d) (commits_in done));
            reads = subst (λ (xs : List Stored). PairReads (last_from (kept s) xs) v z) (sym (take-append-le among.made (commits_by d) (commits_in done) among.few)) among.reads;
            acknowledged = λ i less. absurd (omega (arith, less));
            not_beyond = λ i lt. omega (arith, among.few, first_made i lt);
          };
    }

    saying_so : (old now : Outside) (p : ℕ) → IsFramed old now → p ≤ length text → now.said ≡ old.said ++ take p text → KeepsBlank (kept s) (commits_by d) old now → LeavesPair (kept (after_of d)) now
        → LeavesDone (kept s) all old now
    saying_so old now p framed le said blank stands = record {
      framed = framed;
      spoken = p;
      short = omega (arith, le, length-append text (said_in done));
      said = said ∙ ap (λ (xs : List ℕ). old.said ++ xs) (sym (take-append-le p text (said_in done) le));
      blank = begun_first p old now blank;
      left = λ v z v_left z_left. record {
        made = k;
        few = omega (arith, length-append (commits_by d) (commits_in done));
        reads = subst (λ (xs : List Stored). PairReads (last_from (kept s) xs) v z) (sym (take-append_seam (commits_by d) (commits_in done)))
            (subst (λ (x : Stored). PairReads x v z) (sym (laws.last s l d may)) (stands v z v_left z_left));
        acknowledged = λ i h. first_said i p le h;
        not_beyond = λ i h. first_made i (omega (arith, h));
      };
    }

    pub done_line : (old now : Outside) → LeavesEffect s d old now → LeavesDone (kept s) all old now
    done_line old now (under_way leaves) = doing_so old now leaves
    done_line old now (replying framed says blank left) = saying_so old now says.count framed says.within says.part blank left

    pub done_later : (old mid now : Outside) → IsFramed old mid → KeepsBlank (kept s) (commits_by d) old mid → mid.said ≡ old.said ++ text → LeavesDone (kept (after_of d)) done mid now
        → LeavesDone (kept s) all old now
    done_later old mid now framed blank says leaves = record {
      framed = framed_then old mid now framed leaves.framed;
      spoken = length text + leaves.spoken;
      short = omega (arith, leaves.short, length-append text (said_in done));
      said = leaves.said ∙ ap (λ (xs : List ℕ). xs ++ take leaves.spoken (said_in done)) says ∙ append_assoc old.said text (take leaves.spoken (said_in done)) ∙ ap (λ (xs : List ℕ). old.said ++ xs) (sym (take-append-add text (said_in done) leaves.spoken));
      blank = later_blank leaves.spoken old mid now blank leaves.blank;
      left = λ v z v_left z_left.
          let p = leaves.left v z v_left z_left in
          record {
            made = k + p.made;
            few = omega (arith, p.few, length-append (commits_by d) (commits_in done));
            reads = subst (λ (x : Stored). PairReads x v z)
                (sym (ap (last_from (kept s)) (take-append-add (commits_by d) (commits_in done) p.made)
                ∙ last_from-append (kept s) (commits_by d) (take p.made (commits_in done))
                ∙ ap (λ (x : Stored). last_from x (take p.made (commits_in done))) (laws.last s l d may))) p.reads;
            acknowledged = later_said p.made leaves.spoken p.acknowledged;
            not_beyond = later_made p.made leaves.spoken p.not_beyond;
          };
    }

  -- ---- the loop

  module _ (start : Log) (s0 : State) (lines : List Line) where
    -- the whole run, where the lines that are left do t
    pub record RunWith (log : Log) (s : State) (refused : Bool) (t : List Effect) : Type 0 where
      pub done : List Effect
      pub may : AreDone s0 lines done
      pub passes : Passes start log (LeavesDone (kept s0) done (now start))
      pub forward : (o : Outside) → LeavesDone (kept s) t (now log) o → LeavesDone (kept s0) done (now start) o
      pub said : (now start).said ++ said_in done ≡ (now log).said ++ said_in t
      pub state : state_in s0 done ≡ state_in s t
      pub refuses : any_refused_in done ≡ (refused || any_refused_in t)

    -- at the head of the loop: whatever the lines that are left do
    abbrev pub SoFar : Log → State → Bool → List Line → Type 0
    SoFar log s refused rest = (t : List Effect) → AreDone s rest t → RunWith log s refused t

    pub begins : SoFar start s0 false lines
    begins t may = record { done = t; may = may; passes = Passes-none start _; forward = λ o leaves. leaves; said = refl; state = refl; refuses = refl }

    module _ (mid new : Log) (s : State) (refused : Bool) (l : Line) (rest : List Line) (so_far : SoFar mid s refused (l ∷ rest)) (d : Effect) (may : MayDo s l d)
        (passes : Passes mid new (LeavesEffect s d (now mid))) where
      whole : (t : List Effect) → AreDone (after_of d) rest t → RunWith mid s refused (d ∷ t)
      whole t rest_may = so_far (d ∷ t) (may, rest_may)

      so : (t : List Effect) (rest_may : AreDone (after_of d) rest t) → Passes start new (LeavesDone (kept s0) (whole t rest_may).done (now start))
      so t rest_may =
          let w = whole t rest_may in
          Passes-then start mid new _ w.passes (Passes-weaker mid new _ _ (λ o leaves. w.forward o (done_line s l d may t (now mid) o leaves)) passes)

      pub cut_short : (Answers : List Effect → Type 0) → ((done : List Effect) → Answers done) → SaidLines s0 lines start new Answers
      cut_short Answers answers =
          let t = plain_of (after_of d) rest in
          let w = whole t (laws.plain (after_of d) rest) in
          record { done = w.done; may = w.may; moments = so t (laws.plain (after_of d) rest); answers = answers w.done }

      abbrev Around : Outside → Type 0
      Around o = IsFramed (now mid) o × KeepsBlank (kept s) (commits_by d) (now mid) o

      effect_around : (o : Outside) → LeavesEffect s d (now mid) o → Around o
      effect_around o (under_way leaves) = (leaves.framed, leaves.blank)
      effect_around o (replying framed says blank left) = (framed, blank)

      around : Around (now new)
      around = Passes-now mid new Around (Passes-weaker mid new _ Around effect_around passes) (framed_same (now mid), blank_same (kept s) (commits_by d) (now mid))

      pub one_more : (b : Bool) → b ≡ is_some (first_refused d.tested) → SaysAll (reply_text (reply_of d)) (now mid) (now new) → SoFar new (after_of d) (refused || b) rest
      one_more b is says t rest_may =
          let w = whole t rest_may in
          record {
            done = w.done;
            may = w.may;
            passes = so t rest_may;
            forward = λ o leaves. w.forward o (done_later s l d may t (now mid) (now new) o around.0 around.1 says.all leaves);
            said = w.said ∙ sym (append_assoc (now mid).said (reply_text (reply_of d)) (said_in t)) ∙ ap (λ (xs : List ℕ). xs ++ said_in t) (sym says.all);
            state = w.state;
            refuses = w.refuses ∙ or_step refused b (is_some (first_refused d.tested)) (any_refused_in t) is;
          }
        where
          or_step : (a b c e : Bool) → b ≡ c → (a || (c || e)) ≡ ((a || b) || e)
          or_step true b c e is = refl
          or_step false b c e is = ap (λ (x : Bool). x || e) (sym is)

-- ---- what a line answers

pub refused_of : (d : Effect) → (reply_of d).refused ≡ first_refused d.tested
refused_of d = by_test (first_refused d.tested)
  where
    by_test : (w : Option Refused) → (answer w d.rows).refused ≡ w
    by_test None = refl
    by_test (Some why) = refl

pub state_kept : (m : Seen) (mid o : Outside) → KeepsPair mid o → state_on m o ≡ state_on m mid
state_kept m mid o keeps = (λ i. record {
  volume_blocks = m.volume_blocks;
  store_blocks = m.store_blocks;
  volume = option_map (λ v. stored_on v (keeps.sides VolumeSide i).bytes) m.volume;
  store = option_map (λ h. store_stored_on h (keeps.sides StoreSide i).bytes) m.store;
  moment = m.moment;
})

pub none_ok : {A E : Type 0} (r : Result A E) (e : E) (P : A → Type 0) → r ≡ Err e → IfOk r P
none_ok {A = A} {E = E} r e P is = subst (λ (x : Result A E). IfOk x P) (sym is) tt

pub or_none : (a : Bool) → (a || false) ≡ a
or_none true = refl
or_none false = refl

pub lines_more : (lines : List Line) (i : ℕ) (l : Line) → i < length lines → l ≡ get_or lines i l → drop i lines ≡ l ∷ drop (i + 1) lines
lines_more lines i l low is = rw (add-one, drop-cons lines i l) (ap (λ (x : Line). x ∷ drop (suc i) lines) (sym is))
