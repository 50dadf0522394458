-- Snapshots one after another.
use Rattle.std.proofs.Common.{◌≡◌, ⊎_elim, ℕ, ◌+◌, ◌<◌, ◌≤◌, Option, Some, None, List, slice_get, IfSome, refl, sym, ap, ◌∙◌, arith, subst}
use Rattle.std.proofs.lemmas.Bool.{cases_lt}
use Rattle.tm_graph.specs.Nodes.{Nodes}
use Rattle.tm_store_records.specs.declared.snapshot.Snapshot.{Snapshot}
use Rattle.tm_store_records.specs.Rules.{IsGoodSnapshot}
use Rattle.tm_store_records.specs.Drafts.{IsSnapshotAfter, IsFirstBadSnapshot}

-- those before a place keep the rules, and the last of them has this date
pub record KeepSoFar (nodes : Nodes) (snapshots : List Snapshot) (number place : ℕ) (before : Option ℕ) : Type 0 where
  pub good : (i : ℕ) (s : Snapshot) → i < place → slice_get snapshots i ≡ Some s → IsGoodSnapshot nodes snapshots number i s
  pub none : before ≡ None → place ≡ 0
  pub most : (date : ℕ) → before ≡ Some date → (i : ℕ) (s : Snapshot) → i < place → slice_get snapshots i ≡ Some s → s.date ≤ date
  pub last : (date : ℕ) → before ≡ Some date → (i : ℕ) × (s : Snapshot) × (i < place) × (slice_get snapshots i ≡ Some s) × (s.date ≡ date)

module _ (nodes : Nodes) (snapshots : List Snapshot) (number : ℕ) where
  pub keep_none : KeepSoFar nodes snapshots number 0 None
  keep_none = record { good = λ i s lt is. absurd (omega (arith, lt)); none = λ e. refl; most = λ date e. absurd (cc e); last = λ date e. cc }

  module _ (place : ℕ) (before : Option ℕ) (so_far : KeepSoFar nodes snapshots number place before) (s : Snapshot) (is : slice_get snapshots place ≡ Some s) where
    dates : (o : Option ℕ) → before ≡ o → IfSome o (λ date. date < s.date) → (i : ℕ) (other : Snapshot) → i < place → slice_get snapshots i ≡ Some other → other.date < s.date
    dates None e after i other lt at = absurd (omega (arith, so_far.none e, lt))
    dates (Some date) e after i other lt at = omega (arith, so_far.most date e i other lt at, after)

    pub good_here : IsSnapshotAfter nodes before number place s → IsGoodSnapshot nodes snapshots number place s
    good_here after = record {
      few = after.few;
      least = after.least;
      most = after.most;
      later = dates before refl after.later;
      generation_least = after.generation_least;
      generation_most = after.generation_most;
      cursor = after.cursor;
      root = after.root;
    }

    later_here : (o : Option ℕ) → before ≡ o → IsGoodSnapshot nodes snapshots number place s → IfSome o (λ date. date < s.date)
    later_here None e good = tt
    later_here (Some date) e good = let last = so_far.last date e in subst (λ d. d < s.date) last.4 (good.later last.0 last.1 last.2 last.3)

    pub first_bad : (IsSnapshotAfter nodes before number place s → ⊥) → IsFirstBadSnapshot nodes snapshots number place
    first_bad bad = record {
      snapshot = s;
      is = is;
      bad = λ good. bad (record { later = later_here before refl good; few = good.few; least = good.least; most = good.most; generation_least = good.generation_least; generation_most = good.generation_most; cursor = good.cursor; root = good.root });
      before = so_far.good;
    }

    same_snapshot : (i : ℕ) (t : Snapshot) → i ≡ place → slice_get snapshots i ≡ Some t → s ≡ t
    same_snapshot i t e at = let both : Some s ≡ Some t = sym is ∙ ap (slice_get snapshots) (sym e) ∙ at in cc

    pub keep_next : IsSnapshotAfter nodes before number place s → KeepSoFar nodes snapshots number (place + 1) (Some s.date)
    keep_next after = record {
      good = λ i t lt at. ⊎_elim
          (λ (below : i < place). so_far.good i t below at)
          (λ (le : place ≤ i). let e : i ≡ place = omega arith in let same = same_snapshot i t e at in
          subst (λ k. IsGoodSnapshot nodes snapshots number k t) (sym e) (subst (λ (x : Snapshot). IsGoodSnapshot nodes snapshots number place x) same (good_here after)))
          (cases_lt i place);
      none = λ e. absurd (cc e);
      most = λ date e i t lt at. let d : s.date ≡ date = cc in ⊎_elim
          (λ (below : i < place). omega (arith, (good_here after).later i t below at, d))
          (λ (le : place ≤ i). let e : i ≡ place = omega arith in let same = same_snapshot i t e at in omega (arith, d, ap (λ (x : Snapshot). x.date) same))
          (cases_lt i place);
      last = λ date e. let d : s.date ≡ date = cc in (place, s, omega arith, is, d);
    }
