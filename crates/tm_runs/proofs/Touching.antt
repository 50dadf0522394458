-- Pages that a change touches, one key after another.
use Rattle.std.proofs.Common.{◌≡◌, ◌⊎◌, inl, inr, ⊎_elim, ℕ, ◌+◌, ◌-◌, ◌<◌, ◌≤◌, List, [], ◌∷◌, ◌++◌, length, get_or, sym, subst, arith}
use Rattle.std.specs.List.{All}
use Rattle.std.proofs.lemmas.Bool.{cases_lt}
use Rattle.std.proofs.lemmas.List.Elements.{All-nil, All-head, All-tail, All-push}
use Rattle.tm_pages.specs.declared.cut.Run.{Run}
use Rattle.tm_runs.specs.declared.holder.Holder.{Holder}
use Rattle.tm_runs.specs.Marks.{mark_at, IsUpTo, MarksRise}
use Rattle.tm_runs.specs.Touched.{Touches, IsTouched, HoldsTouched, UntouchedIsFar}
use Rattle.tm_runs.proofs.Changing.{key_le, up_to_before}

not_behind : (m : Holder) (key : ℕ) → key < m.key → IsUpTo m key → ⊥
not_behind m key lt is = ⊎_elim (λ (less : m.key < key). absurd (omega arith)) (λ h. absurd (omega (arith, h.0))) is

-- what two searches find is touched
pub all_touched : (holders : List Holder) (from to key : ℕ) → MarksRise holders → to ≤ length holders → (from + 1 ≡ length holders) ⊎ (IsUpTo (mark_at holders (from + 1)) key → ⊥) → key < (mark_at holders to).key → (mark_at holders (to - 1)).key ≤ key
    → (k : ℕ) → from ≤ k → k < to → Touches holders key k
all_touched holders from to key rise inside last behind first k le lt = (
  omega (arith, key_le (mark_at holders k) (mark_at holders (to - 1)) (rise k (to - 1) (omega arith)), first),
  λ upto. ⊎_elim
      (λ (whole : from + 1 ≡ length holders). let next : to ≡ k + 1 = omega arith in not_behind (mark_at holders (k + 1)) key (subst (λ i. key < (mark_at holders i).key) next behind) upto)
      (λ apart. apart (up_to_before (mark_at holders (from + 1)) (mark_at holders (k + 1)) key (rise (from + 1) (k + 1) (omega arith)) upto))
      last,
)

module _ (holders : List Holder) (keys : List ℕ) where
  touched_at : (i k : ℕ) → i < length keys → Touches holders (get_or keys i 0) k → IsTouched holders keys k
  touched_at i k lt is = record { at = i; within = lt; touches = is }

  pub touched_first : (i from to : ℕ) → i < length keys → from < to → ((k : ℕ) → from ≤ k → k < to → Touches holders (get_or keys i 0) k) → HoldsTouched holders keys from to
  touched_first i from to lt rise all = record {
    rises = rise;
    first = touched_at i from lt (all from (omega arith) (omega arith));
    last = touched_at i (to - 1) lt (all (to - 1) (omega arith) (omega arith));
    each = λ k le less. inl (touched_at i k lt (all k le less));
  }

  pub touched_more : (i from to from2 to2 : ℕ) → i < length keys → HoldsTouched holders keys from to → to - 1 ≤ from2 → from2 < to + 2 → from2 < to2 → ((k : ℕ) → from2 ≤ k → k < to2 → Touches holders (get_or keys i 0) k)
      → HoldsTouched holders keys from to2
  touched_more i from to from2 to2 lt so_far since near rise all = record {
    rises = omega (arith, so_far.rises);
    first = so_far.first;
    last = touched_at i (to2 - 1) lt (all (to2 - 1) (omega arith) (omega arith));
    each = λ k le less. ⊎_elim
        (λ (early : k < to). so_far.each k le early)
        (λ (late : to ≤ k). ⊎_elim
        (λ (single : k < from2).
        let here : k ≡ to = omega (arith, so_far.rises) in
        let next : k + 1 ≡ from2 = omega (arith, so_far.rises) in
        inr (subst (λ j. IsTouched holders keys (j - 1)) (sym here) so_far.last, subst (IsTouched holders keys) (sym next) (touched_at i from2 lt (all from2 (omega arith) rise))))
        (λ (within : from2 ≤ k). inl (touched_at i k lt (all k within less)))
        (cases_lt k from2))
        (cases_lt k to);
  }

  pub touched_none : (runs : List Run) → runs ≡ [] → All (λ r. HoldsTouched holders keys r.from r.to) runs
  touched_none runs is = subst (λ rs. All (λ r. HoldsTouched holders keys r.from r.to) rs) (sym is) (All-nil (λ (r : Run). HoldsTouched holders keys r.from r.to))

  pub touched_push : (runs later : List Run) (run : Run) → All (λ r. HoldsTouched holders keys r.from r.to) runs → later ≡ runs ++ run ∷ [] → HoldsTouched holders keys run.from run.to → All (λ r. HoldsTouched holders keys r.from r.to) later
  touched_push runs later run all is one = subst (λ rs. All (λ r. HoldsTouched holders keys r.from r.to) rs) (sym is) (All-push (λ (r : Run). HoldsTouched holders keys r.from r.to) runs run all one)

  far_from : (k from to : ℕ) → HoldsTouched holders keys from to → (IsTouched holders keys k → ⊥) → (0 < k → IsTouched holders keys (k - 1) → ⊥) → (IsTouched holders keys (k + 1) → ⊥) → (k + 1 < from) ⊎ (to < k)
  far_from k from to holds not before after = ⊎_elim
      (λ (early : k + 1 < from). inl early)
      (λ (near : from ≤ k + 1). ⊎_elim
      (λ (late : to < k). inr late)
      (λ (by : k ≤ to). absurd (⊎_elim
      (λ (next : k < from). let is : from ≡ k + 1 = omega arith in after (subst (IsTouched holders keys) is holds.first))
      (λ (since : from ≤ k). ⊎_elim
      (λ (inside : k < to). ⊎_elim (λ this. not this) (λ both. after both.1) (holds.each k since inside))
      (λ (past : to ≤ k). let is : to ≡ k = omega arith in before (omega (arith, holds.rises)) (subst (λ j. IsTouched holders keys (j - 1)) is holds.last))
      (cases_lt k to))
      (cases_lt k from)))
      (cases_lt to k))
      (cases_lt (k + 1) from)

pub UntouchedIsFar-holds : UntouchedIsFar
UntouchedIsFar-holds holders keys [] k all not before after = tt
UntouchedIsFar-holds holders keys (run ∷ runs) k all not before after = (
  far_from holders keys k run.from run.to (All-head (λ (r : Run). HoldsTouched holders keys r.from r.to) run runs all) not before after,
  UntouchedIsFar-holds holders keys runs k (All-tail (λ (r : Run). HoldsTouched holders keys r.from r.to) run runs all) not before after,
)
