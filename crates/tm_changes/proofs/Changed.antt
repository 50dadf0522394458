-- What is planned for a change that gives a file bytes, by what is planned for the file.
use Rattle.std.proofs.Common.{◌≡◌, ℕ, ◌+◌, ◌-◌, ◌^◌, ◌<◌, ◌≤◌, min, List, length, refl, sym, ap, ◌∙◌, subst, Option, Result, Ok, Err, arith}
use Rattle.std.specs.Prelude.{unwrap_or, IfOk}
use Rattle.tm_base.specs.Paths.{Names}
use Rattle.tm_base.specs.declared.refused.LineFault.{LineFault}
use Rattle.tm_base.specs.declared.refused.LineFault.TheVariants.{Refused as RefusedFor, Fault, Memory}
use Rattle.tm_tree.specs.declared.change.Change.{Change}
use Rattle.tm_tree.specs.declared.change.Change.TheVariants as change
use Rattle.tm_tree.specs.Changes.{most_bytes, length_at, tests}
use Rattle.tm_tree.specs.Refusing.{first_refused}
use Rattle.tm_volume.specs.declared.edit.Edit.{Edit}
use Rattle.tm_changes.specs.Changes.{changed}
use Rattle.tm_changes.specs.Plans.{IsGood}
use Rattle.tm_changes.specs.Fitting.{staged_len}
use Rattle.tm_volume.specs.Seen.{Seen, tree_on, volume_on, stored_on}
use Rattle.tm_changes.specs.Writes.{written_stored, write_tests, staged_data, PlansFile, WritesData, PlansData}

-- the change gives the file at p so many bytes
pub record IsOf (m : Seen) (c : Change) (p : Names) (size : ℕ) (moment : Option ℕ) : Type 0 where
  pub tests : (bytes : ℕ → List ℕ) → IsGood m bytes → first_refused (tests (volume_on m bytes).contents c moment) ≡ first_refused (write_tests (volume_on m bytes).contents p size moment)
  pub staged : size ≤ most_bytes → (bytes : ℕ → List ℕ) → staged_len (volume_on m bytes).contents c ≡ size
  pub stored : (bytes : ℕ → List ℕ) → changed (stored_on m bytes) c moment ≡ written_stored (stored_on m bytes) p (unwrap_or moment 0) (staged_data (volume_on m bytes).contents c)

pub plans_change : (m : Seen) (c : Change) (p : Names) (size : ℕ) (moment : Option ℕ) → IsOf m c p size moment → (r : Result Edit LineFault) → PlansFile m p size moment r → IfOk r (λ e. size ≤ most_bytes)
    → (bytes : ℕ → List ℕ) → PlansData m c moment (staged_len (volume_on m bytes).contents c) r
plans_change m c p size moment is (Ok e) plans small bytes = subst (λ (k : ℕ). WritesData m c moment k e) (sym (is.staged small bytes)) (record {
  first = plans.first;
  rest = plans.rest;
  put = plans.put;
  no_data = plans.no_data;
  staged = is.staged small;
  passes = λ b good. is.tests b good ∙ plans.passes b good;
  edit = plans.edit;
  good = λ blob new brings of b holds good. plans.good blob new brings of b good;
  stored = λ blob new brings of b holds. plans.stored blob new brings of b ∙ ap (written_stored (stored_on m b) p (unwrap_or moment 0)) holds ∙ sym (is.stored b);
})
plans_change m c p size moment is (Err (RefusedFor why)) plans small bytes = λ b good. is.tests b good ∙ plans b good
plans_change m c p size moment is (Err (Fault side)) plans small bytes = plans
plans_change m c p size moment is (Err Memory) plans small bytes = tt

pub write_is : (m : Seen) (p : Names) (text : List ℕ) (moment : Option ℕ) (size : ℕ) → size ≡ length text → IsOf m (change.Write p text) p size moment
write_is m p text moment size is = subst (λ (k : ℕ). IsOf m (change.Write p text) p k moment) (sym is) (record { tests = λ bytes good. refl; staged = λ small bytes. refl; stored = λ bytes. refl })

pub fill_is : (m : Seen) (p : Names) (count seed : ℕ) (moment : Option ℕ) → IsOf m (change.Fill p count seed) p count moment
fill_is m p count seed moment = record { tests = λ bytes good. refl; staged = λ small bytes. refl; stored = λ bytes. refl }

-- a sum that is cut at the greatest number is too long, as the sum is
pub append_is : (m : Seen) (p : Names) (text : List ℕ) (moment : Option ℕ) (old more size : ℕ) → ((bytes : ℕ → List ℕ) → old ≡ length_at (tree_on m bytes) p) → ((bytes : ℕ → List ℕ) → IsGood m bytes → old ≤ most_bytes)
    → more ≡ length text → more < 2 ^ 63 → size ≡ min (old + more) (2 ^ 64 - 1) → IsOf m (change.Append p text) p size moment
append_is m p text moment old more size old_is small more_is few is = record {
  tests = λ bytes good.
      let same : length_at (tree_on m bytes) p + length text ≡ size = omega (arith, old_is bytes, small bytes good, more_is, few, is) in
      ap (λ (k : ℕ). first_refused (write_tests (volume_on m bytes).contents p k moment)) same;
  staged = λ low bytes. omega (arith, old_is bytes, more_is, is, low);
  stored = λ bytes. refl;
}
