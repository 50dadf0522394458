-- The first number that breaks a rule.
use Rattle.std.proofs.Common.{◌+◌, ◌≡◌, inl, inr, ℕ, ◌<◌, ◌≤◌, true, false, List, None, ◌∙◌, subst, arith}
use Rattle.tm_items.specs.Index.{Numbers, IsIndex, IsLoaded}
use Rattle.tm_items.specs.Rules.{FollowsRules, IsSound}
use Rattle.tm_items.proofs.Loading.{none_below_root, load_starts, load_ends, root_breaks}
use Rattle.tm_records.specs.Records.{Records}
use Rattle.tm_volume_records.specs.Loads.{row_in, is_root_row, items_from, IsWorst, IsFirstBad}
use Rattle.tm_volume_records.proofs.Slots.{Rising, items_out}
use Rattle.tm_volume_records.proofs.Numbering.{root_is}
use Rattle.tm_base.specs.Limits.{max_items}

module _ (records : Records) (next : ℕ) where
  none_at_0 : (bytes : ℕ → List ℕ) → items_from records bytes 0 ≡ None
  none_at_0 bytes = items_out bytes records 0 (inl (omega arith))

  pub first_record : (worst : ℕ) → IsWorst records next (max_items + 1) worst → worst ≡ 1 → IsFirstBad records next 1
  first_record worst w is = record {
    least = omega arith;
    most = omega arith;
    own = λ m low high. absurd (omega (arith, low, high));
    place = λ bytes m low. none_below_root (items_from records bytes) (none_at_0 bytes) m low;
    bad = λ bytes own place. let here = subst (λ n. IsWorst records next (max_items + 1) n) is w in here.bad (omega arith) own;
  }

  pub first_root : Rising records → is_root_row (row_in records 1) ≡ false → IsFirstBad records next 1
  first_root rising h = record {
    least = omega arith;
    most = omega arith;
    own = λ m low high. absurd (omega (arith, low, high));
    place = λ bytes m low. none_below_root (items_from records bytes) (none_at_0 bytes) m low;
    bad = λ bytes own place. root_breaks (items_from records bytes) (root_is records rising bytes ∙ h) place;
  }

  module _ (worst : ℕ) (w : IsWorst records next (max_items + 1) worst) (n : ℕ) (numbers : Numbers) (loaded : (bytes : ℕ → List ℕ) → IsLoaded (items_from records bytes) n numbers) (low : 2 ≤ n) where
    pub first_place : n < worst → ((bytes : ℕ → List ℕ) → ¬ FollowsRules (items_from records bytes) n) → IsFirstBad records next n
    first_place before broken = record {
      least = omega (arith, low);
      most = omega (arith, before, w.most);
      own = λ m least lt. w.below m least (omega (arith, lt, before, w.most)) (omega (arith, lt, before));
      place = λ bytes m lt. (loaded bytes).below m lt;
      bad = λ bytes own place. broken bytes place;
    }

    pub first_worst : worst ≤ n → worst < max_items + 1 → IsFirstBad records next worst
    first_worst is few = record {
      least = w.least;
      most = omega (arith, few);
      own = λ m least lt. w.below m least (omega (arith, lt, few)) lt;
      place = λ bytes m lt. (loaded bytes).below m (omega (arith, lt, is));
      bad = λ bytes own place. w.bad few own;
    }

    pub all_sound : max_items + 1 ≤ n → (bytes : ℕ → List ℕ) → IsSound (items_from records bytes) × IsIndex (items_from records bytes) numbers
    all_sound high bytes = load_ends (items_from records bytes) n numbers (loaded bytes) low (λ m le. items_out bytes records m (inr (omega (arith, le, high))))

  pub starts : Rising records → is_root_row (row_in records 1) ≡ true → (bytes : ℕ → List ℕ) → IsLoaded (items_from records bytes) 2 (λ place. None)
  starts rising h bytes = load_starts (items_from records bytes) (none_at_0 bytes) (root_is records rising bytes ∙ h)
