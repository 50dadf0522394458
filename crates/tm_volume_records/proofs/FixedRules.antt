-- The rules of fixed paths are kept where a path comes or goes.
use Rattle.std.proofs.Common.{◌≡◌, ℕ, ◌<◌, ◌≤◌, HoldsAt, true, false, if◌then◌else◌, ◌+◌, List, [], length, Option, Some, None, refl, sym, ◌∙◌, ap, subst, drop, arith}
use Rattle.std.proofs.Math.Bool.{Bool-set}
use Rattle.std.proofs.Math.Logic.{∥∥₁_elim}
use Rattle.std.specs.BTreeMap.{is_at}
use Rattle.std.specs.Prelude.{is_some}
use Rattle.std.proofs.lemmas.Map.Views.{All-insert_key, All-remove_key}
use Rattle.std.specs.List.{insert, remove}
use Rattle.std.specs.List.Sorted.{IsStrictlySortedBy, IsNonDecreasingBy}
use Rattle.std.specs.Ordering.{ordering_index}
use Rattle.std.specs.declared.cmp.Ordering.TheVariants.{Equal}
use Rattle.tm_base.specs.IsName.{IsName}
use Rattle.tm_base.specs.Paths.{Names, path_cmp, is_root}
use Rattle.tm_codec.specs.Fields.{u8_text, short_text}
use Rattle.tm_nodes.proofs.HeadLemmas.{machine_finds}
use Rattle.tm_nodes.specs.Headers.{machine_text}
use Rattle.tm_nodes.specs.Paths.{IsPath, ArePaths}
use Rattle.tm_nodes.specs.Records.{machine_of}
use Rattle.tm_tree.specs.Contents.{is_fixed, with_fixed, without_fixed}
use Rattle.tm_volume_records.proofs.FixedLists.{path_total, insert_sorted, insert_length, insert_there, insert_gap, remove_there, remove_gap, comparisons_rise, IsGap, remove_sorted, remove_shorter}
use Rattle.tm_nodes.proofs.Fields.{name_had}
use Rattle.tm_base.specs.Limits.{max_fixed}

-- no paths
pub no_paths : ArePaths []
unfolding IsStrictlySortedBy
no_paths = record { few = omega arith; each = λ k d lt. absurd (omega (arith, lt)); no_root = λ k d lt. absurd (omega (arith, lt)); rising = tt }

-- with a path that isn't the root, as long as they are not too many
pub with_paths : (ks : List Names) (x : Names) → ArePaths ks → IsPath x → is_root x ≡ false → length (with_fixed ks x) ≤ max_fixed → ArePaths (with_fixed ks x)
with_paths ks x old is below few = record {
  few = few;
  each = All-insert_key path_cmp x IsPath ks old.each is;
  no_root = All-insert_key path_cmp x (λ path. is_root path ≡ false) ks old.no_root below;
  rising = insert_sorted path_total x ks old.rising;
}

-- how many they are with a path
pub with_few : (ks : List Names) (x : Names) → ArePaths ks → (if is_fixed ks x then length ks else length ks + 1) ≤ max_fixed → length (with_fixed ks x) ≤ max_fixed
with_few ks x old few = subst (λ (n : ℕ). n ≤ max_fixed) (sym (insert_length path_total x ks old.rising)) few

-- without a path
pub without_paths : (ks : List Names) (x : Names) → ArePaths ks → ArePaths (without_fixed ks x)
without_paths ks x old = record {
  few = omega (arith, remove_shorter path_cmp (is_at (path_cmp x)) ks, old.few);
  each = All-remove_key (is_at (path_cmp x)) IsPath ks old.each;
  no_root = All-remove_key (is_at (path_cmp x)) (λ path. is_root path ≡ false) ks old.no_root;
  rising = remove_sorted path_cmp (is_at (path_cmp x)) ks old.rising;
}

-- ---- what a binary search answers, among paths that are these

module _ (ks seen : List Names) (x : Names) (i : ℕ) (old : ArePaths ks) (same : seen ≡ ks) where
  abbrev ends_at : List Names → Type 0
  ends_at xs = (i ≤ length xs) × (IsNonDecreasingBy (λ y. ordering_index (path_cmp y x)) xs → IsGap path_cmp x xs i)

  -- at a path that is there
  module _ (lt : i < length seen) (here : HoldsAt (λ y. path_cmp y x ≡ Equal) seen i) where
    found : (i < length ks) × HoldsAt (λ y. path_cmp y x ≡ Equal) ks i
    found = subst (λ (xs : List Names). (i < length xs) × HoldsAt (λ y. path_cmp y x ≡ Equal) xs i) same (lt, here)

    pub found_with : seen ≡ with_fixed ks x
    found_with = same ∙ sym (insert_there path_total x ks i old.rising found.0 found.1)

    pub found_without : remove seen i ≡ without_fixed ks x
    found_without = ap (λ (xs : List Names). remove xs i) same ∙ remove_there path_total x ks i old.rising found.0 found.1

  -- at the place of a path that is not
  module _ (le : i ≤ length seen) (gap : IsNonDecreasingBy (λ y. ordering_index (path_cmp y x)) seen → IsGap path_cmp x seen i) where
    placed : (i ≤ length ks) × IsGap path_cmp x ks i
    placed = let moved = subst ends_at same (le, gap) in (moved.0, moved.1 (comparisons_rise path_total x ks old.rising))

    pub placed_with : (y : Names) → y ≡ x → insert seen i y ≡ with_fixed ks x
    placed_with y is = ap (λ (xs : List Names). insert xs i y) same ∙ ap (insert ks i) is ∙ insert_gap path_total x ks i placed.0 placed.1

    pub missing_without : seen ≡ without_fixed ks x
    missing_without = same ∙ remove_gap path_total x ks i placed.0 placed.1
