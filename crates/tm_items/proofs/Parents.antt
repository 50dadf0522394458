-- Paths and the folders that hold them.
use Rattle.std.proofs.Common.{◌≡◌, ℕ, suc, ◌-◌, ◌==◌, true, false, [], ◌++◌, length, drop, refl, sym, ap, ◌∙◌, arith, length-append, length-take}
use Rattle.std.proofs.lemmas.Bool.Decides.{nat_tests}
use Rattle.std.proofs.lemmas.List.{take-append-drop}
use Rattle.tm_base.proofs.Facts.{true_false}
use Rattle.tm_base.specs.Paths.{Names, is_prefix, is_root, parent_of}
use Rattle.tm_base.proofs.PathLemmas.{prefix_is, is_prefix_of_append}
use Rattle.tm_tree.proofs.CopyProofs.{is_prefix_trans}
use Rattle.tm_items.specs.Placings.{Items, Walks}
use Rattle.tm_items.proofs.Walking.{one_path}
use Rattle.tm_items.proofs.Avoiding.{number_is}

long : (p : Names) → is_root p ≡ false → length p ≡ suc (length p - 1)
long p h = grind (arith, nat_tests)

pub parent_short : (p : Names) → is_root p ≡ false → length p ≡ suc (length (parent_of p))
parent_short p h = let is = long p h in omega (arith, is, length-take (length p - 1) p)

pub above_parent : (p q : Names) → is_prefix p q ≡ false → is_prefix p (parent_of q) ≡ false
above_parent p q off =
    elim (is_prefix p (parent_of q)) as (λ c. is_prefix p (parent_of q) ≡ c → c ≡ false) [
      | true ↦ λ on. sym (is_prefix_trans p (parent_of q) q on (is_prefix_of_append (parent_of q) q (drop (length q - 1) q) (sym (take-append-drop (length q - 1) q)))) ∙ off
      | false ↦ λ _. refl
    ] refl

-- a path is neither at nor above its folder's
pub own_parent : (p : Names) → is_root p ≡ false → is_prefix p (parent_of p) ≡ false
own_parent p out =
    elim (is_prefix p (parent_of p)) as (λ c. is_prefix p (parent_of p) ≡ c → c ≡ false) [
      | true ↦ λ on. absurd (too_short (drop (length p) (parent_of p)) (prefix_is p (parent_of p) on))
      | false ↦ λ _. refl
    ] refl
  where
    too_short : (rest : Names) → parent_of p ≡ p ++ rest → ⊥
    too_short rest e =
        let same : length (parent_of p) ≡ length (p ++ rest) = ap length e in
        omega (arith, same, length-append p rest, parent_short p out)

-- what stands below the root isn't number 1
pub not_one : (items : Items) (n : ℕ) (p : Names) → is_root p ≡ false → Walks items 1 p n → (n == 1) ≡ false
not_one items n p below w =
    elim (n == 1) as (λ b. (n == 1) ≡ b → b ≡ false) [
      | true ↦ λ e. true_false (sym (ap is_root (one_path items n p [] w (sym (number_is n 1 e)))) ∙ below)
      | false ↦ λ _. refl
    ] refl
