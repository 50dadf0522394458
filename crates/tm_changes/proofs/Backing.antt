-- A volume that is back as it was, and the tests of a new folder.
use Rattle.std.proofs.Common.{◌≡◌, ℕ, ◌+◌, ◌-◌, ◌^◌, ◌<◌, ◌≤◌, true, false, cond, nat_lt, [], ◌∷◌, ◌++◌, get_or, refl, sym, ap, ◌∙◌, Option, Some, None, arith}
use Rattle.std.proofs.lemmas.Bool.Decides.{nat_tests}
use Rattle.std.proofs.lemmas.Grind.{same_number_lists}
use Rattle.tm_base.specs.Paths.{Names}
use Rattle.tm_base.specs.declared.refused.Refused.{Refused}
use Rattle.tm_base.specs.declared.refused.Refused.TheVariants.{IdsSpent}
use Rattle.tm_image.specs.Seen.{Seen as ImageSeen, IsSound, HasSameImage, owned, staged}
use Rattle.tm_tree.specs.declared.change.Change.TheVariants.{Mkdir}
use Rattle.tm_tree.specs.Changes.{place_tests, ids_spent}
use Rattle.tm_tree.specs.Refusing.{Tests, first_refused, needs_moment}
use Rattle.tm_changes.specs.Changes.{change_tests, changed}
use Rattle.tm_volume.specs.Edits.{IsBack}
use Rattle.tm_changes.specs.Fitting.{room_tests}
use Rattle.tm_volume.specs.Seen.{Seen}
use Rattle.tm_volume.specs.Stored.{StoredVolume}

-- ---- back

same_owners : (a b : ImageSeen) (x : ℕ) → HasSameImage a b → owned x b ≡ owned x a
same_owners a b x same = let r = same.records in let l = same.layout in λ i. owned x (record b { records = r i; layout = l i })

pub same_used : (a b : ImageSeen) → IsSound a → IsSound b → HasSameImage a b → ((x : ℕ) → staged x b ≡ staged x a) → b.used ≡ a.used
same_used a b sa sb same still = same_number_lists b.used a.used same.size
    (λ k lt. level (get_or b.used k 0) (get_or a.used k 0) (owned k b) (owned k a) (sb.owners k) (sa.owners k) (same_owners a b k same) (still k))
  where
    level : (u v p q : ℕ) → p ≤ u → q ≤ v → p ≡ q → u - p ≡ v - q → u ≡ v
    level u v p q hp hq e s = omega arith

pub same_image : (a b : ImageSeen) → IsSound a → IsSound b → HasSameImage a b → ((x : ℕ) → staged x b ≡ staged x a) → b ≡ a
same_image a b sa sb same still =
    let u = same_used a b sa sb same still in
    let s = same.side in let r = same.records in let l = same.layout in let t = same.root in let n = same.named in
    λ i. record { side = s i; records = r i; used = u i; layout = l i; root = t i; named = n i }

-- nothing was staged and nothing is
pub back_exact : (old new : Seen) → IsSound old.image → IsSound new.image → IsBack old new → ((x : ℕ) → staged x old.image ≡ 0) → ((x : ℕ) → staged x new.image ≡ 0) → new ≡ old
back_exact old new so sn back none still =
    let image = same_image old.image new.image so sn back.image (λ x. still x ∙ sym (none x)) in
    back.rest ∙ (λ i. record old { image = image i })

-- ---- the tests

pub refused_first : (a b : Tests) (why : Refused) → first_refused a ≡ Some why → first_refused (a ++ b) ≡ Some why
refused_first [] b why h = cc
refused_first ((holds, reason) ∷ a) b why h = elim holds as (λ x. cond x (Some reason) (first_refused a) ≡ Some why → cond x (Some reason) (first_refused (a ++ b)) ≡ Some why) [
  | true ↦ λ g. g
  | false ↦ λ g. refused_first a b why g
] h

pub passed_first : (a b : Tests) → first_refused a ≡ None → first_refused (a ++ b) ≡ first_refused b
passed_first [] b h = refl
passed_first ((holds, reason) ∷ a) b h = elim holds as (λ x. cond x (Some reason) (first_refused a) ≡ None → cond x (Some reason) (first_refused (a ++ b)) ≡ first_refused b) [
  | true ↦ λ g. cc
  | false ↦ λ g. passed_first a b g
] h

module _ (blocks : ℕ) (s : StoredVolume) (p : Names) (moment : Option ℕ) where
  abbrev own : Tests
  own = place_tests s.volume.contents.tree p ++ needs_moment moment

  -- where no folder can stand
  pub mkdir_refused : (why : Refused) → first_refused own ≡ Some why → first_refused (change_tests blocks s (Mkdir p) moment) ≡ Some why
  mkdir_refused why h = refused_first (own ++ ids_spent s.volume.contents 2) (room_tests blocks s (changed s (Mkdir p) moment) 0) why (refused_first own (ids_spent s.volume.contents 2) why h)

  -- where the numbers are spent
  pub mkdir_spent : first_refused own ≡ None → 2 ^ 62 < s.volume.contents.next + 2 → first_refused (change_tests blocks s (Mkdir p) moment) ≡ Some IdsSpent
  mkdir_spent h lt = refused_first (own ++ ids_spent s.volume.contents 2) (room_tests blocks s (changed s (Mkdir p) moment) 0) IdsSpent
      (passed_first own (ids_spent s.volume.contents 2) h ∙ ap (λ b. cond b (Some IdsSpent) None) (is_less (2 ^ 62) (s.volume.contents.next + 2) lt))
    where
      is_less : (a b : ℕ) → a < b → nat_lt a b ≡ true
      is_less a b lt = grind (arith, nat_tests)

  -- else the lack of room alone refuses it
  pub mkdir_fits : first_refused own ≡ None → s.volume.contents.next + 2 ≤ 2 ^ 62 → first_refused (change_tests blocks s (Mkdir p) moment) ≡ first_refused (room_tests blocks s (changed s (Mkdir p) moment) 0)
  mkdir_fits h le = passed_first (own ++ ids_spent s.volume.contents 2) (room_tests blocks s (changed s (Mkdir p) moment) 0)
      (passed_first own (ids_spent s.volume.contents 2) h ∙ ap (λ b. cond b (Some IdsSpent) None) (not_less (2 ^ 62) (s.volume.contents.next + 2) le))
    where
      not_less : (a b : ℕ) → b ≤ a → nat_lt a b ≡ false
      not_less a b le = grind (arith, nat_tests)
