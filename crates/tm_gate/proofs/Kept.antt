-- What it says of a slot that no field breaks its rule.
use Rattle.std.proofs.Common.{◌≡◌, ℕ, ◌≤◌, Bool, true, false, not, ◌&&◌, leb, ⊎_elim, List, [], ◌∷◌, Some, None, option_map, refl, sym, ◌∙◌, ap, arith}
use Rattle.std.proofs.lemmas.Bool.{cases_Bool, cond-true, cond-false}
use Rattle.std.proofs.lemmas.Bool.Decides.{nat_tests}
use Rattle.tm_gate.specs.Fields.{FieldRule, number, bytes_at, is_kept, first_broken}

abbrev pub AllKept : List ℕ → List FieldRule → Type 0
AllKept slot [] = Unit {0}
AllKept slot (f ∷ fs) = (is_kept slot f ≡ true) × AllKept slot fs

broken : List ℕ → FieldRule → Bool
broken slot f = not (is_kept slot f)

pub kept_from_none : (slot : List ℕ) (fs : List FieldRule) → first_broken fs slot ≡ None → AllKept slot fs
kept_from_none slot [] none = tt
kept_from_none slot (f ∷ fs) none = ⊎_elim
    (λ (yes : is_kept slot f ≡ true).
    let rest : first_broken fs slot ≡ None = ap (option_map (λ g. g.at)) (sym (cond-false _ (Some f) _ (ap not yes))) ∙ none in
    (yes, kept_from_none slot fs rest))
    (λ (no : is_kept slot f ≡ false).
    let some : Some f.at ≡ None = ap (option_map (λ g. g.at)) (sym (cond-true _ (Some f) _ (ap not no))) ∙ none in cc)
    (cases_Bool (is_kept slot f))

pub none_from_kept : (slot : List ℕ) (fs : List FieldRule) → AllKept slot fs → first_broken fs slot ≡ None
none_from_kept slot [] kept = refl
none_from_kept slot (f ∷ fs) kept = ap (option_map (λ g. g.at)) (cond-false _ (Some f) _ (ap not kept.0)) ∙ none_from_kept slot fs kept.1

both_le : (least most n : ℕ) → (leb least n && leb n most) ≡ true → (least ≤ n) × (n ≤ most)
both_le least most n is = grind (arith, nat_tests)

le_both : (least most n : ℕ) → least ≤ n → n ≤ most → (leb least n && leb n most) ≡ true
le_both least most n low high = grind (arith, nat_tests)

pub bounds : (slot : List ℕ) (f : FieldRule) → is_kept slot f ≡ true → (f.least ≤ number (bytes_at f.at f.size slot)) × (number (bytes_at f.at f.size slot) ≤ f.most)
unfolding is_kept
bounds slot f kept = both_le f.least f.most (number (bytes_at f.at f.size slot)) kept

pub keeps : (slot : List ℕ) (f : FieldRule) (n : ℕ) → number (bytes_at f.at f.size slot) ≡ n → f.least ≤ n → n ≤ f.most → is_kept slot f ≡ true
unfolding is_kept
keeps slot f n is low high = le_both f.least f.most (number (bytes_at f.at f.size slot)) (omega (arith, is)) (omega (arith, is))
