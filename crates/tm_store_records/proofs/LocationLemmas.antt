-- What the locations say when a number comes to stand at one path more.
use Rattle.std.proofs.Common.{◌≡◌, ◌≢◌, ◌⊎◌, inl, inr, ⊎_elim, ℕ, ◌≤◌, ◌==◌, Bool, true, false, cond, Option, Some, None, List, length, slice_get, nat_eq, refl, sym, ap, ◌∙◌, arith, subst}
use Rattle.std.proofs.lemmas.Bool.{cases_eq}
use Rattle.std.proofs.lemmas.Bool.Decides.{nat_tests}
use Rattle.tm_base.specs.Limits.{max_names}
use Rattle.tm_base.specs.Paths.{Names}
use Rattle.tm_graph.specs.Nodes.{Nodes}
use Rattle.tm_store_records.specs.declared.locations.Location.{Location}
use Rattle.tm_store_records.specs.declared.locations.Location.TheVariants.{At, Misplaced}
use Rattle.tm_store_records.specs.declared.locations.Step.{Step}
use Rattle.tm_store_records.specs.Places.{NodeStandsAt}
use Rattle.tm_store_records.specs.Located.{location_with, IsMisplaced, IsAtOne, AreLocations}
use Rattle.tm_store_records.proofs.Stepping.{Longer}

pub eq_true : (m q : ℕ) → m ≡ q → nat_eq m q ≡ true
eq_true m q e = grind (arith, nat_tests)

pub eq_false : (m q : ℕ) → m ≢ q → nat_eq m q ≡ false
eq_false m q e = grind (arith, nat_tests)

-- a number comes to stand at paths more
pub record Grows (Came After : Names → ℕ → Type 0) (New : Names → Type 0) (q : ℕ) : Type 0 where
  pub keeps : (p : Names) (n : ℕ) → Came p n → After p n
  pub adds : (p : Names) → New p → After p q
  pub only : (p : Names) (n : ℕ) → After p n → Came p n ⊎ ((n ≡ q) × New p)

pub grows_by : (Came After : Names → ℕ → Type 0) (New Same : Names → Type 0) (q : ℕ) → ((p : Names) → New p → Same p) → ((p : Names) → Same p → New p) → Grows Came After New q → Grows Came After Same q
grows_by Came After New Same q to from grows = record {
  keeps = grows.keeps;
  adds = λ p s. grows.adds p (from p s);
  only = λ p n a. ⊎_elim (λ (c : Came p n). inl c) (λ (e : (n ≡ q) × New p). inr (e.0, to p e.1)) (grows.only p n a);
}

module _ (g : Nodes) (roots : List ℕ) (Came After : Names → ℕ → Type 0) (locations : ℕ → Option Location) (ids : Step → Option ℕ) (count : ℕ) where
  -- the same come to stand at the same paths
  pub locations_same : ((p : Names) (n : ℕ) → Came p n → After p n) → ((p : Names) (n : ℕ) → After p n → Came p n) → AreLocations g roots Came locations ids count → AreLocations g roots After locations ids count
  locations_same to from are = record {
    paths = are.paths;
    numbered = are.numbered;
    none = λ n e p a. are.none n e p (from p n a);
    one = λ n id depth e. (let one = are.one n id depth e in record { path = one.path; is = one.is; long = one.long; near = one.near; came = to one.path n one.came; only = λ q a. one.only q (from q n a) });
    misplaced = are.misplaced;
  }

-- more paths have numbers
abbrev pub locations_longer : (g : Nodes) (roots : List ℕ) (Came : Names → ℕ → Type 0) (locations : ℕ → Option Location) (ids new : Step → Option ℕ) (count after id : ℕ) (p : Names) (are : AreLocations g roots Came locations ids count) → Longer are.paths new after id p → AreLocations g roots Came locations new after
locations_longer g roots Came locations ids new count after id p are longer = record {
  paths = longer.longer;
  numbered = longer.numbered;
  none = are.none;
  one = λ n i depth e. (let one = are.one n i depth e in record { path = one.path; is = longer.keeps i one.path one.is; long = one.long; near = one.near; came = one.came; only = one.only });
  misplaced = are.misplaced;
}

module _ (g : Nodes) (roots : List ℕ) (Came After : Names → ℕ → Type 0) (locations new : ℕ → Option Location) (ids : Step → Option ℕ) (count : ℕ) (are : AreLocations g roots Came locations ids count)
    (New : Names → Type 0) (q : ℕ) (grows : Grows Came After New q) where
  abbrev LocationIs : Location → Type 0
  LocationIs (At id depth) = IsAtOne g roots After are.paths id depth q
  LocationIs Misplaced = IsMisplaced g roots q

  abbrev Puts : Location → Type 0
  Puts location = (m : ℕ) → new m ≡ cond (nat_eq m q) (Some location) (locations m)

  module _ (location : Location) (put : Puts location) where
    here : (m : ℕ) → m ≡ q → new m ≡ Some location
    here m e = put m ∙ ap (λ b. cond b (Some location) (locations m)) (eq_true m q e)

    there : (m : ℕ) → m ≢ q → new m ≡ locations m
    there m e = put m ∙ ap (λ b. cond b (Some location) (locations m)) (eq_false m q e)

    old_only : (m : ℕ) → m ≢ q → (p : Names) → After p m → Came p m
    old_only m ne p a = ⊎_elim (λ (c : Came p m). c) (λ (e : (m ≡ q) × New p). absurd (ne e.0)) (grows.only p m a)

    pub locations_put : LocationIs location → AreLocations g roots After new ids count
    locations_put good = record {
      paths = are.paths;
      numbered = are.numbered;
      none = λ m e p a. ⊎_elim
          (λ (same : m ≡ q). let both : Some location ≡ None = sym (here m same) ∙ e in cc)
          (λ (other : m ≢ q). are.none m (sym (there m other) ∙ e) p (old_only m other p a))
          (cases_eq m q);
      one = λ m id depth e. ⊎_elim
          (λ (same : m ≡ q).
          let both : Some location ≡ Some (At id depth) = sym (here m same) ∙ e in
          let is : location ≡ At id depth = cc in
          subst (λ k. IsAtOne g roots After are.paths id depth k) (sym same) (subst (λ (s : Location). LocationIs s) is good))
          (λ (other : m ≢ q).
          let one = are.one m id depth (sym (there m other) ∙ e) in
          record { path = one.path; is = one.is; long = one.long; near = one.near; came = grows.keeps one.path m one.came; only = λ p a. one.only p (old_only m other p a) })
          (cases_eq m q);
      misplaced = λ m e. ⊎_elim
          (λ (same : m ≡ q).
          let both : Some location ≡ Some Misplaced = sym (here m same) ∙ e in
          let is : location ≡ Misplaced = cc in
          subst (λ k. IsMisplaced g roots k) (sym same) (subst (λ (s : Location). LocationIs s) is good))
          (λ (other : m ≢ q). are.misplaced m (sym (there m other) ∙ e))
          (cases_eq m q);
    }

  pub misplaced_put : Puts Misplaced → IsMisplaced g roots q → AreLocations g roots After new ids count
  misplaced_put put misplaced = locations_put Misplaced put misplaced

module _ (g : Nodes) (roots : List ℕ) (Came After : Names → ℕ → Type 0) (locations new : ℕ → Option Location) (ids : Step → Option ℕ) (count : ℕ) (are : AreLocations g roots Came locations ids count)
    (path : Names) (id depth q : ℕ) (is : slice_get are.paths id ≡ Some path) (long : length path ≡ depth) (near : depth ≤ max_names)
    (grows : Grows Came After (λ p. p ≡ path) q) (stands : (p : Names) (n : ℕ) → After p n → NodeStandsAt g roots p n) where
  here_only : (p : Names) → (Came p q → p ≡ path) → After p q → p ≡ path
  here_only p came a = ⊎_elim came (λ (e : (q ≡ q) × (p ≡ path)). e.1) (grows.only p q a)

  pub joined_put : ((m : ℕ) → new m ≡ cond (nat_eq m q) (Some (location_with (locations q) id depth)) (locations m)) → AreLocations g roots After new ids count
  joined_put = by_location (locations q) refl
    where
      two : (other far : ℕ) → locations q ≡ Some (At other far) → (b : Bool) → (other == id) ≡ b → ((m : ℕ) → new m ≡ cond (nat_eq m q) (Some (cond b (At other far) Misplaced)) (locations m)) → AreLocations g roots After new ids count
      two other far e true t put =
          let one = are.one q other far e in
          let same : other ≡ id = grind (arith, nat_tests) in
          let paths : one.path ≡ path = (let both : Some one.path ≡ Some path = sym one.is ∙ ap (slice_get are.paths) same ∙ is in cc) in
          locations_put g roots Came After locations new ids count are (λ p. p ≡ path) q grows (At other far) put
          (record { path = one.path; is = one.is; long = one.long; near = one.near; came = grows.keeps one.path q one.came; only = λ p a. ⊎_elim (one.only p) (λ (e : (q ≡ q) × (p ≡ path)). e.1 ∙ sym paths) (grows.only p q a) })
      two other far e false t put =
          let one = are.one q other far e in
          misplaced_put g roots Came After locations new ids count are (λ p. p ≡ path) q grows put (λ short one_path.
          let paths : one.path ≡ path = one_path one.path path (stands one.path q (grows.keeps one.path q one.came)) (stands path q (grows.adds path refl)) in
          let same : other ≡ id = are.numbered.distinct other id path (one.is ∙ ap (λ (p : Names). Some p) paths) is in
          absurd (grind (arith, nat_tests)))

      by_location : (o : Option Location) → locations q ≡ o → ((m : ℕ) → new m ≡ cond (nat_eq m q) (Some (location_with o id depth)) (locations m)) → AreLocations g roots After new ids count
      by_location None e put = locations_put g roots Came After locations new ids count are (λ p. p ≡ path) q grows (At id depth) put
          (record { path = path; is = is; long = long; near = near; came = grows.adds path refl; only = λ p a. here_only p (λ c. absurd (are.none q e p c)) a })
      by_location (Some (At other far)) e put = two other far e (other == id) refl put
      by_location (Some Misplaced) e put = misplaced_put g roots Came After locations new ids count are (λ p. p ≡ path) q grows put (are.misplaced q e)
