-- From what stands at the first place to what reading gives.
use Rattle.std.proofs.Common.{◌≡◌, ℕ, ◌+◌, ◌<◌, List, ◌++◌, length, drop, Option, Some, None, Result, Err, refl, sym, ◌∙◌, ap, subst, arith}
use Rattle.std.specs.Result.{IsErrAnd}
use Rattle.std.proofs.lemmas.List.{length-append, drop_at}
use Rattle.std.proofs.lemmas.Result.{err_from_is_err_and}
use Rattle.tm_codec.specs.Places.{IsTextAt}
use Rattle.tm_nodes.specs.Readers.{Reader, Gives}
use Rattle.tm_nodes.specs.declared.error.ReadError.{ReadError}
use Rattle.tm_nodes.specs.declared.error.ReadError.TheVariants.{Broken}
use Rattle.tm_nodes.proofs.Formats.{IsReader}

module _ {A : Type 0} {read : Reader A} {Keeps : A → Type 0} {text : A → List ℕ} (r : IsReader read Keeps text) where
  -- what stands first is read
  pub stands : (a : A) (bytes rest : List ℕ) (w : ℕ) → Keeps a → length (text a) ≡ w → IsTextAt (text a) 0 bytes → rest ≡ drop w bytes → read bytes ≡ Some (a, rest)
  stands a bytes rest w k len s is =
      let whole : bytes ≡ text a ++ rest = s ∙ ap (λ n. text a ++ drop n bytes) (omega (arith, len)) ∙ ap (λ t. text a ++ t) (sym is) in
      ap read whole ∙ r.again a rest k

  none_or : (bytes : List ℕ) (o : Option (A × List ℕ)) → read bytes ≡ o → ((a : A) (rest : List ℕ) → Keeps a → bytes ≡ text a ++ rest → ⊥) → o ≡ None
  none_or bytes None is never = refl
  none_or bytes (Some x) is never = let t = r.takes bytes x is in absurd (never x.0 x.1 t.0 t.1.is)

  -- where nothing that keeps the rule stands first, nothing is read
  pub nothing : (bytes : List ℕ) → ((a : A) (rest : List ℕ) → Keeps a → bytes ≡ text a ++ rest → ⊥) → read bytes ≡ None
  nothing bytes never = none_or bytes (read bytes) refl never

  pub too_short : (w : ℕ) → ((a : A) → length (text a) ≡ w) → (bytes : List ℕ) → length bytes < 0 + w → read bytes ≡ None
  too_short w len bytes short = nothing bytes (λ a rest k is. absurd (omega (arith, short, ap length is, length-append (text a) rest, len a)))

  pub absent : (bytes : List ℕ) → ((a : A) → Keeps a → IsTextAt (text a) 0 bytes → ⊥) → read bytes ≡ None
  absent bytes never = nothing bytes (λ a rest k is. never a k (is ∙ ap (λ t. text a ++ t) (sym (ap (drop (0 + length (text a))) is ∙ drop_at (text a) rest (0 + length (text a)) (omega arith)))))

-- what a `?` answers that met a missing field
pub exits : {X A : Type 0} (view : X → A) (result : Result X ReadError) (read : Option A) → IsErrAnd result (λ error. error ≡ Broken) → read ≡ None → Gives view result read
exits {X} view result read broken none =
    let met = err_from_is_err_and result broken in
    subst (λ (r : Result X ReadError). Gives view r read) (sym (met.1 ∙ ap Err met.2)) none
