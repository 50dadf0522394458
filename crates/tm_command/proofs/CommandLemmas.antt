-- What clap's clauses say of this command.
use Rattle.std.proofs.Common.{◌≡◌, ℕ, List, [], Option, Some, None, IsErrOf, Err, inl, inr, true, sym, ap, ◌∙◌, subst, refl}
use Rattle.clap.specs.Words.{App, HasKind, Kinds, Row, Text, fault_of, is_simple, is_simple_and_free, kind_of, matches_of}
use Rattle.clap.specs.declared.error.Error.{Error}
use Rattle.clap.specs.declared.error.kind.ErrorKind.TheVariants as kind
use Rattle.tm_command.specs.Command.{IsCommand, IsCreate, IsFaultless, matched, tmvol}

simple : is_simple_and_free tmvol ≡ true
simple = refl

pub faultless_from : (a : App) (words : List Text) → a ≡ tmvol → (is_simple_and_free a ≡ true → fault_of a words ≡ []) → IsFaultless words
unfolding IsFaultless
faultless_from a words is kinds = ap (λ (x : App). fault_of x words) (sym is) ∙ kinds (ap is_simple_and_free is ∙ simple)

pub matched_from : (a : App) (words : List Text) (rows : List Row) (X : Type 0) → a ≡ tmvol → (is_simple a ≡ true → (rows ≡ matches_of a words) × X) → rows ≡ matched words
unfolding matched
matched_from a words rows X is has = (has (ap is_simple is ∙ refl)).0 ∙ ap (λ (x : App). matches_of x words) is

pub fault_from : (a : App) (words : List Text) (e : Error) → a ≡ tmvol → (is_simple_and_free a ≡ true → HasKind (fault_of a words) e)
    → (kind_of e ≡ kind.OutOfMemory → ⊥) → IsFaultless words → ⊥
unfolding IsFaultless
fault_from a words e is kinds memory none =
    let has = kinds (ap is_simple_and_free is ∙ simple) in
    let found : HasKind [] e = subst (λ (k : Kinds). HasKind k e) (ap (λ (x : App). fault_of x words) is ∙ none) has in
    elim found [ inl out ↦ memory out | inr among ↦ among ]

-- an error is the one that it is said to be
pub err_is : {T E : Type 0} {x y : E} → IsErrOf {T = T} (Err x) y → x ≡ y
err_is h = cc

-- ---- one command

one_create : (text : Option Text) (create make : Option ℕ) → IsCreate text create → IsCreate text make → create ≡ make
one_create None None None a b = refl
one_create None None (Some made) a b = absurd b
one_create None (Some blocks) make a b = absurd a
one_create (Some text) None make a b = absurd a
one_create (Some text) (Some blocks) None a b = absurd b
one_create (Some text) (Some blocks) (Some made) a b = ap (λ (n : ℕ). Some n) (a.value ∙ sym b.value)

one_text : {found : Option Text} {a b : Text} → found ≡ Some a → found ≡ Some b → a ≡ b
one_text first second = let both = sym first ∙ second in cc both

pub one_command : (words : List Text) (volume store script : Text) (create : Option ℕ) (v s p : Text) (make : Option ℕ)
    → IsCommand words volume store script create → IsCommand words v s p make
    → (volume ≡ v) × (store ≡ s) × (script ≡ p) × (create ≡ make)
one_command words volume store script create v s p make a b = (
  one_text a.names.volume_is b.names.volume_is,
  one_text a.names.store_is b.names.store_is,
  one_text a.names.script_is b.names.script_is,
  one_create _ create make a.names.create_is b.names.create_is,
)
