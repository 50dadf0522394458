-- A reader gives the values that keep a rule, each from its text.
use Rattle.std.proofs.Common.{◌≡◌, ℕ, zero, suc, ◌≤◌, Bool, true, false, List, [], ◌∷◌, ◌++◌, length, Option, Some, None, Result, Ok, Err, refl, sym, ap, subst, ◌∙◌, append_assoc, arith}
use Rattle.std.specs.List.{flat_map}
use Rattle.std.proofs.lemmas.List.{append-nil, length-append, nil_from_length}
use Rattle.std.specs.Prelude.{IfOk}
use Rattle.tm_base.proofs.Facts.{some_is, none_some}
use Rattle.tm_nodes.specs.declared.error.NodeError.{NodeError}
use Rattle.tm_nodes.specs.declared.error.NodeError.TheVariants.{BadNode, Memory}
use Rattle.tm_nodes.specs.Answers.{IfBad, Tells}
use Rattle.tm_nodes.specs.Spelled.{IsSpelled, IsUnspelled}
use Rattle.tm_nodes.specs.Laws.{FindsSpelled, HasOneMeaning, IsReadAgain}
use Rattle.tm_nodes.specs.Readers.{Reader, go_on, and_then, done, only_if, many, to_end, whole, before_nothing, value_alone}

-- the text stands at the front of the bytes, and the rest follows it
pub record Takes (bytes text rest : List ℕ) : Type 0 where
  pub is : bytes ≡ text ++ rest

Takes-then : {a x b y c : List ℕ} → Takes a x b → Takes b y c → Takes a (x ++ y) c
Takes-then {a} {x} {b} {y} {c} p q = record { is = p.is ∙ ap (λ t. x ++ t) q.is ∙ sym (append_assoc x y c) }

-- what is read keeps the rule and stands at the front by its text; and whatever keeps it is read from its text
pub record IsReader {A : Type 0} (read : Reader A) (Keeps : A → Type 0) (text : A → List ℕ) : Type 0 where
  pub takes : (bytes : List ℕ) (x : A × List ℕ) → read bytes ≡ Some x → Keeps x.0 × Takes bytes (text x.0) x.1
  pub again : (a : A) (rest : List ℕ) → Keeps a → read (text a ++ rest) ≡ Some (a, rest)

-- the rule and the text in other words
pub alike : {A : Type 0} {read : Reader A} {Keeps Holds : A → Type 0} {text spelling : A → List ℕ} → IsReader read Keeps text
    → ((a : A) → Keeps a → Holds a) → ((a : A) → Holds a → Keeps a) → ((a : A) → Holds a → text a ≡ spelling a) → IsReader read Holds spelling
alike {A} {read} {Keeps} {Holds} {text} {spelling} r to from same = record {
  takes = λ bytes x e. let t = r.takes bytes x e in let k = to x.0 t.0 in (k, subst (λ s. Takes bytes s x.1) (same x.0 k) t.1);
  again = λ a rest k. subst (λ s. read (s ++ rest) ≡ Some (a, rest)) (same a k) (r.again a rest (from a k));
}

went_on : {A B : Type 0} (o : Option (A × List ℕ)) (next : A → Reader B) (y : B × List ℕ) → go_on o next ≡ Some y → (x : A × List ℕ) × (o ≡ Some x) × (next x.0 x.1 ≡ Some y)
went_on None next y e = none_some e
went_on (Some x) next y e = (x, refl, e)

-- one after the other: the second is read after any first
pub then_reads : {A B : Type 0} {read : Reader A} {Keeps : A → Type 0} {text : A → List ℕ} {next : A → Reader B} {Holds : A → B → Type 0} {rest_text : B → List ℕ}
    → (part : B → A) → IsReader read Keeps text → ((a : A) → IsReader (next a) (Holds a) rest_text) → ((a : A) (b : B) → Keeps a → Holds a b → part b ≡ a)
    → IsReader (and_then read next) (λ b. Keeps (part b) × Holds (part b) b) (λ b. text (part b) ++ rest_text b)
unfolding and_then
then_reads {A} {B} {read} {Keeps} {text} {next} {Holds} {rest_text} part r s same = record {
  takes = λ bytes y e.
      let w = went_on (read bytes) next y e in
      let first = r.takes bytes w.0 w.1 in
      let second = (s w.0.0).takes w.0.1 y w.2 in
      subst (λ a. (Keeps a × Holds a y.0) × Takes bytes (text a ++ rest_text y.0) y.1) (sym (same w.0.0 y.0 first.0 second.0)) ((first.0, second.0), Takes-then first.1 second.1);
  again = λ b rest k.
      ap (λ t. go_on (read t) next) (append_assoc (text (part b)) (rest_text b) rest)
      ∙ ap (λ o. go_on o next) (r.again (part b) (rest_text b ++ rest) k.0)
      ∙ (s (part b)).again b rest k.1;
}

pub done_reads : {A : Type 0} (a : A) → IsReader (done a) (λ b. b ≡ a) (λ b. [])
unfolding done
done_reads {A} a = record {
  takes = λ bytes x e. let same = some_is (a, bytes) x e in (sym (ap (λ (p : A × List ℕ). p.0) same), record { is = ap (λ (p : A × List ℕ). p.1) same });
  again = λ b rest e. ap (λ x. Some (x, rest)) (sym e);
}

pub only_if_reads : {A : Type 0} (test : Bool) (a : A) → IsReader (only_if test a) (λ b. (b ≡ a) × (test ≡ true)) (λ b. [])
unfolding only_if
only_if_reads {A} true a = record {
  takes = λ bytes x e. let same = some_is (a, bytes) x e in ((sym (ap (λ (p : A × List ℕ). p.0) same), refl), record { is = ap (λ (p : A × List ℕ). p.1) same });
  again = λ b rest k. ap (λ x. Some (x, rest)) (sym k.0);
}
only_if_reads {A} false a = record {
  takes = λ bytes x e. none_some e;
  again = λ b rest k. absurd (let no = k.1 in cc);
}

-- each value is what may follow the one before it
unfoldable pub Chain : {A : Type 0} → (Option A → A → Type 0) → Option A → List A → Type 0
Chain Follows before [] = Unit {0}
Chain Follows before (x ∷ xs) = Follows before x × Chain Follows (Some x) xs

-- ---- lists

module _ {A : Type 0} {read : Option A → Reader A} {Follows : Option A → A → Type 0} {text : A → List ℕ} (r : (before : Option A) → IsReader (read before) (Follows before) text) where
  many-none : (before : Option A) → IsReader (many read 0 before) (λ xs. (length xs ≡ 0) × Chain Follows before xs) (flat_map text)
  unfolding many Chain
  many-none before = alike (done_reads [])
      (λ xs e. subst (λ (ys : List A). (length ys ≡ 0) × Chain Follows before ys) (sym e) (refl, tt))
      (λ xs k. nil_from_length xs k.0)
      (λ xs k. ap (flat_map text) (sym (nil_from_length xs k.0)))

  many-more : (n : ℕ) → ((before : Option A) → IsReader (many read n before) (λ xs. (length xs ≡ n) × Chain Follows before xs) (flat_map text))
      → (before : Option A) → IsReader (many read (suc n) before) (λ xs. (length xs ≡ suc n) × Chain Follows before xs) (flat_map text)
  unfolding many Chain and_then done
  many-more n fewer before = record { takes = taken; again = given }
    where
      taken : (bytes : List ℕ) (y : List A × List ℕ) → many read (suc n) before bytes ≡ Some y → ((length y.0 ≡ suc n) × Chain Follows before y.0) × Takes bytes (flat_map text y.0) y.1
      taken bytes y e =
          let w = went_on (read before bytes) (λ first. and_then (many read n (Some first)) (λ others. done (first ∷ others))) y e in
          let v = went_on (many read n (Some w.0.0) w.0.1) (λ others. done (w.0.0 ∷ others)) y w.2 in
          let one = (r before).takes bytes w.0 w.1 in
          let rest = (fewer (Some w.0.0)).takes w.0.1 v.0 v.1 in
          let both : Takes bytes (flat_map text (w.0.0 ∷ v.0.0)) v.0.1 = Takes-then one.1 rest.1 in
          subst (λ (z : List A × List ℕ). ((length z.0 ≡ suc n) × Chain Follows before z.0) × Takes bytes (flat_map text z.0) z.1)
          (some_is (w.0.0 ∷ v.0.0, v.0.1) y v.2) ((ap suc rest.0.0, (one.0, rest.0.1)), both)

      given : (xs : List A) (rest : List ℕ) → (length xs ≡ suc n) × Chain Follows before xs → many read (suc n) before (flat_map text xs ++ rest) ≡ Some (xs, rest)
      given [] rest k = absurd (omega (arith, k.0))
      given (x ∷ xs) rest k =
          ap (many read (suc n) before) (append_assoc (text x) (flat_map text xs) rest)
          ∙ ap (λ o. go_on o (λ first. and_then (many read n (Some first)) (λ others. done (first ∷ others)))) ((r before).again x (flat_map text xs ++ rest) k.1.0)
          ∙ ap (λ o. go_on o (λ others. done (x ∷ others))) ((fewer (Some x)).again xs rest (omega (arith, k.0), k.1.1))

  pub many_reads : (n : ℕ) (before : Option A) → IsReader (many read n before) (λ xs. (length xs ≡ n) × Chain Follows before xs) (flat_map text)
  many_reads zero before = many-none before
  many_reads (suc n) before = many-more n (many_reads n) before

  -- up to the end
  to_end-more : (n : ℕ) (before : Option A) (bytes : List ℕ) → 1 ≤ length bytes
      → to_end read (suc n) before bytes ≡ go_on (read before bytes) (λ first. and_then (to_end read n (Some first)) (λ others. done (first ∷ others)))
  unfolding to_end and_then
  to_end-more n before [] some = absurd (omega arith)
  to_end-more n before (b ∷ bytes) some = refl

  pub to_end_takes : (n : ℕ) (before : Option A) (bytes : List ℕ) (y : List A × List ℕ) → to_end read n before bytes ≡ Some y
      → (length y.0 ≤ n) × Chain Follows before y.0 × (bytes ≡ flat_map text y.0)
  unfolding to_end Chain and_then done
  to_end_takes zero before [] y e = subst (λ (z : List A × List ℕ). (length z.0 ≤ 0) × Chain Follows before z.0 × ([] ≡ flat_map text z.0)) (some_is ([], []) y e) (omega arith, tt, refl)
  to_end_takes (suc n) before [] y e = subst (λ (z : List A × List ℕ). (length z.0 ≤ suc n) × Chain Follows before z.0 × ([] ≡ flat_map text z.0)) (some_is ([], []) y e) (omega arith, tt, refl)
  to_end_takes zero before (b ∷ bytes) y e = none_some e
  to_end_takes (suc n) before (b ∷ bytes) y e =
      let w = went_on (read before (b ∷ bytes)) (λ first. and_then (to_end read n (Some first)) (λ others. done (first ∷ others))) y e in
      let v = went_on (to_end read n (Some w.0.0) w.0.1) (λ others. done (w.0.0 ∷ others)) y w.2 in
      let one = (r before).takes (b ∷ bytes) w.0 w.1 in
      let rest = to_end_takes n (Some w.0.0) w.0.1 v.0 v.1 in
      let both : b ∷ bytes ≡ flat_map text (w.0.0 ∷ v.0.0) = one.1.is ∙ ap (λ t. text w.0.0 ++ t) rest.2 in
      let few : length (w.0.0 ∷ v.0.0) ≤ suc n = omega (arith, rest.0) in
      let made : List A × List ℕ = (w.0.0 ∷ v.0.0, v.0.1) in
      subst (λ (z : List A × List ℕ). (length z.0 ≤ suc n) × Chain Follows before z.0 × (b ∷ bytes ≡ flat_map text z.0)) {x = made} (some_is made y v.2) (few, (one.0, rest.1), both)

  to_end_again : ((before : Option A) (x : A) → Follows before x → 1 ≤ length (text x)) → (n : ℕ) (before : Option A) (xs : List A) → length xs ≤ n → Chain Follows before xs → to_end read n before (flat_map text xs) ≡ Some (xs, [])
  unfolding to_end Chain and_then done
  to_end_again some zero before [] few k = refl
  to_end_again some (suc n) before [] few k = refl
  to_end_again some zero before (x ∷ xs) few k = absurd (omega arith)
  to_end_again some (suc n) before (x ∷ xs) few k =
      to_end-more n before (text x ++ flat_map text xs) (omega (arith, length-append (text x) (flat_map text xs), some before x k.0))
      ∙ ap (λ o. go_on o (λ first. and_then (to_end read n (Some first)) (λ others. done (first ∷ others)))) ((r before).again x (flat_map text xs) k.0)
      ∙ ap (λ o. go_on o (λ others. done (x ∷ others))) (to_end_again some n (Some x) xs (omega arith) k.1)

-- ---- whole bytes

alone-is : {A : Type 0} (a : A) (o : Option (A × List ℕ)) → value_alone o ≡ Some a → o ≡ Some (a, [])
alone-is a None e = none_some e
alone-is {A} a (Some x) e = ap (λ y. Some y) (ended x.0 x.1 e)
  where
    ended : (b : A) (rest : List ℕ) → before_nothing b rest ≡ Some a → ◌≡◌ {A = A × List ℕ} (b, rest) (a, [])
    ended b [] f = ap (λ c. (c, [])) (some_is b a f)
    ended b (c ∷ rest) f = none_some f

-- what is found in bytes is what they spell
pub record Finds {A : Type 0} (found : List ℕ → Option A) (Keeps : A → Type 0) (text : A → List ℕ) : Type 0 where
  pub is : (bytes : List ℕ) (a : A) → found bytes ≡ Some a → IsSpelled text Keeps bytes a
  pub again : (bytes : List ℕ) (a : A) → IsSpelled text Keeps bytes a → found bytes ≡ Some a

pub whole_finds : {A : Type 0} {read : Reader A} {Keeps : A → Type 0} {text : A → List ℕ} → IsReader read Keeps text → Finds (whole read) Keeps text
unfolding whole
whole_finds {A} {read} {Keeps} {text} r = record {
  is = λ bytes a e. let t = r.takes bytes (a, []) (alone-is a (read bytes) e) in record { rules = t.0; spelled = t.1.is ∙ append-nil (text a) };
  again = λ bytes a is. let at_end : bytes ≡ text a ++ [] = is.spelled ∙ sym (append-nil (text a)) in ap value_alone (ap read at_end ∙ r.again a [] is.rules);
}

module _ {A : Type 0} {read : Option A → Reader A} {Follows : Option A → A → Type 0} {text : A → List ℕ} (r : (before : Option A) → IsReader (read before) (Follows before) text)
    (some : (before : Option A) (x : A) → Follows before x → 1 ≤ length (text x)) where
  pub to_end_is : (n : ℕ) (bytes : List ℕ) (xs : List A) → whole (to_end read n None) bytes ≡ Some xs → (length xs ≤ n) × Chain Follows None xs × (bytes ≡ flat_map text xs)
  unfolding whole
  to_end_is n bytes xs e = to_end_takes r n None bytes (xs, []) (alone-is xs (to_end read n None bytes) e)

  pub to_end_found : (n : ℕ) (bytes : List ℕ) (xs : List A) → length xs ≤ n → Chain Follows None xs → bytes ≡ flat_map text xs → whole (to_end read n None) bytes ≡ Some xs
  unfolding whole
  to_end_found n bytes xs few chain spelled = ap value_alone (ap (to_end read n None) spelled ∙ to_end_again r some n None xs few chain)

module _ {A : Type 0} {found : List ℕ → Option A} {Keeps : A → Type 0} {text : A → List ℕ} (f : Finds found Keeps text) where
  pub finds_spelled : FindsSpelled found text Keeps
  finds_spelled bytes a = (f.is bytes a, f.again bytes a)

  pub is_read_again : IsReadAgain found text Keeps
  is_read_again a rules = f.again (text a) a (record { rules = rules; spelled = refl })

  pub has_one_meaning : HasOneMeaning text Keeps
  has_one_meaning a b one other same = some_is a b (sym (is_read_again a one) ∙ ap found same ∙ is_read_again b other)

  pub answer_is : (key : ℕ) (bytes : List ℕ) (answer : Result A NodeError) → Tells key answer (found bytes) → IfOk answer (IsSpelled text Keeps bytes)
  answer_is key bytes (Ok a) told = f.is bytes a told
  answer_is key bytes (Err error) told = tt

  pub answer_bad : (key : ℕ) (bytes : List ℕ) (answer : Result A NodeError) → Tells key answer (found bytes) → IfBad answer (λ k. (k ≡ key) × IsUnspelled text Keeps bytes)
  answer_bad key bytes (Ok a) told = tt
  answer_bad key bytes (Err Memory) told = tt
  answer_bad key bytes (Err (BadNode k)) told = (told.0, λ a rules spelled. none_some (sym told.1 ∙ f.again bytes a (record { rules = rules; spelled = spelled })))

pub IfBad-weaker : {A : Type 0} (answer : Result A NodeError) {P Q : ℕ → Type 0} → IfBad answer P → ((k : ℕ) → P k → Q k) → IfBad answer Q
IfBad-weaker (Ok a) bad weaker = tt
IfBad-weaker (Err Memory) bad weaker = tt
IfBad-weaker (Err (BadNode k)) bad weaker = weaker k bad
