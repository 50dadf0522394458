use Rattle.std.proofs.Common.{◌≡◌, true, List, length, [], ◌∷◌, refl, ap, arith}
use Rattle.tm_index.proofs.Numbering.{empty_there, some_there, number_nowhere}
use Rattle.tm_index.proofs.Index.is_empty.Goals as goal

no_length : {A : Type 0} (xs : List A) → length xs ≡ 0 → xs ≡ []
no_length [] h = refl
no_length (x ∷ xs) h = absurd (omega arith)

pub returns-in-Some-clause-empty : goal.returns-in-Some-clause-empty
returns-in-Some-clause-empty c = λ yes. empty_there c.self.inside.folders.entries _ c.args.parent c.in-Some.named.now c.self.view_is c.in-Some.ensures.value
    (no_length c.in-Some.named.now.entries (c.is_empty.ensures.0 yes))

pub returns-in-Some-clause-not_empty : goal.returns-in-Some-clause-not_empty
returns-in-Some-clause-not_empty c = λ no. some_there c.self.inside.folders.entries _ c.args.parent c.in-Some.named.now c.self.view_is c.in-Some.ensures.value
    (λ none. let yes : c.is_empty.result ≡ true = c.is_empty.ensures.1 (ap length none) in cc)

pub returns-in-None-clause-empty : goal.returns-in-None-clause-empty
returns-in-None-clause-empty c = λ _. number_nowhere c.self.inside.folders.entries _ c.args.parent c.self.view_is c.in-None.ensures.value
