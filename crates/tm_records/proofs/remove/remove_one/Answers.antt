use Rattle.std.proofs.Common.{◌≡◌, ◌++◌, ◌∷◌, [], ap, ℕ, arith, rules, Some}
use Rattle.std.specs.List.{sum_by}
use Rattle.std.proofs.lemmas.List.Sums.{sum_by_push}
use Rattle.tm_records.specs.declared.log.Undo.{Undo}
use Rattle.tm_records.specs.declared.log.Undo.TheVariants.{Replaced}
use Rattle.tm_records.specs.Undo.{let_go}
use Rattle.tm_records.proofs.Putting.{balance_remove}
use Rattle.tm_records.proofs.remove.remove_one.Goals as goal

pub returns-in-Some-clause-balance : goal.returns-in-Some-clause-balance
returns-in-Some-clause-balance c = λ w.
    let f : Undo → ℕ = λ u. sum_by w (let_go u) in
    let pushed : c.push.new.self.items ≡ c.args.log.now.items ++ Replaced c.args.key c.in-Some.old ∷ [] = search rules in
    omega (arith, balance_remove c.args.records.now.entries _ c.args.key (Some c.in-Some.old) c.in-Some.ensures.value c.in-Some.ensures.entries w, ap (sum_by f) pushed, sum_by_push f c.args.log.now.items (Replaced c.args.key c.in-Some.old))
