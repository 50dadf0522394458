use Rattle.std.proofs.Common.{◌≡◌, ℕ, List, Option, IfOk, sym, subst}
use Rattle.tm_store_records.proofs.Reading.{machine_some, machine_none}
use Rattle.tm_store_records.proofs.draft.machine_of_image.Goals as goal

pub returns-in-None : goal.returns-in-None
returns-in-None c = sym (machine_none c.args.image.now.records c.in-None.ensures.none)

pub returns-in-Some : goal.returns-in-Some
returns-in-Some c =
    subst (λ (o : Option (List ℕ)). IfOk c.machine_name.result (λ name. name ≡ o)) (sym (machine_some c.args.image.now.records c.in-Some.meta.now c.in-Some.ensures.some)) c.machine_name.ensures
