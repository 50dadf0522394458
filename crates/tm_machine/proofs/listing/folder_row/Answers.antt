use Rattle.std.proofs.Common.{rules, ◌≡◌, [], ◌∷◌, ◌++◌}
use Rattle.tm_base.specs.declared.refused.LineFault.TheVariants as fault
use Rattle.tm_tree.specs.Walks.{walk}
use Rattle.tm_volume.specs.Seen.{tree_on}
use Rattle.tm_machine.proofs.Exits.{err_met}
use Rattle.tm_machine.proofs.ListingLemmas.{finds_refused, finds_no_fault, folder_line}
use Rattle.tm_machine.proofs.listing.folder_row.Goals as goal

pub returns-in_err-found-clause-refused : goal.returns-in_err-found-clause-refused
returns-in_err-found-clause-refused c bytes e why here is =
    let met = c.in_err-found.field-0.0 in
    finds_refused (walk (tree_on c.args.volume.now bytes) (c.args.path.now ++ c.args.row.now.name ∷ [])) met e why (c.in_err-found.ensures bytes) here
    (err_met c.from_residual-in_err-found.result met (fault.Refused why) c.from_residual-in_err-found.ensures.1 is)

pub returns-in_err-found-clause-fault : goal.returns-in_err-found-clause-fault
returns-in_err-found-clause-fault c side is =
    let met = c.in_err-found.field-0.0 in
    finds_no_fault (walk (tree_on c.args.volume.now (λ _. [])) (c.args.path.now ++ c.args.row.now.name ∷ [])) met side (c.in_err-found.ensures (λ _. []))
    (err_met c.from_residual-in_err-found.result met (fault.Fault side) c.from_residual-in_err-found.ensures.1 is)

pub returns-clause-row : goal.returns-clause-row
returns-clause-row c bytes e here =
    folder_line (walk (tree_on c.args.volume.now bytes) (c.args.path.now ++ c.args.row.now.name ∷ [])) c.in_ok-found.found e c.args.row.now.name c.in_ok-body_row.field-0 (c.in_ok-found.ensures bytes) here (search rules)
