use Rattle.std.proofs.Common.{rules, ◌++◌, Err, ap, ◌∙◌}
use Rattle.tm_tree.specs.declared.attrs.Attrs.{Attrs}
use Rattle.tm_tree.specs.Changes.{item_tests}
use Rattle.tm_volume.specs.Seen.{tree_on}
use Rattle.tm_machine.specs.Answers.{AnswersQuery}
use Rattle.tm_machine.specs.Queries.{extra_rows, list_rows}
use Rattle.tm_machine.proofs.Exits.{after_err}
use Rattle.tm_machine.proofs.ListingLemmas.{listing_missing, listing_failed, listing_done}
use Rattle.tm_machine.proofs.listing.show_item.Goals as goal

pub returns-in_err-row-clause-answer : goal.returns-in_err-row-clause-answer
returns-in_err-row-clause-answer c bytes =
    let t = tree_on c.args.volume.now bytes in
    let why = c.in_err-row.field-0.0 in
    after_err (AnswersQuery (item_tests t c.args.path.now) (list_rows t c.args.path.now)) why c.from_residual.result c.from_residual.ensures.1 (listing_missing t c.args.path.now why (c.in_err-row.ensures bytes))

pub returns-clause-answer : goal.returns-clause-answer
returns-clause-answer c bytes =
    let finds = c.in_ok-row.ensures bytes in
    listing_done (tree_on c.args.volume.now bytes) c.args.path.now c.in_ok-row.row finds.0 c.new-rows.result c.push.new.self c.push_extras.new.rows c.push_listing.new.rows c.in_ok-body_row.field-0
    finds.1 finds.2 c.new-rows.ensures c.in_ok-push.ensures.ok (search rules)
    (c.in_ok-push_extras.ensures ∙ ap (λ (a : Attrs). c.push.new.self ++ extra_rows a) c.attrs_of.ensures) (c.in_ok-push_listing.ensures.ok bytes finds.0 finds.1)

pub returns-in_err-push_listing-clause-answer : goal.returns-in_err-push_listing-clause-answer
returns-in_err-push_listing-clause-answer c bytes =
    let t = tree_on c.args.volume.now bytes in
    let finds = c.in_ok-row.ensures bytes in
    let why = c.in_err-push_listing.field-0.0 in
    let exit = c.from_residual-in_err-push_listing in
    after_err (AnswersQuery (item_tests t c.args.path.now) (list_rows t c.args.path.now)) why exit.result exit.ensures.1
    (listing_failed t c.args.path.now finds.0 why finds.1
    (λ r is. c.in_err-push_listing.ensures.refused bytes finds.0 r finds.1 (ap Err is)) (λ side is. c.in_err-push_listing.ensures.fault side (ap Err is)))
