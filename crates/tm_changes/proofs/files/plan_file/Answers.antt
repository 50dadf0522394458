use Rattle.std.proofs.Common.{ℕ, Option, sym, ◌∙◌, ap, arith}
use Rattle.tm_tree.specs.Refusing.{first_refused}
use Rattle.tm_volume.specs.Seen.{volume_on}
use Rattle.tm_changes.specs.Writes.{write_tests}
use Rattle.tm_changes.proofs.Written.{file_decides, file_fewer}
use Rattle.tm_changes.proofs.files.plan_file.Goals as goal

pub returns-in-Some-clause-plans : goal.returns-in-Some-clause-plans
returns-in-Some-clause-plans c = λ bytes good.
    file_decides c.args.volume.now c.args.path.now c.in_ok-destination.destination c.in_ok-target.target c.item_count-count.result c.args.size c.next_number-next.result c.args.moment
    c.in_ok-destination.ensures c.in_ok-target.ensures c.item_count-count.ensures.tree c.next_number-next.ensures.is bytes good
    ∙ sym c.in-Some.ensures

pub file_edit-requires-clause-passes : goal.file_edit-requires-clause-passes
file_edit-requires-clause-passes c = λ bytes good.
    ap (λ (o : Option ℕ). first_refused (write_tests (volume_on c.args.volume.now bytes).contents c.args.path.now c.args.size o)) (sym c.date_of-date.ensures)
    ∙ file_decides c.args.volume.now c.args.path.now c.in_ok-destination.destination c.in_ok-target.target c.item_count-count.result c.args.size c.next_number-next.result c.args.moment
    c.in_ok-destination.ensures c.in_ok-target.ensures c.item_count-count.ensures.tree c.next_number-next.ensures.is bytes good
    ∙ sym c.in_default.ensures

pub file_edit-requires-clause-fewer : goal.file_edit-requires-clause-fewer
file_edit-requires-clause-fewer c = λ none.
    omega (arith, file_fewer c.in_ok-destination.destination c.in_ok-target.target c.item_count-count.result c.args.size c.args.moment c.next_number-next.result c.in_default.ensures none, c.item_count-count.ensures.records)
