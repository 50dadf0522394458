use Rattle.std.proofs.Common.{◌≡◌, ◌+◌, length, Some, None, sym, ◌∙◌, ap, subst, arith, Result, Err}
use Rattle.std.proofs.lemmas.Result.{err_from_is_err_and}
use Rattle.tm_volume.specs.declared.edit.Edit.{Edit}
use Rattle.tm_changes.specs.Plans.{Plans}
use Rattle.tm_base.specs.declared.refused.LineFault.{LineFault}
use Rattle.tm_base.specs.Paths.{is_root}
use Rattle.tm_nodes.specs.Items.{item_attrs, IsItemRow}
use Rattle.tm_tree.specs.declared.record.ItemRow.{ItemRow}
use Rattle.tm_tree.specs.Refusing.{first_refused}
use Rattle.tm_changes.specs.Attributes.{IsReset, attrs_tests, body_stamps, reset_row}
use Rattle.tm_volume.specs.Seen.{volume_on}
use Rattle.tm_changes.proofs.Results.{on_shelf_of}
use Rattle.tm_changes.proofs.Denying.{not_found}
use Rattle.tm_changes.proofs.Resetting.{reset_writes}
use Rattle.tm_changes.proofs.Setting.{in_range, own_row, own_rules, set_denied, set_draws, set_few, set_spent}
use Rattle.tm_changes.proofs.attrs.plan_attrs.Goals as goal

pub returns-in_err-number : goal.returns-in_err-number
returns-in_err-number c = λ moment.
    let q = err_from_is_err_and c.from_residual.result c.from_residual.ensures.1 in
    subst (λ (r : Result Edit LineFault). Plans c.args.volume.now c.args.change.now moment r) (sym (q.1 ∙ ap Err q.2))
    (λ bytes good. not_found (volume_on c.args.volume.now bytes).contents c.args.change.now c.args.path.now moment c.requires.of c.in_err-number.field-0.0 (c.in_err-number.ensures.refused bytes))

pub returns-in-Some : goal.returns-in-Some
returns-in-Some c = λ moment bytes good.
    let m = c.args.volume.now in
    let s = c.rules.ensures.shelved in
    let told = c.in_ok-row.ensures in
    let refuses : first_refused (attrs_tests c.args.change.now (is_root c.args.path.now) (item_attrs c.in_ok-row.row.body)) ≡ Some c.in-Some.why
    = (λ i. first_refused (attrs_tests c.args.change.now (sym c.is_root.ensures i) (sym c.attrs_of.ensures i))) ∙ sym c.in-Some.ensures in
    set_denied m s.numbers (on_shelf_of m s) c.args.path.now c.in_ok-number.number c.in_ok-number.ensures.found c.in_ok-row.row told c.args.change.now c.requires.of bytes moment c.in-Some.why refuses

pub returns-then-next-drawn : goal.returns-then-next-drawn
returns-then-next-drawn c = λ moment bytes good.
    let m = c.args.volume.now in
    let s = c.rules.ensures.shelved in
    let told = c.in_ok-row.ensures in
    let passes : first_refused (attrs_tests c.args.change.now (is_root c.args.path.now) (item_attrs c.in_ok-row.row.body)) ≡ None
    = (λ i. first_refused (attrs_tests c.args.change.now (sym c.is_root.ensures i) (sym c.attrs_of.ensures i))) ∙ sym c.in-None.ensures in
    let next_is = c.next_number-next.ensures.is in
    let many : length c.as_slice.result.now ≡ length c.args.touched.now = ap length c.as_slice.ensures in
    set_spent m s.numbers (on_shelf_of m s) c.args.path.now c.in_ok-number.number c.in_ok-number.ensures.found c.in_ok-row.row told c.args.change.now c.requires.of c.args.touched.now c.requires.touched bytes moment passes
    (omega (arith, c.if-next-drawn.true, c.stamps.ensures.value, many, next_is))

pub reset-requires-clause-row : goal.reset-requires-clause-row
reset-requires-clause-row c =
    let m = c.args.volume.now in
    let s = c.rules.ensures.shelved in
    let told = c.in_ok-row.ensures in
    own_rules m s.numbers (on_shelf_of m s) c.args.path.now c.in_ok-number.number c.in_ok-number.ensures.found c.in_ok-row.row told

pub reset-requires-clause-few : goal.reset-requires-clause-few
reset-requires-clause-few c =
    let m = c.args.volume.now in
    let s = c.rules.ensures.shelved in
    let told = c.in_ok-row.ensures in
    let passes : first_refused (attrs_tests c.args.change.now (is_root c.args.path.now) (item_attrs c.in_ok-row.row.body)) ≡ None
    = (λ i. first_refused (attrs_tests c.args.change.now (sym c.is_root.ensures i) (sym c.attrs_of.ensures i))) ∙ sym c.in-None.ensures in
    set_few m s.numbers (on_shelf_of m s) c.args.path.now c.in_ok-number.number c.in_ok-number.ensures.found c.in_ok-row.row told c.args.change.now c.requires.of passes

pub reset_edit-requires-clause-number : goal.reset_edit-requires-clause-number
reset_edit-requires-clause-number c = let s = c.rules.ensures.shelved in (in_range c.args.volume.now s.numbers (on_shelf_of c.args.volume.now s) c.args.path.now c.in_ok-number.number c.in_ok-number.ensures.found).1

pub returns : goal.returns
returns c = λ moment.
    let m = c.args.volume.now in
    let s = c.rules.ensures.shelved in
    let told = c.in_ok-row.ensures in
    let passes : first_refused (attrs_tests c.args.change.now (is_root c.args.path.now) (item_attrs c.in_ok-row.row.body)) ≡ None
    = (λ i. first_refused (attrs_tests c.args.change.now (sym c.is_root.ensures i) (sym c.attrs_of.ensures i))) ∙ sym c.in-None.ensures in
    let next_is = c.next_number-next.ensures.is in
    let many : length c.as_slice.result.now ≡ length c.args.touched.now = ap length c.as_slice.ensures in
    let drawn = body_stamps c.in_ok-row.row.body + length c.args.touched.now in
    let new_is : c.in_ok-new.new ≡ reset_row c.args.change.now m.tag.next c.in_ok-row.row = c.in_ok-new.ensures.value ∙ ap (λ k. reset_row c.args.change.now k c.in_ok-row.row) next_is in
    let next_then : c.next_number-next.result + (c.stamps.result + length c.as_slice.result.now) ≡ m.tag.next + drawn = omega (arith, c.stamps.ensures.value, many, next_is) in
    let own = own_row m s.numbers (on_shelf_of m s) c.args.path.now c.in_ok-number.number c.in_ok-number.ensures.found c.in_ok-row.row told in
    reset_writes m s.numbers (on_shelf_of m s) c.args.change.now c.args.path.now c.requires.of c.in_ok-number.number c.in_ok-number.ensures.found c.in_ok-row.row own passes
    (subst IsItemRow new_is c.in_ok-new.ensures.rules) drawn
    (set_draws m s.numbers (on_shelf_of m s) c.args.path.now c.in_ok-number.number c.in_ok-number.ensures.found c.in_ok-row.row told c.args.change.now c.requires.of c.args.touched.now c.requires.touched)
    (omega arith) (omega (arith, c.if-next-drawn.false, c.stamps.ensures.value, many, next_is)) c.in_ok-reset_edit.field-0
    (subst (λ k. IsReset c.in_ok-reset_edit.field-0 c.in_ok-number.number (reset_row c.args.change.now m.tag.next c.in_ok-row.row) k) next_then
    (subst (λ (r : ItemRow). IsReset c.in_ok-reset_edit.field-0 c.in_ok-number.number r (c.next_number-next.result + (c.stamps.result + length c.as_slice.result.now))) new_is c.in_ok-reset_edit.ensures))
    moment
