use Rattle.std.proofs.Common.{◌++◌, ◌∷◌, not, nat_lt, length, sym, ◌∙◌, ap, ℕ, List, subst, Result, Err}
use Rattle.std.proofs.lemmas.Result.{err_from_is_err_and}
use Rattle.tm_volume.specs.declared.edit.Edit.{Edit}
use Rattle.tm_changes.specs.Plans.{Plans}
use Rattle.tm_base.specs.declared.refused.LineFault.{LineFault}
use Rattle.tm_base.specs.Paths.{is_root}
use Rattle.tm_base.specs.declared.refused.Refused.TheVariants.{NotEmpty, RootItem}
use Rattle.tm_tree.specs.declared.change.Change.{Change}
use Rattle.tm_tree.specs.Changes.{ids_spent, tests}
use Rattle.tm_tree.specs.Refusing.{first_refused, needs_moment}
use Rattle.tm_tree.specs.Trees.{children}
use Rattle.tm_volume.specs.Seen.{tree_on, volume_on}
use Rattle.tm_changes.proofs.Emptying.{on_index, rmdir_left, bare_loose}
use Rattle.tm_changes.proofs.Lacking.{rmdir_stops}
use Rattle.tm_changes.proofs.removing.plan_rmdir.Goals as goal

pub returns-then-not-is_bare : goal.returns-then-not-is_bare
returns-then-not-is_bare c = λ bytes good.
    let m = c.args.volume.now in
    let p = c.args.path.now in
    let n = c.in_ok-number.number in
    let kind = (λ (bytes : ℕ → List ℕ). sym (c.is_folder.ensures bytes)) in
    rmdir_left m _ (on_index m c.rules.ensures.shelved _ c.numbers.ensures) p n c.in_ok-number.ensures.found c.is_bare.result c.is_bare.ensures c.args.change.now c.args.moment c.requires
    (λ b. kind b ∙ c.if-not-is_folder.false) bytes
    ∙ ap (λ b. first_refused ((not b, NotEmpty) ∷ (is_root p, RootItem) ∷ needs_moment c.args.moment ++ ids_spent (volume_on m bytes).contents 1)) c.if-not-is_bare.true

pub returns-then-is_root : goal.returns-then-is_root
returns-then-is_root c = λ bytes good.
    let m = c.args.volume.now in
    let p = c.args.path.now in
    let n = c.in_ok-number.number in
    let kind = (λ (bytes : ℕ → List ℕ). sym (c.is_folder.ensures bytes)) in
    let root = sym c.is_root.ensures ∙ c.if-is_root.true in
    rmdir_left m _ (on_index m c.rules.ensures.shelved _ c.numbers.ensures) p n c.in_ok-number.ensures.found c.is_bare.result c.is_bare.ensures c.args.change.now c.args.moment c.requires
    (λ b. kind b ∙ c.if-not-is_folder.false) bytes
    ∙ (λ i. first_refused ((not (c.if-not-is_bare.false i), NotEmpty) ∷ (root i, RootItem) ∷ needs_moment c.args.moment ++ ids_spent (volume_on m bytes).contents 1))

pub plan_removal-requires-clause-loose : goal.plan_removal-requires-clause-loose
plan_removal-requires-clause-loose c =
    let m = c.args.volume.now in
    bare_loose m _ (on_index m c.rules.ensures.shelved _ c.numbers.ensures) c.args.path.now c.in_ok-number.number c.in_ok-number.ensures.found c.is_bare.result c.is_bare.ensures
    c.if-not-is_bare.false (sym c.is_root.ensures ∙ c.if-is_root.false)

pub plan_removal-requires-clause-tests : goal.plan_removal-requires-clause-tests
plan_removal-requires-clause-tests c = λ bytes.
    let m = c.args.volume.now in
    let p = c.args.path.now in
    let n = c.in_ok-number.number in
    let kind = (λ (bytes : ℕ → List ℕ). sym (c.is_folder.ensures bytes)) in
    let root = sym c.is_root.ensures ∙ c.if-is_root.false in
    rmdir_left m _ (on_index m c.rules.ensures.shelved _ c.numbers.ensures) p n c.in_ok-number.ensures.found c.is_bare.result c.is_bare.ensures c.args.change.now c.args.moment c.requires
    (λ b. kind b ∙ c.if-not-is_folder.false) bytes
    ∙ (λ i. first_refused ((not (c.if-not-is_bare.false i), NotEmpty) ∷ (root i, RootItem) ∷ needs_moment c.args.moment ++ ids_spent (volume_on m bytes).contents 1))

pub returns-in_err-number : goal.returns-in_err-number
returns-in_err-number c =
    let m = c.args.volume.now in
    let p = c.args.path.now in
    let q = err_from_is_err_and c.from_residual.result c.from_residual.ensures.1 in
    subst (λ (r : Result Edit LineFault). Plans m c.args.change.now c.args.moment r) (sym (q.1 ∙ ap Err q.2))
    (λ bytes good.
    let v = (volume_on m bytes).contents in
    let t = tree_on m bytes in
    ap (λ (d : Change). first_refused (tests v d c.args.moment)) c.requires
    ∙ rmdir_stops t p (nat_lt 0 (length (children t p))) (is_root p) (needs_moment c.args.moment ++ ids_spent v 1) c.in_err-number.field-0.0 (c.in_err-number.ensures.refused bytes))
