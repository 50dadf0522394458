use Rattle.std.proofs.Common.{◌≡◌, ◌<◌, ◌∙◌, ◌∷◌, ◌++◌, [], length, get_or, take, Bool, cond, List, IfSome, ap, sym, subst, append-nil}
use Rattle.tm_base.specs.Paths.{Names}
use Rattle.tm_tree.specs.declared.listing.ListRow.{ListRow}
use Rattle.tm_tree.specs.Trees.{IsTree, item_at, children}
use Rattle.tm_volume.specs.Seen.{tree_on}
use Rattle.tm_backup.specs.Shown.{is_out}
use Rattle.tm_backup.proofs.Rows.{kept_rows, row_here, shown_more}
use Rattle.tm_backup.proofs.view.shown_rows.Goals as goal
use Rattle.tm_backup.proofs.view.shown_rows.Goals.{then-not-branch+in_ok-copied+in_ok-push, else-not-branch}

pub is_out-requires : goal.is_out-requires
is_out-requires c = λ bytes.
    let t = tree_on c.args.volume.now bytes in
    let p = c.args.path.now in
    let row = c.row-item.result in
    let i = c.loop-row.row-index in
    let rows = c.requires.rows bytes in
    let tree : IsTree t = c.items_keep_bounds.ensures.tree c.args.volume.now bytes c.requires.kept in
    let h = row_here t p i row tree (subst (λ (xs : List ListRow). i < length xs) rows c.loop-row-test.true) (c.row-item.is ∙ ap (λ xs. get_or xs i row) rows) in
    (h.item, ap (item_at t) c.in_ok-place.ensures.path ∙ h.stands, h.kind)

pub loop-row-preserved : goal.loop-row-preserved
loop-row-preserved c = λ bytes.
    let v = c.args.volume.now in
    let t = tree_on v bytes in
    let p = c.args.path.now in
    let row = c.row-item.result in
    let i = c.loop-row.row-index in
    let rows = c.requires.rows bytes in
    let tree : IsTree t = c.items_keep_bounds.ensures.tree v bytes c.requires.kept in
    let tells : IfSome (item_at t (p ++ row.name ∷ [])) (λ e. c.in_ok-is_out.field-0 ≡ is_out v.fixed (p ++ row.name ∷ []) e) =
    subst (λ (q : Names). IfSome (item_at t q) (λ e. c.in_ok-is_out.field-0 ≡ is_out v.fixed q e)) c.in_ok-place.ensures.path (c.in_ok-is_out.ensures.out bytes) in
    let more = shown_more v.fixed t p i row c.in_ok-is_out.field-0 tree (subst (λ (xs : List ListRow). i < length xs) rows c.loop-row-test.true) (c.row-item.is ∙ ap (λ xs. get_or xs i row) rows) tells in
    elim c.if-not-branch.branch [
      | then-not-branch+in_ok-copied+in_ok-push w ↦
          rw (w.shown-is, w.in_ok-push.ensures.items, w.in_ok-copied.ensures)
          (ap (λ (xs : List ListRow). xs ++ row ∷ []) (c.loop-row.invariant bytes) ∙ sym (more ∙ ap (λ (b : Bool). kept_rows v.fixed (take i (children t p)) ++ cond b [] (row ∷ [])) w.if-not-branch.true))
      | else-not-branch w ↦
          rw w.shown-is
          (c.loop-row.invariant bytes ∙ sym (more ∙ ap (λ (b : Bool). kept_rows v.fixed (take i (children t p)) ++ cond b [] (row ∷ [])) w.if-not-branch.false ∙ append-nil (kept_rows v.fixed (take i (children t p)))))
    ]
