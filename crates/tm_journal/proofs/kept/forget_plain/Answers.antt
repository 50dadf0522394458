use Rattle.std.proofs.Common.{◌≡◌, ◌<◌, not, filter, length, true, All, get_or, sym, subst, ap, ◌∙◌, rules}
use Rattle.std.specs.List.{remove}
use Rattle.tm_journal.specs.Rows.{replaces}
use Rattle.tm_journal.specs.Kept.{IsByPath}
use Rattle.tm_journal.proofs.ByPath.{by_path_remove, filter_remove, filter_all}
use Rattle.tm_journal.proofs.kept.forget_plain.Goals as goal

pub loop-at-preserved : goal.loop-at-preserved
loop-at-preserved c =
    let rows = c.loop-at.rows.items in
    let at = c.in-Some.at in
    let found = c.in-Some.ensures.some in
    let low : at < length rows = subst (λ l. at < length l) c.deref.ensures.value found.0 in
    let removed : c.remove.new.self.items ≡ remove rows at = c.remove.ensures.items in (
      subst IsByPath (sym removed) (by_path_remove rows at c.loop-at.invariant.0),
      ap (filter _) removed ∙ filter_remove _ rows at low (λ d. ap not (subst (λ l. replaces c.args.touch.now (get_or l at d) ≡ true) c.deref.ensures.value (found.1 d))) ∙ c.loop-at.invariant.1,
      search rules,
      search rules,
    )

pub returns-clause-items : goal.returns-clause-items
returns-clause-items c =
    sym (filter_all (λ row. not (replaces c.args.touch.now row)) c.loop-at.rows.items (subst (λ l. All (λ row. not (replaces c.args.touch.now row) ≡ true) l) c.deref.ensures.value c.in_default.ensures.none)) ∙ c.loop-at.invariant.1
