use Rattle.std.proofs.Common.{◌∙◌, ap, sym, Bool, ◌||◌}
use Rattle.std.specs.List.{list_any}
use Rattle.tm_exclude.proofs.Prefixes.{by_lists}
use Rattle.tm_exclude.proofs.excluding.is_excluded.Goals as goal

pub returns-then-is_under_fixed : goal.returns-then-is_under_fixed
returns-then-is_under_fixed c =
    let marked = c.args.marked.now in
    let is = sym c.if-is_under_fixed.true ∙ c.is_under_fixed.ensures in
    c.if-is_under_fixed.true ∙ ap (λ (b : Bool). b || list_any (λ (mark : Bool). mark) marked) is ∙ by_lists c.args.fixed.now marked c.args.path.now c.requires.marks

pub returns-else-is_under_fixed : goal.returns-else-is_under_fixed
returns-else-is_under_fixed c =
    let marked = c.args.marked.now in
    let is = sym c.if-is_under_fixed.false ∙ c.is_under_fixed.ensures in
    c.has_mark.ensures ∙ ap (λ (b : Bool). b || list_any (λ (mark : Bool). mark) marked) is ∙ by_lists c.args.fixed.now marked c.args.path.now c.requires.marks
