use Rattle.std.proofs.Common.{ℕ, ◌+◌, ◌≤◌, ◌^◌, List, subst}
use Rattle.tm_base.specs.Paths.{Names}
use Rattle.tm_nodes.specs.Paths.{ArePaths}
use Rattle.tm_changes.specs.Fixings.{SetsFixed}
use Rattle.tm_changes.proofs.Results.{on_shelf_of}
use Rattle.tm_changes.proofs.Refixing.{IsRefixed, fixing_writes}
use Rattle.tm_changes.proofs.fixing.plan_fixed.Goals as goal

pub returns : goal.returns
returns c bytes moment =
    let m = c.args.volume.now in
    let change = c.args.change.now in
    let e = c.in_ok-fixing_edit.field-0 in
    let drawn = c.in-Some.ensures.some in
    let found = c.in_ok-paths.ensures in
    let sets = subst (λ (next : ℕ). SetsFixed m c.in_ok-paths.paths next e) drawn.0 c.in_ok-fixing_edit.ensures in
    let asked : IsRefixed m change e = record {
      fixing = c.requires;
      sets = subst (λ (paths : List Names). SetsFixed m paths (m.tag.next + 2) e) found.1 sets;
      rules = subst (λ (paths : List Names). ArePaths paths) found.1 c.list.ensures.rules;
      passes = found.0;
      next_most = subst (λ (next : ℕ). next ≤ 2 ^ 62) drawn.0 drawn.1;
    } in
    fixing_writes m c.rules.ensures.shelved.numbers (on_shelf_of m c.rules.ensures.shelved) change e asked bytes moment
