use Rattle.std.proofs.Common.{◌≡◌, ap, subst, sym, ◌∙◌}
use Rattle.std.specs.List.{remove}
use Rattle.tm_nodes.specs.Paths.{ArePaths}
use Rattle.tm_volume_records.proofs.FixedRules.{found_without, missing_without, without_paths}
use Rattle.tm_volume_records.proofs.fixed.FixedPaths.without.Goals as goal
use Rattle.tm_volume_records.proofs.fixed.FixedPaths.without.Goals.{in-Ok, in-Err}

pub returns : goal.returns
returns c =
    let old = c.args.self.now in
    let copied : c.in_ok-list.list.items ≡ old = c.in_ok-list.ensures.items_if_clones_equal (λ x y same. same) ∙ c.as_slice.ensures ∙ c.list.ensures.list in
    elim c.match-binary_search.branch [
      | in-Ok w ↦
          c.of.ensures ∙ ap (λ v. v.items) w.list-is ∙ w.remove.ensures.items ∙ ap (λ xs. remove xs w.in-Ok.place) (sym c.deref.ensures.value)
          ∙ found_without old c.deref.result.now c.args.path.now w.in-Ok.place c.list.ensures.rules (c.deref.ensures.value ∙ copied) w.in-Ok.ensures.bound w.in-Ok.ensures.ok
      | in-Err w ↦
          c.of.ensures ∙ ap (λ v. v.items) w.list-is ∙ sym c.deref.ensures.value
          ∙ missing_without old c.deref.result.now c.args.path.now w.in-Err.field-0 c.list.ensures.rules (c.deref.ensures.value ∙ copied) w.in-Err.ensures.bound w.in-Err.ensures.position
    ]

pub invariant_of-result : goal.invariant_of-result
invariant_of-result c = subst ArePaths (sym (returns c)) (without_paths c.args.self.now c.args.path.now c.list.ensures.rules)
