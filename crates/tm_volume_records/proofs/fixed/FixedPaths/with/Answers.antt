use Rattle.std.proofs.Common.{◌≡◌, All, ap, subst, sym, ◌∙◌}
use Rattle.std.specs.List.{insert}
use Rattle.tm_base.specs.IsName.{IsName}
use Rattle.tm_nodes.specs.Paths.{ArePaths}
use Rattle.tm_volume_records.proofs.FixedRules.{found_with, placed_with, with_paths, with_few}
use Rattle.tm_volume_records.proofs.fixed.FixedPaths.with.Goals as goal
use Rattle.tm_volume_records.proofs.fixed.FixedPaths.with.Goals.{in-Ok, in-Err+in_ok-clone-in-Err+in_ok-insert-in-Err}

pub returns : goal.returns
returns c =
    let old = c.args.self.now in
    let copied : c.in_ok-list.list.items ≡ old = c.in_ok-list.ensures.items_if_clones_equal (λ x y same. same) ∙ c.as_slice.ensures ∙ c.list.ensures.list in
    elim c.match-binary_search.branch [
      | in-Ok w ↦
          c.of.ensures ∙ ap (λ v. v.items) w.list-is ∙ sym c.deref.ensures.value
          ∙ found_with old c.deref.result.now c.args.path.now w.in-Ok.field-0 c.list.ensures.rules (c.deref.ensures.value ∙ copied) w.in-Ok.ensures.bound w.in-Ok.ensures.ok
      | in-Err+in_ok-clone-in-Err+in_ok-insert-in-Err w ↦
          c.of.ensures ∙ ap (λ v. v.items) w.list-is ∙ w.in_ok-insert-in-Err.ensures.items ∙ ap (λ xs. insert xs w.in-Err.place w.in_ok-clone-in-Err.field-0) (sym c.deref.ensures.value)
          ∙ placed_with old c.deref.result.now c.args.path.now w.in-Err.place c.list.ensures.rules (c.deref.ensures.value ∙ copied) w.in-Err.ensures.bound w.in-Err.ensures.position w.in_ok-clone-in-Err.field-0 w.in_ok-clone-in-Err.ensures.cases
    ]

pub invariant_of-result : goal.invariant_of-result
invariant_of-result c =
    let old = c.args.self.now in
    let names = subst (All IsName) c.names.ensures.names c.are_names.ensures in
    subst ArePaths (sym (returns c))
    (with_paths old c.args.path.now c.list.ensures.rules (record { short = c.names.ensures.short; names = names }) c.requires.below (with_few old c.args.path.now c.list.ensures.rules c.requires.few))
