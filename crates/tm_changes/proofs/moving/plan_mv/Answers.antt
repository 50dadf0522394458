use Rattle.std.proofs.Common.{ℕ, List, sym, ◌∙◌, subst}
use Rattle.tm_changes.specs.declared.destination.Destination.{Destination}
use Rattle.tm_volume.specs.Seen.{items_on, tree_on}
use Rattle.tm_changes.specs.Destinations.{MeetsDestination}
use Rattle.tm_changes.proofs.Relocating.{move_refused}
use Rattle.tm_changes.proofs.moving.plan_mv.Goals as goal

pub plan_shift-requires-clause-into : goal.plan_shift-requires-clause-into
plan_shift-requires-clause-into c =
    let m = c.args.volume.now in
    subst (λ (into : Destination). (bytes : ℕ → List ℕ) → MeetsDestination (items_on m bytes) (tree_on m bytes) c.args.to.now into) c.in-Ok-Folder.is-1 c.in_ok-destination.ensures

pub returns-in-Some : goal.returns-in-Some
returns-in-Some c = λ bytes good.
    move_refused c.args.volume.now c.args.from.now c.args.to.now c.number_at-start.result c.in_ok-destination.destination c.has-there.result c.is_prefix_of.result c.number_at-start.ensures.found c.number_at-start.ensures.refused
    c.in_ok-destination.ensures c.has-there.ensures c.is_prefix_of.ensures c.args.change.now c.args.moment c.requires c.in-Some.why (sym c.move_refusal.ensures ∙ c.in-Some.is) bytes
