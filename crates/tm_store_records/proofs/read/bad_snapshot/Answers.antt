use Rattle.std.proofs.Common.{◌≡◌, Some, List, slice_get, sym, ap, ◌∙◌, subst}
use Rattle.std.proofs.lemmas.Option.{slice_get-get_or, slice_get_within}
use Rattle.tm_graph.specs.Nodes.{Nodes}
use Rattle.tm_store_records.specs.declared.snapshot.Snapshot.{Snapshot}
use Rattle.tm_store_records.specs.Drafts.{IsFirstBadSnapshot}
use Rattle.tm_store_records.proofs.Least.{least_snapshot, all_snapshots}
use Rattle.tm_store_records.proofs.read.bad_snapshot.Goals as goal

pub returns-in-Some : goal.returns-in-Some
returns-in-Some c =
    let g = c.args.draft.now.nodes.items in
    let ss = c.args.draft.now.snapshots.items in
    let place = c.in-Some.place in
    let s = c.index.result.now in
    let first : IsFirstBadSnapshot g ss c.args.number place = subst (λ (x : Nodes). IsFirstBadSnapshot x ss c.args.number place) c.deref.ensures.value
    (subst (λ (x : List Snapshot). IsFirstBadSnapshot c.deref.result.now x c.args.number place) c.deref-2.ensures.value c.in-Some.ensures.some) in
    let lt = slice_get_within ss place first.snapshot first.is in
    let is : slice_get ss place ≡ Some s = slice_get-get_or ss place s lt ∙ ap (λ (x : Snapshot). Some x) (sym c.index.ensures) in
    least_snapshot g ss c.args.number place s c.requires.snapshots_rise first is

pub returns-in-None : goal.returns-in-None
returns-in-None c = all_snapshots c.args.draft.now.nodes.items c.deref.result.now c.args.draft.now.snapshots.items c.deref-2.result.now c.args.number c.deref.ensures.value c.deref-2.ensures.value c.in-None.ensures.none
