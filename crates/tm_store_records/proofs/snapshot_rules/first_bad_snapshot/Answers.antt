use Rattle.std.proofs.Common.{◌≡◌, ◌<◌, Some, length, slice_get, rules, sym, ap, ◌∙◌, arith}
use Rattle.std.proofs.lemmas.Option.{slice_get-get_or, slice_get_within}
use Rattle.tm_store_records.specs.declared.snapshot.Snapshot.{Snapshot}
use Rattle.tm_store_records.proofs.Dating.{keep_next}
use Rattle.tm_store_records.proofs.snapshot_rules.first_bad_snapshot.Goals as goal

pub loop-place-preserved : goal.loop-place-preserved
loop-place-preserved c =
    let ss = c.args.snapshots.now in
    let place = c.loop-place.place in
    let s = c.index-snapshots-place.result in
    let lt : place < length ss = omega arith in
    let is : slice_get ss place ≡ Some s = slice_get-get_or ss place s lt ∙ ap (λ (x : Snapshot). Some x) (sym c.index-snapshots-place.is) in
    keep_next c.args.nodes.now ss c.args.number place c.loop-place.before c.loop-place.invariant s is (c.if-not-is_good.ensures.0 (search rules))

pub returns-clause-none : goal.returns-clause-none
returns-clause-none c = λ i s is.
    c.loop-place.invariant.good i s (let lt = slice_get_within c.args.snapshots.now i s is in omega (arith, lt, c.loop-place-test.false)) is
