use Rattle.std.proofs.Common.{◌+◌, ◌≡◌, arith, sym, ap, subst, ◌∙◌, Option, List}
use Rattle.std.specs.Option.{option_map}
use Rattle.tm_volume_records.specs.declared.positions.Position.{Position}
use Rattle.tm_volume_records.specs.Loads.{ArePositionsBelow, IsWorst, position_of_row}
use Rattle.tm_volume_records.proofs.Surveying.{positions_none, positions_past, positions_more, worst_none, worst_past, worst_more}
use Rattle.tm_base.specs.Limits.{max_items}
use Rattle.tm_volume_records.proofs.positions.survey_items.Goals as goal

pub loop-step-init : goal.loop-step-init
loop-step-init c = record {
  low = omega arith;
  least = omega arith;
  most = omega arith;
  positions = subst (λ (xs : List (Option Position)). ArePositionsBelow c.args.image.now.records 1 xs) (sym c.new-positions.ensures.items) (positions_none c.args.image.now.records);
  worst = worst_none c.args.image.now.records c.args.next;
}

pub loop-step-preserved : goal.loop-step-preserved
loop-step-preserved c =
    let i = c.loop-step.invariant in
    let records = c.args.image.now.records in
    let found = c.in-Some.ensures.some in
    let put = c.in_ok-put_position.ensures in
    let positions = positions_past records c.loop-step.from c.in-Some.number c.loop-step.positions.items found.0 i.positions found.2 in
    let worst = worst_past records c.args.next c.loop-step.from c.in-Some.number c.loop-step.worst found.0 (omega (arith, found.1)) i.worst found.2 in
    record {
      low = omega arith;
      least = omega (arith, i.least, found.0);
      most = omega (arith, found.1);
      positions = positions_more records c.in-Some.number c.loop-step.positions.items _ c.position_in.result (omega (arith, i.low, found.0)) positions (c.position_in.ensures ∙ ap (λ row. option_map position_of_row row) c.in_ok-row.ensures) put.many put.here put.others;
      worst = worst_more records c.args.next c.in-Some.number c.loop-step.worst c.worse-worst.result (omega (arith, found.1)) (omega (arith, i.low, found.0)) worst c.keeps_own.result c.keeps_own.ensures c.worse-worst.ensures.kept c.worse-worst.ensures.first;
    }

pub returns-in_default-clause-positions : goal.returns-in_default-clause-positions
returns-in_default-clause-positions c =
    let i = c.loop-step.invariant in
    positions_past c.args.image.now.records c.loop-step.from (max_items + 1) c.loop-step.positions.items i.most i.positions c.in_default.ensures.none

pub returns-in_default-clause-worst : goal.returns-in_default-clause-worst
returns-in_default-clause-worst c =
    let i = c.loop-step.invariant in
    worst_past c.args.image.now.records c.args.next c.loop-step.from (max_items + 1) c.loop-step.worst i.most (omega arith) i.worst c.in_default.ensures.none

pub returns-clause-positions : goal.returns-clause-positions
returns-clause-positions c =
    let i = c.loop-step.invariant in
    let all : c.loop-step.from ≡ max_items + 1 = omega (arith, i.least, i.most, c.loop-step-test.false) in
    subst (λ n. ArePositionsBelow c.args.image.now.records n c.loop-step.positions.items) all i.positions

pub returns-clause-worst : goal.returns-clause-worst
returns-clause-worst c =
    let i = c.loop-step.invariant in
    let all : c.loop-step.from ≡ max_items + 1 = omega (arith, i.least, i.most, c.loop-step-test.false) in
    subst (λ n. IsWorst c.args.image.now.records c.args.next n c.loop-step.worst) all i.worst
