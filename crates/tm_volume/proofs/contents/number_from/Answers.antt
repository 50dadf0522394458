use Rattle.std.proofs.Common.{arith}
use Rattle.tm_volume_records.specs.Records.{item_key}
use Rattle.tm_volume.proofs.Gathering.{nothing_there, nothing_up_to}
use Rattle.tm_volume.proofs.contents.number_from.Goals as goal

pub returns-then-number-le-MAX_ITEMS-clause-some : goal.returns-then-number-le-MAX_ITEMS-clause-some
returns-then-number-le-MAX_ITEMS-clause-some c =
    let first = c.in-Some.ensures.some in (
      omega (arith, first.1),
      c.if-number-le-MAX_ITEMS.true,
      λ bytes m least below. nothing_there c.args.image.now.records c.total.ensures.sound.rising bytes m (omega (arith, least, c.requires.0)) (first.2 (item_key m) (omega (arith, least)) (omega (arith, below, first.1))),
    )

pub returns-else-number-le-MAX_ITEMS-clause-none : goal.returns-else-number-le-MAX_ITEMS-clause-none
returns-else-number-le-MAX_ITEMS-clause-none c = λ bytes m least.
    nothing_up_to c.args.image.now.records c.total.ensures.sound.rising bytes c.in-Some.key m (omega (arith, least, c.requires.0)) (omega (arith, c.if-number-le-MAX_ITEMS.false))
    (λ below. c.in-Some.ensures.some.2 (item_key m) (omega (arith, least)) below)

pub returns-in-None-clause-none : goal.returns-in-None-clause-none
returns-in-None-clause-none c = λ bytes m least.
    nothing_there c.args.image.now.records c.total.ensures.sound.rising bytes m (omega (arith, least, c.requires.0)) (c.in-None.ensures.none (item_key m) (omega (arith, least)))
