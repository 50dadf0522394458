use Rattle.std.proofs.Common.{◌≡◌, sym, ◌∙◌, subst, arith}
use Rattle.tm_index.specs.Folders.{Folders, numbers_in}
use Rattle.tm_items.specs.Index.{IsLoaded}
use Rattle.tm_volume_records.specs.Loads.{IsFirstBad, items_from}
use Rattle.tm_volume_records.proofs.Firsts.{first_record, first_root, first_place, first_worst, all_sound, starts}
use Rattle.tm_volume_records.proofs.indexing.load_items.Goals as goal

pub returns-then-survey-eq1-clause-bad : goal.returns-then-survey-eq1-clause-bad
returns-then-survey-eq1-clause-bad c = λ n is.
    let same : 1 ≡ n = cc in
    subst (λ m. IsFirstBad c.args.image.now.records c.args.next m) same (first_record c.args.image.now.records c.args.next c.in_ok-survey.survey.worst c.in_ok-survey.ensures.worst c.if-survey-eq1.true)

pub returns-then-not-root-clause-bad : goal.returns-then-not-root-clause-bad
returns-then-not-root-clause-bad c = λ n is.
    let same : 1 ≡ n = cc in
    subst (λ m. IsFirstBad c.args.image.now.records c.args.next m) same (first_root c.args.image.now.records c.args.next c.total.ensures.sound.rising (sym c.in_ok-root.ensures ∙ c.if-not-root.true))

pub loop-number-init : goal.loop-number-init
loop-number-init c = record {
  low = omega arith;
  loaded = λ bytes. subst (λ (fs : Folders). IsLoaded (items_from c.args.image.now.records bytes) 2 (numbers_in fs)) (sym c.new-numbers.ensures)
      (starts c.args.image.now.records c.args.next c.total.ensures.sound.rising (sym c.in_ok-root.ensures ∙ c.if-not-root.false) bytes);
}

pub returns-then-not-good-clause-bad : goal.returns-then-not-good-clause-bad
returns-then-not-good-clause-bad c = λ n is.
    let same : c.loop-number.number ≡ n = cc in
    subst (λ m. IsFirstBad c.args.image.now.records c.args.next m) same (first_place c.args.image.now.records c.args.next c.in_ok-survey.survey.worst c.in_ok-survey.ensures.worst c.loop-number.number (numbers_in c.loop-number.numbers)
    c.loop-number.invariant.loaded c.loop-number.invariant.low (omega arith) (λ bytes. c.in_ok-good.ensures.broken c.if-not-good.true bytes (c.loop-number.invariant.loaded bytes)))

pub loop-number-preserved : goal.loop-number-preserved
loop-number-preserved c = record {
  low = omega arith;
  loaded = λ bytes. c.in_ok-good.ensures.kept c.if-not-good.false bytes (c.loop-number.invariant.loaded bytes);
}

pub returns-then-survey-lt-ABOVE_NUMBERS-clause-bad : goal.returns-then-survey-lt-ABOVE_NUMBERS-clause-bad
returns-then-survey-lt-ABOVE_NUMBERS-clause-bad c = λ n is.
    let same : c.in_ok-survey.survey.worst ≡ n = cc in
    subst (λ m. IsFirstBad c.args.image.now.records c.args.next m) same (first_worst c.args.image.now.records c.args.next c.in_ok-survey.survey.worst c.in_ok-survey.ensures.worst c.loop-number.number (numbers_in c.loop-number.numbers)
    c.loop-number.invariant.loaded c.loop-number.invariant.low (omega arith) (omega arith))

pub returns-clause-items : goal.returns-clause-items
returns-clause-items c = λ bytes. all_sound c.args.image.now.records c.args.next c.in_ok-survey.survey.worst c.in_ok-survey.ensures.worst c.loop-number.number (numbers_in c.loop-number.numbers)
    c.loop-number.invariant.loaded c.loop-number.invariant.low (omega arith) bytes
