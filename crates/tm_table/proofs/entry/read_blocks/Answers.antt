use Rattle.std.proofs.Common.{◌≡◌, ◌<◌, ◌≤◌, ◌∙◌, ◌++◌, ◌∷◌, [], sym, ap, subst, arith, rules, length, length-append, get_or, Ok, Err, true, false}
use Rattle.std.specs.List.{All}
use Rattle.std.specs.Bool.{IsTrue}
use Rattle.std.proofs.lemmas.List.Elements.{All-push}
use Rattle.tm_codec.specs.Places.{IsTextAt}
use Rattle.tm_table.specs.Text.{numbers}
use Rattle.tm_table.proofs.Reading.{numbers_fit}
use Rattle.tm_table.proofs.Standing.{number_stands, stands_push}
use Rattle.tm_table.proofs.entry.read_blocks.Goals as goal

pub returns-then-text-at-clause-bad : goal.returns-then-text-at-clause-bad
returns-then-text-at-clause-bad c = λ is blocks many each stand. omega (arith, numbers_fit blocks c.args.text.now c.args.at c.requires.within stand, c.if-text-at.true)

pub returns-in_err-block-clause-bad : goal.returns-in_err-block-clause-bad
returns-in_err-block-clause-bad c = λ is blocks many each stand.
    let within : c.loop-i.i < length blocks = omega (arith, many, c.loop-i-test.true) in
    let n = get_or blocks c.loop-i.i 0 in
    let ok = c.get_u32.ensures.read n (omega (arith, (each c.loop-i.i 0 within).1, c.ranges.total.fits)) (number_stands blocks c.loop-i.i c.args.at c.args.text.now within stand) in
    let err = c.in_err-block.was in
    absurd (let bad : Ok n ≡ Err c.in_err-block.field-0.0 = sym ok ∙ err in cc)

pub returns-then-not-is_block-clause-bad : goal.returns-then-not-is_block-clause-bad
returns-then-not-is_block-clause-bad c = λ is blocks many each stand.
    let within : c.loop-i.i < length blocks = omega (arith, many, c.loop-i-test.true) in
    let n = get_or blocks c.loop-i.i 0 in
    let ok = c.get_u32.ensures.read n (omega (arith, (each c.loop-i.i 0 within).1, c.ranges.total.fits)) (number_stands blocks c.loop-i.i c.args.at c.args.text.now within stand) in
    let same : Ok c.in_ok-block.block ≡ Ok n = sym (c.in_ok-block.was) ∙ ok in
    let is_n : c.in_ok-block.block ≡ n = cc in
    let no : IsTrue false = subst IsTrue c.if-not-is_block.true (c.is_block.ensures.1 (subst (λ b. (3 ≤ b) × (b < c.args.total)) (sym is_n) (each c.loop-i.i 0 within))) in
    absurd (let bad : false ≡ true = no in cc)

pub loop-i-preserved : goal.loop-i-preserved
loop-i-preserved c =
    let pushed : c.push.new.self.items ≡ c.loop-i.blocks.items ++ c.in_ok-block.block ∷ [] = search rules in
    let inv = c.loop-i.invariant in
    record {
      many = omega (arith, ap length pushed, length-append c.loop-i.blocks.items (c.in_ok-block.block ∷ []), inv.many);
      stand = subst (λ bs. IsTextAt (numbers bs) c.args.at c.args.text.now) (sym pushed) (stands_push c.loop-i.blocks.items c.in_ok-block.block c.args.at c.loop-i.i c.args.text.now inv.many inv.stand c.in_ok-block.ensures.stands);
      each = subst (All (λ b. (3 ≤ b) × (b < c.args.total))) (sym pushed) (All-push (λ b. (3 ≤ b) × (b < c.args.total)) c.loop-i.blocks.items c.in_ok-block.block inv.each (search rules));
      room = omega (arith, inv.room, c.push.ensures.capacity);
    }
