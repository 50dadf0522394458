use Rattle.std.proofs.Common.{◌≡◌, ◌∙◌, ◌+◌, ℕ, take, drop, sym, ap, arith, length, Ok, Err}
use Rattle.tm_table.proofs.Reading.{meta_first, meta_fits, meta_got, meta_only}
use Rattle.tm_table.proofs.entry.get_meta.Goals as goal

pub returns-in_err-count-clause-read : goal.returns-in_err-count-clause-read
returns-in_err-count-clause-read c = λ part small stands.
    let ok = c.get_u32.ensures.read (length part) small (meta_first part c.args.text.now c.args.at stands) in
    absurd (let bad : Ok (length part) ≡ Err c.in_err-count.field-0.0 = sym ok ∙ c.in_err-count.was in cc)

pub returns-then-text-at-clause-read : goal.returns-then-text-at-clause-read
returns-then-text-at-clause-read c = λ part small stands.
    let ok = c.get_u32.ensures.read (length part) small (meta_first part c.args.text.now c.args.at stands) in
    let same : Ok c.in_ok-count.field-0 ≡ Ok (length part) = sym c.in_ok-count.was ∙ ok in
    let is : c.in_ok-count.field-0 ≡ length part = cc in
    absurd (omega (arith, is, c.if-text-at.true, meta_fits part c.args.text.now c.args.at c.in_ok-count.ensures.short stands))

pub returns-clause-stands : goal.returns-clause-stands
returns-clause-stands c =
    meta_got c.args.text.now _ c.args.at c.in_ok-count.field-0 (omega arith) (omega (arith, c.if-text-at.false, c.in_ok-count.ensures.short))
    (ap (λ (n : ℕ). take n (drop (c.args.at + 4) c.args.text.now)) (omega arith)) c.in_ok-count.ensures.stands

pub returns-clause-read : goal.returns-clause-read
returns-clause-read c = λ part small stands.
    let ok = c.get_u32.ensures.read (length part) small (meta_first part c.args.text.now c.args.at stands) in
    let same : Ok c.in_ok-count.field-0 ≡ Ok (length part) = sym c.in_ok-count.was ∙ ok in
    let is : c.in_ok-count.field-0 ≡ length part = cc in
    meta_only c.args.text.now _ part c.args.at c.in_ok-count.field-0 (ap (λ (n : ℕ). take n (drop (c.args.at + 4) c.args.text.now)) (omega arith)) is stands
