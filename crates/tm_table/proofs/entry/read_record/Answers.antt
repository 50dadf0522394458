use Rattle.std.proofs.Common.{◌≡◌, ◌∙◌, ◌+◌, ◌/◌, rules, ℕ, sym, ap, subst, arith, length, Ok, Err, true, false}
use Rattle.std.specs.Prelude.{IsOkAnd}
use Rattle.std.specs.Bool.{IsTrue}
use Rattle.tm_records.specs.declared.record.Record.{Record}
use Rattle.tm_codec.specs.Places.{IsTextAt}
use Rattle.tm_codec.specs.Fields.{u64_text}
use Rattle.tm_table.specs.Text.{numbers, meta_text, record_text}
use Rattle.tm_table.specs.Good.{IsAbove}
use Rattle.tm_table.proofs.Standing.{Parts, parts, whole, length-record_text}
use Rattle.tm_table.proofs.Reading.{stands_fits}
use Rattle.tm_table.proofs.entry.read_record.Goals as goal

pub returns-in_err-key-clause-bad : goal.returns-in_err-key-clause-bad
returns-in_err-key-clause-bad c = λ is e good stands.
    let p = parts e c.args.at c.args.text.now stands in
    absurd (let bad : Ok e.0 ≡ Err c.in_err-key.field-0.0 = sym (c.get_u64.ensures.read e.0 good.key p.key) ∙ c.in_err-key.was in cc)

pub returns-in_err-meta-clause-bad : goal.returns-in_err-meta-clause-bad
returns-in_err-meta-clause-bad c = λ is e good stands.
    let p = parts e c.args.at c.args.text.now stands in
    absurd (subst (λ r. IsOkAnd r (λ got. got.now ≡ e.1.meta)) c.in_err-meta.was (c.get_meta.ensures.read e.1.meta good.meta p.meta))

pub returns-in_err-length-clause-bad : goal.returns-in_err-length-clause-bad
returns-in_err-length-clause-bad c = λ is e good stands.
    let p = parts e c.args.at c.args.text.now stands in
    let meta_is : c.in_ok-meta.meta.now ≡ e.1.meta = c.in_ok-meta.ensures.read e.1.meta good.meta p.meta in
    let ok = c.get_u64-2.ensures.read e.1.length (omega (arith, good.size, c.ranges.total.fits)) (subst (λ (n : ℕ). IsTextAt (u64_text e.1.length) (c.args.at + 12 + n) c.args.text.now) (ap length (sym meta_is)) p.size) in
    absurd (let bad : Ok e.1.length ≡ Err c.in_err-length.field-0.0 = sym ok ∙ c.in_err-length.was in cc)

pub returns-then-not-keeps_bounds-clause-bad : goal.returns-then-not-keeps_bounds-clause-bad
returns-then-not-keeps_bounds-clause-bad c = λ is e good stands.
    let p = parts e c.args.at c.args.text.now stands in
    let meta_is : c.in_ok-meta.meta.now ≡ e.1.meta = c.in_ok-meta.ensures.read e.1.meta good.meta p.meta in
    let keys : Ok c.in_ok-key.key ≡ Ok e.0 = c.in_ok-key.ensures.read e.0 good.key p.key in
    let key_is : c.in_ok-key.key ≡ e.0 = cc in
    let lengths : Ok c.in_ok-length.length ≡ Ok e.1.length = c.in_ok-length.ensures.read e.1.length (omega (arith, good.size, c.ranges.total.fits)) (subst (λ (n : ℕ). IsTextAt (u64_text e.1.length) (c.args.at + 12 + n) c.args.text.now) (ap length (sym meta_is)) p.size) in
    let length_is : c.in_ok-length.length ≡ e.1.length = cc in
    let no : IsTrue false = subst IsTrue c.if-not-keeps_bounds.true (c.keeps_bounds.ensures.1 (subst (IsAbove c.args.before) (sym key_is) good.above, omega (arith, length_is, good.size))) in
    absurd (let bad : false ≡ true = no in cc)

pub returns-in_err-blocks-clause-bad : goal.returns-in_err-blocks-clause-bad
returns-in_err-blocks-clause-bad c = λ is e good stands.
    let p = parts e c.args.at c.args.text.now stands in
    let meta_is : c.in_ok-meta.meta.now ≡ e.1.meta = c.in_ok-meta.ensures.read e.1.meta good.meta p.meta in
    let lengths : Ok c.in_ok-length.length ≡ Ok e.1.length = c.in_ok-length.ensures.read e.1.length (omega (arith, good.size, c.ranges.total.fits)) (subst (λ (n : ℕ). IsTextAt (u64_text e.1.length) (c.args.at + 12 + n) c.args.text.now) (ap length (sym meta_is)) p.size) in
    let length_is : c.in_ok-length.length ≡ e.1.length = cc in
    c.read_blocks.ensures.bad (search rules) e.1.blocks (good.many ∙ ap (λ (n : ℕ). (n + 4095) / 4096) (sym length_is)) good.each (subst (λ (n : ℕ). IsTextAt (numbers e.1.blocks) (c.args.at + 12 + n + 8) c.args.text.now) (ap length (sym meta_is)) p.blocks)

meta_of : (c : goal.After-of) → c.of.result ≡ c.in_ok-meta.meta.now
meta_of c = search rules

-- the parts of the record that was read
got : (c : goal.After-of) → Parts (c.in_ok-key.key, record { meta = c.of.result; length = c.in_ok-length.length; blocks = c.in_ok-blocks.blocks }) c.args.at c.args.text.now
got c = record {
  key = c.in_ok-key.ensures.stands;
  meta = subst (λ m. IsTextAt (meta_text m) (c.args.at + 8) c.args.text.now) (sym (meta_of c)) c.in_ok-meta.ensures.stands.1;
  size = subst (λ m. IsTextAt (u64_text c.in_ok-length.length) (c.args.at + 12 + length m) c.args.text.now) (sym (meta_of c)) c.in_ok-length.ensures.stands;
  blocks = subst (λ m. IsTextAt (numbers c.in_ok-blocks.blocks) (c.args.at + 12 + length m + 8) c.args.text.now) (sym (meta_of c)) c.in_ok-blocks.ensures.stand;
}

pub returns-clause-stands : goal.returns-clause-stands
returns-clause-stands c = whole _ c.args.at c.args.text.now (got c)

pub returns-clause-end : goal.returns-clause-end
returns-clause-end c = omega (arith, length-record_text (c.in_ok-key.key, record { meta = c.of.result; length = c.in_ok-length.length; blocks = c.in_ok-blocks.blocks }), ap length (meta_of c), c.in_ok-blocks.ensures.many)

pub returns-clause-fits : goal.returns-clause-fits
returns-clause-fits c =
    let e : ℕ × Record = (c.in_ok-key.key, record { meta = c.of.result; length = c.in_ok-length.length; blocks = c.in_ok-blocks.blocks }) in
    let fits = stands_fits (record_text e) c.args.text.now c.args.at c.requires (whole e c.args.at c.args.text.now (got c)) in
    (omega arith, omega (arith, fits, length-record_text e, ap length (meta_of c), c.in_ok-blocks.ensures.many))
