use Rattle.std.proofs.Common.{true≢false, not, refl, ℤ, ◌≤ℤ◌, unsigned_abs, FitsSigned, w64, ◌≡◌, length, pos, ap, arith, sym, ◌∙◌}
use Rattle.std.proofs.lemmas.Bool.Decides.{Decides-eqb}
use Rattle.std.proofs.lemmas.Slice.Eq.{slice_eq-Decides}
use Rattle.std.proofs.lemmas.Int.{to_z-of_z, ints}
use Rattle.jiff_core.proofs.SignedLemmas.{signed_arith}
use Rattle.tm_base.proofs.MomentLemmas.{length-text_of, parts_of_text, same_text, same_seconds, abs_pos, from_not}
use Rattle.tm_base.proofs.moment.named.Goals as goal

pub returns-then-text-ne17-clause-none : goal.returns-then-text-ne17-clause-none
returns-then-text-ne17-clause-none c =
    λ n names. c.if-text-ne17.true (ap length names.written ∙ length-text_of names.at)

pub returns-in_default-clause-none : goal.returns-in_default-clause-none
returns-in_default-clause-none c =
    λ n names. c.in_default.ensures.none names.at (parts_of_text names.at c.args.text.now names.whole names.written)

pub returns-then-ne-clause-none : goal.returns-then-ne-clause-none
returns-then-ne-clause-none c =
    λ n names.
    let same = same_text c.in-Some.at names.at c.args.text.now c.in-Some.ensures.some (parts_of_text names.at c.args.text.now names.whole names.written) in
    let equal : c.as_slice.result.now ≡ c.args.text.now = c.as_slice.ensures ∙ c.printed.ensures.text ∙ same ∙ sym names.written in
    let alike = (slice_eq-Decides Decides-eqb c.as_slice.result.now c.args.text.now _ refl).1 equal in
    true≢false (sym c.if-ne.true ∙ c.ne.ensures ∙ ap not alike)

pub returns-then-seconds-lt0-clause-none : goal.returns-then-seconds-lt0-clause-none
returns-then-seconds-lt0-clause-none c =
    λ n names.
    let same = same_seconds c.in-Some.at names.at c.args.text.now c.in-Some.ensures.some (parts_of_text names.at c.args.text.now names.whole names.written) in
    let counted : c.to_second-seconds.result ≡ pos n = c.to_second-seconds.ensures.value ∙ same ∙ names.counted in
    omega (arith, signed_arith, counted, c.if-seconds-lt0.true)

pub returns-clause-some : goal.returns-clause-some
returns-clause-some c =
    let seconds = c.to_second-seconds.result in
    let fits : FitsSigned w64 seconds = omega (arith, signed_arith, c.to_second-seconds.type_inv) in
    let same = to_z-of_z w64 seconds fits in
    let below = rw same at c.if-seconds-lt0.false in
    let low : pos 0 ≤ℤ seconds = omega (arith, ints, below) in
    let alike = from_not _ (sym c.if-ne.false ∙ c.ne.ensures) in
    let equal = (slice_eq-Decides Decides-eqb c.as_slice.result.now c.args.text.now _ refl).0 alike in
    record {
      at = c.in-Some.at;
      whole = record { year = omega (arith, signed_arith, c.in-Some.ensures.some.year); second = c.in-Some.ensures.some.whole };
      written = sym equal ∙ c.as_slice.ensures ∙ c.printed.ensures.text;
      counted = sym c.to_second-seconds.ensures.value ∙ abs_pos seconds low ∙ ap (λ (z : ℤ). pos (unsigned_abs z)) (sym same);
    }
