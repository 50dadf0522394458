use Rattle.std.proofs.Common.{◌≡◌, ℕ, ◌+◌, ◌-◌, ◌<◌, ◌≤◌, ◌^◌, ◌&&◌, List, leb, false, take, drop, ◌∙◌, ap, subst, arith}
use Rattle.std.proofs.lemmas.Bool.Decides.{nat_tests}
use Rattle.tm_gate.specs.Fields.{number, is_kept}
use Rattle.tm_gate.proofs.field.Field.is_kept.Goals as goal

above_least : (least most value n : ℕ) → value ≡ n → least ≤ value → leb value most ≡ (leb least n && leb n most)
above_least least most value n is above = grind (arith, nat_tests)

below_least : (least most value n : ℕ) → value ≡ n → value < least → leb least value ≡ (leb least n && leb n most)
below_least least most value n is below = grind (arith, nat_tests)

too_great : (least most n : ℕ) → (n < 2 ^ 64 → ⊥) → most < 2 ^ 64 → false ≡ (leb least n && leb n most)
too_great least most n great fits = grind (arith, nat_tests)

-- the part that is read, as `is_kept` says it
part_is : (at size : ℕ) (slot : List ℕ) → number (take (at + size - at) (drop at slot)) ≡ number (take size (drop at slot))
part_is at size slot = ap (λ k. number (take k (drop at slot))) (omega arith)

pub returns-then-self-value : goal.returns-then-self-value
unfolding is_kept
returns-then-self-value c =
    let f = c.self.inside in
    subst (λ r. leb c.in-Some.value f.most ≡ is_kept c.args.slot.now r) c.self.view_is
    (above_least f.least f.most c.in-Some.value _ (c.in-Some.ensures.1 ∙ part_is f.at f.size c.args.slot.now) c.if-self-value.true)

pub returns-else-self-value : goal.returns-else-self-value
unfolding is_kept
returns-else-self-value c =
    let f = c.self.inside in
    subst (λ r. leb f.least c.in-Some.value ≡ is_kept c.args.slot.now r) c.self.view_is
    (below_least f.least f.most c.in-Some.value _ (c.in-Some.ensures.1 ∙ part_is f.at f.size c.args.slot.now) c.if-self-value.false)

pub returns-in-None : goal.returns-in-None
unfolding is_kept
returns-in-None c =
    let f = c.self.inside in
    subst (λ r. false ≡ is_kept c.args.slot.now r) c.self.view_is
    (too_great f.least f.most _ (λ small. c.in-None.ensures (omega (arith, small, part_is f.at f.size c.args.slot.now))) (omega arith))
