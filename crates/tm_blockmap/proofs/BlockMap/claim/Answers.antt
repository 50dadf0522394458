use Rattle.std.proofs.Common.{◌≡◌, ◌%◌, ◌∙◌, ap, sym, refl, arith, get_or}
use Rattle.std.specs.Int.{bit_at}
use Rattle.std.proofs.Math.ListN.{set}
use Rattle.std.proofs.lemmas.List.{length-set, set-get_or}
use Rattle.std.proofs.lemmas.Nat.Bits.{shr_and_one, bit_at-lt}
use Rattle.tm_blockmap.proofs.Bits.{in_count, word_within, mark_is, whole_after, some_free, marks-claimed, mark_was, kept_full, past_hint}
use Rattle.tm_blockmap.proofs.BlockMap.claim.Goals as goal

pub index-word-requires : goal.index-word-requires
index-word-requires c = omega (arith, c.self.invariant.enough, in_count c.self.inside _ _ c.self.view_is c.requires)

the_mark : (c : goal.Then-word-bit-eq1) → get_or c.args.self.now c.args.block 0 ≡ 1
the_mark c =
    let lt = in_count c.self.inside _ _ c.self.view_is c.requires in
    let enough = word_within c.self.inside c.self.inside c.self.invariant c.args.block 1 lt in
    sym (ap (λ ms. get_or ms c.args.block 0) c.self.view_is) ∙ mark_is c.self.inside c.self.inside c.self.invariant c.args.block 1 lt
    ∙ mark_was c.self.inside.count _ c.args.block _ _ _ refl refl lt enough c.index-word.ensures ∙ sym (shr_and_one _ _) ∙ c.if-word-bit-eq1.true

pub returns-then-word-bit-eq1-clause-was_free : goal.returns-then-word-bit-eq1-clause-was_free
returns-then-word-bit-eq1-clause-was_free c = (λ h. cc, λ e. absurd (omega (arith, the_mark c)))

pub returns-then-word-bit-eq1-clause-used : goal.returns-then-word-bit-eq1-clause-used
returns-then-word-bit-eq1-clause-used c =
    sym (ap (λ x. set c.args.self.now c.args.block x) (sym (the_mark c)) ∙ set-get_or c.args.self.now c.args.block 0)

pub index_mut-requires : goal.index_mut-requires
index_mut-requires c = omega (arith, c.self.invariant.enough, in_count c.self.inside _ _ c.self.view_is c.requires)

pub overflow_sub-self : goal.overflow_sub-self
overflow_sub-self c =
    let lt = in_count c.self.inside _ _ c.self.view_is c.requires in
    let enough = word_within c.self.inside c.self.inside c.self.invariant c.args.block 1 lt in
    let free : bit_at c.index-word.result.now (c.args.block % 64) ≡ 0 = omega (arith, shr_and_one c.index-word.result.now (c.args.block % 64), c.if-word-bit-eq1.false, bit_at-lt c.index-word.result.now (c.args.block % 64)) in
    some_free c.self.inside c.self.invariant c.args.block lt (mark_was c.self.inside.count _ c.args.block _ _ _ refl refl lt enough c.index-word.ensures ∙ free)

pub invariant_of-self : goal.invariant_of-self
invariant_of-self c =
    let lt = in_count c.self.inside _ _ c.self.view_is c.requires in
    let enough = word_within c.self.inside c.self.inside c.self.invariant c.args.block 1 lt in
    let free : bit_at c.index-word.result.now (c.args.block % 64) ≡ 0 = omega (arith, shr_and_one c.index-word.result.now (c.args.block % 64), c.if-word-bit-eq1.false, bit_at-lt c.index-word.result.now (c.args.block % 64)) in
    let was = mark_was c.self.inside.count c.self.inside.words.items c.args.block _ _ _ refl refl lt enough c.index-word.ensures in
    whole_after c.self.inside _ c.self.invariant c.args.block 1 lt refl (length-set _ _ _)
    (marks-claimed c.self.inside.count c.self.inside.words.items c.args.block _ _ _ refl refl lt enough c.index-word.ensures)
    (omega (arith, was, some_free c.self.inside c.self.invariant c.args.block lt (was ∙ free)))
    c.self.invariant.hint
    (kept_full c.self.inside.words.items _ _ _ (past_hint c.self.inside c.self.invariant c.args.block (was ∙ free)) c.self.invariant.full)

pub returns-clause-was_free : goal.returns-clause-was_free
returns-clause-was_free c =
    let lt = in_count c.self.inside _ _ c.self.view_is c.requires in
    let enough = word_within c.self.inside c.self.inside c.self.invariant c.args.block 1 lt in
    let free : bit_at c.index-word.result.now (c.args.block % 64) ≡ 0 = omega (arith, shr_and_one c.index-word.result.now (c.args.block % 64), c.if-word-bit-eq1.false, bit_at-lt c.index-word.result.now (c.args.block % 64)) in (
      λ h. sym (ap (λ ms. get_or ms c.args.block 0) c.self.view_is) ∙ mark_is c.self.inside c.self.inside c.self.invariant c.args.block 1 lt
          ∙ mark_was c.self.inside.count _ c.args.block _ _ _ refl refl lt enough c.index-word.ensures ∙ free,
      λ e. refl,
    )

pub returns-clause-used : goal.returns-clause-used
returns-clause-used c =
    let lt = in_count c.self.inside _ _ c.self.view_is c.requires in
    let enough = word_within c.self.inside c.self.inside c.self.invariant c.args.block 1 lt in
    marks-claimed c.self.inside.count c.self.inside.words.items c.args.block _ _ _ refl refl lt enough c.index-word.ensures ∙ ap (λ ms. set ms c.args.block 1) c.self.view_is
