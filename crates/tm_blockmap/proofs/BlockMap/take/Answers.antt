use Rattle.std.proofs.Common.{◌≡◌, ◌<◌, ◌+◌, ◌/◌, ◌*◌, ◌∙◌, ap, sym, length, refl, arith, get_or}
use Rattle.std.proofs.Math.ListN.{set}
use Rattle.std.proofs.lemmas.List.{length-set}
use Rattle.tm_blockmap.proofs.Bits.{in_count, whole_after, some_free, marks-claimed, kept_full, full_so_far, full_word, word_is, quotient, remainder, found_free, below_used, seen_mark, length-marks_of}
use Rattle.tm_blockmap.proofs.BlockMap.take.Goals as goal

pub returns-then-at-len-clause-full : goal.returns-then-at-len-clause-full
returns-then-at-len-clause-full c =
    let full = full_so_far c.self.inside c.self.invariant _ (λ w from lt. ap (λ ws. get_or ws w 0) (sym c.deref.ensures.value) ∙ c.first_open-at.ensures.full w from lt) in
    λ b lt. let within = in_count c.self.inside _ b c.self.view_is lt in
    seen_mark c.self.inside _ c.self.view_is b within ∙ full_word c.self.inside.words.items b (full (b / 64) (omega (arith, c.self.invariant.enough)))

pub returns-then-block-self-clause-full : goal.returns-then-block-self-clause-full
returns-then-block-self-clause-full c =
    let full = full_so_far c.self.inside c.self.invariant _ (λ w from lt. ap (λ ws. get_or ws w 0) (sym c.deref.ensures.value) ∙ c.first_open-at.ensures.full w from lt) in
    let enough : c.first_open-at.result < length c.self.inside.words.items = omega arith in
    λ b lt. let within = in_count c.self.inside _ b c.self.view_is lt in
    seen_mark c.self.inside _ c.self.view_is b within ∙ below_used c.self.inside c.self.invariant c.first_open-at.result c.index-word.result.now c.lowest_zero-bit.result enough c.index-word.ensures full c.lowest_zero-bit.ensures.within c.lowest_zero-bit.ensures.free c.lowest_zero-bit.ensures.below b (omega arith)

pub lowest_zero-bit-requires : goal.lowest_zero-bit-requires
lowest_zero-bit-requires c = λ e. c.first_open-at.ensures.open (omega arith) (ap (λ ws. get_or ws c.first_open-at.result 0) c.deref.ensures.value ∙ sym (word_is c.self.inside.words.items _ _ (omega arith) c.index-word.ensures) ∙ e)

pub overflow_sub-self : goal.overflow_sub-self
overflow_sub-self c =
    let full = full_so_far c.self.inside c.self.invariant _ (λ w from lt. ap (λ ws. get_or ws w 0) (sym c.deref.ensures.value) ∙ c.first_open-at.ensures.full w from lt) in
    let enough : c.first_open-at.result < length c.self.inside.words.items = omega arith in
    some_free c.self.inside c.self.invariant _ c.if-block-self.false (found_free c.self.inside c.self.invariant c.first_open-at.result c.index-word.result.now c.lowest_zero-bit.result enough c.index-word.ensures full c.lowest_zero-bit.ensures.within c.lowest_zero-bit.ensures.free c.lowest_zero-bit.ensures.below c.if-block-self.false)

pub invariant_of-self : goal.invariant_of-self
invariant_of-self c =
    let full = full_so_far c.self.inside c.self.invariant _ (λ w from lt. ap (λ ws. get_or ws w 0) (sym c.deref.ensures.value) ∙ c.first_open-at.ensures.full w from lt) in
    let enough : c.first_open-at.result < length c.self.inside.words.items = omega arith in
    let free = found_free c.self.inside c.self.invariant c.first_open-at.result c.index-word.result.now c.lowest_zero-bit.result enough c.index-word.ensures full c.lowest_zero-bit.ensures.within c.lowest_zero-bit.ensures.free c.lowest_zero-bit.ensures.below c.if-block-self.false in
    whole_after c.self.inside _ c.self.invariant (c.first_open-at.result * 64 + c.lowest_zero-bit.result) 1 c.if-block-self.false refl (length-set _ _ _)
    (marks-claimed c.self.inside.count c.self.inside.words.items _ _ _ _ (quotient c.self.inside c.self.invariant c.first_open-at.result c.index-word.result.now c.lowest_zero-bit.result enough c.index-word.ensures full c.lowest_zero-bit.ensures.within c.lowest_zero-bit.ensures.free c.lowest_zero-bit.ensures.below) (remainder c.self.inside c.self.invariant c.first_open-at.result c.index-word.result.now c.lowest_zero-bit.result enough c.index-word.ensures full c.lowest_zero-bit.ensures.within c.lowest_zero-bit.ensures.free c.lowest_zero-bit.ensures.below) c.if-block-self.false enough c.index-word.ensures)
    (omega (arith, free, some_free c.self.inside c.self.invariant _ c.if-block-self.false free))
    (omega arith)
    (kept_full c.self.inside.words.items _ _ _ (omega arith) full)

pub returns-clause-lowest : goal.returns-clause-lowest
returns-clause-lowest c =
    let full = full_so_far c.self.inside c.self.invariant _ (λ w from lt. ap (λ ws. get_or ws w 0) (sym c.deref.ensures.value) ∙ c.first_open-at.ensures.full w from lt) in
    let enough : c.first_open-at.result < length c.self.inside.words.items = omega arith in
    let free = found_free c.self.inside c.self.invariant c.first_open-at.result c.index-word.result.now c.lowest_zero-bit.result enough c.index-word.ensures full c.lowest_zero-bit.ensures.within c.lowest_zero-bit.ensures.free c.lowest_zero-bit.ensures.below c.if-block-self.false in
    let len : length c.args.self.now ≡ c.self.inside.count = ap length (sym c.self.view_is) ∙ length-marks_of c.self.inside.count c.self.inside.words.items in
    record {
      within = omega (arith, len);
      free = seen_mark c.self.inside _ c.self.view_is _ c.if-block-self.false ∙ free;
      below = λ b lt. seen_mark c.self.inside _ c.self.view_is b (omega arith) ∙ below_used c.self.inside c.self.invariant c.first_open-at.result c.index-word.result.now c.lowest_zero-bit.result enough c.index-word.ensures full c.lowest_zero-bit.ensures.within c.lowest_zero-bit.ensures.free c.lowest_zero-bit.ensures.below b lt;
    }

pub returns-clause-used : goal.returns-clause-used
returns-clause-used c =
    let full = full_so_far c.self.inside c.self.invariant _ (λ w from lt. ap (λ ws. get_or ws w 0) (sym c.deref.ensures.value) ∙ c.first_open-at.ensures.full w from lt) in
    let enough : c.first_open-at.result < length c.self.inside.words.items = omega arith in
    marks-claimed c.self.inside.count c.self.inside.words.items _ _ _ _ (quotient c.self.inside c.self.invariant c.first_open-at.result c.index-word.result.now c.lowest_zero-bit.result enough c.index-word.ensures full c.lowest_zero-bit.ensures.within c.lowest_zero-bit.ensures.free c.lowest_zero-bit.ensures.below) (remainder c.self.inside c.self.invariant c.first_open-at.result c.index-word.result.now c.lowest_zero-bit.result enough c.index-word.ensures full c.lowest_zero-bit.ensures.within c.lowest_zero-bit.ensures.free c.lowest_zero-bit.ensures.below) c.if-block-self.false enough c.index-word.ensures ∙ ap (λ ms. set ms (c.first_open-at.result * 64 + c.lowest_zero-bit.result) 1) c.self.view_is
