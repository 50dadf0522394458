use Rattle.std.proofs.Common.{◌≡◌, ◌<◌, ◌∙◌, ap, sym, refl, arith, get_or}
use Rattle.std.proofs.Math.ListN.{set}
use Rattle.std.proofs.lemmas.List.{length-set}
use Rattle.tm_blockmap.specs.Words.{mark_in}
use Rattle.tm_blockmap.proofs.Bits.{word_within, mark_is, whole_after, marks-given, marked_within, kept_full}
use Rattle.tm_blockmap.proofs.BlockMap.give.Goals as goal

pub index_mut-requires : goal.index_mut-requires
index_mut-requires c =
    let lt : c.args.block < c.self.inside.count = marked_within c.self.inside.count c.self.inside.words.items c.args.block (ap (λ ms. get_or ms c.args.block 0) c.self.view_is ∙ c.requires) in
    omega (arith, c.self.invariant.enough)

pub invariant_of-self : goal.invariant_of-self
invariant_of-self c =
    let seen = ap (λ ms. get_or ms c.args.block 0) c.self.view_is ∙ c.requires in
    let lt : c.args.block < c.self.inside.count = marked_within c.self.inside.count c.self.inside.words.items c.args.block seen in
    let enough = word_within c.self.inside c.self.inside c.self.invariant c.args.block 0 lt in
    let was : mark_in c.self.inside.words.items c.args.block ≡ 1 = sym (mark_is c.self.inside c.self.inside c.self.invariant c.args.block 0 lt) ∙ seen in
    whole_after c.self.inside _ c.self.invariant c.args.block 0 lt refl (length-set _ _ _)
    (marks-given c.self.inside.count c.self.inside.words.items c.args.block _ _ _ refl refl lt enough c.index_mut.ensures.value)
    (omega (arith, was))
    (omega (arith, c.self.invariant.hint, c.min-self-inside.ensures))
    (kept_full c.self.inside.words.items _ _ _ (omega (arith, c.min-self-inside.ensures)) (λ w below. c.self.invariant.full w (omega (arith, c.min-self-inside.ensures))))

pub returns : goal.returns
returns c =
    let seen = ap (λ ms. get_or ms c.args.block 0) c.self.view_is ∙ c.requires in
    let lt : c.args.block < c.self.inside.count = marked_within c.self.inside.count c.self.inside.words.items c.args.block seen in
    let enough = word_within c.self.inside c.self.inside c.self.invariant c.args.block 0 lt in
    marks-given c.self.inside.count c.self.inside.words.items c.args.block _ _ _ refl refl lt enough c.index_mut.ensures.value ∙ ap (λ ms. set ms c.args.block 0) c.self.view_is
