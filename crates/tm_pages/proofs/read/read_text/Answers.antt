use Rattle.std.proofs.Common.{rules, arith, ◌≡◌, ◌∙◌, ◌++◌, ℕ, List, length, take, get_or, ◌≤◌, sym, ap, refl}
use Rattle.tm_world.specs.Outside.{disk}
use Rattle.tm_world.specs.Log.{now}
use Rattle.tm_world.proofs.Going.{Steps-none, Steps-then}
use Rattle.tm_pages.specs.declared.page.Page.{Page}
use Rattle.tm_pages.specs.Paged.{text_on}
use Rattle.tm_pages.proofs.Texts.{text-none}
use Rattle.tm_pages.proofs.Reading.{text_more, long_more}
use Rattle.tm_pages.proofs.read.read_text.Goals as goal

pub loop-page-init : goal.loop-page-init
loop-page-init g c = record {
  text = λ told. c.new-text.ensures.items ∙ sym (text-none _);
  long = omega (arith, ap length c.new-text.ensures.items);
  steps = λ told. Steps-none _;
  blocks = refl;
  faults = λ p. omega arith;
}

pub loop-page-preserved : goal.loop-page-preserved
loop-page-preserved g c =
    let nought : Page = record { block = 0; length = 0 } in
    let page : Page = get_or c.args.pages.now c.loop-page.page-index nought in
    let fits : page.length ≤ length c.read.new.into = search rules in
    let made : c.extend_from_slice.new.self.items ≡ c.loop-page.text.items ++ take page.length c.read.new.into = search rules in
    record {
      text = λ told.
          let bytes : ℕ → List ℕ = (disk c.args.side (now (g.W.World.log c.args.world.now))).bytes in
          let block : c.read.new.into ≡ bytes page.block = c.in_ok-read.ensures.bytes told ∙ ap (λ o. (disk c.args.side o).bytes page.block) (c.loop-page.invariant.steps told).ends in
          made ∙ ap (λ t. t ++ take page.length c.read.new.into) (c.loop-page.invariant.text told) ∙ ap (λ t. text_on (take c.loop-page.page-index c.args.pages.now) bytes ++ take page.length t) block
          ∙ sym (text_more c.args.pages.now bytes c.loop-page.page-index nought c.loop-page-test.true);
      long = long_more c.args.pages.now c.loop-page.page-index nought c.loop-page-test.true c.loop-page.text.items c.read.new.into c.extend_from_slice.new.self.items c.loop-page.invariant.long made fits;
      steps = λ told. Steps-then _ _ _ (c.loop-page.invariant.steps told) (c.in_ok-read.ensures.steps told);
      blocks = c.read.ensures.blocks ∙ c.loop-page.invariant.blocks;
      faults = λ p. omega (arith, c.loop-page.invariant.faults p, c.read.ensures.never_less p);
    }
