use Rattle.std.proofs.Common.{arith, ap, sym, ◌∙◌}
use Rattle.tm_tree.specs.States.{VolumeState}
use Rattle.tm_tree.proofs.Passes.{numbers_left}
use Rattle.tm_plain.proofs.volume.Volume.change.Goals as goal

pub draw-requires : goal.draw-requires
draw-requires c =
    let left = numbers_left c.args.self.now.contents c.args.change.now c.args.moment (sym c.in_ok-why.ensures ∙ c.in_default.is) in
    omega (arith, left, ap (λ (v : VolumeState). v.contents.next) c.in_ok-make.ensures.ok, c.numbers-count.ensures)
