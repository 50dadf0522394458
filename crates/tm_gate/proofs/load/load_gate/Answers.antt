use Rattle.std.proofs.Common.{◌≤◌, sym, ◌∙◌, ap, subst}
use Rattle.tm_world.specs.Outside.{disk}
use Rattle.tm_world.specs.Log.{now}
use Rattle.tm_gate.specs.Selector.{named_by}
use Rattle.tm_gate.proofs.Reading.{unformatted, from_unformatted, bad, from_bad}
use Rattle.tm_gate.proofs.load.load_gate.Goals as goal

pub returns-clause-unformatted : goal.returns-clause-unformatted
returns-clause-unformatted g c told three no_fault named =
    let bytes = (disk c.args.side (now (g.W.World.log c.args.world.now))).bytes in
    let selected = sym (c.named_by-named.ensures.names ∙ ap named_by (c.in_ok-read.ensures.bytes told)) in
    let holds = c.in_ok-read-2.ensures.bytes told ∙ ap (λ s. (disk c.args.side s).bytes c.named_by-named.result) (c.in_ok-read.ensures.steps told).ends in (
      λ is. unformatted bytes c.named_by-named.result c.read-2.new.into selected holds named ((c.read_gate.ensures.unformatted named).0 is),
      λ is. (c.read_gate.ensures.unformatted named).1 (from_unformatted bytes c.named_by-named.result c.read-2.new.into selected holds named is),
    )

pub returns-clause-bad : goal.returns-clause-bad
returns-clause-bad g c told three no_fault place =
    let bytes = (disk c.args.side (now (g.W.World.log c.args.world.now))).bytes in
    let selected = sym (c.named_by-named.ensures.names ∙ ap named_by (c.in_ok-read.ensures.bytes told)) in
    let holds = c.in_ok-read-2.ensures.bytes told ∙ ap (λ s. (disk c.args.side s).bytes c.named_by-named.result) (c.in_ok-read.ensures.steps told).ends in (
      λ is. bad bytes c.named_by-named.result c.read-2.new.into selected holds c.args.side c.args.blocks place ((c.read_gate.ensures.bad place).0 is),
      λ is. (c.read_gate.ensures.bad place).1 (from_bad bytes c.named_by-named.result c.read-2.new.into selected holds c.args.side c.args.blocks place is),
    )

pub returns-clause-named : goal.returns-clause-named
returns-clause-named g c three n is =
    let same = ((c.read_gate.ensures.unformatted n).0 is).0 in
    subst (λ k. (1 ≤ k) × (k ≤ 2)) same c.named_by-named.ensures.within
