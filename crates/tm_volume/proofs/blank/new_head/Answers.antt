use Rattle.std.proofs.Common.{sym, subst}
use Rattle.tm_nodes.specs.Headers.{IsVolumeHead}
use Rattle.tm_volume.proofs.Blanking.{head_rules}
use Rattle.tm_volume.proofs.blank.new_head.Goals as goal

pub returns-clause-rules : goal.returns-clause-rules
returns-clause-rules c =
    subst (λ name. IsVolumeHead (record { id = c.args.id; capacity = c.args.events; name = name })) (sym c.in_ok-clone.ensures.cases)
    (head_rules c.args.name.now c.args.id c.args.events c.as_bytes.ensures.name c.ranges.id.fits c.ranges.events.fits)
