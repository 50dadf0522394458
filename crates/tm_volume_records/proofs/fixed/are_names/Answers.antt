use Rattle.std.proofs.lemmas.List.Elements.{AllWithin-more, at_read}
use Rattle.tm_base.specs.IsName.{IsName}
use Rattle.tm_volume_records.proofs.fixed.are_names.Goals as goal
use Rattle.tm_nodes.proofs.Fields.{name_had}

pub loop-name-preserved : goal.loop-name-preserved
loop-name-preserved c =
    AllWithin-more IsName c.args.names.now 0 c.loop-name.name-index c.loop-name.invariant
    (at_read c.args.names.now IsName c.loop-name.name-index c.name-item.result c.loop-name-test.true c.name-item.is (name_had c.name-item.result c.as_bytes.ensures.name))
