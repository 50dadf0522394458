use Rattle.std.proofs.Common.{sym}
use Rattle.tm_snapshot.proofs.records.meta_of.Goals as goal

pub node_meta-requires : goal.node_meta-requires
node_meta-requires c = c.requires.rules c.args.number c.in-Some.row.now (sym c.in-Some.ensures.found)
