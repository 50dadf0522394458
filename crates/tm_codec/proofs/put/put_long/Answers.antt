use Rattle.tm_codec.proofs.Fields.{long_added}
use Rattle.tm_codec.proofs.put.put_long.Goals as goal

pub returns-clause-ok : goal.returns-clause-ok
returns-clause-ok c = long_added c.args.out.now.items c.args.part.now _ _ _ _ c.requires c.to_be_bytes.ensures c.in_ok-reserve.ensures.items c.in_ok-extend_from_slice.ensures.items c.in_ok-extend_from_slice-2.ensures.items
