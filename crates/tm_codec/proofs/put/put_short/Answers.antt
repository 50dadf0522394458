use Rattle.tm_codec.proofs.Fields.{short_added}
use Rattle.tm_codec.proofs.put.put_short.Goals as goal

pub returns-clause-ok : goal.returns-clause-ok
returns-clause-ok c = short_added c.args.out.now.items c.args.part.now _ _ _ c.requires c.in_ok-reserve.ensures.items c.in_ok-push.ensures.items c.in_ok-extend_from_slice.ensures.items
