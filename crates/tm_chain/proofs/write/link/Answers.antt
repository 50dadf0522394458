use Rattle.tm_chain.proofs.Parts.{link_made}
use Rattle.tm_chain.proofs.write.link.Goals as goal

pub returns : goal.returns
returns c = link_made c.args.text.now c.args.blocks.now _ _ c.lay.new.block c.args.k _ c.next_of.ensures c.to_be_bytes-front.ensures c.part_of_text.ensures.part c.lay.ensures
