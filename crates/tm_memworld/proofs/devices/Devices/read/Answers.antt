use Rattle.std.proofs.Common.{◌∙◌, sym, ap}
use Rattle.tm_world.specs.Disk.{Disk}
use Rattle.tm_memworld.specs.Devices.{contents_of}
use Rattle.tm_memworld.proofs.Going.{no_block}
use Rattle.tm_memworld.proofs.AtSide.{disk-at, block-at}
use Rattle.tm_memworld.proofs.devices.Devices.read.Goals as goal

pub unreachable-requires : goal.unreachable-requires
unreachable-requires c =
    let d = c.args.self.now in
    no_block (contents_of d) d.began d.changes.items c.args.side c.args.block (sym c.site_of.ensures ∙ c.in_default.is) c.requires

pub block-requires : goal.block-requires
block-requires c = block-at c.args.self.now c.args.side c.in-Some.i c.in-Some.ensures c.index.result.now c.index.ensures c.args.block c.requires

pub returns : goal.returns
returns c = c.block.ensures.disk ∙ ap (λ (e : Disk). e.bytes c.args.block) (sym (disk-at c.args.self.now c.args.side c.in-Some.i c.in-Some.ensures c.index.result.now c.index.ensures))
