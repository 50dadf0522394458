use Rattle.tm_codec.specs.Fields.{u16_text, u32_text}
use Rattle.tm_codec.specs.Places.{IsTextAt}
use Rattle.std.proofs.Common.{◌+◌}
use Rattle.tm_pages.proofs.Reading.{entry_stands}
use Rattle.tm_pages.proofs.read.entry_at.Goals as goal

pub returns-clause-stands : goal.returns-clause-stands
returns-clause-stands c =
    let block : IsTextAt (u32_text c.unwrap-block.result) c.args.at c.args.directory.now = rw c.unwrap-block.ensures at c.get_u32.ensures.stands in
    let long : IsTextAt (u16_text c.unwrap-length.result) (c.args.at + 4) c.args.directory.now = rw c.unwrap-length.ensures at c.get_u16.ensures.stands in
    entry_stands (record { block = c.unwrap-block.result; length = c.unwrap-length.result }) c.args.at c.args.directory.now block long
