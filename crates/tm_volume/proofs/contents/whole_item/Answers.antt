use Rattle.tm_volume.proofs.Gathering.{file_count, file_item}
use Rattle.tm_volume.proofs.contents.whole_item.Goals as goal

pub read_data-requires-clause-count : goal.read_data-requires-clause-count
read_data-requires-clause-count g c = file_count c.args.image.now.records c.total.ensures.sound.rising c.args.number c.args.row c.requires.row
    c.in-Leaf-File.field-0 c.in-Leaf-File.attrs c.in-Leaf-File.stamp c.in-Leaf-File.length c.in-Leaf-File.is c.in-Leaf-File.field-0-is

pub returns-in-Leaf-File-clause-item : goal.returns-in-Leaf-File-clause-item
returns-in-Leaf-File-clause-item g c told = file_item c.args.image.now.records c.total.ensures.sound.rising c.args.number c.args.row c.requires.row
    c.in-Leaf-File.field-0 c.in-Leaf-File.attrs c.in-Leaf-File.stamp c.in-Leaf-File.length c.in-Leaf-File.is c.in-Leaf-File.field-0-is _ _
    (c.in_ok-read_data-in-Leaf-File.ensures.«data» told)
