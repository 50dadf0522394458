use Rattle.tm_items.specs.Computed.{items_of, tree_of}
use Rattle.tm_items.proofs.Reading.{tree_reads, is_tree}
use Rattle.tm_items.proofs.laws.sound_items_read.Goals as goal

pub returns : goal.returns
returns c placings sorted sound =
    let reads = tree_reads placings sorted sound in
    (reads, is_tree (items_of placings) (tree_of placings) sound reads)
