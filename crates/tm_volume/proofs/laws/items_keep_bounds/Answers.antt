use Rattle.tm_volume.proofs.Bounding.{items_keep_bounds, kept_are_few, kept_is_tree}
use Rattle.tm_volume.proofs.laws.items_keep_bounds.Goals as goal

pub returns-clause-tree : goal.returns-clause-tree
returns-clause-tree c = kept_is_tree c.sound_items_read.ensures

pub returns-clause-few : goal.returns-clause-few
returns-clause-few c = kept_are_few c.sound_items_read.ensures c.counts_are_alike.ensures c.numbers_count.ensures.few

pub returns-clause-bounds : goal.returns-clause-bounds
returns-clause-bounds c = items_keep_bounds c.spellings_are_found.ensures.items c.sound_items_read.ensures
