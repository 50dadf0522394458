use Rattle.tm_store_records.proofs.Sizing.{held_sizes}
use Rattle.tm_store_records.proofs.laws.held_sizes.Goals as goal

pub returns : goal.returns
returns c =
    held_sizes c.held_is_store.ensures.store c.held_is_store.ensures.lengths c.table_is_told.ensures c.data_is_told.ensures c.sizes_are_told.ensures
    c.blocks_are_shared.ensures.table c.blocks_are_shared.ensures.shared
