use Rattle.tm_machine.proofs.Measuring.{df_told}
use Rattle.tm_machine.proofs.measures.tell_df.Goals as goal

pub returns : goal.returns
returns c bytes =
    let df = c.df.result in
    df_told c.held_sizes.ensures c.held_is_store.ensures.store c.held_is_store.ensures.lengths c.stored_is_counted.ensures c.args.store.now bytes df.blocks df.free df.nodes df.stored df.snapshots
    c.requires.whole c.requires.unstaged c.df.ensures.blocks c.df.ensures.free c.df.ensures.nodes c.df.ensures.stored c.df.ensures.snapshots c.df_row.result c.df_row.ensures
