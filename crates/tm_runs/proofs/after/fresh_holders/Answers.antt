use Rattle.std.proofs.Common.{◌-◌}
use Rattle.tm_runs.proofs.Going.{slice_paged}
use Rattle.tm_runs.proofs.after.fresh_holders.Goals as goal

pub holders_from-requires-clause-paged : goal.holders_from-requires-clause-paged
holders_from-requires-clause-paged c = slice_paged c.args.pages.now c.args.first c.cut_count-count.result (c.args.cut.end - c.args.cut.start) c.cut_count-count.ensures c.requires.lens
