use Rattle.tm_store_records.proofs.Sizing.{held_files}
use Rattle.tm_store_records.proofs.laws.held_files.Goals as goal

pub returns : goal.returns
returns c = held_files c.spellings_are_found.ensures.snapshots c.spellings_are_found.ensures.nodes
