use Rattle.std.proofs.Common.{◌≡◌, ◌+◌, take}
use Rattle.tm_records.specs.Removes.{without}
use Rattle.tm_image.specs.Reads.{data_len}
use Rattle.tm_image.proofs.prepare.count_removed.Given as goal

abbrev pub invariant-loop-key : goal.invariant-loop-key
invariant-loop-key l = l.count + data_len (without (take l.key-index l.keys) l.records.entries) ≡ data_len l.records.entries
