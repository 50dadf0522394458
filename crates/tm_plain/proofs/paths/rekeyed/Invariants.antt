use Rattle.std.proofs.Common.{◌≡◌, ◌++◌, length, take, drop}
use Rattle.tm_plain.proofs.paths.rekeyed.Given as goal

abbrev pub invariant-loop-name : goal.invariant-loop-name
invariant-loop-name l = l.moved ≡ l.to ++ take l.name-index (drop (length l.from) l.path)
