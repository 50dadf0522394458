use Rattle.std.proofs.Common.{◌≡◌, ◌++◌, take}
use Rattle.tm_table.specs.Text.{numbers}
use Rattle.tm_table.proofs.encoding.push_numbers.Given as goal

abbrev pub invariant-loop-block : goal.invariant-loop-block
invariant-loop-block l = l.out.items ≡ l.initial.out.items ++ numbers (take l.block-index l.blocks)
