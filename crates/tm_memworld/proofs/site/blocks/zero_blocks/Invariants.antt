use Rattle.std.proofs.Common.{◌≡◌, replicate}
use Rattle.tm_memworld.specs.Site.{zero_block}
use Rattle.tm_memworld.proofs.site.blocks.zero_blocks.Given as goal

abbrev pub invariant-loop-i : goal.invariant-loop-i
invariant-loop-i l = l.blocks.items ≡ replicate l._i zero_block
