use Rattle.std.proofs.Common.{◌≡◌, ℕ, ◌<◌, ◌≤◌, cond, ltb, get_or}
use Rattle.tm_memworld.specs.Site.{zero_block}
use Rattle.tm_memworld.proofs.site.blocks.tear_blocks.Given as goal

abbrev pub invariant-loop-i : goal.invariant-loop-i
invariant-loop-i l = record {
  below : (k : ℕ) → k < l.i → get_or l.blocks k zero_block ≡ cond (ltb l.settled (get_or l.times k 0)) l.torn (get_or l.initial.blocks k zero_block);
  above : (k : ℕ) → l.i ≤ k → get_or l.blocks k zero_block ≡ get_or l.initial.blocks k zero_block;
}
