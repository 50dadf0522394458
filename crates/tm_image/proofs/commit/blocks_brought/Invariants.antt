use Rattle.std.proofs.Common.{◌≡◌, ℕ, length, take}
use Rattle.tm_blockmap.specs.Counts.{times}
use Rattle.tm_image.specs.Room.{brought_len}
use Rattle.tm_image.specs.Commit.{brought_by}
use Rattle.tm_image.proofs.commit.blocks_brought.Given as goal

abbrev pub invariant-loop-put : goal.invariant-loop-put
invariant-loop-put l = record {
  each : (b : ℕ) → times b l.blocks.items ≡ brought_by b (take l.put-index l.puts);
  many : length l.blocks.items ≡ brought_len (take l.put-index l.puts);
}
