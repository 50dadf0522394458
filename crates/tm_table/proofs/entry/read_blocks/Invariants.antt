use Rattle.std.proofs.Common.{◌≡◌, ◌≤◌, ◌<◌, length, vec_capacity}
use Rattle.std.specs.List.{All}
use Rattle.tm_codec.specs.Places.{IsTextAt}
use Rattle.tm_table.specs.Text.{numbers}
use Rattle.tm_table.proofs.entry.read_blocks.Given as goal

abbrev pub invariant-loop-i : goal.invariant-loop-i
invariant-loop-i l = record {
  many : length l.blocks.items ≡ l.i;
  stand : IsTextAt (numbers l.blocks.items) l.at l.text;
  each : All (λ b. (3 ≤ b) × (b < l.total)) l.blocks.items;
  room : l.count ≤ vec_capacity l.blocks;
}
