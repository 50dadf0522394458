use Rattle.std.proofs.Common.{◌≡◌, ◌+◌, ℕ, take}
use Rattle.tm_image.specs.Seen.{HasSameImage, IsSound, staged}
use Rattle.tm_image.specs.Room.{brought_len, free_of}
use Rattle.tm_image.specs.Commit.{brought_by}
use Rattle.tm_image.proofs.image.Image.give_brought.Given as goal

abbrev pub invariant-loop-put : goal.invariant-loop-put
invariant-loop-put l = record {
  staged_are : (b : ℕ) → staged b l.self + brought_by b (take l.put-index l.puts) ≡ staged b l.initial.self;
  free : free_of l.self ≡ free_of l.initial.self + brought_len (take l.put-index l.puts);
  sound : IsSound l.self;
  same : HasSameImage l.initial.self l.self;
}
