-- What blocks that are counted say of marks.
use Rattle.std.specs.Prelude.{◌≡◌, ◌≤◌, ℕ, List, length, slice_index, sum}
use Rattle.tm_blockmap.specs.Counts.{times}

-- blocks that stand as often as they are marked are as many as the marks
abbrev pub CountIsSum : Type 0
CountIsSum = (blocks marks : List ℕ) → ((b : ℕ) → times b blocks ≡ slice_index marks b) → length blocks ≡ sum marks

-- blocks that stand no more often than they are marked are no more than the marks
abbrev pub CountIsAtMostSum : Type 0
CountIsAtMostSum = (blocks marks : List ℕ) → ((b : ℕ) → times b blocks ≤ slice_index marks b) → length blocks ≤ sum marks
