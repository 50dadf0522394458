-- Where a text lies depends on its own blocks alone.
use Rattle.std.proofs.Common.{◌≡◌, ℕ, ◌<◌, List, get_or, ◌∙◌}
use Rattle.tm_blockmap.specs.Counts.{times}
use Rattle.tm_blockmap.proofs.Counting.{stands}
use Rattle.tm_image.specs.Layout.{Layout, places, LiesAt}

pub LiesAt-same : (layout : Layout) (text : List ℕ) (old new : ℕ → List ℕ) → ((b : ℕ) → 0 < times b (places layout) → new b ≡ old b) → LiesAt layout text old → LiesAt layout text new
LiesAt-same layout text old new same at = record {
  many = at.many;
  lies = record { each = λ k lt. same (get_or layout k 0) (stands layout k lt) ∙ at.lies.each k lt };
}
