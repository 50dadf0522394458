-- Which snapshots stay when a list of them is thinned at a moment. Their dates rise.
use Rattle.std.specs.Prelude.{◌≡◌, ℕ, ◌+◌, ◌<◌, Bool, true, false, not, ◌||◌, ◌==◌, nat_lt, List, length, slice_index, take}
use Rattle.std.specs.List.{list_any}
use Rattle.tm_thin.specs.Buckets.{bucket_of, same_bucket}

-- whether an earlier snapshot has the bucket of the one at this place
abbrev pub has_earlier : List ℕ → ℕ → ℕ → Bool
has_earlier dates at moment =
    list_any (λ date. same_bucket (bucket_of date moment) (bucket_of (slice_index dates at) moment)) (take at dates)

-- whether the snapshot at this place stays: the last one does, one that is later than the moment, and the first of each bucket
abbrev pub stays : List ℕ → ℕ → ℕ → Bool
stays dates at moment = (at + 1 == length dates) || nat_lt moment (slice_index dates at) || not (has_earlier dates at moment)

-- an earlier snapshot that stays has the bucket of the one at this place
pub record StaysFor (dates : List ℕ) (at moment : ℕ) : Type 0 where
  pub place : ℕ
  pub earlier : place < at
  pub stays_there : stays dates place moment ≡ true
  pub same : bucket_of (slice_index dates place) moment ≡ bucket_of (slice_index dates at) moment

-- of the bucket of each snapshot that goes an earlier one stays
abbrev pub BucketsKeepOne : Type 0
BucketsKeepOne = (dates : List ℕ) (at moment : ℕ) → at < length dates → stays dates at moment ≡ false → StaysFor dates at moment
