-- What blocks hold.
use Rattle.std.specs.Prelude.{◌≡◌, ◌<◌, ℕ, List, slice_index}

-- the first n of these blocks hold these parts
pub record HoldsUpTo (n : ℕ) (blocks : List ℕ) (part : ℕ → List ℕ) (bytes : ℕ → List ℕ) : Type 0 where
  pub each : (k : ℕ) → k < n → bytes (slice_index blocks k) ≡ part k
