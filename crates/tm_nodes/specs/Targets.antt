-- Where a symbolic link points to.
use Rattle.std.specs.Prelude.{◌≢◌, ℕ, ◌≤◌, List, length, All, IsUtf8}
use Rattle.tm_base.specs.Limits.{max_target_bytes}

-- 1 to 1,023 bytes of UTF-8 without NUL
pub record IsTarget (bytes : List ℕ) : Type 0 where
  pub some : 1 ≤ length bytes
  pub short : length bytes ≤ max_target_bytes
  pub text : IsUtf8 bytes
  pub plain : All (λ b. b ≢ 0) bytes
