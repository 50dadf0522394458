-- Reading and writing at a place of a file, as far as the file tells its place and its bytes.
use Rattle.std.specs.Prelude.{◌≡◌, ℕ, List, Option, Some, None, IfSome}
use Rattle.std.specs.Io.KnownBytes.{Appends, Consumes}

-- the file is moved to this byte of it, and then read: these are the bytes that it gives
pub record ReadsAt {F : Type 0} (place : F → Option ℕ) (left : F → Option (List ℕ)) (byte : ℕ) (bytes : List ℕ) (old new : F) : Type 0 where
  pub moved : F
  pub there : IfSome (place old) (λ _. place moved ≡ Some byte)
  pub gives : Consumes (left moved) (left new) bytes

-- the file is moved to this byte of it, and then these bytes are written
pub record WritesAt {F : Type 0} (place : F → Option ℕ) (held : F → Option (List ℕ)) (byte : ℕ) (bytes : List ℕ) (old new : F) : Type 0 where
  pub moved : F
  pub there : IfSome (place old) (λ _. place moved ≡ Some byte)
  pub takes : Appends (held moved) (held new) bytes

-- there is a file before and after, and this holds of the two
abbrev pub OnFile : {F : Type 0} → (F → F → Type 0) → Option F → Option F → Type 0
OnFile P None new = ⊥
OnFile P (Some old) None = ⊥
OnFile P (Some old) (Some new) = P old new
