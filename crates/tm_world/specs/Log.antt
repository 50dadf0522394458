-- The clock: what was outside at each moment, and how a call moves it on.
use Rattle.std.specs.Prelude.{◌≡◌, ℕ, ◌<◌, ◌≤◌, List, length, take, Result, OnOk}
use Rattle.tm_world.specs.Disk.{Disk, DiffersAt, written}
use Rattle.tm_world.specs.Outside.{Outside, disk, put_disk, spoke}
use Rattle.tm_world.specs.declared.world.Side.{Side}

pub record Log : Type 0 where
  pub moment : ℕ
  pub past : ℕ → Outside

abbrev pub now : Log → Outside
now log = log.past log.moment

-- time goes on, what was stays, and each new moment is such a one
pub record Passes (old new : Log) (Q : Outside → Type 0) : Type 0 where
  pub later : old.moment ≤ new.moment
  pub kept : (k : ℕ) → k ≤ old.moment → new.past k ≡ old.past k
  pub each : (k : ℕ) → old.moment < k → k ≤ new.moment → Q (new.past k)

-- a call after which all is as in `after`, and within which it is as before or so
pub record Steps (old new : Log) (after : Outside) : Type 0 where
  pub passes : Passes old new (λ s. s ≡ after)
  pub ends : now new ≡ after

-- a block is written, or after a failure holds something
pub record Writes {T E : Type 0} (side : Side) (block : ℕ) (bytes : List ℕ) (old new : Log) (result : Result T E) : Type 0 where
  pub left : Disk
  pub differs : DiffersAt block (disk side (now old)) left
  pub ok : OnOk result (left ≡ written block bytes (disk side (now old)))
  pub steps : Steps old new (put_disk side left (now old))

-- so many of the bytes are said, one after another
pub record Says (old new : Log) (bytes : List ℕ) (n : ℕ) : Type 0 where
  pub within : n ≤ length bytes
  pub passes : Passes old new (λ s. (m : ℕ) × (m ≤ n) × (s ≡ spoke (take m bytes) (now old)))
  pub ends : now new ≡ spoke (take n bytes) (now old)
