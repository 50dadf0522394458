-- Which roots an image may have.
use Rattle.std.specs.Prelude.{◌≡◌, ℕ, ◌+◌, ◌%◌, ◌^◌, ◌<◌, ◌≤◌, ◌-◌, ◌*◌}
use Rattle.tm_world.specs.declared.world.Side.{Side}
use Rattle.tm_gate.specs.declared.root.Root.{Root}
use Rattle.tm_gate.specs.Tag.{IsTag}
use Rattle.tm_gate.specs.Fields.{kind_of}

-- the root of an image of so many blocks: its fields are within their bounds
pub record IsRoot (side : Side) (blocks : ℕ) (root : Root) : Type 0 where
  pub kind : root.kind ≡ kind_of side
  pub version : root.version ≡ 1
  pub first_least : 3 ≤ root.first
  pub first_most : root.first < blocks
  pub length_least : 1 ≤ root.table_len
  pub length_most : root.table_len ≤ 4092 * (blocks - 3)
  pub tag : IsTag side root.tag

-- a root as it is written over an old one: its sequence is one more than the old, wrapping
abbrev pub after_root : Root → Root → Root
after_root old root = record root { sequence = (old.sequence + 1) % 2 ^ 64 }
