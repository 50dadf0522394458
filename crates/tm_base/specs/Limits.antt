-- The bounds of an image, a volume, a store and a script, each said once; the last moment is in `Days`. Code has them in
-- `limits`.
use Rattle.std.specs.Prelude.{ℕ}

-- ---- images

-- blocks of an image
abbrev pub max_blocks : ℕ
max_blocks = 262_144

-- blocks of an image that can be formatted
abbrev pub min_blocks : ℕ
min_blocks = 8

-- bytes of a block
abbrev pub block_bytes : ℕ
block_bytes = 4_096

-- ---- volumes

-- items of a volume, the root counted
abbrev pub max_items : ℕ
max_items = 65_536

-- bytes of a file
abbrev pub max_file_bytes : ℕ
max_file_bytes = 16_777_216

-- bytes of a link's target
abbrev pub max_target_bytes : ℕ
max_target_bytes = 1_023

-- extras of an item
abbrev pub max_extras : ℕ
max_extras = 16

-- bytes of an extra's value
abbrev pub max_value_bytes : ℕ
max_value_bytes = 4_096

-- fixed paths of a volume
abbrev pub max_fixed : ℕ
max_fixed = 256

-- names of a path
abbrev pub max_names : ℕ
max_names = 64

-- bytes of a name
abbrev pub max_name_bytes : ℕ
max_name_bytes = 255

-- events that a volume's journal keeps
abbrev pub max_events : ℕ
max_events = 65_536

-- ---- stores

-- snapshots of a store
abbrev pub max_snapshots : ℕ
max_snapshots = 1_024

-- nodes of a store
abbrev pub max_nodes : ℕ
max_nodes = 262_144

-- ---- scripts

-- bytes of a script
abbrev pub max_script_bytes : ℕ
max_script_bytes = 1_048_576
