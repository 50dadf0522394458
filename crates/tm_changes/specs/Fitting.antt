-- When a change of a volume doesn't fit.
use Rattle.std.specs.Prelude.{ℕ, ◌+◌, ◌-◌, nat_lt, [], ◌∷◌, ◌++◌, length}
use Rattle.tm_base.specs.declared.refused.Refused.TheVariants.{Full}
use Rattle.tm_image.specs.Room.{need_of}
use Rattle.tm_nodes.specs.Paths.{paths_text}
use Rattle.tm_tree.specs.declared.change.Change.{Change}
use Rattle.tm_tree.specs.declared.change.Change.TheVariants as change
use Rattle.tm_tree.specs.Changes.{length_at, fixed_after}
use Rattle.tm_tree.specs.Contents.{Contents}
use Rattle.tm_tree.specs.Refusing.{Tests}
use Rattle.tm_volume.specs.Stored.{StoredVolume}
use Rattle.tm_volume.specs.Room.{table_len, data_len, free_of}

-- how many bytes a change stages: the whole new contents of a file, or all fixed paths
abbrev pub staged_len : Contents → Change → ℕ
staged_len v (change.Write p bytes) = length bytes
staged_len v (change.Append p bytes) = length_at v.tree p + length bytes
staged_len v (change.Fill p count seed) = count
staged_len v (change.Fix p) = length (paths_text (fixed_after v.fixed (change.Fix p)))
staged_len v (change.Unfix p) = length (paths_text (fixed_after v.fixed (change.Unfix p)))
staged_len v _ = 0

-- staging so many blocks
abbrev pub staging_tests : ℕ → StoredVolume → ℕ → Tests
staging_tests blocks s staged = let need = staged + table_len s in (nat_lt (free_of blocks s) need, Full need (free_of blocks s)) ∷ []

-- the commit that follows, which makes `new` of s
abbrev pub commit_tests : ℕ → StoredVolume → StoredVolume → ℕ → Tests
commit_tests blocks s new staged =
    let need = need_of (table_len s) (table_len new) (data_len s + staged - data_len new) in let free = free_of blocks s - staged in
    (nat_lt free need, Full need free) ∷ []

abbrev pub room_tests : ℕ → StoredVolume → StoredVolume → ℕ → Tests
room_tests blocks s new staged = staging_tests blocks s staged ++ commit_tests blocks s new staged
