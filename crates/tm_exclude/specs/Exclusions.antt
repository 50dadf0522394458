-- Exclusions: the test of one path by its prefixes, and that it is the view's.
use Rattle.std.specs.Prelude.{◌≡◌, ℕ, ◌+◌, Bool, false, ◌||◌, if◌then◌else◌, None, List, [], length, take, map, slice_index_or}
use Rattle.std.specs.List.{list_any, range_with_len}
use Rattle.std.specs.Option.{option_map_or}
use Rattle.tm_base.specs.Paths.{Names}
use Rattle.tm_tree.specs.Contents.{is_fixed}
use Rattle.tm_tree.specs.Items.{is_excluded as carries_exclusion}
use Rattle.tm_tree.specs.Trees.{Tree, IsTree, item_at}
use Rattle.tm_tree.specs.Views.{view}

-- how many names each prefix of a path has, from the root's none to all of its own
abbrev pub prefix_lengths : Names → List ℕ
prefix_lengths p = range_with_len 0 (length p + 1)

-- some prefix of the path is a fixed path, or its mark is true
abbrev pub is_excluded : List Names → List Bool → Names → Bool
is_excluded fixed marked p = list_any (λ n. is_fixed fixed (take n p) || slice_index_or marked n false) (prefix_lengths p)

-- ---- of a tree

-- whether an item stands at p that carries the exclusion attribute
abbrev pub is_marked : Tree → Names → Bool
is_marked t p = option_map_or carries_exclusion (item_at t p) false

-- the mark of each prefix of a path
abbrev pub marks : Tree → Names → List Bool
marks t p = map (λ n. is_marked t (take n p)) (prefix_lengths p)

-- ---- laws

-- where the root isn't excluded, the view has what stands at the paths that aren't
abbrev pub ViewIsTested : Type 0
ViewIsTested = (fixed : List Names) (t : Tree) (p : Names) → IsTree t → is_fixed fixed [] ≡ false → is_marked t [] ≡ false
    → item_at (view fixed t) p ≡ (if is_excluded fixed (marks t p) p then None else item_at t p)
