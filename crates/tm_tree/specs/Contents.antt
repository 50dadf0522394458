-- What a line may change of a volume.
use Rattle.std.specs.Prelude.{ℕ, Bool, List}
use Rattle.std.specs.BTreeMap.{is_at}
use Rattle.std.specs.BTreeSet.{insert_key}
use Rattle.std.specs.List.{list_any}
use Rattle.std.specs.Set.{remove_key}
use Rattle.tm_base.specs.Paths.{Names, path_cmp}
use Rattle.tm_tree.specs.Trees.{Tree}

-- the tree, the paths that are fixed as excluded, by rising path, and the next number
pub record Contents : Type 0 where
  pub tree : Tree
  pub fixed : List Names
  pub next : ℕ

abbrev pub is_fixed : List Names → Names → Bool
is_fixed fixed p = list_any (is_at (path_cmp p)) fixed

abbrev pub with_fixed : List Names → Names → List Names
with_fixed fixed p = insert_key path_cmp fixed p

abbrev pub without_fixed : List Names → Names → List Names
without_fixed fixed p = remove_key (is_at (path_cmp p)) fixed
