-- Stored paths, and the fixed paths of a volume.
use Rattle.std.specs.Prelude.{◌≡◌, ℕ, ◌≤◌, false, List, ◌++◌, length, All, flat_map}
use Rattle.std.specs.List.Sorted.{IsStrictlySortedBy}
use Rattle.tm_base.specs.Limits.{max_fixed, max_names}
use Rattle.tm_base.specs.IsName.{IsName}
use Rattle.tm_base.specs.Paths.{Names, path_cmp, is_root}
use Rattle.tm_codec.specs.Fields.{u8_text, short_text}

-- the number of names, and each
unfoldable pub path_text : Names → List ℕ
path_text path = u8_text (length path) ++ flat_map short_text path

-- at most 64 names
pub record IsPath (path : Names) : Type 0 where
  pub short : length path ≤ max_names
  pub names : All IsName path

-- one after the other, up to the end
unfoldable pub paths_text : List Names → List ℕ
paths_text paths = flat_map path_text paths

-- at most 256 paths by rising path, none of them the root
pub record ArePaths (paths : List Names) : Type 0 where
  pub few : length paths ≤ max_fixed
  pub each : All IsPath paths
  pub no_root : All (λ path. is_root path ≡ false) paths
  pub rising : IsStrictlySortedBy path_cmp paths
