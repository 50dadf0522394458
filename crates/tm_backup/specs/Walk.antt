-- What a backup walks, and what it stages.
use Rattle.std.specs.Prelude.{ℕ, ◌+◌, ◌-◌, Bool, false, not, ◌&&◌, nat_lt, if◌then◌else◌, Option, Some, None, List, [], ◌∷◌, length, map, filter}
use Rattle.std.specs.List.{flat_map}
use Rattle.tm_base.specs.Paths.{Names}
use Rattle.tm_base.specs.declared.refused.Refused.{Refused}
use Rattle.tm_base.specs.declared.refused.Refused.TheVariants.{Full}
use Rattle.tm_tree.specs.declared.item.Item.{Item}
use Rattle.tm_tree.specs.Items.{is_file, is_folder, bytes_of}
use Rattle.tm_tree.specs.Trees.{Tree, item_at, children}
use Rattle.tm_tree.specs.Copies.{LabelledTree, bare}
use Rattle.tm_chain.specs.Blob.{blob_len}
use Rattle.tm_copy.specs.Stamps.{alike}

-- the paths of the folders, in path order
abbrev pub folders : Tree → List Names
folders t = map (λ row. row.0) (filter (λ row. is_folder row.1) t)

-- whether what the base has is a file, or a link, of the same stamp
abbrev pub is_as_was : Option Item → Item → Bool
is_as_was None e = false
is_as_was (Some d) e = alike d e

-- the blocks that an item's bytes fill: a file's, where the base's tree has no file of its stamp at its path
abbrev pub new_blocks : LabelledTree → Names × Item → List ℕ
new_blocks prev row = if is_file row.1 && not (is_as_was (item_at (bare prev) row.0) row.1) then blob_len (length (bytes_of row.1)) ∷ [] else []

-- those of the entries of the folder at p, by name
abbrev pub staging_in : LabelledTree → Tree → Names → List ℕ
staging_in prev t p = flat_map (new_blocks prev) (children t p)

-- those of all files that are staged: folder by folder in path order, in each by name
abbrev pub staging : LabelledTree → Tree → List ℕ
staging prev t = flat_map (staging_in prev t) (folders t)

-- staging b blocks needs b + t free ones, where t is the table's; the first that doesn't fit is refused, and each one before it
-- takes its blocks off the free ones
abbrev pub first_full : ℕ → ℕ → List ℕ → Option Refused
first_full t free [] = None
first_full t free (b ∷ blocks) = if nat_lt free (b + t) then Some (Full (b + t) free) else first_full t (free - b) blocks
