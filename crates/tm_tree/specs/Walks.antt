-- The walk down a path, name by name from the root.
use Rattle.std.specs.Prelude.{◌≡◌, Bool, true, false, if◌then◌else◌, Option, Some, None, Result, Ok, Err, [], ◌∷◌, ◌++◌}
use Rattle.std.specs.Borrow.{Bor}
use Rattle.tm_base.specs.Paths.{Names}
use Rattle.tm_base.specs.declared.refused.Refused.{Refused}
use Rattle.tm_base.specs.declared.refused.Refused.TheVariants.{NotFound, NotFolder}
use Rattle.tm_base.specs.declared.refused.LineFault.{LineFault}
use Rattle.tm_base.specs.declared.refused.LineFault.TheVariants as fault
use Rattle.tm_tree.specs.declared.item.Item.{Item}
use Rattle.tm_tree.specs.declared.item.Item.TheVariants as item
use Rattle.tm_tree.specs.declared.walk.Way.{Way}
use Rattle.tm_tree.specs.declared.walk.Way.TheVariants.{Nowhere, Blocked, AtFolder, AtFile, AtLink}
use Rattle.tm_tree.specs.Items.{is_folder}
use Rattle.tm_tree.specs.Trees.{Tree, item_at}

-- a walk goes on through a folder alone
abbrev pub through : Option Item → Result Item Refused → Result Item Refused
through None onward = Err NotFound
through (Some e) onward = if is_folder e then onward else Err NotFolder

abbrev pub found : Option Item → Result Item Refused
found None = Err NotFound
found (Some e) = Ok e

-- from the folder at `done`, along the names that are left
abbrev pub walk_from : Tree → Names → Names → Result Item Refused
walk_from t done [] = found (item_at t done)
walk_from t done (n ∷ rest) = through (item_at t done) (walk_from t (done ++ n ∷ []) rest)

-- the item that the walk down p comes to; or NotFound, where it meets a folder without the next
-- name, or NotFolder, where it goes through a file or link
abbrev pub walk : Tree → Names → Result Item Refused
walk t p = walk_from t [] p

abbrev pub way_to : Item → Way
way_to (item.Folder a) = AtFolder
way_to (item.File a s b) = AtFile
way_to (item.Link a s t) = AtLink

abbrev pub way_of : Result Item Refused → Way
way_of (Ok e) = way_to e
way_of (Err NotFound) = Nowhere
way_of (Err _) = Blocked

-- where the walk down p ends
abbrev pub way : Tree → Names → Way
way t p = way_of (walk t p)

abbrev pub is_nowhere : Way → Bool
is_nowhere Nowhere = true
is_nowhere _ = false

abbrev pub is_blocked : Way → Bool
is_blocked Blocked = true
is_blocked _ = false

abbrev pub is_at_folder : Way → Bool
is_at_folder AtFolder = true
is_at_folder _ = false

abbrev pub is_at_file : Way → Bool
is_at_file AtFile = true
is_at_file _ = false

abbrev pub is_at_link : Way → Bool
is_at_link AtLink = true
is_at_link _ = false

-- what a call answers that walks down a path
abbrev pub Finds : Result Item Refused → Result (Bor Item) LineFault → Type 0
Finds way (Ok item) = way ≡ Ok item.now
Finds way (Err (fault.Refused why)) = way ≡ Err why
Finds way (Err (fault.Fault side)) = ⊥
Finds way (Err fault.Memory) = Unit {0}
