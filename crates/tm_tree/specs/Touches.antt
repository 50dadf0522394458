-- Touches: the folders that a change tells the journal of, and the numbers that it draws.
use Rattle.std.specs.Prelude.{ℕ, ◌+◌, if◌then◌else◌, List, [], ◌∷◌, ◌++◌, length}
use Rattle.tm_base.specs.Paths.{Names, same_name, parent_of}
use Rattle.tm_tree.specs.declared.change.Change.{Change}
use Rattle.tm_tree.specs.declared.change.Change.TheVariants.{Mkdir, Write, Append, Fill, Rm, Rmdir, Mv, Ln, Chmod, Chown, Setx, Rmx, Fix, Unfix}
use Rattle.tm_tree.specs.declared.rows.Touch.{Touch}
use Rattle.tm_tree.specs.Items.{exclusion}
use Rattle.tm_tree.specs.Trees.{Tree, folder_at}

-- the folder alone
abbrev pub plain : Names → List Touch
plain p = record { path = p; flags = 0 } ∷ []

-- the folder and all beneath it (MustScanSubDirs)
abbrev pub scan : Names → List Touch
scan p = record { path = p; flags = 1 } ∷ []

-- other attributes of an item: of a folder at the folder, of a file or link at the folder that holds it
abbrev pub attr_touches : Tree → Names → List Touch
attr_touches t p = if folder_at t p then plain p else plain (parent_of p)

-- the exclusion attribute of an item
abbrev pub exclusion_touches : Tree → Names → List Touch
exclusion_touches t p = if folder_at t p then plain (parent_of p) ++ scan p else plain (parent_of p)

-- an extra attribute of an item
abbrev pub extra_touches : Tree → Names → List ℕ → List Touch
extra_touches t p name = if same_name name exclusion then exclusion_touches t p else attr_touches t p

-- the touches of a change that is made, in the order in which they draw numbers
abbrev pub touches : Tree → Change → List Touch
touches t (Mkdir p) = plain (parent_of p) ++ scan p
touches t (Write p bytes) = plain (parent_of p)
touches t (Append p bytes) = plain (parent_of p)
touches t (Fill p length seed) = plain (parent_of p)
touches t (Rm p) = plain (parent_of p)
touches t (Rmdir p) = plain (parent_of p)
touches t (Mv a b) = plain (parent_of a) ++ plain (parent_of b) ++ (if folder_at t a then scan b else [])
touches t (Ln p target) = plain (parent_of p)
touches t (Chmod p mode) = attr_touches t p
touches t (Chown p uid gid) = attr_touches t p
touches t (Setx p name value) = extra_touches t p name
touches t (Rmx p name) = extra_touches t p name
touches t (Fix p) = plain (parent_of p) ++ scan p
touches t (Unfix p) = plain (parent_of p) ++ scan p

-- a file or link gets a new stamp, and a folder has none
abbrev pub attr_stamps : Tree → Names → ℕ
attr_stamps t p = if folder_at t p then 0 else 1

-- how many stamps a change draws, before its touches
abbrev pub stamps : Tree → Change → ℕ
stamps t (Mkdir p) = 0
stamps t (Write p bytes) = 1
stamps t (Append p bytes) = 1
stamps t (Fill p length seed) = 1
stamps t (Rm p) = 0
stamps t (Rmdir p) = 0
stamps t (Mv a b) = 0
stamps t (Ln p target) = 1
stamps t (Chmod p mode) = attr_stamps t p
stamps t (Chown p uid gid) = attr_stamps t p
stamps t (Setx p name value) = attr_stamps t p
stamps t (Rmx p name) = attr_stamps t p
stamps t (Fix p) = 0
stamps t (Unfix p) = 0

-- how many numbers a change draws: its stamps, then one per touch
abbrev pub numbers : Tree → Change → ℕ
numbers t c = stamps t c + length (touches t c)
