-- The lines that change a volume.
use Rattle.std.specs.Prelude.{Option, Some, None, List, ℕ, if◌then◌else◌}
use Rattle.tm_base.specs.Paths.{same_name}
use Rattle.tm_text.specs.declared.line.Line.{Line}
use Rattle.tm_text.specs.declared.line.Line.TheVariants as line
use Rattle.tm_tree.specs.declared.change.Change.{Change}
use Rattle.tm_tree.specs.declared.change.Change.TheVariants as change
use Rattle.tm_tree.specs.Items.{exclusion}

-- lines on the exclusion attribute are not built yet
abbrev pub unless_exclusion : List ℕ → Change → Option Change
unless_exclusion name c = if same_name name exclusion then None else Some c

-- a change of attributes that a line asks for
abbrev pub attribute_change_of : Line → Option Change
attribute_change_of (line.Chmod p mode) = Some (change.Chmod p mode)
attribute_change_of (line.Chown p uid gid) = Some (change.Chown p uid gid)
attribute_change_of (line.Setx p name value) = unless_exclusion name (change.Setx p name value)
attribute_change_of (line.Rmx p name) = unless_exclusion name (change.Rmx p name)
attribute_change_of _ = None

-- the change of a volume's contents that a line asks for
abbrev pub change_of : Line → Option Change
change_of (line.Mkdir p) = Some (change.Mkdir p)
change_of (line.Write p text) = Some (change.Write p text)
change_of (line.Append p text) = Some (change.Append p text)
change_of (line.Fill p count seed) = Some (change.Fill p count seed)
change_of (line.Rm p) = Some (change.Rm p)
change_of (line.Rmdir p) = Some (change.Rmdir p)
change_of (line.Mv p q) = Some (change.Mv p q)
change_of (line.Ln p target) = Some (change.Ln p target)
change_of l = attribute_change_of l
