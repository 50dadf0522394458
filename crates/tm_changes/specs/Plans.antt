-- What is planned for a change that brings no data: its edit, or why it is refused.
use Rattle.std.specs.Prelude.{◌≡◌, ℕ, Option, Some, None, Result, Ok, Err, List, [], ◌∷◌}
use Rattle.std.specs.Option.{option_map}
use Rattle.tm_base.specs.declared.refused.LineFault.{LineFault}
use Rattle.tm_base.specs.declared.refused.LineFault.TheVariants.{Refused as RefusedFor, Fault, Memory}
use Rattle.tm_nodes.specs.Records.{paths_of}
use Rattle.tm_records.specs.declared.record.Put.{Put}
use Rattle.tm_records.specs.Puts.{brought}
use Rattle.tm_tree.specs.declared.change.Change.{Change}
use Rattle.tm_tree.specs.declared.change.Change.TheVariants as change
use Rattle.tm_tree.specs.declared.rows.Touch.{Touch}
use Rattle.tm_tree.specs.Changes.{tests}
use Rattle.tm_tree.specs.Refusing.{first_refused}
use Rattle.tm_volume.specs.declared.edit.Edit.{Edit}
use Rattle.tm_changes.specs.Changes.{changed}
use Rattle.tm_volume.specs.Edits.{after, IsEdit, IsGoodEdit}
use Rattle.tm_volume_records.specs.Records.{head_key, entry_at}
use Rattle.tm_changes.specs.Fitting.{staged_len}
use Rattle.tm_volume_records.specs.Rules.{IsGoodVolume}
use Rattle.tm_volume.specs.Seen.{Seen, entries_on, volume_on, stored_on}

-- a change that brings no data
abbrev pub BringsNoData : Change → Type 0
BringsNoData (change.Mkdir p) = Unit {0}
BringsNoData (change.Rm p) = Unit {0}
BringsNoData (change.Rmdir p) = Unit {0}
BringsNoData (change.Mv a b) = Unit {0}
BringsNoData (change.Ln p target) = Unit {0}
BringsNoData (change.Chmod p mode) = Unit {0}
BringsNoData (change.Chown p uid gid) = Unit {0}
BringsNoData (change.Setx p name value) = Unit {0}
BringsNoData (change.Rmx p name) = Unit {0}
BringsNoData _ = ⊥

-- none of these puts brings data
abbrev pub BringNone : List Put → Type 0
BringNone [] = Unit {0}
BringNone (p ∷ ps) = (brought p.body ≡ []) × BringNone ps

-- the entries keep the rules, and the data of the head are the fixed paths
pub record IsGood (m : Seen) (bytes : ℕ → List ℕ) : Type 0 where
  pub good : IsGoodVolume (entries_on m bytes) m.tag
  pub fixed : option_map (λ d. paths_of d.bytes) (entry_at head_key (entries_on m bytes)) ≡ Some (Some m.fixed)

-- an edit that makes this change and brings no data; the lack of room alone can refuse it
pub record Writes (m : Seen) (c : Change) (moment : Option ℕ) (e : Edit) : Type 0 where
  pub edit : IsEdit m e
  pub no_data : BringNone e.put.items
  pub unstaged : (bytes : ℕ → List ℕ) → staged_len (volume_on m bytes).contents c ≡ 0
  pub passes : (bytes : ℕ → List ℕ) → IsGood m bytes → first_refused (tests (volume_on m bytes).contents c moment) ≡ None
  pub good : (bytes : ℕ → List ℕ) → IsGood m bytes → IsGoodEdit m e bytes
  pub stored : (bytes : ℕ → List ℕ) → stored_on (after m e) bytes ≡ changed (stored_on m bytes) c moment

-- what is planned for a change: such an edit, or its refusal by the tests but for the lack of room
abbrev pub Plans : Seen → Change → Option ℕ → Result Edit LineFault → Type 0
Plans m c moment (Ok e) = Writes m c moment e
Plans m c moment (Err (RefusedFor why)) = (bytes : ℕ → List ℕ) → IsGood m bytes → first_refused (tests (volume_on m bytes).contents c moment) ≡ Some why
Plans m c moment (Err (Fault side)) = ⊥
Plans m c moment (Err Memory) = Unit {0}

-- what a change answers whose edit was made, or was not
abbrev pub telling : Result (Unit {0}) LineFault → List Touch → Result (List Touch) LineFault
telling (Ok x) touched = Ok touched
telling (Err why) touched = Err why
