-- Paths that get excluded from backups, or are so no longer.
use Rattle.std.specs.Prelude.{◌≡◌, ℕ, not, Some, None, Result, Ok, Err, List, [], ◌∷◌}
use Rattle.tm_base.specs.Paths.{Names}
use Rattle.tm_base.specs.declared.refused.Refused.TheVariants.{NotExcluded}
use Rattle.tm_base.specs.declared.refused.LineFault.{LineFault}
use Rattle.tm_base.specs.declared.refused.LineFault.TheVariants.{Refused as RefusedFor, Fault, Memory}
use Rattle.tm_nodes.specs.Headers.{volume_text}
use Rattle.tm_records.specs.declared.record.Body.TheVariants.{Empty}
use Rattle.tm_tree.specs.Changes.{fix_tests, fixed_after}
use Rattle.tm_tree.specs.Contents.{is_fixed}
use Rattle.tm_tree.specs.Refusing.{Tests, first_refused}
use Rattle.tm_tree.specs.declared.change.Change.{Change}
use Rattle.tm_tree.specs.declared.change.Change.TheVariants as change
use Rattle.tm_volume.specs.declared.edit.Edit.{Edit}
use Rattle.tm_volume.specs.Seen.{Seen}
use Rattle.tm_volume_records.specs.Records.{head_key, journal_key}

-- the refusals of such a change, but for those on the numbers and the room
abbrev pub fixing_tests : List Names → Change → Tests
fixing_tests fixed (change.Fix p) = fix_tests fixed p
fixing_tests fixed (change.Unfix p) = (not (is_fixed fixed p), NotExcluded) ∷ []
fixing_tests fixed _ = []

-- the paths afterwards, or why the change is refused by these
abbrev pub FindsFixed : List Names → Change → Result (List Names) LineFault → Type 0
FindsFixed fixed c (Ok paths) = (first_refused (fixing_tests fixed c) ≡ None) × (paths ≡ fixed_after fixed c)
FindsFixed fixed c (Err (RefusedFor why)) = first_refused (fixing_tests fixed c) ≡ Some why
FindsFixed fixed c (Err (Fault side)) = ⊥
FindsFixed fixed c (Err Memory) = Unit {0}

-- the edit after which these paths are the data of the head, once it brings them; the journal is no longer kept
pub record SetsFixed (m : Seen) (paths : List Names) (next : ℕ) (e : Edit) : Type 0 where
  pub put : e.put.items ≡ record { key = head_key; meta = volume_text m.head; body = Empty } ∷ []
  pub remove : e.remove.items ≡ journal_key ∷ []
  pub enter : e.enter ≡ None
  pub leave : e.leave ≡ None
  pub fixed : e.fixed ≡ Some paths
  pub next_is : e.next ≡ next
