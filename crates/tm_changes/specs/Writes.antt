-- Files that get bytes.
use Rattle.std.specs.Prelude.{◌≡◌, ℕ, ◌+◌, false, Option, Some, None, Result, Ok, Err, List, [], ◌∷◌, ◌++◌, length, unwrap_or}
use Rattle.std.specs.Option.{option_map_or}
use Rattle.tm_base.specs.Paths.{Names}
use Rattle.tm_base.specs.declared.refused.LineFault.{LineFault}
use Rattle.tm_base.specs.declared.refused.LineFault.TheVariants.{Refused as RefusedFor, Fault, Memory}
use Rattle.tm_chain.specs.Blob.{blob_len, bytes_in}
use Rattle.tm_records.specs.declared.record.Body.TheVariants.{New}
use Rattle.tm_records.specs.declared.record.Put.{Put}
use Rattle.tm_nodes.specs.Paths.{paths_text}
use Rattle.tm_tree.specs.Changes.{file_tests, fill_bytes, fixed_after, ids_spent, tests, write_at}
use Rattle.tm_tree.specs.Contents.{Contents}
use Rattle.tm_tree.specs.Items.{bytes_of, new_attrs}
use Rattle.tm_tree.specs.Trees.{item_at}
use Rattle.tm_tree.specs.declared.attrs.Attrs.{Attrs}
use Rattle.tm_tree.specs.declared.change.Change.{Change}
use Rattle.tm_tree.specs.declared.change.Change.TheVariants as change
use Rattle.tm_tree.specs.declared.node.LeafRow.TheVariants as leaf
use Rattle.tm_tree.specs.declared.record.ItemBody.{ItemBody}
use Rattle.tm_tree.specs.declared.record.ItemBody.TheVariants as body
use Rattle.tm_tree.specs.declared.record.ItemRow.{ItemRow}
use Rattle.tm_tree.specs.Refusing.{Tests, first_refused, needs_moment}
use Rattle.tm_world.specs.declared.bytes.Blob.{Blob}
use Rattle.tm_volume.specs.declared.edit.Edit.{Edit}
use Rattle.tm_changes.specs.Changes.{changed, with_contents}
use Rattle.tm_volume.specs.Edits.{after, IsEdit, IsGoodEdit}
use Rattle.tm_changes.specs.Plans.{BringNone, IsGood}
use Rattle.tm_changes.specs.Fitting.{staged_len}
use Rattle.tm_volume.specs.Seen.{Seen, volume_on, stored_on}
use Rattle.tm_volume.specs.Stored.{StoredVolume}

-- ---- the volume and the tests

-- the volume whose file at p has these bytes: a stamp and a touch draw numbers
abbrev pub written_stored : StoredVolume → Names → ℕ → List ℕ → StoredVolume
written_stored s p moment bytes = record {
  volume = with_contents s.volume (record { tree = write_at s.volume.contents.tree p moment s.volume.contents.next bytes; fixed = s.volume.contents.fixed; next = s.volume.contents.next + 2 });
  clean = false;
  journal = None;
}

-- the refusals but for Full, where the file has so many bytes afterwards
abbrev pub write_tests : Contents → Names → ℕ → Option ℕ → Tests
write_tests v p size moment = (file_tests v.tree p size ++ needs_moment moment) ++ ids_spent v 2

-- ---- records of files

-- a new file's, in the folder k
abbrev pub new_file_row : ℕ → List ℕ → ℕ → ℕ → ℕ → ItemRow
new_file_row k called moment stamp size = record { parent = k; name = Some called; body = body.Leaf (leaf.File (new_attrs 420 moment) stamp size) }

-- of a file that stands, with another date, another stamp and so many bytes
abbrev pub redone_file_row : ItemRow → Attrs → ℕ → ℕ → ℕ → ItemRow
redone_file_row row attrs moment stamp size = record { parent = row.parent; name = row.name; body = body.Leaf (leaf.File (record attrs { modified = moment }) stamp size) }

-- a file gets them, and others stay
abbrev pub redone_body : ItemBody → ℕ → ℕ → ℕ → ItemBody
redone_body (body.Folder attrs) moment stamp size = body.Folder attrs
redone_body (body.Leaf (leaf.File attrs was count)) moment stamp size = body.Leaf (leaf.File (record attrs { modified = moment }) stamp size)
redone_body (body.Leaf (leaf.Link attrs was target)) moment stamp size = body.Leaf (leaf.Link attrs was target)

abbrev pub redone_row : ItemRow → ℕ → ℕ → ℕ → ItemRow
redone_row row moment stamp size = record { parent = row.parent; name = row.name; body = redone_body row.body moment stamp size }

-- ---- an edit that is to bring a blob

-- the first put brings it
abbrev pub brings_first : Blob → List Put → List Put
brings_first blob [] = []
brings_first blob (p ∷ ps) = record { key = p.key; meta = p.meta; body = New blob } ∷ ps

-- the same edit, whose first put brings this blob
pub record IsBringing (old new : Edit) (blob : Blob) : Type 0 where
  pub put : new.put.items ≡ brings_first blob old.put.items
  pub remove : new.remove.items ≡ old.remove.items
  pub enter : new.enter ≡ old.enter
  pub leave : new.leave ≡ old.leave
  pub fixed : new.fixed ≡ old.fixed
  pub next : new.next ≡ old.next

-- a blob of so many bytes
pub record IsBlobOf (blob : Blob) (size : ℕ) : Type 0 where
  pub size_is : blob.length ≡ size
  pub many : length blob.blocks ≡ blob_len size

-- an edit that, once it brings a blob, gives its bytes to the file at p; the lack of room alone can refuse it
pub record WritesFile (m : Seen) (p : Names) (size : ℕ) (moment : Option ℕ) (e : Edit) : Type 0 where
  pub first : Put
  pub rest : List Put
  pub put : e.put.items ≡ first ∷ rest
  pub no_data : BringNone rest
  pub passes : (bytes : ℕ → List ℕ) → IsGood m bytes → first_refused (write_tests (volume_on m bytes).contents p size moment) ≡ None
  pub edit : (blob : Blob) (new : Edit) → IsBringing e new blob → IsBlobOf blob size → IsEdit m new
  pub good : (blob : Blob) (new : Edit) → IsBringing e new blob → IsBlobOf blob size → (bytes : ℕ → List ℕ) → IsGood m bytes → IsGoodEdit m new bytes
  pub stored : (blob : Blob) (new : Edit) → IsBringing e new blob → IsBlobOf blob size → (bytes : ℕ → List ℕ)
      → stored_on (after m new) bytes ≡ written_stored (stored_on m bytes) p (unwrap_or moment 0) (bytes_in blob.blocks bytes 0 blob.length)

-- what is planned for a file that gets so many bytes: such an edit, or the refusal by the tests but for the lack of room
abbrev pub PlansFile : Seen → Names → ℕ → Option ℕ → Result Edit LineFault → Type 0
PlansFile m p size moment (Ok e) = WritesFile m p size moment e
PlansFile m p size moment (Err (RefusedFor why)) = (bytes : ℕ → List ℕ) → IsGood m bytes → first_refused (write_tests (volume_on m bytes).contents p size moment) ≡ Some why
PlansFile m p size moment (Err (Fault side)) = ⊥
PlansFile m p size moment (Err Memory) = Unit {0}

-- ---- a change that brings data

-- the data that a change stages: the whole new contents of a file, or all fixed paths
abbrev pub staged_data : Contents → Change → List ℕ
staged_data v (change.Write p bytes) = bytes
staged_data v (change.Append p bytes) = option_map_or bytes_of (item_at v.tree p) [] ++ bytes
staged_data v (change.Fill p count seed) = fill_bytes count seed
staged_data v (change.Fix p) = paths_text (fixed_after v.fixed (change.Fix p))
staged_data v (change.Unfix p) = paths_text (fixed_after v.fixed (change.Unfix p))
staged_data v _ = []

-- a change that brings data
abbrev pub BringsData : Change → Type 0
BringsData (change.Write p bytes) = Unit {0}
BringsData (change.Append p bytes) = Unit {0}
BringsData (change.Fill p count seed) = Unit {0}
BringsData (change.Fix p) = Unit {0}
BringsData (change.Unfix p) = Unit {0}
BringsData _ = ⊥

-- a file gets bytes
abbrev pub IsWriting : Change → Type 0
IsWriting (change.Write p bytes) = Unit {0}
IsWriting (change.Append p bytes) = Unit {0}
IsWriting (change.Fill p count seed) = Unit {0}
IsWriting _ = ⊥

-- the fixed paths change
abbrev pub IsFixing : Change → Type 0
IsFixing (change.Fix p) = Unit {0}
IsFixing (change.Unfix p) = Unit {0}
IsFixing _ = ⊥

-- the blob holds the data of the change
abbrev pub HoldsData : Seen → Change → Blob → (ℕ → List ℕ) → Type 0
HoldsData m c blob bytes = bytes_in blob.blocks bytes 0 blob.length ≡ staged_data (volume_on m bytes).contents c

-- an edit that, once it brings a blob of so many bytes with the data of this change, makes it; the lack of room alone can
-- refuse it
pub record WritesData (m : Seen) (c : Change) (moment : Option ℕ) (size : ℕ) (e : Edit) : Type 0 where
  pub first : Put
  pub rest : List Put
  pub put : e.put.items ≡ first ∷ rest
  pub no_data : BringNone rest
  pub staged : (bytes : ℕ → List ℕ) → staged_len (volume_on m bytes).contents c ≡ size
  pub passes : (bytes : ℕ → List ℕ) → IsGood m bytes → first_refused (tests (volume_on m bytes).contents c moment) ≡ None
  pub edit : (blob : Blob) (new : Edit) → IsBringing e new blob → IsBlobOf blob size → IsEdit m new
  pub good : (blob : Blob) (new : Edit) → IsBringing e new blob → IsBlobOf blob size → (bytes : ℕ → List ℕ) → HoldsData m c blob bytes → IsGood m bytes → IsGoodEdit m new bytes
  pub stored : (blob : Blob) (new : Edit) → IsBringing e new blob → IsBlobOf blob size → (bytes : ℕ → List ℕ) → HoldsData m c blob bytes
      → stored_on (after m new) bytes ≡ changed (stored_on m bytes) c moment

-- what is planned for it: such an edit, or the refusal by the tests but for the lack of room
abbrev pub PlansData : Seen → Change → Option ℕ → ℕ → Result Edit LineFault → Type 0
PlansData m c moment size (Ok e) = WritesData m c moment size e
PlansData m c moment size (Err (RefusedFor why)) = (bytes : ℕ → List ℕ) → IsGood m bytes → first_refused (tests (volume_on m bytes).contents c moment) ≡ Some why
PlansData m c moment size (Err (Fault side)) = ⊥
PlansData m c moment size (Err Memory) = Unit {0}
