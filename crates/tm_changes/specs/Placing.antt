-- New items, and the rows of the folders that hold them.
use Rattle.std.specs.Prelude.{false, ◌≡◌, ℕ, Some, None, List, [], ◌∷◌}
use Rattle.tm_base.specs.Paths.{Names}
use Rattle.tm_nodes.specs.Items.{item_text, IsItemOfSize}
use Rattle.tm_tree.specs.declared.item.Item.{Item}
use Rattle.tm_tree.specs.Changes.{place_at}
use Rattle.tm_changes.specs.Changes.{with_contents}
use Rattle.tm_volume.specs.Stored.{StoredVolume}
use Rattle.tm_nodes.specs.Records.{item_of}
use Rattle.tm_records.specs.declared.record.Body.{Body}
use Rattle.tm_records.specs.declared.record.Body.TheVariants.{Kept}
use Rattle.tm_records.specs.declared.record.Record.{Record}
use Rattle.tm_tree.specs.declared.record.ItemBody.{ItemBody}
use Rattle.tm_tree.specs.declared.record.ItemBody.TheVariants as body
use Rattle.tm_tree.specs.declared.record.ItemRow.{ItemRow}
use Rattle.tm_records.specs.Records.{Records, at}
use Rattle.tm_volume.specs.declared.edit.Edit.{Edit}
use Rattle.tm_volume_records.specs.Records.{journal_key, item_key}
use Rattle.tm_volume_records.specs.Rules.{HasData, HasStamp}
use Rattle.tm_volume.specs.Seen.{Seen}

-- a folder's record gets this date, and others stay
abbrev pub dated_body : ItemBody → ℕ → ItemBody
dated_body (body.Folder attrs) moment = body.Folder (record attrs { modified = moment })
dated_body (body.Leaf leaf) moment = body.Leaf leaf

abbrev pub dated_row : ItemRow → ℕ → ItemRow
dated_row row moment = record { parent = row.parent; name = row.name; body = dated_body row.body moment }

-- this row stands under n
pub record IsRowAt (records : Records) (n : ℕ) (row : ItemRow) : Type 0 where
  pub rec : Record
  pub at_key : at (item_key n) records ≡ Some rec
  pub is : item_of rec.meta rec.length ≡ Some row

-- n gets the row `new`, in the folder k, whose record is `folder` and which is dated; the journal is no longer kept
pub record IsPlacing (m : Seen) (e : Edit) (n k moment : ℕ) (new folder : ItemRow) (called : List ℕ) (content : Body) : Type 0 where
  pub remove : e.remove.items ≡ journal_key ∷ []
  pub put : e.put.items ≡ record { key = item_key n; meta = item_text new; body = content } ∷ record { key = item_key k; meta = item_text (dated_row folder moment); body = Kept } ∷ []
  pub enter : e.enter ≡ Some (record { parent = k; name = called; number = n })
  pub leave : e.leave ≡ None
  pub fixed : e.fixed ≡ None

-- such an edit, and the folder's record as it stands
pub record MakesPlace (m : Seen) (e : Edit) (n k moment : ℕ) (new : ItemRow) (called : List ℕ) (content : Body) : Type 0 where
  pub folder : ItemRow
  pub row_at : IsRowAt m.image.records k folder
  pub placing : IsPlacing m e n k moment new folder called content

-- what its row must be: in the folder k, under this name, with a stamp below `next`
pub record IsNewRow (row : ItemRow) (k : ℕ) (called : List ℕ) (next : ℕ) : Type 0 where
  pub rules : IsItemOfSize 0 row
  pub parent : row.parent ≡ k
  pub name : row.name ≡ Some called
  pub bytes : HasData row.body 0
  pub stamp : HasStamp next row.body

-- the volume with it
abbrev pub placed_stored : StoredVolume → Names → ℕ → Item → ℕ → StoredVolume
placed_stored s p moment e next = record {
  volume = with_contents s.volume (record { tree = place_at s.volume.contents.tree p moment e; fixed = s.volume.contents.fixed; next = next });
  clean = false;
  journal = None;
}
