-- Changes of an item's attributes.
use Rattle.std.specs.Prelude.{◌≡◌, ℕ, ◌+◌, Bool, not, ◌&&◌, if◌then◌else◌, is_some, None, List, [], ◌∷◌, ◌++◌, length}
use Rattle.tm_base.specs.Paths.{Names, same_name}
use Rattle.tm_base.specs.declared.refused.Refused.TheVariants.{RootItem, NoAttribute}
use Rattle.tm_nodes.specs.Items.{item_text}
use Rattle.tm_records.specs.declared.record.Body.TheVariants.{Kept}
use Rattle.tm_tree.specs.declared.attrs.Attrs.{Attrs}
use Rattle.tm_tree.specs.declared.change.Change.{Change}
use Rattle.tm_tree.specs.declared.change.Change.TheVariants as change
use Rattle.tm_tree.specs.declared.node.LeafRow.TheVariants as leaf
use Rattle.tm_tree.specs.declared.record.ItemBody.{ItemBody}
use Rattle.tm_tree.specs.declared.record.ItemBody.TheVariants as body
use Rattle.tm_tree.specs.declared.record.ItemRow.{ItemRow}
use Rattle.tm_tree.specs.Changes.{most_extras}
use Rattle.tm_tree.specs.Extras.{value_of, with_extra, without_extra}
use Rattle.tm_tree.specs.Items.{exclusion}
use Rattle.tm_tree.specs.Refusing.{Tests, too_many}
use Rattle.tm_volume.specs.declared.edit.Edit.{Edit}
use Rattle.tm_volume_records.specs.Records.{journal_key, item_key}

-- this change sets attributes of the item at p
abbrev pub SetsAttrs : Change → Names → Type 0
SetsAttrs (change.Chmod q mode) p = q ≡ p
SetsAttrs (change.Chown q uid gid) p = q ≡ p
SetsAttrs (change.Setx q name value) p = q ≡ p
SetsAttrs (change.Rmx q name) p = q ≡ p
SetsAttrs _ p = ⊥

-- the attributes after it
abbrev pub attrs_after : Change → Attrs → Attrs
attrs_after (change.Chmod q mode) a = record a { mode = mode }
attrs_after (change.Chown q uid gid) a = record a { uid = uid; gid = gid }
attrs_after (change.Setx q name value) a = record a { extra = with_extra name value a.extra }
attrs_after (change.Rmx q name) a = record a { extra = without_extra name a.extra }
attrs_after _ a = a

-- how many extras there are with this one
abbrev pub count_with : List ℕ → Attrs → ℕ
count_with name a = if is_some (value_of name a.extra) then length a.extra else length a.extra + 1

-- how many extras it may come to
abbrev pub extras_after : Change → Attrs → ℕ
extras_after (change.Setx q name value) a = count_with name a
extras_after _ a = length a.extra

-- the refusals that are told by the attributes, of an item that is the root or isn't
abbrev pub attrs_tests : Change → Bool → Attrs → Tests
attrs_tests (change.Setx q name value) root a = too_many most_extras (count_with name a) ++ (root && same_name name exclusion, RootItem) ∷ []
attrs_tests (change.Rmx q name) root a = (not (is_some (value_of name a.extra)), NoAttribute) ∷ []
attrs_tests _ root a = []

-- what an item is after it: a file or link has this stamp
abbrev pub reset_body : Change → ℕ → ItemBody → ItemBody
reset_body c stamp (body.Folder a) = body.Folder (attrs_after c a)
reset_body c stamp (body.Leaf (leaf.File a old size)) = body.Leaf (leaf.File (attrs_after c a) stamp size)
reset_body c stamp (body.Leaf (leaf.Link a old target)) = body.Leaf (leaf.Link (attrs_after c a) stamp target)

abbrev pub reset_row : Change → ℕ → ItemRow → ItemRow
reset_row c stamp row = record { parent = row.parent; name = row.name; body = reset_body c stamp row.body }

-- a file or link draws a stamp
abbrev pub body_stamps : ItemBody → ℕ
body_stamps (body.Folder a) = 0
body_stamps (body.Leaf leaf) = 1

-- n gets the row `new`; the journal is no longer kept
pub record IsReset (e : Edit) (n : ℕ) (new : ItemRow) (next : ℕ) : Type 0 where
  pub remove : e.remove.items ≡ journal_key ∷ []
  pub put : e.put.items ≡ record { key = item_key n; meta = item_text new; body = Kept } ∷ []
  pub enter : e.enter ≡ None
  pub leave : e.leave ≡ None
  pub fixed : e.fixed ≡ None
  pub next_is : e.next ≡ next
