-- The lines that change a volume: when each is refused, and what it does.
use Rattle.std.specs.Prelude.{ℕ, ◌+◌, ◌*◌, ◌/◌, ◌%◌, ◌-◌, ◌^◌, Bool, false, not, ◌&&◌, ◌||◌, nat_lt, if◌then◌else◌, Option, Some, None, is_some, unwrap_or, List, [], ◌∷◌, ◌++◌, length, map}
use Rattle.std.specs.List.{list_any, range_with_len}
use Rattle.std.specs.Option.{option_map, option_map_or}
use Rattle.tm_base.specs.Limits.{max_items, max_file_bytes, max_extras, max_fixed, max_names}
use Rattle.tm_base.specs.Paths.{Names, same_name, is_prefix, is_root, parent_of}
use Rattle.tm_base.specs.declared.refused.Refused.TheVariants.{NotFound, Exists, NotFolder, IsFolder, NotEmpty, IntoSelf, TooDeep, TooLong, RootItem, NotExcluded, NoAttribute, IdsSpent}
use Rattle.tm_tree.specs.declared.attrs.Attrs.{Attrs}
use Rattle.tm_tree.specs.declared.change.Change.{Change}
use Rattle.tm_tree.specs.declared.change.Change.TheVariants.{Mkdir, Write, Append, Fill, Rm, Rmdir, Mv, Ln, Chmod, Chown, Setx, Rmx, Fix, Unfix}
use Rattle.tm_tree.specs.declared.item.Item.{Item}
use Rattle.tm_tree.specs.declared.item.Item.TheVariants.{File}
use Rattle.tm_tree.specs.Extras.{value_of, with_extra, without_extra}
use Rattle.tm_tree.specs.Items.{attrs_of, with_attrs, bytes_of, stamped, new_folder, new_file, new_link, exclusion}
use Rattle.tm_tree.specs.Trees.{Tree, item_at, put, without, change_at, touch, children, beneath, moved}
use Rattle.tm_tree.specs.Walks.{way, is_nowhere, is_blocked, is_at_folder, is_at_file, is_at_link}
use Rattle.tm_tree.specs.Contents.{Contents, is_fixed, with_fixed, without_fixed}
use Rattle.tm_tree.specs.Refusing.{Tests, too_many, needs_moment}
use Rattle.tm_tree.specs.Touches.{numbers}

-- ---- the limits

-- items of a volume, the root counted
abbrev pub most_items : ℕ
most_items = max_items

-- bytes of a file
abbrev pub most_bytes : ℕ
most_bytes = max_file_bytes

-- extras of an item
abbrev pub most_extras : ℕ
most_extras = max_extras

-- fixed paths of a volume
abbrev pub most_fixed : ℕ
most_fixed = max_fixed

-- names of a path
abbrev pub most_names : ℕ
most_names = max_names

-- ---- the tests of each line, by rising number of the refusal

-- so many numbers more would pass the end
abbrev pub ids_spent : Contents → ℕ → Tests
ids_spent v count = (nat_lt (2 ^ 62) (v.next + count), IdsSpent) ∷ []

-- a folder or link is made where nothing stands, in a folder
abbrev pub place_tests : Tree → Names → Tests
place_tests t p = let into = way t (parent_of p) in
    (is_nowhere into, NotFound)
    ∷ (is_some (item_at t p), Exists)
    ∷ (not (is_at_folder into), NotFolder)
    ∷ too_many most_items (length t + 1)

-- a file of this length is made where nothing stands, or written where one stands
abbrev pub file_tests : Tree → Names → ℕ → Tests
file_tests t p length_after = let into = way t (parent_of p) in let there = way t p in
    (is_nowhere into, NotFound)
    ∷ (is_at_link there, Exists)
    ∷ (not (is_at_folder into), NotFolder)
    ∷ (is_at_folder there, IsFolder)
    ∷ (nat_lt most_bytes length_after, TooLong length_after)
    ∷ too_many most_items (if is_at_file there then length t else length t + 1)

-- the walk to an item
abbrev pub item_tests : Tree → Names → Tests
item_tests t p = let there = way t p in
    (is_nowhere there, NotFound) ∷ (is_blocked there, NotFolder) ∷ []

abbrev pub rmdir_tests : Tree → Names → Tests
rmdir_tests t p = let there = way t p in
    (is_nowhere there, NotFound)
    ∷ (not (is_at_folder there), NotFolder)
    ∷ (nat_lt 0 (length (children t p)), NotEmpty)
    ∷ (is_root p, RootItem)
    ∷ []

-- something at a or beneath it would stand under too many names
abbrev pub is_too_deep : Tree → Names → Names → Bool
is_too_deep t a b = list_any (λ row. nat_lt most_names (length b + (length row.0 - length a))) (beneath t a)

abbrev pub mv_tests : Tree → Names → Names → Tests
mv_tests t a b = let from = way t a in let into = way t (parent_of b) in
    (is_nowhere from || is_nowhere into, NotFound)
    ∷ (is_some (item_at t b), Exists)
    ∷ (is_blocked from || not (is_at_folder into), NotFolder)
    ∷ (is_prefix a b, IntoSelf)
    ∷ (is_too_deep t a b, TooDeep)
    ∷ []

-- the attributes of the item at p
abbrev pub attrs_at : Tree → Names → Option Attrs
attrs_at t p = option_map attrs_of (item_at t p)

abbrev pub has_extra : Option Attrs → List ℕ → Bool
has_extra None name = false
has_extra (Some a) name = is_some (value_of name a.extra)

abbrev pub extras_count : Option Attrs → ℕ
extras_count None = 0
extras_count (Some a) = length a.extra

abbrev pub setx_tests : Tree → Names → List ℕ → Tests
setx_tests t p name = let attrs = attrs_at t p in
    item_tests t p
    ++ too_many most_extras (if has_extra attrs name then extras_count attrs else extras_count attrs + 1)
    ++ (is_root p && same_name name exclusion, RootItem)
    ∷ []

abbrev pub rmx_tests : Tree → Names → List ℕ → Tests
rmx_tests t p name = item_tests t p ++ (not (has_extra (attrs_at t p) name), NoAttribute) ∷ []

abbrev pub fix_tests : List Names → Names → Tests
fix_tests fixed p =
    too_many most_fixed (if is_fixed fixed p then length fixed else length fixed + 1) ++ (is_root p, RootItem) ∷ []

-- the length of the file at p; 0 where none stands
abbrev pub length_at : Tree → Names → ℕ
length_at t p = option_map_or (λ e. length (bytes_of e)) (item_at t p) 0

-- the refusals of a change but for Full, without those on the numbers
abbrev pub own_tests : Contents → Change → Option ℕ → Tests
own_tests v (Mkdir p) moment = place_tests v.tree p ++ needs_moment moment
own_tests v (Write p bytes) moment = file_tests v.tree p (length bytes) ++ needs_moment moment
own_tests v (Append p bytes) moment = file_tests v.tree p (length_at v.tree p + length bytes) ++ needs_moment moment
own_tests v (Fill p count seed) moment = file_tests v.tree p count ++ needs_moment moment
own_tests v (Rm p) moment = item_tests v.tree p ++ (is_at_folder (way v.tree p), IsFolder) ∷ needs_moment moment
own_tests v (Rmdir p) moment = rmdir_tests v.tree p ++ needs_moment moment
own_tests v (Mv a b) moment = mv_tests v.tree a b ++ needs_moment moment
own_tests v (Ln p target) moment = place_tests v.tree p ++ needs_moment moment
own_tests v (Chmod p mode) moment = item_tests v.tree p
own_tests v (Chown p uid gid) moment = item_tests v.tree p
own_tests v (Setx p name value) moment = setx_tests v.tree p name
own_tests v (Rmx p name) moment = rmx_tests v.tree p name
own_tests v (Fix p) moment = fix_tests v.fixed p
own_tests v (Unfix p) moment = (not (is_fixed v.fixed p), NotExcluded) ∷ []

-- the refusals of a change but for Full
abbrev pub tests : Contents → Change → Option ℕ → Tests
tests v c moment = own_tests v c moment ++ ids_spent v (numbers v.tree c)

-- ---- what each line does

-- byte i of what `fill` writes; sums don't wrap
abbrev pub fill_byte : ℕ → ℕ → ℕ
fill_byte seed i = (seed + 7 * i + i / 256) % 256

abbrev pub fill_bytes : ℕ → ℕ → List ℕ
fill_bytes count seed = map (fill_byte seed) (range_with_len 0 count)

-- the file with these bytes and this stamp: a new one, or the one that stands there, which keeps its
-- mode, owners and extras
abbrev pub written : Option Item → ℕ → ℕ → List ℕ → Item
written None moment stamp bytes = new_file moment stamp bytes
written (Some e) moment stamp bytes = File (record (attrs_of e) { modified = moment }) stamp bytes

-- making an entry dates the folder; writing a file that stands does not
abbrev pub write_at : Tree → Names → ℕ → ℕ → List ℕ → Tree
write_at t p moment stamp bytes = let tree = put t p (written (item_at t p) moment stamp bytes) in
    if is_some (item_at t p) then tree else touch tree (parent_of p) moment

-- an entry made in a folder, which is dated
abbrev pub place_at : Tree → Names → ℕ → Item → Tree
place_at t p moment e = touch (put t p e) (parent_of p) moment

-- an entry less in a folder, which is dated
abbrev pub remove_at : Tree → Names → ℕ → Tree
remove_at t p moment = touch (without t p) (parent_of p) moment

-- all at a and beneath it stands at b; both folders are dated
abbrev pub move_to : Tree → Names → Names → ℕ → Tree
move_to t a b moment = touch (touch (moved t a b) (parent_of a) moment) (parent_of b) moment

-- other attributes of the item at p, which gets a new stamp if it is a file or link
abbrev pub attrs_changed : Tree → Names → ℕ → (Attrs → Attrs) → Tree
attrs_changed t p stamp f = change_at (λ e. stamped stamp (with_attrs (f (attrs_of e)) e)) t p

-- the tree after a change that is made; stamps are drawn from `next`
abbrev pub tree_after : Tree → ℕ → ℕ → Change → Tree
tree_after t next moment (Mkdir p) = place_at t p moment (new_folder moment)
tree_after t next moment (Write p bytes) = write_at t p moment next bytes
tree_after t next moment (Append p bytes) = write_at t p moment next (option_map_or bytes_of (item_at t p) [] ++ bytes)
tree_after t next moment (Fill p count seed) = write_at t p moment next (fill_bytes count seed)
tree_after t next moment (Rm p) = remove_at t p moment
tree_after t next moment (Rmdir p) = remove_at t p moment
tree_after t next moment (Mv a b) = move_to t a b moment
tree_after t next moment (Ln p target) = place_at t p moment (new_link moment next target)
tree_after t next moment (Chmod p mode) = attrs_changed t p next (λ a. record a { mode = mode })
tree_after t next moment (Chown p uid gid) = attrs_changed t p next (λ a. record a { uid = uid; gid = gid })
tree_after t next moment (Setx p name value) = attrs_changed t p next (λ a. record a { extra = with_extra name value a.extra })
tree_after t next moment (Rmx p name) = attrs_changed t p next (λ a. record a { extra = without_extra name a.extra })
tree_after t next moment (Fix p) = t
tree_after t next moment (Unfix p) = t

abbrev pub fixed_after : List Names → Change → List Names
fixed_after fixed (Fix p) = with_fixed fixed p
fixed_after fixed (Unfix p) = without_fixed fixed p
fixed_after fixed _ = fixed

-- the contents after a change that is made; a line that needs no moment doesn't look at it
abbrev pub after : Contents → Change → Option ℕ → Contents
after v c moment = record {
  tree = tree_after v.tree v.next (unwrap_or moment 0) c;
  fixed = fixed_after v.fixed c;
  next = v.next + numbers v.tree c;
}
