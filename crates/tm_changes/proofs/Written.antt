-- What is planned for a file that gets bytes, and for the changes that give it them.
use Rattle.std.proofs.Common.{◌≡◌, ℕ, ◌+◌, ◌^◌, ◌<◌, ◌≤◌, Bool, true, false, not, cond, nat_lt, List, [], ◌∷◌, length, refl, sym, ap, ◌∙◌, subst, Option, Some, None, Result, IsSome, is_none, arith}
use Rattle.std.specs.Option.{option_map, option_map_or}
use Rattle.tm_base.specs.Days.{last_moment}
use Rattle.tm_base.specs.IsName.{IsName}
use Rattle.tm_base.specs.Paths.{Names}
use Rattle.tm_base.specs.declared.refused.Refused.{Refused}
use Rattle.tm_base.specs.declared.refused.Refused.TheVariants.{NotFound, Exists, NotFolder, IsFolder, TooLong, TooMany, NoMoment, IdsSpent}
use Rattle.tm_items.specs.Changes.{Are}
use Rattle.tm_items.specs.Placings.{Placed, Items}
use Rattle.tm_items.proofs.Finding.{stands_found}
use Rattle.tm_nodes.specs.Items.{item_text, IsItemOfSize}
use Rattle.tm_records.specs.declared.record.Body.TheVariants.{Empty}
use Rattle.tm_tree.specs.declared.item.Item.{Item}
use Rattle.tm_tree.specs.declared.item.Item.TheVariants as item
use Rattle.tm_tree.specs.declared.node.LeafRow.TheVariants as leaf
use Rattle.tm_tree.specs.declared.record.ItemBody.{ItemBody}
use Rattle.tm_tree.specs.declared.record.ItemBody.TheVariants as body
use Rattle.tm_tree.specs.declared.record.ItemRow.{ItemRow}
use Rattle.tm_tree.specs.Changes.{most_bytes, most_items, length_at}
use Rattle.tm_tree.specs.Contents.{Contents}
use Rattle.tm_tree.specs.Items.{bytes_of}
use Rattle.tm_tree.specs.Refusing.{first_refused}
use Rattle.tm_tree.specs.Trees.{Tree, item_at}
use Rattle.tm_tree.specs.Walks.{way, way_of, way_to, is_at_file}
use Rattle.tm_volume.specs.declared.edit.Edit.{Edit}
use Rattle.tm_changes.specs.declared.destination.Destination.{Destination}
use Rattle.tm_changes.specs.declared.destination.Destination.TheVariants.{Nowhere, NoFolder, Folder}
use Rattle.tm_changes.specs.declared.target.Target.{Target}
use Rattle.tm_changes.specs.declared.target.Target.TheVariants as target
use Rattle.tm_changes.specs.Placing.{IsRowAt}
use Rattle.tm_volume.specs.Seen.{IsShelved}
use Rattle.tm_changes.specs.Plans.{IsGood}
use Rattle.tm_volume.specs.Room.{body_of, placed_row}
use Rattle.tm_volume.specs.Seen.{Seen, entries_on, items_on, tree_on, volume_on}
use Rattle.tm_changes.specs.Destinations.{MeetsDestination}
use Rattle.tm_changes.specs.Targets.{EndsAt, IsFileAt, IsFileBody, MeetsTarget, is_file_there, body_length, target_length, target_tests}
use Rattle.tm_changes.specs.Writes.{write_tests, new_file_row, redone_row, WritesFile}
use Rattle.tm_volume_records.specs.Records.{item_key, journal_key, IsThere}
use Rattle.tm_volume_records.specs.Rules.{HasData, IsGoodVolume}
use Rattle.tm_volume.proofs.Finding.{are_on}
use Rattle.tm_volume.proofs.GoodRecords.{good_from}
use Rattle.tm_changes.proofs.Results.{on_shelf_of}
use Rattle.tm_changes.proofs.Planning.{new_attrs_are}
use Rattle.tm_changes.proofs.ItemRecords.{row_rules, row_held}
use Rattle.tm_changes.proofs.Rewriting.{rewrites_file}
use Rattle.tm_changes.proofs.Destinations.{goes_is, one_more, row_stands}
use Rattle.tm_base.specs.Limits.{max_items}

-- ---- the rows

pub new_file_is : (k : ℕ) (called : List ℕ) (moment stamp size : ℕ) → k ≤ max_items → IsName called → moment ≤ last_moment → stamp < 2 ^ 64 → IsItemOfSize size (new_file_row k called moment stamp size)
new_file_is k called moment stamp size few named low fits = record {
  rules = record { parent = omega arith; name = named; attrs = new_attrs_are 420 moment (omega arith) low; tail = fits };
  size_is = refl;
}

pub redone_is : (parent : ℕ) (name : Option (List ℕ)) (b : ItemBody) (was moment stamp size : ℕ) → IsFileBody b → IsItemOfSize was (record { parent = parent; name = name; body = b }) → moment ≤ last_moment → stamp < 2 ^ 64
    → IsItemOfSize size (redone_row (record { parent = parent; name = name; body = b }) moment stamp size)
redone_is parent name (body.Folder attrs) was moment stamp size file is low fits = absurd file
redone_is parent name (body.Leaf (leaf.File attrs old count)) was moment stamp size file is low fits =
    let a = is.rules.attrs in
    record {
      rules = record {
        parent = is.rules.parent;
        name = is.rules.name;
        attrs = record { mode = a.mode; uid = a.uid; gid = a.gid; modified = low; few = a.few; each = a.each; rising = a.rising };
        tail = fits;
      };
      size_is = refl;
    }
redone_is parent name (body.Leaf (leaf.Link attrs old target)) was moment stamp size file is low fits = absurd file

-- ---- the file that stands

some_there : (o : Option Placed) (x : Placed) → o ≡ Some x → IsSome o
some_there None x h = cc
some_there (Some y) x h = refl

abbrev pub FileStands : Seen → Names → ℕ → ItemRow → Type 0
FileStands m p n row = (bytes : ℕ → List ℕ) → IsFileAt (items_on m bytes) (tree_on m bytes) p n row

pub file_there : (m : Seen) (p : Names) (n : ℕ) (row : ItemRow) → FileStands m p n row → IsThere m.image.records n
file_there m p n row file bytes = some_there (items_on m bytes n) (file bytes).found.placed (file bytes).found.is

pub file_row_at : (m : Seen) (s : IsShelved m) (p : Names) (n : ℕ) (row : ItemRow) → FileStands m p n row → IsRowAt m.image.records n row
file_row_at m s p n row file = row_stands m.image.records s.image.rising n (file_there m p n row file) row
    (λ bytes. ap (λ (o : Option Placed). option_map placed_row o) (file bytes).found.is ∙ ap Some (file bytes).row_is)

-- what its edit is, before it brings a blob
pub record IsRewrite (m : Seen) (e : Edit) (p : Names) (n moment size : ℕ) (row : ItemRow) : Type 0 where
  pub file : FileStands m p n row
  pub put : e.put.items ≡ record { key = item_key n; meta = item_text (redone_row row moment m.tag.next size); body = Empty } ∷ []
  pub remove : e.remove.items ≡ journal_key ∷ []
  pub enter : e.enter ≡ None
  pub leave : e.leave ≡ None
  pub fixed : e.fixed ≡ None
  pub next_is : e.next ≡ m.tag.next + 2
  pub small : size ≤ most_bytes
  pub low : moment ≤ last_moment
  pub next_most : m.tag.next + 2 ≤ 2 ^ 62
  pub passes : (bytes : ℕ → List ℕ) → IsGood m bytes → first_refused (write_tests (volume_on m bytes).contents p size (Some moment)) ≡ None

module _ (m : Seen) (s : IsShelved m) (e : Edit) (p : Names) (n moment size : ℕ) where
  by_body : (parent : ℕ) (name : Option (List ℕ)) (b : ItemBody) → IsFileBody b → IsRewrite m e p n moment size (record { parent = parent; name = name; body = b }) → WritesFile m p size (Some moment) e
  by_body parent name (body.Folder attrs) file is = absurd file
  by_body parent name (body.Leaf (leaf.File attrs was count)) file is =
      let row : ItemRow = record { parent = parent; name = name; body = body.Leaf (leaf.File attrs was count) } in
      let row_at = file_row_at m s p n row is.file in
      rewrites_file m s.numbers (on_shelf_of m s) e p n moment size parent was count name attrs
      (record {
        row_at = row_at;
        found = λ bytes. (is.file bytes).found;
        put_is = is.put;
        remove = is.remove;
        enter = is.enter;
        leave = is.leave;
        fixed = is.fixed;
        next_is = is.next_is;
        rules = redone_is parent name (body.Leaf (leaf.File attrs was count)) row_at.rec.length moment m.tag.next size tt (row_rules m.image.records n row row_at) is.low (omega (arith, is.next_most));
        small = is.small;
        next_most = is.next_most;
      })
      is.passes
  by_body parent name (body.Leaf (leaf.Link attrs was target)) file is = absurd file

  pub rewritten : (row : ItemRow) → IsFileBody row.body → IsRewrite m e p n moment size row → WritesFile m p size (Some moment) e
  rewritten row file is = by_body row.parent row.name row.body file is

-- ---- the tests

pub target_decides : (items : Items) (v : Contents) (p : Names) (into : Destination) (there : Target) (count size : ℕ) (moment : Option ℕ) → MeetsDestination items v.tree p into → EndsAt v.tree p there → count ≡ length v.tree
    → first_refused (write_tests v p size moment) ≡ first_refused (target_tests into there count size moment v.next)
target_decides items v p into there count size moment goes ends many =
    let g = goes_is items v.tree p into goes in
    let link = ends.link in
    let folder = ends.folder in
    let file = ends.file in
    λ i. first_refused (
    (g.0 i, NotFound)
    ∷ (link i, Exists)
    ∷ (not (g.1 i), NotFolder)
    ∷ (folder i, IsFolder)
    ∷ (nat_lt most_bytes size, TooLong size)
    ∷ (nat_lt most_items (cond (file i) (sym many i) (sym many i + 1)), TooMany (cond (file i) (sym many i) (sym many i + 1)))
    ∷ (is_none moment, NoMoment)
    ∷ (nat_lt (2 ^ 62) (v.next + 2), IdsSpent)
    ∷ []
    )

abbrev pub Meets : Seen → Names → Target → Type 0
Meets m p there = (bytes : ℕ → List ℕ) → MeetsTarget (items_on m bytes) (tree_on m bytes) p there

pub file_decides : (m : Seen) (p : Names) (into : Destination) (there : Target) (count size next : ℕ) (moment : Option ℕ) → ((bytes : ℕ → List ℕ) → MeetsDestination (items_on m bytes) (tree_on m bytes) p into) → Meets m p there
    → ((bytes : ℕ → List ℕ) → IsGoodVolume (entries_on m bytes) m.tag → count ≡ length (tree_on m bytes)) → next ≡ m.tag.next → (bytes : ℕ → List ℕ) → IsGood m bytes
    → first_refused (write_tests (volume_on m bytes).contents p size moment) ≡ first_refused (target_tests into there count size moment next)
file_decides m p into there count size next moment goes meets many is bytes good =
    target_decides (items_on m bytes) (volume_on m bytes).contents p into there count size moment (goes bytes) (meets bytes).0 (many bytes good.good)
    ∙ ap (λ (k : ℕ). first_refused (target_tests into there count size moment k)) (sym is)

-- where none refuses a new file there are fewer items than a volume may have
pub file_fewer : (into : Destination) (there : Target) (count size : ℕ) (moment : Option ℕ) (next : ℕ) → None ≡ first_refused (target_tests into there count size moment next) → is_file_there there ≡ false → count < most_items
file_fewer Nowhere there count size moment next h none = cc
file_fewer NoFolder target.Nothing count size moment next h none = cc
file_fewer NoFolder target.Folder count size moment next h none = cc
file_fewer NoFolder target.Link count size moment next h none = cc
file_fewer NoFolder (target.File n row) count size moment next h none = cc
file_fewer (Folder k) target.Folder count size moment next h none = cc
file_fewer (Folder k) target.Link count size moment next h none = cc
file_fewer (Folder k) (target.File n row) count size moment next h none = cc
file_fewer (Folder k) target.Nothing count size moment next h none = by_size (nat_lt most_bytes size) h
  where
    rest : Option Refused
    rest = first_refused ((is_none moment, NoMoment) ∷ (nat_lt (2 ^ 62) (next + 2), IdsSpent) ∷ [])

    by_size : (b : Bool) → None ≡ cond b (Some (TooLong size)) (cond (nat_lt most_items (count + 1)) (Some (TooMany (count + 1))) rest) → count < most_items
    by_size true h = cc
    by_size false h = one_more count rest (nat_lt most_items (count + 1)) refl h

-- ---- what stands there

file_body : (e : Item) → is_at_file (way_to e) ≡ true → IsFileBody (body_of e)
file_body (item.Folder attrs) h = cc
file_body (item.File attrs stamp bytes) h = tt
file_body (item.Link attrs stamp target) h = cc

pub is_file_row : (items : Items) (t : Tree) (p : Names) (n : ℕ) (row : ItemRow) → MeetsTarget items t p (target.File n row) → IsFileBody row.body
is_file_row items t p n row meets =
    let file = meets.1 in
    let ends : is_at_file (way t p) ≡ true = meets.0.file in
    subst (λ (r : ItemRow). IsFileBody r.body) file.row_is (file_body file.found.placed.item (sym (ap (λ (r : Result Item Refused). is_at_file (way_of r)) file.found.walk_is) ∙ ends))

-- ---- its length

bare : (e : Item) → is_at_file (way_to e) ≡ false → length (bytes_of e) ≡ 0
bare (item.Folder attrs) h = refl
bare (item.File attrs stamp bytes) h = cc
bare (item.Link attrs stamp target) h = refl

no_file : (items : Items) (t : Tree) (p : Names) → Are items t → is_at_file (way t p) ≡ false → length_at t p ≡ 0
no_file items t p are off = on_item (item_at t p) refl
  where
    on_item : (o : Option Item) → item_at t p ≡ o → length_at t p ≡ 0
    on_item None is = ap (λ (o : Option Item). option_map_or (λ (e : Item). length (bytes_of e)) o 0) is
    on_item (Some e) is =
        let found = (stands_found items t p e are is).1 in
        ap (λ (o : Option Item). option_map_or (λ (x : Item). length (bytes_of x)) o 0) found.stands
        ∙ bare found.placed.item (sym (ap (λ (r : Result Item Refused). is_at_file (way_of r)) found.walk_is) ∙ off)

body_long : (e : Item) → body_length (body_of e) ≡ length (bytes_of e)
body_long (item.Folder attrs) = refl
body_long (item.File attrs stamp bytes) = refl
body_long (item.Link attrs stamp target) = refl

pub length_is : (items : Items) (t : Tree) (p : Names) (there : Target) → Are items t → MeetsTarget items t p there → target_length there ≡ length_at t p
length_is items t p target.Nothing are meets = sym (no_file items t p are meets.0.file)
length_is items t p target.Folder are meets = sym (no_file items t p are meets.0.file)
length_is items t p target.Link are meets = sym (no_file items t p are meets.0.file)
length_is items t p (target.File n row) are meets =
    let file = meets.1 in
    ap (λ (r : ItemRow). body_length r.body) (sym file.row_is) ∙ body_long file.found.placed.item ∙ sym (ap (λ (o : Option Item). option_map_or (λ (x : Item). length (bytes_of x)) o 0) file.found.stands)

data_small : (parent : ℕ) (name : Option (List ℕ)) (b : ItemBody) (size : ℕ) → IsItemOfSize size (record { parent = parent; name = name; body = b }) → HasData b size → body_length b ≤ most_bytes
data_small parent name (body.Folder attrs) size is held = omega arith
data_small parent name (body.Leaf (leaf.File attrs stamp count)) size is held = omega (arith, is.size_is, held)
data_small parent name (body.Leaf (leaf.Link attrs stamp target)) size is held = omega arith

pub length_small : (m : Seen) (s : IsShelved m) (p : Names) (there : Target) → Meets m p there → (bytes : ℕ → List ℕ) → IsGood m bytes → target_length there ≤ most_bytes
length_small m s p target.Nothing meets bytes good = omega arith
length_small m s p target.Folder meets bytes good = omega arith
length_small m s p target.Link meets bytes good = omega arith
length_small m s p (target.File n row) meets bytes good =
    let row_at = file_row_at m s p n row (λ b. (meets b).1) in
    data_small row.parent row.name row.body row_at.rec.length (row_rules m.image.records n row row_at) (row_held m.image.records n row row_at bytes m.tag.next (good_from bytes m.image.records m.tag good.good)).bytes

pub length_there : (m : Seen) (s : IsShelved m) (p : Names) (there : Target) → Meets m p there → (bytes : ℕ → List ℕ) → target_length there ≡ length_at (tree_on m bytes) p
length_there m s p there meets bytes = length_is (items_on m bytes) (tree_on m bytes) p there (are_on m s.numbers (on_shelf_of m s) bytes) (meets bytes)
