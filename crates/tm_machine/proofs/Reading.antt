-- What a walk down a path tells of the item at its end, and of the refusals.
use Rattle.std.proofs.Common.{◌≡◌, ℕ, true, false, if◌then◌else◌, Option, Some, None, Result, Ok, Err, List, [], ◌∷◌, ◌++◌, append_assoc, append-nil, refl, sym, ap, ◌∙◌, ◌⊎◌, inl, inr}
use Rattle.std.specs.Option.{option_map_or}
use Rattle.tm_base.specs.Paths.{Names}
use Rattle.tm_base.specs.declared.refused.Refused.{Refused}
use Rattle.tm_base.specs.declared.refused.Refused.TheVariants.{NotFound, NotFolder, IsFolder}
use Rattle.tm_base.specs.declared.refused.LineFault.{LineFault}
use Rattle.tm_base.specs.declared.refused.LineFault.TheVariants as fault
use Rattle.tm_reply.specs.declared.row.ReplyRow.{ReplyRow}
use Rattle.tm_tree.specs.declared.item.Item.{Item}
use Rattle.tm_tree.specs.declared.item.Item.TheVariants.{Folder, File, Link}
use Rattle.tm_tree.specs.Items.{is_folder}
use Rattle.tm_tree.specs.Trees.{Tree, item_at}
use Rattle.tm_tree.specs.Walks.{walk_from, walk, through, found, way_of, Finds}
use Rattle.tm_tree.specs.Changes.{item_tests}
use Rattle.tm_tree.specs.Refusing.{first_refused}
use Rattle.tm_machine.specs.Queries.{list_rows, shown_rows, content_rows, content_row}
use Rattle.tm_tree.specs.Listings.{entries_of}
use Rattle.tm_machine.specs.Steps.{content_tests}
use Rattle.tm_machine.specs.Answers.{AnswersQuery}

found_is : (o : Option Item) (e : Item) → found o ≡ Ok e → o ≡ Some e
found_is None e h = cc
found_is (Some d) e h = cc

onward : (o : Option Item) (w : Result Item Refused) (e : Item) → through o w ≡ Ok e → w ≡ Ok e
onward None w e h = cc
onward (Some d) w e h = elim (is_folder d) as (λ b. (if b then w else Err NotFolder) ≡ Ok e → w ≡ Ok e) [ true ↦ λ k. k | false ↦ λ k. cc ] h

stands_from : (t : Tree) (done p : Names) (e : Item) → walk_from t done p ≡ Ok e → item_at t (done ++ p) ≡ Some e
stands_from t done [] e h = ap (item_at t) (append-nil done) ∙ found_is (item_at t done) e h
stands_from t done (n ∷ p) e h =
    ap (item_at t) (sym (append_assoc done (n ∷ []) p)) ∙ stands_from t (done ++ n ∷ []) p e (onward (item_at t done) _ e h)

-- the item that a walk comes to stands there
pub walk_stands : (t : Tree) (p : Names) (e : Item) → walk t p ≡ Ok e → item_at t p ≡ Some e
walk_stands t p e h = stands_from t [] p e h

-- a walk is refused in two ways
IsWalkRefusal : Refused → Type 0
IsWalkRefusal why = (why ≡ NotFound) ⊎ (why ≡ NotFolder)

found_refused : (o : Option Item) (why : Refused) → found o ≡ Err why → IsWalkRefusal why
unfolding IsWalkRefusal
found_refused None why h = inl cc
found_refused (Some d) why h = cc

through_refused : (o : Option Item) (w : Result Item Refused) (why : Refused) → (w ≡ Err why → IsWalkRefusal why) → through o w ≡ Err why → IsWalkRefusal why
unfolding IsWalkRefusal
through_refused None w why rest h = inl cc
through_refused (Some d) w why rest h =
    elim (is_folder d) as (λ b. (if b then w else Err NotFolder) ≡ Err why → (why ≡ NotFound) ⊎ (why ≡ NotFolder)) [ true ↦ rest | false ↦ λ k. inr cc ] h

refused_from : (t : Tree) (done p : Names) (why : Refused) → walk_from t done p ≡ Err why → IsWalkRefusal why
refused_from t done [] why h = found_refused (item_at t done) why h
refused_from t done (n ∷ p) why h = through_refused (item_at t done) _ why (refused_from t (done ++ n ∷ []) p why) h

-- the tests of an item by the end of the walk
item_missing : (t : Tree) (p : Names) (why : Refused) → walk t p ≡ Err why → first_refused (item_tests t p) ≡ Some why
unfolding IsWalkRefusal
item_missing t p why h =
    elim (refused_from t [] p why h) [
      | inl is ↦ rw (ap way_of (h ∙ ap (λ (r : Refused). Err r) is), is) refl
      | inr is ↦ rw (ap way_of (h ∙ ap (λ (r : Refused). Err r) is), is) refl
    ]

content_missing : (t : Tree) (p : Names) (why : Refused) → walk t p ≡ Err why → first_refused (content_tests t p) ≡ Some why
unfolding IsWalkRefusal
content_missing t p why h =
    elim (refused_from t [] p why h) [
      | inl is ↦ rw (ap way_of (h ∙ ap (λ (r : Refused). Err r) is), is) refl
      | inr is ↦ rw (ap way_of (h ∙ ap (λ (r : Refused). Err r) is), is) refl
    ]

pub item_there : (t : Tree) (p : Names) (e : Item) → walk t p ≡ Ok e → first_refused (item_tests t p) ≡ None
item_there t p (Folder a) h = rw (ap way_of h) refl
item_there t p (File a s b) h = rw (ap way_of h) refl
item_there t p (Link a s b) h = rw (ap way_of h) refl

content_there : (t : Tree) (p : Names) (e : Item) → walk t p ≡ Ok e → is_folder e ≡ false → first_refused (content_tests t p) ≡ None
content_there t p (Folder a) h not_folder = cc
content_there t p (File a s b) h not_folder = rw (ap way_of h) refl
content_there t p (Link a s b) h not_folder = rw (ap way_of h) refl

pub content_folder : (t : Tree) (p : Names) (e : Item) → walk t p ≡ Ok e → is_folder e ≡ true → first_refused (content_tests t p) ≡ Some IsFolder
content_folder t p (Folder a) h folder = rw (ap way_of h) refl
content_folder t p (File a s b) h folder = cc
content_folder t p (Link a s b) h folder = cc

-- what is answered where no item is found
pub list_missing : (t : Tree) (p : Names) (why : LineFault) (data_lines : List ReplyRow) → Finds (walk t p) (Err why) → AnswersQuery (item_tests t p) data_lines (Err why)
list_missing t p (fault.Refused why) data_lines h = item_missing t p why h
list_missing t p (fault.Fault side) data_lines h = h
list_missing t p fault.Memory data_lines h = tt

pub contents_missing : (t : Tree) (p : Names) (why : LineFault) (data_lines : List ReplyRow) → Finds (walk t p) (Err why) → AnswersQuery (content_tests t p) data_lines (Err why)
contents_missing t p (fault.Refused why) data_lines h = content_missing t p why h
contents_missing t p (fault.Fault side) data_lines h = h
contents_missing t p fault.Memory data_lines h = tt

-- and where one is
pub lists : (t : Tree) (p : Names) (e : Item) (entries : List (List ℕ × Item)) (data_lines : List ReplyRow) → walk t p ≡ Ok e
    → entries ≡ entries_of t p → data_lines ≡ shown_rows e p entries → (first_refused (item_tests t p) ≡ None) × (data_lines ≡ list_rows t p)
lists t p e entries data_lines h es is = (item_there t p e h, is ∙ ap (shown_rows e p) es ∙ sym (ap (λ (o : Option Item). option_map_or {T = Item} {U = List ReplyRow} (λ d. shown_rows d p (entries_of t p)) o []) (walk_stands t p e h)))

pub tells : (t : Tree) (p : Names) (e : Item) (data_lines : List ReplyRow) → walk t p ≡ Ok e → is_folder e ≡ false
    → data_lines ≡ content_row e → (first_refused (content_tests t p) ≡ None) × (data_lines ≡ content_rows t p)
tells t p e data_lines h not_folder is = (content_there t p e h not_folder, is ∙ sym (ap (λ (o : Option Item). option_map_or {T = Item} {U = List ReplyRow} content_row o []) (walk_stands t p e h)))
