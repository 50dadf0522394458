-- Folders of a volume in memory.
use Rattle.std.proofs.Common.{◌≡◌, ℕ, ◌-◌, List, [], ◌∷◌, ◌++◌, length, map, get_or, refl, sym, ap, ◌∙◌, subst, Option, Some, None, Err, is_some, append_assoc, arith, length-append, inl, inr}
use Rattle.std.proofs.Math.Seq.{get_or-append_seam}
use Rattle.std.proofs.lemmas.List.{append-nil}
use Rattle.std.proofs.lemmas.Option.{same_Some}
use Rattle.std.specs.Option.{option_map}
use Rattle.tm_base.specs.Paths.{Names}
use Rattle.tm_base.specs.declared.refused.Refused.{Refused}
use Rattle.tm_items.specs.Index.{Numbers}
use Rattle.tm_items.specs.Listing.{AreEntries, row_of, rows_in}
use Rattle.tm_items.specs.Places.{at_name}
use Rattle.tm_items.specs.Placings.{Placed, Items}
use Rattle.tm_items.proofs.Entries.{lists_children, found_at}
use Rattle.tm_items.proofs.Finding.{stands_found}
use Rattle.tm_items.proofs.Reading.{Among}
use Rattle.tm_records.specs.Records.{Records}
use Rattle.tm_tree.specs.Listings.{listed, list_rows, listing_of, listing}
use Rattle.tm_tree.specs.Trees.{Tree, item_at, children, last_of}
use Rattle.tm_tree.specs.Walks.{walk}
use Rattle.tm_tree.specs.declared.attrs.Attrs.{Attrs}
use Rattle.tm_tree.specs.declared.item.Item.{Item}
use Rattle.tm_tree.specs.declared.item.Item.TheVariants as item
use Rattle.tm_tree.specs.declared.listing.ListKind.{ListKind}
use Rattle.tm_tree.specs.declared.listing.ListRow.{ListRow}
use Rattle.tm_tree.specs.declared.record.ItemBody.TheVariants as body
use Rattle.tm_tree.specs.declared.record.ItemRow.{ItemRow}
use Rattle.tm_volume.specs.Listed.{listed_body, listed_row, listed_rows, AreThere, HasListed}
use Rattle.tm_volume_records.specs.Records.{IsThere}
use Rattle.tm_volume.specs.Room.{body_of, placed_row}
use Rattle.tm_volume.specs.Seen.{Seen, items_on, tree_on}
use Rattle.tm_volume.proofs.Finding.{OnShelf, are_on, IsFound, IsRowAt, row_found}

abbrev Entries : Type 0
Entries = List (List ℕ × ℕ)

-- ---- the rows of entries

listed_is : (e : Item) → listed e ≡ listed_body (body_of e)
listed_is (item.Folder attrs) = refl
listed_is (item.File attrs stamp bytes) = refl
listed_is (item.Link attrs stamp target) = refl

row_listed : (name : List ℕ) (o : Option Placed) (row : ItemRow) → option_map placed_row o ≡ Some row → listed_row name o ≡ record { name = name; kind = listed_body row.body } ∷ []
row_listed name None row is = cc
row_listed name (Some x) row is =
    ap (λ k. record { name = name; kind = k } ∷ []) (listed_is x.item ∙ ap (λ (r : ItemRow). listed_body r.body) (same_Some (placed_row x) row is))

-- one entry more
rows_more : (items : Items) (rows : List ListRow) (es rest : Entries) (name : List ℕ) (n : ℕ) (row : ItemRow) (all : List ListRow) → es ≡ (name, n) ∷ rest
    → option_map placed_row (items n) ≡ Some row → rows ++ listed_rows items es ≡ all → (rows ++ record { name = name; kind = listed_body row.body } ∷ []) ++ listed_rows items rest ≡ all
rows_more items rows es rest name n row all first is so_far =
    append_assoc rows (record { name = name; kind = listed_body row.body } ∷ []) (listed_rows items rest)
    ∙ ap (λ (here : List ListRow). rows ++ (here ++ listed_rows items rest)) (sym (row_listed name (items n) row is))
    ∙ ap (λ (all : Entries). rows ++ listed_rows items all) (sym first) ∙ so_far

pub rows_pushed : (items : Items) (rows pushed : List ListRow) (es rest : Entries) (name called : List ℕ) (n : ℕ) (row : ItemRow) (k : ListKind) (all : List ListRow)
    → pushed ≡ rows ++ record { name = called; kind = k } ∷ [] → called ≡ name → k ≡ listed_body row.body → es ≡ (name, n) ∷ rest
    → option_map placed_row (items n) ≡ Some row → rows ++ listed_rows items es ≡ all → pushed ++ listed_rows items rest ≡ all
rows_pushed items rows pushed es rest name called n row k all push same kind first is so_far =
    ap (λ (xs : List ListRow). xs ++ listed_rows items rest) (push ∙ (λ i. rows ++ record { name = same i; kind = kind i } ∷ []))
    ∙ rows_more items rows es rest name n row all first is so_far

pub rows_end : (items : Items) (rows : List ListRow) (es : Entries) (all : List ListRow) → es ≡ [] → rows ++ listed_rows items es ≡ all → rows ≡ all
rows_end items rows es all none so_far = sym (append-nil rows) ∙ ap (λ (all : Entries). rows ++ listed_rows items all) (sym none) ∙ so_far

pub there_first : (records : Records) (es rest : Entries) (name : List ℕ) (n : ℕ) → es ≡ (name, n) ∷ rest → AreThere records es → IsThere records n
there_first records es rest name n first there = (subst (λ (all : Entries). AreThere records all) first there).0

pub there_rest : (records : Records) (es rest : Entries) (name : List ℕ) (n : ℕ) → es ≡ (name, n) ∷ rest → AreThere records es → AreThere records rest
there_rest records es rest name n first there = (subst (λ (all : Entries). AreThere records all) first there).1

-- ---- the entries of a folder

all_there : (records : Records) (es : Entries) → ((name : List ℕ) (n : ℕ) → Among es name n → IsThere records n) → AreThere records es
all_there records [] each = tt
all_there records (e ∷ es) each = (each e.0 e.1 (inl (refl, refl)), all_there records es (λ name n a. each name n (inr a)))

-- an item stands under the number of each entry
pub entries_there : (v m : Seen) → v ≡ m → (numbers : Numbers) → OnShelf m numbers → (k : ℕ) (es : Entries) → AreEntries numbers k es → AreThere v.image.records es
entries_there v m same numbers on k es entries =
    subst (λ (w : Seen). AreThere w.image.records es) (sym same) (all_there m.image.records es (λ name n a bytes.
    ap is_some ((on.shelf.index_is bytes).told (at_name k name) n (sym (entries.are name) ∙ found_at es name n entries.in_order a)).is))

last_pushed : (p : Names) (name : List ℕ) → last_of (p ++ name ∷ []) ≡ name
last_pushed p name =
    let last : length (p ++ name ∷ []) - 1 ≡ length p = omega (arith, length-append p (name ∷ [])) in
    ap (λ (i : ℕ). get_or (p ++ name ∷ []) i []) last ∙ get_or-append_seam p name [] []

-- the rows of a folder, by its children in the tree
rows_named : (items : Items) (p : Names) (es : Entries) → map (λ row. record { name = last_of row.0; kind = listed row.1 }) (rows_in items p es) ≡ listed_rows items es
rows_named items p [] = refl
rows_named items p (e ∷ es) = named (items e.1) (rows_in items p es) (listed_rows items es) (rows_named items p es)
  where
    named : (o : Option Placed) (t : Tree) (rows : List ListRow) → map (λ row. record { name = last_of row.0; kind = listed row.1 }) t ≡ rows
        → map (λ row. record { name = last_of row.0; kind = listed row.1 }) (row_of p e.0 o ++ t) ≡ listed_row e.0 o ++ rows
    named None t rows is = is
    named (Some x) t rows is = λ i. record { name = last_pushed p e.0 i; kind = listed x.item } ∷ is i

-- ---- the listing

none_folder : (t : Tree) (p : Names) → item_at t p ≡ None → None ≡ listing t p
none_folder t p is = sym (ap (λ (o : Option Item). listing_of o (list_rows t p)) is)

pub nothing_listed : (m : Seen) (numbers : Numbers) → OnShelf m numbers → (p : Names) (why : Refused) → ((bytes : ℕ → List ℕ) → walk (tree_on m bytes) p ≡ Err why)
    → (bytes : ℕ → List ℕ) → None ≡ listing (tree_on m bytes) p
nothing_listed m numbers on p why refused bytes = by_item (item_at (tree_on m bytes) p) refl
  where
    by_item : (o : Option Item) → item_at (tree_on m bytes) p ≡ o → None ≡ listing (tree_on m bytes) p
    by_item None is = none_folder (tree_on m bytes) p is
    by_item (Some e) is =
        let found = stands_found (items_on m bytes) (tree_on m bytes) p e (are_on m numbers on bytes) is in
        let clash = sym (refused bytes) ∙ found.1.walk_is in cc

folder_listed : (t : Tree) (p : Names) (e : Item) (attrs : Attrs) (rows : List ListRow) → item_at t p ≡ Some e → body_of e ≡ body.Folder attrs → rows ≡ list_rows t p
    → Some (record { attrs = attrs; rows = rows }) ≡ listing t p
folder_listed t p (item.Folder a) attrs rows is same rows_are =
    let own : a ≡ attrs = cc in
    sym (ap (λ (o : Option Item). listing_of o (list_rows t p)) is ∙ (λ i. Some (record { attrs = own i; rows = sym rows_are i })))
folder_listed t p (item.File a stamp bytes) attrs rows is same rows_are = cc
folder_listed t p (item.Link a stamp target) attrs rows is same rows_are = cc

pub rows_listed : (v m : Seen) → v ≡ m → (numbers : Numbers) → OnShelf m numbers → (p : Names) (n : ℕ) → IsFound m p n → (rows : List ListRow)
    → HasListed v.image.records numbers n rows → (bytes : ℕ → List ℕ) → rows ≡ list_rows (tree_on m bytes) p
rows_listed v m same numbers on p n found rows has bytes =
    let here : HasListed m.image.records numbers n rows = subst (λ (w : Seen). HasListed w.image.records numbers n rows) same has in
    let children_are : rows_in (items_on m bytes) p here.entries ≡ children (tree_on m bytes) p =
    lists_children (items_on m bytes) (tree_on m bytes) numbers here.entries n p (are_on m numbers on bytes) (on.shelf.index_is bytes) here.are_entries (found bytes).walks in
    here.are bytes ∙ sym (rows_named (items_on m bytes) p here.entries)
    ∙ ap (λ (t : Tree). map (λ row. record { name = last_of row.0; kind = listed row.1 }) t) children_are

pub listing_is : (v m : Seen) → v ≡ m → (numbers : Numbers) → OnShelf m numbers → (p : Names) (n : ℕ) → IsFound m p n → (row : ItemRow) (attrs : Attrs) (rows : List ListRow)
    → IsRowAt v.image.records n row → row.body ≡ body.Folder attrs → HasListed v.image.records numbers n rows
    → (bytes : ℕ → List ℕ) → Some (record { attrs = attrs; rows = rows }) ≡ listing (tree_on m bytes) p
listing_is v m same numbers on p n found row attrs rows is folder has bytes =
    folder_listed (tree_on m bytes) p (found bytes).placed.item attrs rows (found bytes).stands
    (ap (λ (r : ItemRow). r.body) (row_found v m same p n row found is bytes) ∙ folder)
    (rows_listed v m same numbers on p n found rows has bytes)
