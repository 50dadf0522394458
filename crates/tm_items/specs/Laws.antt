-- What holds of numbered items and their index.
use Rattle.std.specs.Prelude.{◌≡◌, ℕ, ◌+◌, ◌≤◌, ◌<◌, ◌==◌, true, false, is_some, Some, None, Err, List, length, slice_get}
use Rattle.tm_base.specs.Paths.{Names, parent_of, is_root}
use Rattle.tm_base.specs.declared.refused.Refused.TheVariants.{NotFound, NotFolder}
use Rattle.tm_tree.specs.declared.item.Item.{Item}
use Rattle.tm_tree.specs.Trees.{Tree, item_at}
use Rattle.tm_tree.specs.Walks.{walk}
use Rattle.tm_items.specs.Placings.{Placed, Items, Walks}
use Rattle.tm_items.specs.Rules.{is_folder_placed, is_root_placed, climbs, FollowsRules, IsSound}
use Rattle.tm_items.specs.Computed.{Placings, items_of, AreNumbered}
use Rattle.tm_items.specs.Changes.{date_item, Are, CanPlace, placed_items, replaced_items, CanRemove, removed_items, CanMove, moved_items}
use Rattle.tm_items.specs.Places.{Place, at_name, place_in, place_of}
use Rattle.tm_items.specs.Index.{Numbers, IsIndex, SetsAt, IsLoaded}
use Rattle.tm_items.specs.Finding.{FoundAt, OnWay}

-- ---- the way down a path by the index

-- it starts at the root
abbrev pub WayStarts : Type 0
WayStarts = (items : Items) (t : Tree) (p : Names) → OnWay items t p 0 1

-- something stands wherever it comes
abbrev pub WayStands : Type 0
WayStands = (items : Items) (t : Tree) (p : Names) (i n : ℕ) → Are items t → OnWay items t p i n → is_some (items n) ≡ true

-- it goes on to the number that the index has at the next name
abbrev pub WayGoesOn : Type 0
WayGoesOn = (items : Items) (t : Tree) (numbers : Numbers) (p : Names) (i n k : ℕ) (name : List ℕ) → Are items t → IsIndex items numbers
    → OnWay items t p i n → slice_get p i ≡ Some name → numbers (at_name n name) ≡ Some k → OnWay items t p (i + 1) k

-- where the index has nothing at the next name in a folder, the walk finds nothing
abbrev pub WayMisses : Type 0
WayMisses = (items : Items) (t : Tree) (numbers : Numbers) (p : Names) (i n : ℕ) (name : List ℕ) → Are items t → IsIndex items numbers
    → OnWay items t p i n → slice_get p i ≡ Some name → is_folder_placed (items n) ≡ true
    → numbers (at_name n name) ≡ None → walk t p ≡ Err NotFound

-- where a name is left at a file or link, the walk stops there
abbrev pub WayIsBlocked : Type 0
WayIsBlocked = (items : Items) (t : Tree) (p : Names) (i n : ℕ) → Are items t → OnWay items t p i n → i < length p
    → is_folder_placed (items n) ≡ false → walk t p ≡ Err NotFolder

-- after all names it has found the item
abbrev pub WayEnds : Type 0
WayEnds = (items : Items) (t : Tree) (p : Names) (i n : ℕ) → Are items t → OnWay items t p i n → i ≡ length p → FoundAt items t p n

-- each walk by names finds an item
abbrev pub WalkFinds : Type 0
WalkFinds = (items : Items) (t : Tree) (p : Names) (n : ℕ) → Are items t → Walks items 1 p n → FoundAt items t p n

-- ---- what the index tells

-- whether something stands at a path
abbrev pub IndexHas : Type 0
IndexHas = (items : Items) (t : Tree) (numbers : Numbers) (p : Names) (k : ℕ) → Are items t → IsIndex items numbers → is_root p ≡ false
    → Walks items 1 (parent_of p) k → is_some (numbers (place_in k p)) ≡ is_some (item_at t p)

-- the number that stands at a path
abbrev pub IndexLeads : Type 0
IndexLeads = (items : Items) (numbers : Numbers) (p : Names) (k n : ℕ) → IsIndex items numbers → is_root p ≡ false
    → Walks items 1 (parent_of p) k → numbers (place_in k p) ≡ Some n → Walks items 1 p n

-- each item has its place by the path that leads to it
abbrev pub OwnPlace : Type 0
OwnPlace = (items : Items) (p : Names) (n k : ℕ) (x : Placed) → IsSound items → is_root p ≡ false → Walks items 1 p n
    → Walks items 1 (parent_of p) k → items n ≡ Some x → place_of x ≡ place_in k p

-- nothing stands in a number without places in the index
abbrev pub NothingIn : Type 0
NothingIn = (items : Items) (numbers : Numbers) (n : ℕ) → IsSound items → IsIndex items numbers
    → ((name : List ℕ) → numbers (at_name n name) ≡ None)
    → (m : ℕ) (x : Placed) → items m ≡ Some x → (m == 1) ≡ false → (x.parent == n) ≡ false

-- nothing stands in a file or link
abbrev pub NothingInLeaf : Type 0
NothingInLeaf = (items : Items) (n : ℕ) → IsSound items → is_folder_placed (items n) ≡ false
    → (m : ℕ) (x : Placed) → items m ≡ Some x → (m == 1) ≡ false → (x.parent == n) ≡ false

-- ---- the index after a change

abbrev pub IndexPlaces : Type 0
IndexPlaces = (items : Items) (t : Tree) (p : Names) (n k moment : ℕ) (e : Item) (old new : Numbers) → Are items t → CanPlace items t p n k
    → IsIndex items old → SetsAt (place_in k p) (Some n) old new → IsIndex (placed_items items p n k moment e) new

abbrev pub IndexRemoves : Type 0
IndexRemoves = (items : Items) (t : Tree) (p : Names) (n k moment : ℕ) (old new : Numbers) → Are items t → CanRemove items t p n k
    → IsIndex items old → SetsAt (place_in k p) None old new → IsIndex (removed_items items n k moment) new

abbrev pub IndexMoves : Type 0
IndexMoves = (items : Items) (t : Tree) (a b : Names) (n j k : ℕ) (x : Placed) (moment : ℕ) (old between new : Numbers) → Are items t
    → CanMove items t a b n j k x → IsIndex items old → SetsAt (place_in k b) (Some n) old between
    → SetsAt (place_in j a) None between new → IsIndex (moved_items items b n j k x moment) new

-- another item in the place of one leaves it
abbrev pub IndexReplaces : Type 0
IndexReplaces = (items : Items) (n : ℕ) (x : Placed) (e : Item) (numbers : Numbers) → items n ≡ Some x → IsIndex items numbers
    → IsIndex (replaced_items items n x e) numbers

-- a date leaves it
abbrev pub IndexDates : Type 0
IndexDates = (items : Items) (n moment : ℕ) (numbers : Numbers) → IsIndex items numbers → IsIndex (date_item items n moment) numbers

-- a number that is set at a free place and taken out again leaves what was
abbrev pub SetIsUndone : Type 0
SetIsUndone = (place : Place) (n : ℕ) (old between new : Numbers) → old place ≡ None → SetsAt place (Some n) old between
    → SetsAt place None between new → new ≡ old

-- ---- while items are read by rising number

-- a root alone
abbrev pub LoadStarts : Type 0
LoadStarts = (items : Items) → items 0 ≡ None → is_root_placed (items 1) ≡ true → IsLoaded items 2 (λ place. None)

abbrev pub LoadSkips : Type 0
LoadSkips = (items : Items) (n : ℕ) (numbers : Numbers) → IsLoaded items n numbers → 2 ≤ n → items n ≡ None → IsLoaded items (n + 1) numbers

-- an item that passes all tests is set at its place
abbrev pub LoadTakes : Type 0
LoadTakes = (items : Items) (n : ℕ) (x : Placed) (old new : Numbers) → IsLoaded items n old → 2 ≤ n → items n ≡ Some x
    → is_folder_placed (items x.parent) ≡ true → climbs 64 items n ≡ true → is_some x.name ≡ true
    → old (place_of x) ≡ None
    → SetsAt (place_of x) (Some n) old new → IsLoaded items (n + 1) new

-- above the last number nothing stands
abbrev pub LoadEnds : Type 0
LoadEnds = (items : Items) (n : ℕ) (numbers : Numbers) → IsLoaded items n numbers → 2 ≤ n → ((m : ℕ) → n ≤ m → items m ≡ None)
    → IsSound items × IsIndex items numbers

-- an item that fails a test breaks a rule
abbrev pub RootBreaks : Type 0
RootBreaks = (items : Items) → is_root_placed (items 1) ≡ false → FollowsRules items 1 → ⊥

abbrev pub FolderBreaks : Type 0
FolderBreaks = (items : Items) (n : ℕ) (x : Placed) → 2 ≤ n → items n ≡ Some x → is_folder_placed (items x.parent) ≡ false → FollowsRules items n → ⊥

abbrev pub DepthBreaks : Type 0
DepthBreaks = (items : Items) (n : ℕ) (x : Placed) → 2 ≤ n → items n ≡ Some x → climbs 64 items n ≡ false → FollowsRules items n → ⊥

abbrev pub NameBreaks : Type 0
NameBreaks = (items : Items) (n : ℕ) (x : Placed) → 2 ≤ n → items n ≡ Some x → x.name ≡ None → FollowsRules items n → ⊥

abbrev pub PlaceBreaks : Type 0
PlaceBreaks = (items : Items) (n k : ℕ) (x : Placed) (numbers : Numbers) → IsLoaded items n numbers → 2 ≤ n → items n ≡ Some x
    → numbers (place_of x) ≡ Some k → FollowsRules items n → ⊥

-- ---- how many there are

-- where each of the numbers from 1 is taken, there are as many items
abbrev pub AllTaken : Type 0
AllTaken = (placings : Placings) (n : ℕ) → AreNumbered placings
    → ((m : ℕ) → 1 ≤ m → m ≤ n → is_some (items_of placings m) ≡ true) → n ≤ length placings

-- where all numbers are from 1 to n, there are at most n items
abbrev pub FewNumbers : Type 0
FewNumbers = (placings : Placings) (n : ℕ) → AreNumbered placings
    → ((m : ℕ) → is_some (items_of placings m) ≡ true → (1 ≤ m) × (m ≤ n)) → length placings ≤ n
