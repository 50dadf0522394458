-- Where a new item would stand.
use Rattle.std.proofs.Common.{◌≡◌, ℕ, ◌+◌, ◌<◌, ◌≤◌, Bool, true, false, cond, not, nat_lt, List, [], ◌∷◌, ◌++◌, length, refl, sym, ap, ◌∙◌, subst, Option, Some, None, is_some, is_none, IsSome, arith}
use Rattle.std.specs.Prelude.{Result}
use Rattle.std.specs.Option.{option_map}
use Rattle.std.proofs.lemmas.Bool.Decides.{nat_tests}
use Rattle.tm_base.specs.Paths.{Names, parent_of}
use Rattle.tm_base.specs.declared.refused.Refused.{Refused}
use Rattle.tm_records.specs.Records.{Records}
use Rattle.tm_items.specs.Finding.{FoundAt}
use Rattle.tm_items.specs.Placings.{Placed, Items}
use Rattle.tm_items.specs.Rules.{is_folder_placed}
use Rattle.tm_tree.specs.declared.item.Item.{Item}
use Rattle.tm_tree.specs.declared.item.Item.TheVariants as item
use Rattle.tm_tree.specs.Items.{is_folder}
use Rattle.tm_tree.specs.Trees.{Tree, item_at, is_some_folder}
use Rattle.tm_tree.specs.Walks.{way, way_of, way_to, is_nowhere, is_at_folder}
use Rattle.tm_base.specs.Days.{last_moment}
use Rattle.tm_nodes.specs.Items.{IsItemRow}
use Rattle.tm_nodes.proofs.ItemLemmas.{item_finds}
use Rattle.tm_nodes.proofs.Formats.{finds_spelled}
use Rattle.tm_tree.specs.declared.record.ItemRow.{ItemRow}
use Rattle.tm_changes.specs.Placing.{IsRowAt, dated_row}
use Rattle.tm_volume_records.specs.Records.{items_in, IsThere}
use Rattle.tm_volume.specs.Room.{placed_row}
use Rattle.tm_volume.proofs.Rows.{has_row, row_is}
use Rattle.tm_changes.proofs.Placing.{dated_spelled}
use Rattle.tm_base.specs.declared.refused.Refused.TheVariants.{NotFound, Exists, NotFolder, TooMany, NoMoment}
use Rattle.tm_tree.specs.Changes.{most_items, place_tests}
use Rattle.tm_tree.specs.Refusing.{first_refused, too_many, needs_moment}
use Rattle.tm_tree.specs.declared.walk.Way.{Way}
use Rattle.tm_tree.specs.declared.walk.Way.TheVariants.{Nowhere as AtNowhere, Blocked, AtFolder, AtFile, AtLink}
use Rattle.tm_changes.specs.declared.destination.Destination.{Destination}
use Rattle.tm_changes.specs.declared.destination.Destination.TheVariants.{Nowhere, NoFolder, Folder}
use Rattle.tm_changes.specs.Destinations.{MeetsDestination, LeadsInto, goes_nowhere, goes_into_folder, folder_tests}
use Rattle.tm_volume_records.proofs.Slots.{Rising}

-- ---- what stands

pub found_stands : (items : Items) (t : Tree) (p : Names) (n : ℕ) → FoundAt items t p n → IsSome (items n)
found_stands items t p n found = subst (λ (o : Option Placed). IsSome o) (sym found.is) refl

folder_way : (e : Item) → is_folder e ≡ true → (is_nowhere (way_to e) ≡ false) × (is_at_folder (way_to e) ≡ true)
folder_way (item.Folder a) h = (refl, refl)
folder_way (item.File a s b) h = cc
folder_way (item.Link a s t) h = cc

pub into_is : (items : Items) (t : Tree) (p q : Names) (n : ℕ) → q ≡ parent_of p → FoundAt items t q n → is_folder_placed (items n) ≡ true → LeadsInto items t p n
into_is items t p q n is found_q folder =
    let found : FoundAt items t (parent_of p) n = subst (λ (r : Names). FoundAt items t r n) is found_q in
    let yes : is_folder found.placed.item ≡ true = sym (ap is_folder_placed found.is) ∙ folder in
    let ways = folder_way found.placed.item yes in
    record {
      walks = found.walks;
      stands = ap is_some found.is;
      nowhere = ap (λ (w : Result Item Refused). is_nowhere (way_of w)) found.walk_is ∙ ways.0;
      at_folder = ap (λ (w : Result Item Refused). is_at_folder (way_of w)) found.walk_is ∙ ways.1;
      folder = ap is_some_folder found.stands ∙ yes;
    }

-- ---- the row of a folder

pub row_stands : (es : Records) → Rising es → (n : ℕ) → IsThere es n → (row : ItemRow) → ((bytes : ℕ → List ℕ) → option_map placed_row (items_in es bytes n) ≡ Some row) → IsRowAt es n row
row_stands es s n there row told =
    let has = has_row es s n there in
    record { rec = has.rec; at_key = has.at_key; is = row_is (λ size. finds_spelled (item_finds size)) es n has (λ _. []) ∙ told (λ _. []) }

pub dated_is_row : (es : Records) (n : ℕ) (row : ItemRow) (moment : ℕ) → IsRowAt es n row → moment ≤ last_moment → IsItemRow (dated_row row moment)
dated_is_row es n row moment at_n low = (dated_spelled at_n.rec row at_n.is moment low).rules.rules

-- ---- the tests

pub goes_is : (items : Items) (t : Tree) (p : Names) (into : Destination) → MeetsDestination items t p into → (is_nowhere (way t (parent_of p)) ≡ goes_nowhere into) × (is_at_folder (way t (parent_of p)) ≡ goes_into_folder into)
goes_is items t p Nowhere h = (h, nowhere_no (way t (parent_of p)) h)
  where
    nowhere_no : (w : Way) → is_nowhere w ≡ true → is_at_folder w ≡ false
    nowhere_no AtNowhere h = refl
    nowhere_no Blocked h = refl
    nowhere_no AtFolder h = cc
    nowhere_no AtFile h = refl
    nowhere_no AtLink h = refl
goes_is items t p NoFolder h = h
goes_is items t p (Folder k) h = (h.nowhere, h.at_folder)

pub folder_tests_are : (items : Items) (t : Tree) (p : Names) (into : Destination) (there : Bool) (count : ℕ) (moment : Option ℕ) → MeetsDestination items t p into → there ≡ is_some (item_at t p) → count ≡ length t
    → first_refused (place_tests t p ++ needs_moment moment) ≡ first_refused (folder_tests into there count moment)
folder_tests_are items t p into there count moment goes stands many =
    let g = goes_is items t p into goes in
    λ i. first_refused ((g.0 i, NotFound) ∷ (sym stands i, Exists) ∷ (not (g.1 i), NotFolder) ∷ too_many most_items (sym many i + 1) ++ needs_moment moment)

-- nothing refuses it
pub folder_tests_pass : (into : Destination) (there : Bool) (count : ℕ) (moment : Option ℕ) → None ≡ first_refused (folder_tests into there count moment)
    → (goes_into_folder into ≡ true) × (there ≡ false) × (is_some moment ≡ true)
folder_tests_pass Nowhere there count moment h = cc
folder_tests_pass NoFolder true count moment h = cc
folder_tests_pass NoFolder false count moment h = cc
folder_tests_pass (Folder k) true count moment h = cc
folder_tests_pass (Folder k) false count moment h = (refl, refl, moment_there (nat_lt most_items (count + 1)) (TooMany (count + 1)) moment h)
  where
    moment_there : (b : Bool) (why : Refused) (o : Option ℕ) → None ≡ cond b (Some why) (cond (is_none o) (Some NoMoment) None) → is_some o ≡ true
    moment_there true why o h = cc
    moment_there false why None h = cc
    moment_there false why (Some x) h = refl

-- where one item more isn't too many, there are fewer than a volume may have
pub one_more : (count : ℕ) (rest : Option Refused) (b : Bool) → nat_lt most_items (count + 1) ≡ b → None ≡ cond b (Some (TooMany (count + 1))) rest → count < most_items
one_more count rest true is h = cc
one_more count rest false is h = grind (arith, nat_tests)

pub folder_tests_count : (into : Destination) (there : Bool) (count : ℕ) (moment : Option ℕ) → None ≡ first_refused (folder_tests into there count moment) → count < most_items
folder_tests_count Nowhere there count moment h = cc
folder_tests_count NoFolder true count moment h = cc
folder_tests_count NoFolder false count moment h = cc
folder_tests_count (Folder k) true count moment h = cc
folder_tests_count (Folder k) false count moment h = one_more count (first_refused (needs_moment moment)) (nat_lt most_items (count + 1)) refl h

pub none_of : (o : Option Item) → is_some o ≡ false → o ≡ None
none_of None h = refl
none_of (Some e) h = cc
