-- The way down a path by the index.
use Rattle.std.proofs.Common.{◌≡◌, ℕ, ◌+◌, ◌-◌, ◌<◌, ◌≤◌, ◌==◌, true, false, List, [], ◌∷◌, ◌++◌, length, take, drop, slice_get, refl, sym, ap, ◌∙◌, subst, Option, Some, None, is_some, Result, Ok, Err, arith, add-one, drop-cons}
use Rattle.std.proofs.lemmas.Bool.Decides.{nat_tests}
use Rattle.std.proofs.lemmas.List.{take_more, take_all, drop_all}
use Rattle.std.proofs.lemmas.Option.{slice_get_within, get_or_from_slice_get}
use Rattle.tm_base.proofs.Facts.{none_some, true_false}
use Rattle.tm_base.specs.Paths.{Names, parent_of, is_root}
use Rattle.tm_base.specs.declared.refused.Refused.{Refused}
use Rattle.tm_base.specs.declared.refused.Refused.TheVariants.{NotFound, NotFolder}
use Rattle.tm_tree.proofs.WalkSteps.{walk_step, walk_end, walk_on, walk_missing, walk_into, walk_blocked, walk_stops}
use Rattle.tm_tree.specs.declared.item.Item.{Item}
use Rattle.tm_tree.specs.Items.{is_folder}
use Rattle.tm_tree.specs.Trees.{Tree, item_at, last_of, is_some_folder, folder_at}
use Rattle.tm_tree.specs.Walks.{through, found, walk_from, walk}
use Rattle.tm_items.specs.Placings.{Placed, Items, IsChild, Walks}
use Rattle.tm_items.specs.Rules.{IsSound, is_folder_placed}
use Rattle.tm_items.specs.Changes.{Are}
use Rattle.tm_items.specs.Places.{at_name, place_in}
use Rattle.tm_items.specs.Index.{Numbers, IsIndex}
use Rattle.tm_items.specs.Finding.{FoundAt, OnWay}
use Rattle.tm_items.specs.Laws.{WayStarts, WayStands, WayGoesOn, WayMisses, WayIsBlocked, WayEnds, WalkFinds, IndexHas, IndexLeads, OwnPlace, NothingIn, NothingInLeaf}
use Rattle.tm_items.proofs.Walking.{walks_on, walk_parts, one_number, one_each, have_names}
use Rattle.tm_items.proofs.Reading.{some_of}
use Rattle.tm_items.proofs.Avoiding.{number_is, folder_above}

-- ---- a path and its last name

pub last_apart : (p : Names) → is_root p ≡ false → p ≡ parent_of p ++ last_of p ∷ []
last_apart p h =
    let long : length p - 1 < length p = grind (arith, nat_tests) in
    let all : length p ≤ length p - 1 + 1 = grind (arith, nat_tests) in
    sym (take_all (length p - 1 + 1) p all) ∙ take_more p (length p - 1) [] long

-- ---- what stands where a walk ends

pub item_there : (items : Items) (a n : ℕ) (p : Names) (x : Placed) → items a ≡ Some x → Walks items a p n → (y : Placed) × (items n ≡ Some y)
item_there items a n [] x is w = (x, ap items (sym w) ∙ is)
item_there items a n (name ∷ p) x is w = item_there items w.0 n p w.1.placed w.1.is w.2

pub from_root : (items : Items) → IsSound items → (n : ℕ) (p : Names) → Walks items 1 p n → (y : Placed) × (items n ≡ Some y)
from_root items sound n p w = let r = (sound 1).root refl in item_there items 1 n p r.placed r.is w

pub stands_at : (items : Items) (t : Tree) → Are items t → (p : Names) (n : ℕ) (x : Placed) → Walks items 1 p n → items n ≡ Some x → item_at t p ≡ Some x.item
stands_at items t are p n x w is = are.reads.there p x.item (record { number = n; walks = w; placed = x; is = is; item = refl })

-- a number's item is the item at its path, folder or not
pub folder_alike : (items : Items) (t : Tree) → Are items t → (p : Names) (n : ℕ) → Walks items 1 p n → folder_at t p ≡ is_folder_placed (items n)
folder_alike items t are p n w =
    let y = from_root items are.sound n p w in
    ap is_some_folder (stands_at items t are p n y.0 w y.1) ∙ ap is_folder_placed (sym y.1)

-- where the index has nothing, nothing stands
pub nothing_there : (items : Items) (t : Tree) (numbers : Numbers) → Are items t → IsIndex items numbers → (q : Names) (name : List ℕ) (a : ℕ) → Walks items 1 q a → numbers (at_name a name) ≡ None → item_at t (q ++ name ∷ []) ≡ None
nothing_there items t numbers are index q name a w none =
    elim (item_at t (q ++ name ∷ [])) as (λ o. item_at t (q ++ name ∷ []) ≡ o → o ≡ None) [
      | None ↦ λ _. refl
      | Some e ↦ λ is.
          let s = are.reads.only (q ++ name ∷ []) e is in
          let parts = walk_parts items 1 s.number q (name ∷ []) s.walks in
          let same : parts.0 ≡ a = one_number items (one_each items are.sound) 1 parts.0 a q parts.1 w in
          let child : IsChild items a name parts.2.0 = subst (λ (k : ℕ). IsChild items k name parts.2.0) same parts.2.1 in
          none_some (sym none ∙ index.known a parts.2.0 name child)
    ] refl

-- ---- the walk of the tree, a name at a time

one_name_more : (p : Names) (i : ℕ) (name : List ℕ) → slice_get p i ≡ Some name → take (i + 1) p ≡ take i p ++ name ∷ []
one_name_more p i name at = take_more p i [] (slice_get_within p i name at) ∙ ap (λ (n : List ℕ). take i p ++ n ∷ []) (get_or_from_slice_get p i name [] at)

-- ---- the steps of the way

pub way_starts : WayStarts
way_starts items t p = record { walks = refl; comes = refl }

pub way_item : (items : Items) (t : Tree) (p : Names) (i n : ℕ) → Are items t → OnWay items t p i n → (x : Placed) × (items n ≡ Some x)
way_item items t p i n are way = from_root items are.sound n (take i p) way.walks

pub way_stands : WayStands
way_stands items t p i n are way = ap is_some (way_item items t p i n are way).1

pub way_is_blocked : WayIsBlocked
way_is_blocked items t p i n are way low leaf =
    let x = way_item items t p i n are way in
    walk_blocked t p i x.0.item (walk t p) low way.comes (stands_at items t are (take i p) n x.0 way.walks x.1) (ap is_folder_placed (sym x.1) ∙ leaf)

way_into : (items : Items) (t : Tree) (p : Names) (i n : ℕ) → Are items t → OnWay items t p i n → i < length p → is_folder_placed (items n) ≡ true → walk t p ≡ walk_from t (take (i + 1) p) (drop (i + 1) p)
way_into items t p i n are way low folder =
    let x = way_item items t p i n are way in
    walk_into t p i x.0.item (walk t p) low way.comes (stands_at items t are (take i p) n x.0 way.walks x.1) (ap is_folder_placed (sym x.1) ∙ folder)

pub way_misses : WayMisses
way_misses items t numbers p i n name are index way at folder none =
    way_into items t p i n are way (slice_get_within p i name at) folder
    ∙ walk_stops t (take (i + 1) p) (drop (i + 1) p) (ap (item_at t) (one_name_more p i name at) ∙ nothing_there items t numbers are index (take i p) name n way.walks none)

pub way_goes_on : WayGoesOn
way_goes_on items t numbers p i n k name are index way at some =
    let child : IsChild items n name k = index.told (at_name n name) k some in
    record {
      walks = subst (λ (q : Names). Walks items 1 q k) (sym (one_name_more p i name at)) (walks_on items 1 n k (take i p) (name ∷ []) way.walks (k, child, refl));
      comes = way_into items t p i n are way (slice_get_within p i name at) (folder_above items are.sound n k name child);
    }

pub way_ends : WayEnds
way_ends items t p i n are way end =
    let all : length p ≤ i = omega arith in
    let w : Walks items 1 p n = subst (λ (q : Names). Walks items 1 q n) (take_all i p all) way.walks in
    let x = way_item items t p i n are way in
    let stands = stands_at items t are p n x.0 w x.1 in
    record { placed = x.0; is = x.1; walks = w; stands = stands; walk_is = way.comes ∙ walk_end t p i end ∙ ap found stands }

-- a walk down the names of a path, from any folder on the way
walk_down : (items : Items) (t : Tree) → Are items t → (done rest : Names) (a n : ℕ) (x : Placed) → Walks items 1 done a → Walks items a rest n → items n ≡ Some x → walk_from t done rest ≡ Ok x.item
walk_down items t are done [] a n x w v is = ap found (stands_at items t are done a x w (ap items v ∙ is))
walk_down items t are done (name ∷ rest) a n x w v is =
    let y = from_root items are.sound a done w in
    let folder = ap is_folder_placed (sym y.1) ∙ folder_above items are.sound a v.0 name v.1 in
    rw (stands_at items t are done a y.0 w y.1, folder) (walk_down items t are (done ++ name ∷ []) rest v.0 n x (walks_on items 1 a v.0 done (name ∷ []) w (v.0, v.1, refl)) v.2 is)

pub walk_finds : WalkFinds
walk_finds items t p n are w =
    let x = from_root items are.sound n p w in
    record { placed = x.0; is = x.1; walks = w; stands = stands_at items t are p n x.0 w x.1; walk_is = walk_down items t are [] p 1 n x.0 refl w x.1 }

-- what stands at a path has a number
pub stands_found : (items : Items) (t : Tree) (p : Names) (e : Item) → Are items t → item_at t p ≡ Some e → (n : ℕ) × FoundAt items t p n
stands_found items t p e are is = let s = are.reads.only p e is in (s.number, walk_finds items t p s.number are s.walks)

-- ---- what the index tells

pub index_leads : IndexLeads
index_leads items numbers p k n index below into is =
    let c : IsChild items k (last_of p) n = index.told (place_in k p) n is in
    subst (λ (q : Names). Walks items 1 q n) (sym (last_apart p below)) (walks_on items 1 k n (parent_of p) (last_of p ∷ []) into (n, c, refl))

pub index_has : IndexHas
index_has items t numbers p k are index below into =
    elim (numbers (place_in k p)) as (λ o. numbers (place_in k p) ≡ o → is_some o ≡ is_some (item_at t p)) [
      | None ↦ λ none. sym (ap is_some (ap (item_at t) (last_apart p below) ∙ nothing_there items t numbers are index (parent_of p) (last_of p) k into none))
      | Some n ↦ λ is.
          let c : IsChild items k (last_of p) n = index.told (place_in k p) n is in
          sym (ap is_some (stands_at items t are p n c.placed (index_leads items numbers p k n index below into is) c.is))
    ] refl

-- the place of a path where nothing stands is free
pub place_free : (items : Items) (t : Tree) (numbers : Numbers) (p : Names) (k : ℕ) → Are items t → IsIndex items numbers → is_root p ≡ false → Walks items 1 (parent_of p) k → item_at t p ≡ None → numbers (place_in k p) ≡ None
place_free items t numbers p k are index below into none = is_none (numbers (place_in k p)) (index_has items t numbers p k are index below into ∙ ap is_some none)
  where
    is_none : (o : Option ℕ) → is_some o ≡ false → o ≡ None
    is_none None h = refl
    is_none (Some n) h = true_false h

-- n stands at p as a child of the folder of p
pub own_child : (items : Items) → IsSound items → (p : Names) (n k : ℕ) → is_root p ≡ false → Walks items 1 p n → Walks items 1 (parent_of p) k → IsChild items k (last_of p) n
own_child items sound p n k below w into =
    let parts = walk_parts items 1 n (parent_of p) (last_of p ∷ []) (subst (λ (q : Names). Walks items 1 q n) (last_apart p below) w) in
    let same : parts.0 ≡ k = one_number items (one_each items sound) 1 parts.0 k (parent_of p) parts.1 into in
    let child : IsChild items k (last_of p) parts.2.0 = subst (λ (a : ℕ). IsChild items a (last_of p) parts.2.0) same parts.2.1 in
    subst (λ (m : ℕ). IsChild items k (last_of p) m) parts.2.2 child

pub own_place : OwnPlace
own_place items p n k x sound below w into is =
    let c = own_child items sound p n k below w into in
    let same : Some c.placed ≡ Some x = sym c.is ∙ is in
    let items_same : c.placed ≡ x = cc same in
    let e : x.parent ≡ k = ap (λ (y : Placed). y.parent) (sym items_same) ∙ c.parent in
    let f : x.name ≡ Some (last_of p) = ap (λ (y : Placed). y.name) (sym items_same) ∙ c.name in
    λ i. record { parent = e i; name = f i }

pub nothing_in : NothingIn
nothing_in items numbers n sound index none m x is out =
    elim (x.parent == n) as (λ b. (x.parent == n) ≡ b → b ≡ false) [
      | true ↦ λ here.
          let name = some_of x.name (have_names items sound m x is out) in
          none_some (sym (none name.0) ∙ index.known n m name.0 (record { placed = x; is = is; parent = number_is x.parent n here; name = name.1; not_root = out }))
      | false ↦ λ _. refl
    ] refl

pub nothing_in_leaf : NothingInLeaf
nothing_in_leaf items n sound leaf m x is out =
    elim (x.parent == n) as (λ b. (x.parent == n) ≡ b → b ≡ false) [
      | true ↦ λ here. true_false (sym ((sound m).placed x is out).in_folder ∙ ap (λ (k : ℕ). is_folder_placed (items k)) (number_is x.parent n here) ∙ leaf)
      | false ↦ λ _. refl
    ] refl
