-- The index after a change.
use Rattle.std.proofs.Common.{◌≡◌, ℕ, ◌==◌, Bool, true, false, cond, List, refl, sym, ap, ◌∙◌, subst, Option, Some, None, ◌⊎◌, inl, inr}
use Rattle.std.specs.declared.cmp.Ordering.{Ordering}
use Rattle.std.specs.declared.cmp.Ordering.TheVariants.{Less, Equal, Greater}
use Rattle.std.specs.Ordering.{nat_cmp, is_eq, ordering_then}
use Rattle.std.specs.Option.{option_cmp}
use Rattle.std.specs.Cmp.{Equal-is, tied_itself, nat_cmp_total}
use Rattle.std.specs.Cmp.Lexicographic.{slice_cmp, nat_list_cmp_total}
use Rattle.std.specs.Bool.{Decides}
use Rattle.std.specs.FinMap.{IsAntisymmetric, nat_cmp-IsAntisymmetric, slice_cmp-IsAntisymmetric}
use Rattle.std.specs.BTreeMap.{is_at}
use Rattle.tm_base.proofs.Facts.{false_true, none_some}
use Rattle.tm_base.specs.Paths.{parent_of}
use Rattle.tm_tree.specs.declared.item.Item.{Item}
use Rattle.tm_tree.specs.Items.{dated}
use Rattle.tm_tree.specs.Trees.{item_at, last_of}
use Rattle.tm_items.specs.Placings.{Placed, Items, IsChild}
use Rattle.tm_items.specs.Changes.{with_item, without_item, date_placed, date_item}
use Rattle.tm_items.specs.Places.{Place, place_cmp, at_name, place_in, place_of}
use Rattle.tm_items.specs.Index.{Numbers, IsChildAt, IsIndex, SetsAt}
use Rattle.tm_items.specs.Laws.{IndexPlaces, IndexRemoves, IndexMoves, IndexReplaces, IndexDates, SetIsUndone}
use Rattle.tm_items.proofs.Walking.{OneEach, one_each}
use Rattle.tm_items.proofs.Avoiding.{DifferAt, number_is, itself, with_at, with_differs, no_child, not_free, back_at}
use Rattle.tm_items.proofs.Finding.{from_root, last_apart, own_child, own_place}

-- ---- places are told apart

then_equal : (a b : Ordering) → ordering_then a b ≡ Equal → (a ≡ Equal) × (b ≡ Equal)
then_equal Less b h = cc
then_equal Equal b h = (refl, h)
then_equal Greater b h = cc

name_exact : IsAntisymmetric (option_cmp (slice_cmp nat_cmp))
name_exact None None h = refl
name_exact None (Some b) h = cc
name_exact (Some a) None h = cc
name_exact (Some a) (Some b) h = ap Some (slice_cmp-IsAntisymmetric nat_cmp-IsAntisymmetric a b h)

name_tied : (o : Option (List ℕ)) → option_cmp (slice_cmp nat_cmp) o o ≡ Equal
name_tied None = refl
name_tied (Some a) = tied_itself nat_list_cmp_total a

pub same_place : (p q : Place) → p.parent ≡ q.parent → p.name ≡ q.name → p ≡ q
same_place p q e f = λ i. record { parent = e i; name = f i }

place_exact : IsAntisymmetric place_cmp
place_exact p q h =
    let both = then_equal (nat_cmp p.parent q.parent) (option_cmp (slice_cmp nat_cmp) p.name q.name) h in
    same_place p q (nat_cmp-IsAntisymmetric p.parent q.parent both.0) (name_exact p.name q.name both.1)

place_tied : (p : Place) → place_cmp p p ≡ Equal
place_tied p = rw (tied_itself nat_cmp_total p.parent) (name_tied p.name)

pub place_decides : (p q : Place) → Decides (is_at (place_cmp p) q) (p ≡ q)
place_decides p q = (λ h. place_exact p q ((Equal-is (place_cmp p q)).0 h), λ e. subst (λ (x : Place). is_eq (place_cmp p x) ≡ true) e (ap is_eq (place_tied p)))

pub not_so : (b : Bool) → (b ≡ true → ⊥) → b ≡ false
not_so true h = absurd (h refl)
not_so false h = refl

-- ---- numbers with another answer at one place

pub hit : (place : Place) (o : Option ℕ) (old new : Numbers) → SetsAt place o old new → new place ≡ o
hit place o old new sets = sets.at place ∙ ap (λ b. cond b o (old place)) ((place_decides place place).1 refl)

pub past : (place : Place) (o : Option ℕ) (old new : Numbers) (q : Place) → SetsAt place o old new → (place ≡ q → ⊥) → new q ≡ old q
past place o old new q sets h = sets.at q ∙ ap (λ b. cond b o (old q)) (not_so (is_at (place_cmp place) q) (λ at. h ((place_decides place q).0 at)))

pub which : (place : Place) (o : Option ℕ) (old new : Numbers) (q : Place) (k : ℕ) → SetsAt place o old new → new q ≡ Some k → ((place ≡ q) × (o ≡ Some k)) ⊎ ((place ≡ q → ⊥) × (old q ≡ Some k))
which place o old new q k sets is =
    elim (is_at (place_cmp place) q) as (λ b. is_at (place_cmp place) q ≡ b → cond b o (old q) ≡ Some k → ((place ≡ q) × (o ≡ Some k)) ⊎ ((place ≡ q → ⊥) × (old q ≡ Some k))) [
      | true ↦ λ at h. inl ((place_decides place q).0 at, h)
      | false ↦ λ off h. inr (λ e. false_true (sym off ∙ (place_decides place q).1 e), h)
    ] refl (sym (sets.at q) ∙ is)

-- a set and an unset at a free place leave what was
undone_at : (b : Bool) (place q : Place) (n : ℕ) (old : Numbers) → old place ≡ None → (b ≡ true → place ≡ q) → cond b None (cond b (Some n) (old q)) ≡ old q
undone_at true place q n old none here = sym (ap old (sym (here refl)) ∙ none)
undone_at false place q n old none here = refl

pub set_is_undone : SetIsUndone
set_is_undone place n old between new none sets unsets =
    let each : (q : Place) → new q ≡ old q = λ q.
    unsets.at q ∙ ap (cond (is_at (place_cmp place) q) None) (sets.at q) ∙ undone_at (is_at (place_cmp place) q) place q n old none (place_decides place q).0 in
    λ i q. each q i

pub undone : (items : Items) (place : Place) (n : ℕ) (old between new : Numbers) → old place ≡ None → SetsAt place (Some n) old between → SetsAt place None between new → IsIndex items old → IsIndex items new
undone items place n old between new none sets unsets index = subst (λ (numbers : Numbers). IsIndex items numbers) (sym (set_is_undone place n old between new none sets unsets)) index

-- ---- children of items that are alike elsewhere

pub child_kept : (n : ℕ) (items new : Items) → DifferAt n items new → (a k : ℕ) (name : List ℕ) → (k == n) ≡ false → IsChild items a name k → IsChild new a name k
child_kept n items new d a k name off c = record { placed = c.placed; is = d.same k off ∙ c.is; parent = c.parent; name = c.name; not_root = c.not_root }

child_at_kept : (n : ℕ) (items new : Items) → DifferAt n items new → (a k : ℕ) (o : Option (List ℕ)) → (k == n) ≡ false → IsChildAt items a o k → IsChildAt new a o k
child_at_kept n items new d a k None off c = c
child_at_kept n items new d a k (Some name) off c = child_kept n items new d a k name off c

apart : (m n : ℕ) → (m == n) ≡ false → m ≡ n → ⊥
apart m n off e = false_true (sym off ∙ ap (λ (l : ℕ). l == n) e ∙ itself n)

-- a child is the one item of its number, with its place
child_item : (items : Items) (n a k : ℕ) (name : List ℕ) (x : Placed) → items n ≡ Some x → IsChild items a name k → k ≡ n → place_of x ≡ at_name a name
child_item items n a k name x is c e =
    let same : Some c.placed ≡ Some x = sym c.is ∙ ap items e ∙ is in
    let items_same : c.placed ≡ x = cc same in
    same_place _ (at_name a name) (ap (λ (y : Placed). y.parent) (sym items_same) ∙ c.parent) (ap (λ (y : Placed). y.name) (sym items_same) ∙ c.name)

-- an item at a place is a child there
child_from : (items : Items) (n a : ℕ) (name : List ℕ) (x : Placed) → items n ≡ Some x → (n == 1) ≡ false → place_of x ≡ at_name a name → IsChild items a name n
child_from items n a name x is out e = record { placed = x; is = is; parent = ap (λ (p : Place). p.parent) e; name = ap (λ (p : Place). p.name) e; not_root = out }

-- ---- an item at another place, or at one for the first time

-- numbers that have each child but n, and nothing else
pub record IsIndexBut (items : Items) (n : ℕ) (numbers : Numbers) : Type 0 where
  pub told : (place : Place) (k : ℕ) → numbers place ≡ Some k → IsChildAt items place.parent place.name k × ((k == n) ≡ false)
  pub known : (a k : ℕ) (name : List ℕ) → (k == n) ≡ false → IsChild items a name k → numbers (at_name a name) ≡ Some k

-- n free
pub but_free : (items : Items) (n : ℕ) (numbers : Numbers) → items n ≡ None → IsIndex items numbers → IsIndexBut items n numbers
but_free items n numbers free index = record {
  told = λ place k is. let c = index.told place k is in (c, off place.parent place.name k c);
  known = λ a k name off c. index.known a k name c;
}
  where
    off : (a : ℕ) (o : Option (List ℕ)) (k : ℕ) → IsChildAt items a o k → (k == n) ≡ false
    off a None k c = absurd c
    off a (Some name) k c = not_free items n k c.placed free c.is

-- the place of n taken out
pub but_unset : (items : Items) (n : ℕ) (x : Placed) (old new : Numbers) → OneEach items → items n ≡ Some x → (n == 1) ≡ false → IsIndex items old
    → SetsAt (place_of x) None old new → IsIndexBut items n new
but_unset items n x old new one is out index unsets =
    let from : Place = record { parent = x.parent; name = x.name } in
    record {
      told = λ place k at. elim (which from None old new place k unsets at) [
        | inl none ↦ none_some none.1
        | inr o ↦ let c = index.told place k o.1 in (c, off place.parent place.name k o.0 c)
      ];
      known = λ a k name off c.
          past from None old new (at_name a name) unsets (λ e. apart k n off (one a name k n c (child_from items n a name x is out e))) ∙ index.known a k name c;
    }
  where
    off : (a : ℕ) (o : Option (List ℕ)) (k : ℕ) → (place_of x ≡ record { parent = a; name = o } → ⊥) → IsChildAt items a o k → (k == n) ≡ false
    off a None k h c = absurd c
    off a (Some name) k h c = not_so (k == n) (λ here. h (child_item items n a k name x is c (number_is k n here)))

-- nothing stands in n
pub but_gone : (items new : Items) (n : ℕ) (numbers : Numbers) → DifferAt n items new → new n ≡ None → IsIndexBut items n numbers → IsIndex new numbers
but_gone items new n numbers differs gone index = record {
  told = λ place k is. let c = index.told place k is in child_at_kept n items new differs place.parent k place.name c.1 c.0;
  known = λ a k name c.
      let off = not_free new n k c.placed gone c.is in
      index.known a k name off (child_kept n new items (back_at n items new differs) a k name off c);
}

-- n set at its new place, where nothing else stands
pub but_set : (items : Items) (n a : ℕ) (name : List ℕ) (e : Item) (old new : Numbers) → (n == 1) ≡ false
    → ((k : ℕ) → (k == n) ≡ false → IsChild items a name k → ⊥) → IsIndexBut items n old → SetsAt (at_name a name) (Some n) old new
    → IsIndex (with_item items n (record { parent = a; name = Some name; item = e })) new
but_set items n a name e old new out alone index sets =
    let x : Placed = record { parent = a; name = Some name; item = e } in
    let to : Place = record { parent = a; name = Some name } in
    let differs = with_differs items n x in
    record {
      told = λ place k is. elim (which to (Some n) old new place k sets is) [
        | inl at ↦
            let same : n ≡ k = cc (at.1) in
            subst (λ (l : ℕ). IsChildAt (with_item items n x) place.parent place.name l) same (subst (λ (r : Place). IsChildAt (with_item items n x) r.parent r.name n) at.0 here)
        | inr o ↦ let c = index.told place k o.1 in child_at_kept n items (with_item items n x) differs place.parent k place.name c.1 c.0
      ];
      known = λ b k called c. elim (k == n) as (λ d. (k == n) ≡ d → new (at_name b called) ≡ Some k) [
        | true ↦ λ at.
            let same = number_is k n at in
            ap new (sym (child_item (with_item items n x) n b k called x (with_at items n x) c same)) ∙ hit to (Some n) old new sets ∙ ap Some (sym same)
        | false ↦ λ off.
            let d = child_kept n (with_item items n x) items (back_at n items (with_item items n x) differs) b k called off c in
            past to (Some n) old new (at_name b called) sets (λ e. alone k off (moved_child k b called e d)) ∙ index.known b k called off d
      ] refl;
    }
  where
    here : IsChild (with_item items n (record { parent = a; name = Some name; item = e })) a name n
    here = record { placed = record { parent = a; name = Some name; item = e }; is = with_at items n (record { parent = a; name = Some name; item = e }); parent = refl; name = refl; not_root = out }

    moved_child : (k b : ℕ) (called : List ℕ) → at_name a name ≡ at_name b called → IsChild items b called k → IsChild items a name k
    moved_child k b called e c = record { placed = c.placed; is = c.is; parent = c.parent ∙ ap (λ (p : Place). p.parent) (sym e); name = c.name ∙ ap (λ (p : Place). p.name) (sym e); not_root = c.not_root }

-- ---- another item at the same place

child_put : (items : Items) (n : ℕ) (x y : Placed) → items n ≡ Some x → y.parent ≡ x.parent → y.name ≡ x.name → (a k : ℕ) (name : List ℕ) → IsChild items a name k → IsChild (with_item items n y) a name k
child_put items n x y is e f a k name c =
    elim (k == n) as (λ b. (k == n) ≡ b → IsChild (with_item items n y) a name k) [
      | true ↦ λ here.
          let same = number_is k n here in
          let place = child_item items n a k name x is c same in
          record {
            placed = y;
            is = ap (with_item items n y) same ∙ with_at items n y;
            parent = e ∙ ap (λ (p : Place). p.parent) place;
            name = f ∙ ap (λ (p : Place). p.name) place;
            not_root = c.not_root;
          }
      | false ↦ λ off. child_kept n items (with_item items n y) (with_differs items n y) a k name off c
    ] refl

child_put_back : (items : Items) (n : ℕ) (x y : Placed) → items n ≡ Some x → y.parent ≡ x.parent → y.name ≡ x.name → (a k : ℕ) (name : List ℕ) → IsChild (with_item items n y) a name k → IsChild items a name k
child_put_back items n x y is e f a k name c =
    elim (k == n) as (λ b. (k == n) ≡ b → IsChild items a name k) [
      | true ↦ λ here.
          let same = number_is k n here in
          let place = child_item (with_item items n y) n a k name y (with_at items n y) c same in
          record {
            placed = x;
            is = ap items same ∙ is;
            parent = sym e ∙ ap (λ (p : Place). p.parent) place;
            name = sym f ∙ ap (λ (p : Place). p.name) place;
            not_root = c.not_root;
          }
      | false ↦ λ off. child_kept n (with_item items n y) items (back_at n items (with_item items n y) (with_differs items n y)) a k name off c
    ] refl

pub put_index : (items : Items) (n : ℕ) (x y : Placed) (numbers : Numbers) → items n ≡ Some x → y.parent ≡ x.parent → y.name ≡ x.name → IsIndex items numbers → IsIndex (with_item items n y) numbers
put_index items n x y numbers is e f index = record {
  told = λ place k at. each place.parent place.name k (index.told place k at);
  known = λ a k name c. index.known a k name (child_put_back items n x y is e f a k name c);
}
  where
    each : (a : ℕ) (o : Option (List ℕ)) (k : ℕ) → IsChildAt items a o k → IsChildAt (with_item items n y) a o k
    each a None k c = c
    each a (Some name) k c = child_put items n x y is e f a k name c

pub index_replaces : IndexReplaces
index_replaces items n x e numbers is index = put_index items n x (record { parent = x.parent; name = x.name; item = e }) numbers is refl refl index

pub index_dates : IndexDates
index_dates items n moment numbers index =
    elim (items n) as (λ o. items n ≡ o → IsIndex (date_placed o items n moment) numbers) [
      | None ↦ λ _. index
      | Some x ↦ λ is. put_index items n x (record { parent = x.parent; name = x.name; item = dated x.item moment }) numbers is refl refl index
    ] refl

-- ---- the changes

pub index_places : IndexPlaces
index_places items t p n k moment e old new are can index sets =
    let x : Placed = record { parent = k; name = Some (last_of p); item = e } in
    let alone : (m : ℕ) → (m == n) ≡ false → IsChild items k (last_of p) m → ⊥ = λ m off.
    no_child items t are.reads k m (parent_of p) (last_of p) can.into (ap (item_at t) (sym (last_apart p can.below)) ∙ can.none) in
    index_dates (with_item items n x) k moment new (but_set items n k (last_of p) e old new can.not_root alone (but_free items n old can.free index) sets)

pub index_removes : IndexRemoves
index_removes items t p n k moment old new are can index unsets =
    let x = from_root items are.sound n p can.stands in
    let c = own_child items are.sound p n k can.below can.stands can.folder in
    let place = own_place items p n k x.0 are.sound can.below can.stands can.folder x.1 in
    let unsets_x = subst (λ (q : Place). SetsAt q None old new) (sym place) unsets in
    let but = but_unset items n x.0 old new (one_each items are.sound) x.1 c.not_root index unsets_x in
    index_dates (without_item items n) k moment new (but_gone items (without_item items n) n new (without_differs items n) (without_at items n) but)
  where
    without_at : (items : Items) (n : ℕ) → without_item items n n ≡ None
    without_at items n = rw (itself n) refl

    without_differs : (items : Items) (n : ℕ) → DifferAt n items (without_item items n)
    without_differs items n = record { same = λ m off. rw off refl }

-- two places apart may be set one after the other
swapped : (p q : Place) (o r : Option ℕ) (old between new : Numbers) → (p ≡ q → ⊥) → SetsAt p o old between → SetsAt q r between new
    → (mid : Numbers) → ((s : Place) → mid s ≡ cond (is_at (place_cmp q) s) r (old s)) → SetsAt p o mid new
swapped p q o r old between new off sets more mid is = record {
  at = λ s.
      more.at s ∙ ap (cond (is_at (place_cmp q) s) r) (sets.at s)
      ∙ order (is_at (place_cmp p) s) (is_at (place_cmp q) s) o r (old s) (λ a b. off ((place_decides p s).0 a ∙ sym ((place_decides q s).0 b)))
      ∙ ap (cond (is_at (place_cmp p) s) o) (sym (is s));
}
  where
    order : (b c : Bool) (o r u : Option ℕ) → (b ≡ true → c ≡ true → ⊥) → cond c r (cond b o u) ≡ cond b o (cond c r u)
    order true true o r u h = absurd (h refl refl)
    order true false o r u h = refl
    order false true o r u h = refl
    order false false o r u h = refl

pub index_moves : IndexMoves
index_moves items t a b n j k x moment old between new are can index sets unsets =
    let y : Placed = record { parent = k; name = Some (last_of b); item = x.item } in
    let c = own_child items are.sound a n j can.below can.from can.out_of in
    let place = own_place items a n j x are.sound can.below can.from can.out_of can.is in
    let free : (m : ℕ) → IsChild items k (last_of b) m → ⊥ = λ m.
    no_child items t are.reads k m (parent_of b) (last_of b) can.into (ap (item_at t) (sym (last_apart b can.below_to)) ∙ can.none) in
    let off : place_in k b ≡ place_in j a → ⊥ = λ e. free n (child_from items n k (last_of b) x can.is c.not_root (place ∙ sym e)) in
    let mid : Numbers = λ s. cond (is_at (place_cmp (place_in j a)) s) None (old s) in
    let taken : SetsAt (place_in j a) None old mid = record { at = λ s. refl } in
    let but = but_unset items n x old mid (one_each items are.sound) can.is c.not_root index (subst (λ (q : Place). SetsAt q None old mid) (sym place) taken) in
    let set = swapped (place_in k b) (place_in j a) (Some n) None old between new off sets unsets mid (λ s. refl) in
    let moved = but_set items n k (last_of b) x.item mid new c.not_root (λ m _. free m) but set in
    index_dates (date_item (with_item items n y) j moment) k moment new (index_dates (with_item items n y) j moment new moved)
