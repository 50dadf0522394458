-- An item with another place: the items and the tree with all beneath it moved.
use Rattle.std.proofs.Common.{◌≡◌, ℕ, ◌+◌, ◌<◌, ◌≤◌, ◌==◌, Bool, true, false, List, [], ◌∷◌, ◌++◌, length, drop, length-append, refl, sym, ap, ◌∙◌, subst, Some, None, is_some, arith, append_assoc, append-nil, ◌⊎◌, inl, inr, if◌then◌else◌}
use Rattle.std.proofs.lemmas.Bool.Decides.{nat_tests}
use Rattle.std.proofs.lemmas.List.Prefix.{front_rest}
use Rattle.tm_base.proofs.Facts.{none_some, true_false}
use Rattle.tm_tree.specs.declared.item.Item.{Item}
use Rattle.tm_base.specs.Paths.{Names, is_prefix}
use Rattle.tm_tree.specs.Trees.{Tree, item_at, moved, rekeyed}
use Rattle.tm_base.proofs.PathLemmas.{prefix_is, is_prefix_of_append}
use Rattle.tm_tree.proofs.MovesKept.{moved_at}
use Rattle.tm_tree.proofs.TreesKept.{nothing_beneath}
use Rattle.tm_items.specs.Placings.{Placed, Items, Walks, LeadsTo, ReadsAs}
use Rattle.tm_items.specs.Rules.{IsSound, IsPlaced, is_folder_placed, climbs}
use Rattle.tm_items.specs.Changes.{with_item}
use Rattle.tm_items.proofs.Walking.{walks_on, walk_parts, one_path, one_number, one_each, reached, climbs_far, climbs_walk}
use Rattle.tm_items.proofs.Reading.{is_tree, in_order_from}
use Rattle.tm_items.proofs.Avoiding.{Avoids, Passes, avoids_walks, avoids_parts, end_avoids, number_is, itself, last_passage, back_at, avoids_alike, with_at, with_differs, no_child}
use Rattle.tm_items.proofs.Making.{flip}

-- x stands under n at a, the folder k at q, and nothing under the name there; a is not above the new place, and what is
-- beneath a stays within 64 names
pub record Moves (items : Items) (t : Tree) (n : ℕ) (x : Placed) (a : Names) (k : ℕ) (q : Names) (name : List ℕ) : Type 0 where
  pub sound : IsSound items
  pub reads : ReadsAs items t
  pub from : Walks items 1 a n
  pub is : items n ≡ Some x
  pub not_root : (n == 1) ≡ false
  pub into : Walks items 1 q k
  pub folder : is_folder_placed (items k) ≡ true
  pub none : item_at t (q ++ name ∷ []) ≡ None
  pub apart : is_prefix a (q ++ name ∷ []) ≡ false
  pub short : (rest : Names) → is_some (item_at t (a ++ rest)) ≡ true → length (q ++ name ∷ []) + length rest ≤ 64

nothing_longer : (a rest : Names) → a ≡ a ++ rest → rest ≡ []
nothing_longer a [] h = refl
nothing_longer a (x ∷ rest) h = let l : length a ≡ length (a ++ x ∷ rest) = ap length h in absurd (omega (arith, length-append a (x ∷ rest)))

module _ (items : Items) (t : Tree) (n : ℕ) (x : Placed) (a : Names) (k : ℕ) (q : Names) (name : List ℕ) (can : Moves items t n x a k q name) where
  abbrev y : Placed
  y = record { parent = k; name = Some name; item = x.item }

  abbrev new : Items
  new = with_item items n y

  abbrev b : Names
  b = q ++ name ∷ []

  -- the walk to the new folder does not come to n
  apart_q : (front back : Names) → q ≡ front ++ back → front ≡ a → is_prefix a b ≡ true
  apart_q front back e f = is_prefix_of_append a b (back ++ name ∷ []) (ap (λ (u : Names). u ++ name ∷ []) (e ∙ ap (λ (u : Names). u ++ back) f) ∙ append_assoc a back (name ∷ []))

  into_avoids : Avoids items n 1 q k
  into_avoids = elim (last_passage items n 1 k q can.into) [
    | inl avoids ↦ avoids
    | inr pass ↦ true_false (sym (apart_q pass.front pass.back pass.parts (one_path items n pass.front a pass.to can.from)) ∙ can.apart)
  ]

  not_k : (k == n) ≡ false
  not_k = end_avoids items n 1 k q (flip n can.not_root) into_avoids

  placed : Walks new 1 b n
  placed = walks_on new 1 k n q (name ∷ []) (avoids_walks new n 1 k q (avoids_alike n items new (with_differs items n y) 1 k q into_avoids))
      (n, record { placed = y; is = with_at items n y; parent = refl; name = refl; not_root = can.not_root }, refl)

  -- ---- from the tree to the new items

  -- a walk that passes n has a above it
  past_a : (m : ℕ) (r : Names) → is_prefix a r ≡ false → Walks items 1 r m → Avoids items n 1 r m
  past_a m r h w = elim (last_passage items n 1 m r w) [
    | inl avoids ↦ avoids
    | inr pass ↦ true_false (sym (is_prefix_of_append a r pass.back (pass.parts ∙ ap (λ (u : Names). u ++ pass.back) (one_path items n pass.front a pass.to can.from))) ∙ h)
  ]

  -- a walk beneath n does not come back to n
  beneath_avoids : (m : ℕ) (rest : Names) → Walks items n rest m → Avoids items n n rest m
  beneath_avoids m rest w = elim (last_passage items n n m rest w) [
    | inl avoids ↦ avoids
    | inr pass ↦
        let longer = one_path items n a (a ++ pass.front) can.from (walks_on items 1 n n a pass.front can.from pass.to) in
        let empty = nothing_longer a pass.front longer in
        subst (λ (u : Names). Avoids items n n u m) (sym (pass.parts ∙ ap (λ (u : Names). u ++ pass.back) empty)) pass.on
  ]

  -- what stood beneath a stands beneath b
  under_b : (m : ℕ) (rest : Names) → Walks items n rest m → Walks new 1 (b ++ rest) m
  under_b m rest w = walks_on new 1 n m b rest placed (avoids_walks new n n m rest (avoids_alike n items new (with_differs items n y) n m rest (beneath_avoids m rest w)))

  below_a : (m : ℕ) (rest : Names) → Walks items 1 (a ++ rest) m → Walks items n rest m
  below_a m rest w =
      let parts = walk_parts items 1 m a rest w in
      subst (λ (u : ℕ). Walks items u rest m) (one_number items (one_each items can.sound) 1 parts.0 n a parts.1 can.from) parts.2

  -- the item of a number in the new items
  pub record NewItem (m : ℕ) (e : Item) : Type 0 where
    pub placed : Placed
    pub is : new m ≡ Some placed
    pub item : placed.item ≡ e

  new_item : (m : ℕ) (z : Placed) (e : Item) → items m ≡ Some z → z.item ≡ e → NewItem m e
  new_item m z e is item = elim (m == n) as (λ b. (m == n) ≡ b → NewItem m e) [
    | true ↦ λ here.
        let same : Some x ≡ Some z = sym can.is ∙ ap items (sym (number_is m n here)) ∙ is in
        let items_same : x ≡ z = cc same in
        record { placed = y; is = ap new (number_is m n here) ∙ with_at items n y; item = ap (λ (u : Placed). u.item) items_same ∙ item }
    | false ↦ λ off. record { placed = z; is = (with_differs items n y).same m off ∙ is; item = item }
  ] refl

  to_new : (m : ℕ) (r : Names) (e : Item) (z : Placed) → Walks new 1 r m → items m ≡ Some z → z.item ≡ e → LeadsTo new r e
  to_new m r e z w is item = let i = new_item m z e is item in record { number = m; walks = w; placed = i.placed; is = i.is; item = i.item }

  beneath_b : (rest : Names) (e : Item) → item_at t (a ++ rest) ≡ Some e → LeadsTo new (b ++ rest) e
  beneath_b rest e is =
      let s = can.reads.only (a ++ rest) e is in
      to_new s.number (b ++ rest) e s.placed (under_b s.number rest (below_a s.number rest s.walks)) s.is s.item

  beside : (r : Names) (e : Item) → is_prefix a r ≡ false → item_at t r ≡ Some e → LeadsTo new r e
  beside r e out is =
      let s = can.reads.only r e is in
      to_new s.number r e s.placed (avoids_walks new n 1 s.number r (avoids_alike n items new (with_differs items n y) 1 s.number r (past_a s.number r out s.walks))) s.is s.item

  -- ---- from the new items to the tree

  old_item : (m : ℕ) (z : Placed) (e : Item) → new m ≡ Some z → z.item ≡ e → (u : Placed) × (items m ≡ Some u) × (u.item ≡ e)
  old_item m z e is item = elim (m == n) as (λ b. (m == n) ≡ b → (u : Placed) × (items m ≡ Some u) × (u.item ≡ e)) [
    | true ↦ λ here.
        let same : Some y ≡ Some z = sym (with_at items n y) ∙ ap new (sym (number_is m n here)) ∙ is in
        let items_same : y ≡ z = cc same in
        (x, ap items (number_is m n here) ∙ can.is, ap (λ (u : Placed). u.item) items_same ∙ item)
    | false ↦ λ off. (z, sym ((with_differs items n y).same m off) ∙ is, item)
  ] refl

  -- where a new walk does not pass n, the path is neither at nor beneath a or b
  not_a : (m : ℕ) (r : Names) → Avoids items n 1 r m → is_prefix a r ≡ false
  not_a m r w = elim (is_prefix a r) as (λ c. is_prefix a r ≡ c → c ≡ false) [
    | true ↦ λ h.
        let parts = avoids_parts items n 1 m a (drop (length a) r) (subst (λ (u : Names). Avoids items n 1 u m) (prefix_is a r h) w) in
        let same = one_number items (one_each items can.sound) 1 parts.0 n a (avoids_walks items n 1 parts.0 a parts.1) can.from in
        true_false (sym (itself n) ∙ subst (λ (u : ℕ). (u == n) ≡ false) same (end_avoids items n 1 parts.0 a (flip n can.not_root) parts.1))
    | false ↦ λ _. refl
  ] refl

  nothing_at_b : (r : Names) → is_prefix b r ≡ true → item_at t r ≡ None
  nothing_at_b r h = nothing_beneath t b r (is_tree items t can.sound can.reads) can.none h

  not_b : (r : Names) (e : Item) → item_at t r ≡ Some e → is_prefix b r ≡ false
  not_b r e is = elim (is_prefix b r) as (λ c. is_prefix b r ≡ c → c ≡ false) [
    | true ↦ λ h. none_some (sym (nothing_at_b r h) ∙ is)
    | false ↦ λ _. refl
  ] refl

  at : (r : Names) → item_at (moved t a b) r ≡ (if is_prefix b r then item_at t (a ++ drop (length b) r) else if is_prefix a r then None else item_at t r)
  at r = moved_at t a b r (is_tree items t can.sound can.reads) can.none

  rest_of : (back : Names) (r : Names) → r ≡ b ++ back → drop (length b) r ≡ back
  rest_of back r e = front_rest r b back e

  there_moved : (r : Names) (e : Item) (s : LeadsTo new r e) → Avoids new n 1 r s.number ⊎ Passes new n 1 r s.number → item_at (moved t a b) r ≡ Some e
  there_moved r e s (inl avoids) =
      let old = avoids_alike n new items (back_at n items new (with_differs items n y)) 1 s.number r avoids in
      let i = old_item s.number s.placed e s.is s.item in
      let is = can.reads.there r e (record { number = s.number; walks = avoids_walks items n 1 s.number r old; placed = i.0; is = i.1; item = i.2 }) in
      at r ∙ rw (not_b r e is, not_a s.number r old) is
  there_moved r e s (inr pass) =
      let front = one_path new n pass.front b pass.to placed in
      let parts : r ≡ b ++ pass.back = pass.parts ∙ ap (λ (u : Names). u ++ pass.back) front in
      let down = avoids_walks items n n s.number pass.back (avoids_alike n new items (back_at n items new (with_differs items n y)) n s.number pass.back pass.on) in
      let i = old_item s.number s.placed e s.is s.item in
      let is = can.reads.there (a ++ pass.back) e (record { number = s.number; walks = walks_on items 1 n s.number a pass.back can.from down; placed = i.0; is = i.1; item = i.2 }) in
      at r ∙ rw (is_prefix_of_append b r pass.back parts, rest_of pass.back r parts) is

  only_moved : (r : Names) (e : Item) (under_b under_a : Bool) → is_prefix b r ≡ under_b → is_prefix a r ≡ under_a → (if under_b then item_at t (a ++ drop (length b) r) else if under_a then None else item_at t r) ≡ Some e → LeadsTo new r e
  only_moved r e true u h g is = subst (λ (v : Names). LeadsTo new v e) (sym (prefix_is b r h)) (beneath_b (drop (length b) r) e is)
  only_moved r e false true h g is = none_some is
  only_moved r e false false h g is = beside r e g is

  pub moved_reads : ReadsAs new (moved t a b)
  moved_reads = record {
    in_order = in_order_from (rekeyed a b t);
    there = λ r e s. there_moved r e s (last_passage new n 1 s.number r s.walks);
    only = λ r e is. only_moved r e (is_prefix b r) (is_prefix a r) refl refl (sym (at r) ∙ is);
  }

  -- ---- the new items keep the rules

  in_new : (m : ℕ) → is_folder_placed (items m) ≡ true → is_folder_placed (new m) ≡ true
  in_new m h = elim (m == n) as (λ c. (m == n) ≡ c → is_folder_placed (new m) ≡ true) [
    | true ↦ λ here. ap is_folder_placed (ap new (number_is m n here) ∙ with_at items n y) ∙ ap is_folder_placed (sym can.is) ∙ ap (λ (u : ℕ). is_folder_placed (items u)) (sym (number_is m n here)) ∙ h
    | false ↦ λ off. ap is_folder_placed ((with_differs items n y).same m off) ∙ h
  ] refl

  -- of two numbers in one place neither is n
  alone : (m : ℕ) (z : Placed) → (m == n) ≡ false → new m ≡ Some z → (m == 1) ≡ false → z.parent ≡ k → z.name ≡ Some name → ⊥
  alone m z off is out parent called =
      no_child items t can.reads k m q name can.into can.none (record { placed = z; is = sym ((with_differs items n y).same m off) ∙ is; parent = parent; name = called; not_root = out })

  -- as a number that is not the root's
  or_root : (m : ℕ) → ((m == 1) ≡ false → ⊥) → (m == 1) ≡ true
  or_root m h = elim (m == 1) as (λ c. (m == 1) ≡ c → c ≡ true) [ true ↦ λ _. refl | false ↦ λ out. absurd (h out) ] refl

  below_n : (m : ℕ) → m < n → (m == n) ≡ false
  below_n m low = grind (arith, nat_tests)

  placed_n : IsPlaced new n y
  placed_n = record {
    named = refl;
    in_folder = in_new k can.folder;
    first = λ m z low is parent called. or_root m (λ out. alone m z (below_n m low) is out parent called);
    near = climbs_walk new n b 64 placed (omega (arith, can.short [] (ap (λ (u : Names). is_some (item_at t u)) (append-nil a) ∙ ap is_some (can.reads.there a x.item (record { number = n; walks = can.from; placed = x; is = can.is; item = refl })))));
  }

  near_m : (m : ℕ) (z : Placed) → items m ≡ Some z → (p : Names) → length p ≤ 64 → Walks items 1 p m → Avoids items n 1 p m ⊎ Passes items n 1 p m → climbs 64 new m ≡ true
  near_m m z is p short w (inl avoids) = climbs_walk new m p 64 (avoids_walks new n 1 m p (avoids_alike n items new (with_differs items n y) 1 m p avoids)) short
  near_m m z is p short w (inr pass) =
      let down = avoids_walks items n n m pass.back pass.on in
      let stands = can.reads.there (a ++ pass.back) z.item (record { number = m; walks = walks_on items 1 n m a pass.back can.from down; placed = z; is = is; item = refl }) in
      climbs_walk new m (b ++ pass.back) 64 (under_b m pass.back down) (omega (arith, length-append b pass.back, can.short pass.back (ap is_some stands)))

  first_m : (m : ℕ) (z : Placed) → items m ≡ Some z → (m == n) ≡ false → (m == 1) ≡ false → (l : ℕ) (u : Placed) → l < m → new l ≡ Some u → u.parent ≡ z.parent → u.name ≡ z.name → (l == 1) ≡ true
  first_m m z is off out l u low is_u parent called = elim (l == n) as (λ c. (l == n) ≡ c → (l == 1) ≡ true) [
    | true ↦ λ here.
        let same : Some y ≡ Some u = sym (with_at items n y) ∙ ap new (sym (number_is l n here)) ∙ is_u in
        let items_same : y ≡ u = cc same in
        absurd (alone m z off ((with_differs items n y).same m off ∙ is) out (sym parent ∙ ap (λ (v : Placed). v.parent) (sym items_same)) (sym called ∙ ap (λ (v : Placed). v.name) (sym items_same)))
    | false ↦ λ apart. ((can.sound m).placed z is out).first l u low (sym ((with_differs items n y).same l apart) ∙ is_u) parent called
  ] refl

  placed_m : (m : ℕ) (z : Placed) → items m ≡ Some z → (m == n) ≡ false → (m == 1) ≡ false → IsPlaced new m z
  placed_m m z is off out =
      let old = (can.sound m).placed z is out in
      let w = reached items can.sound m z is in
      let far = climbs_far items 1 m _ 64 w old.near in
      record {
        named = old.named;
        in_folder = in_new z.parent old.in_folder;
        first = first_m m z is off out;
        near = near_m m z is _ (omega (arith, far.1)) w (last_passage items n 1 m _ w);
      }

  pub moved_sound : IsSound new
  moved_sound m = record {
    root = λ one. let r = (can.sound 1).root refl in record { placed = r.placed; is = (with_differs items n y).same 1 (flip n can.not_root) ∙ r.is; root = r.root };
    placed = λ z is out.
        elim (m == n) as (λ c. (m == n) ≡ c → IsPlaced new m z) [
          | true ↦ λ e.
              let here = number_is m n e in
              let same : Some y ≡ Some z = sym (with_at items n y) ∙ ap new (sym here) ∙ is in
              let items_same : y ≡ z = cc same in
              subst (λ (l : ℕ). IsPlaced new l z) (sym here) (subst (λ (u : Placed). IsPlaced new n u) items_same placed_n)
          | false ↦ λ off. placed_m m z (sym ((with_differs items n y).same m off) ∙ is) off out
        ] refl;
  }

  -- numbers stay where a is not above
  pub moved_walks : (m : ℕ) (r : Names) → is_prefix a r ≡ false → Walks items 1 r m → Walks new 1 r m
  moved_walks m r out w = avoids_walks new n 1 m r (avoids_alike n items new (with_differs items n y) 1 m r (past_a m r out w))
