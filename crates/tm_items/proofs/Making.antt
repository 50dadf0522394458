-- A new item: the items and the tree with it.
use Rattle.std.proofs.Common.{◌≡◌, ℕ, ◌<◌, ◌==◌, true, false, List, [], ◌∷◌, ◌++◌, length, length-append, refl, sym, ap, ◌∙◌, subst, Some, None, arith, append-nil, ◌⊎◌, inl, inr}
use Rattle.std.proofs.lemmas.Bool.Decides.{nat_tests}
use Rattle.std.specs.BTreeMap.{is_at}
use Rattle.tm_base.proofs.Facts.{false_true, none_some}
use Rattle.tm_tree.specs.declared.item.Item.{Item}
use Rattle.tm_base.specs.Paths.{Names, path_cmp}
use Rattle.tm_tree.specs.Trees.{Tree, item_at, put}
use Rattle.tm_tree.proofs.AtPaths.{item_at-put, in_order_put}
use Rattle.tm_tree.proofs.CopyProofs.{at_is}
use Rattle.tm_items.specs.Placings.{Placed, Items, IsChild, Walks, LeadsTo, ReadsAs}
use Rattle.tm_items.specs.Rules.{IsSound, IsPlaced, is_folder_placed}
use Rattle.tm_items.specs.Changes.{with_item}
use Rattle.tm_items.proofs.Walking.{walks_on, one_path, reached, climbs_far, climbs_walk}
use Rattle.tm_items.proofs.Reading.{chosen}
use Rattle.tm_items.proofs.Avoiding.{Avoids, avoids_walks, end_avoids, number_is, last_passage, back_at, avoids_alike, with_at, with_differs, free_avoids, folder_above, no_child}

-- k is a folder at q, where nothing stands under this name, and n is free
pub record Makes (items : Items) (t : Tree) (n k : ℕ) (q : Names) (name : List ℕ) : Type 0 where
  pub sound : IsSound items
  pub reads : ReadsAs items t
  pub free : items n ≡ None
  pub not_root : (n == 1) ≡ false
  pub into : Walks items 1 q k
  pub folder : is_folder_placed (items k) ≡ true
  pub none : item_at t (q ++ name ∷ []) ≡ None

pub flip : (n : ℕ) → (n == 1) ≡ false → (1 == n) ≡ false
flip n h = grind (arith, nat_tests)

module _ (items : Items) (t : Tree) (n k : ℕ) (q : Names) (name : List ℕ) (e : Item) (can : Makes items t n k q name) where
  abbrev x : Placed
  x = record { parent = k; name = Some name; item = e }

  abbrev new : Items
  new = with_item items n x

  abbrev p : Names
  p = q ++ name ∷ []

  not_k : (k == n) ≡ false
  not_k = end_avoids items n 1 k q (flip n can.not_root) (free_avoids items n can.free 1 k q can.into)

  pub on_new : (a m : ℕ) (r : Names) → Walks items a r m → Walks new a r m
  on_new a m r w = avoids_walks new n a m r (avoids_alike n items new (with_differs items n x) a m r (free_avoids items n can.free a m r w))

  made : Walks new 1 p n
  made = walks_on new 1 k n q (name ∷ []) (on_new 1 k q can.into) (n, record { placed = x; is = with_at items n x; parent = refl; name = refl; not_root = can.not_root }, refl)

  no_parent : is_folder_placed (items n) ≡ true → ⊥
  no_parent h = false_true (ap is_folder_placed (sym can.free) ∙ h)

  none_below : (m : ℕ) (c : List ℕ) → IsChild new n c m → (m == n) ≡ false → ⊥
  none_below m c child off =
      no_parent (folder_above items can.sound n m c (record { placed = child.placed; is = sym ((with_differs items n x).same m off) ∙ child.is; parent = child.parent; name = child.name; not_root = child.not_root }))

  to_new : (m : ℕ) (front back : Names) → Walks new 1 front n → Avoids new n n back m → (front ++ back ≡ p) × (m ≡ n)
  to_new m front [] w on = (append-nil front ∙ one_path new n front p w made, sym on)
  to_new m front (c ∷ back) w on = absurd (none_below on.0 c on.1 on.2)

  walks_new : (m : ℕ) (r : Names) → Walks new 1 r m → Avoids items n 1 r m ⊎ ((r ≡ p) × (m ≡ n))
  walks_new m r w =
      elim (last_passage new n 1 m r w) [
        | inl avoids ↦ inl (avoids_alike n new items (back_at n items new (with_differs items n x)) 1 m r avoids)
        | inr pass ↦ let z = to_new m pass.front pass.back pass.to pass.on in inr (pass.parts ∙ z.0, z.1)
      ]

  elsewhere : (r : Names) (f : Item) → item_at t r ≡ Some f → is_at (path_cmp r) p ≡ false
  elsewhere r f is =
      elim (is_at (path_cmp r) p) as (λ b. is_at (path_cmp r) p ≡ b → b ≡ false) [
        | true ↦ λ here. absurd (none_some (sym can.none ∙ ap (item_at t) (sym ((at_is r p).0 here)) ∙ is))
        | false ↦ λ _. refl
      ] refl

  old_stands : (r : Names) (f : Item) (s : LeadsTo new r f) → Avoids items n 1 r s.number → item_at t r ≡ Some f
  old_stands r f s a =
      can.reads.there r f (record {
        number = s.number;
        walks = avoids_walks items n 1 s.number r a;
        placed = s.placed;
        is = sym ((with_differs items n x).same s.number (end_avoids items n 1 s.number r (flip n can.not_root) a)) ∙ s.is;
        item = s.item;
      })

  pub made_reads : ReadsAs new (put t p e)
  made_reads = record {
    in_order = in_order_put t p e can.reads.in_order;
    there = λ r f s.
        item_at-put t p e r ∙
        elim (walks_new s.number r s.walks) [
          | inl a ↦ let is = old_stands r f s a in rw (elsewhere r f is) is
          | inr z ↦
              let same : Some x ≡ Some s.placed = sym (with_at items n x) ∙ ap new (sym z.1) ∙ s.is in
              let items_same : x ≡ s.placed = cc same in
              rw ((at_is r p).1 z.0) (ap Some (ap (λ (y : Placed). y.item) items_same ∙ s.item))
        ];
    only = λ r f is.
        elim (chosen (is_at (path_cmp r) p) e f (item_at t r) (sym (item_at-put t p e r) ∙ is)) [
          | inl hit ↦ subst (λ (y : Names). LeadsTo new y f) (sym ((at_is r p).0 hit.0)) (record { number = n; walks = made; placed = x; is = with_at items n x; item = hit.1 })
          | inr past ↦
              let s = can.reads.only r f past.1 in
              let a = free_avoids items n can.free 1 s.number r s.walks in
              record {
                number = s.number;
                walks = on_new 1 s.number r s.walks;
                placed = s.placed;
                is = (with_differs items n x).same s.number (end_avoids items n 1 s.number r (flip n can.not_root) a) ∙ s.is;
                item = s.item;
              }
        ];
  }

  -- ---- the new items keep the rules

  first_at : (m : ℕ) (y : Placed) → m < n → new m ≡ Some y → y.parent ≡ k → y.name ≡ Some name → (m == 1) ≡ true
  first_at m y low is parent called =
      let off : (m == n) ≡ false = grind (arith, nat_tests) in
      elim (m == 1) as (λ b. (m == 1) ≡ b → b ≡ true) [
        | true ↦ λ _. refl
        | false ↦ λ out. absurd (no_child items t can.reads k m q name can.into can.none (record { placed = y; is = sym ((with_differs items n x).same m off) ∙ is; parent = parent; name = called; not_root = out }))
      ] refl

  placed_n : length q < 64 → IsPlaced new n x
  placed_n short = record {
    named = refl;
    in_folder = ap is_folder_placed ((with_differs items n x).same k not_k) ∙ can.folder;
    first = λ m y low is parent called. first_at m y low is parent called;
    near = climbs_walk new n p 64 made (omega (arith, length-append q (name ∷ [])));
  }

  no_one : (m : ℕ) → m ≡ n → items m ≡ Some x → ⊥
  no_one m e is = none_some (sym can.free ∙ ap items (sym e) ∙ is)

  placed_m : (m : ℕ) (y : Placed) → items m ≡ Some y → (m == 1) ≡ false → IsPlaced new m y
  placed_m m y is out =
      let old = (can.sound m).placed y is out in
      let off = not_parent y old.in_folder in
      let w = reached items can.sound m y is in
      let far = climbs_far items 1 m _ 64 w old.near in
      record {
        named = old.named;
        in_folder = ap is_folder_placed ((with_differs items n x).same y.parent off) ∙ old.in_folder;
        first = λ l z low is_z parent called. first_below m y is out l z low is_z parent called;
        near = climbs_walk new m _ 64 (on_new 1 m _ w) (omega (arith, far.1));
      }
    where
      not_parent : (y : Placed) → is_folder_placed (items y.parent) ≡ true → (y.parent == n) ≡ false
      not_parent y h = elim (y.parent == n) as (λ b. (y.parent == n) ≡ b → b ≡ false) [
        | true ↦ λ e. absurd (no_parent (subst (λ (m : ℕ). is_folder_placed (items m) ≡ true) (number_is y.parent n e) h))
        | false ↦ λ e. refl
      ] refl

      first_below : (m : ℕ) (y : Placed) → items m ≡ Some y → (m == 1) ≡ false → (l : ℕ) (z : Placed) → l < m → new l ≡ Some z → z.parent ≡ y.parent → z.name ≡ y.name → (l == 1) ≡ true
      first_below m y is out l z low is_z parent called = elim (l == n) as (λ b. (l == n) ≡ b → (l == 1) ≡ true) [
        | true ↦ λ e.
            let same : Some x ≡ Some z = sym (with_at items n x) ∙ ap new (sym (number_is l n e)) ∙ is_z in
            let items_same : x ≡ z = cc same in
            absurd (no_child items t can.reads k m q name can.into can.none (record { placed = y; is = is; parent = sym parent ∙ ap (λ (u : Placed). u.parent) (sym items_same); name = sym called ∙ ap (λ (u : Placed). u.name) (sym items_same); not_root = out }))
        | false ↦ λ off. ((can.sound m).placed y is out).first l z low (sym ((with_differs items n x).same l off) ∙ is_z) parent called
      ] refl

  pub made_sound : length q < 64 → IsSound new
  made_sound short m = record {
    root = λ one. let r = (can.sound 1).root refl in record { placed = r.placed; is = (with_differs items n x).same 1 (flip n can.not_root) ∙ r.is; root = r.root };
    placed = λ y is out.
        elim (m == n) as (λ b. (m == n) ≡ b → IsPlaced new m y) [
          | true ↦ λ e.
              let here = number_is m n e in
              let same : Some x ≡ Some y = sym (with_at items n x) ∙ ap new (sym here) ∙ is in
              let items_same : x ≡ y = cc same in
              subst (λ (l : ℕ). IsPlaced new l y) (sym here) (subst (λ (z : Placed). IsPlaced new n z) items_same (placed_n short))
          | false ↦ λ off. placed_m m y (sym ((with_differs items n x).same m off) ∙ is) out
        ] refl;
  }
