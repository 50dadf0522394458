-- Another item in the place of one.
use Rattle.std.proofs.Common.{◌≡◌, ℕ, ◌==◌, true, false, cond, List, [], ◌∷◌, refl, sym, ap, ◌∙◌, subst, Some, is_some, option_map, arith}
use Rattle.std.proofs.lemmas.Bool.Decides.{nat_tests}
use Rattle.std.specs.BTreeMap.{is_at}
use Rattle.tm_base.proofs.Facts.{false_true}
use Rattle.tm_tree.specs.declared.item.Item.{Item}
use Rattle.tm_tree.specs.Items.{is_folder}
use Rattle.tm_base.specs.Paths.{Names, path_cmp}
use Rattle.tm_tree.specs.Trees.{Tree, item_at, put, change_at}
use Rattle.tm_tree.proofs.AtPaths.{item_at-put, in_order_put, trees_equal}
use Rattle.tm_tree.proofs.Edits.{item_at-change, keys-change}
use Rattle.tm_tree.proofs.Order.{InOrder}
use Rattle.std.specs.List.Sorted.{IsStrictlySortedBy}
use Rattle.tm_tree.proofs.CopyProofs.{at_is}
use Rattle.tm_items.specs.Placings.{Placed, Items, Walks, LeadsTo, ReadsAs}
use Rattle.tm_items.specs.Rules.{IsSound, is_folder_placed, RootStands}
use Rattle.tm_items.specs.Changes.{with_item, Are, CanReplace, replaced_items, ReplaceReads}
use Rattle.tm_items.proofs.Walking.{one_path, one_number, one_each, reached, climbs_far, climbs_walk}
use Rattle.tm_items.proofs.Avoiding.{number_is, with_at, with_differs}

flip_one : (n : ℕ) → (1 == n) ≡ true → (n == 1) ≡ true
flip_one n h = grind (arith, nat_tests)

module _ (items : Items) (t : Tree) (n : ℕ) (x : Placed) (p : Names) (e : Item) (are : Are items t) (can : CanReplace items n p x e) where
  abbrev y : Placed
  y = record { parent = x.parent; name = x.name; item = e }

  abbrev new : Items
  new = with_item items n y

  -- an item in the same place
  pub record Alike (here there : Items) (m : ℕ) (z : Placed) : Type 0 where
    pub placed : Placed
    pub is : there m ≡ Some placed
    pub parent : placed.parent ≡ z.parent
    pub name : placed.name ≡ z.name
    pub folder : is_folder placed.item ≡ is_folder z.item

  to_new : (m : ℕ) (z : Placed) → items m ≡ Some z → Alike items new m z
  to_new m z is = elim (m == n) as (λ b. (m == n) ≡ b → Alike items new m z) [
    | true ↦ λ here.
        let same : Some x ≡ Some z = sym can.is ∙ ap items (sym (number_is m n here)) ∙ is in
        let items_same : x ≡ z = cc same in
        record { placed = y; is = ap new (number_is m n here) ∙ with_at items n y; parent = ap (λ (u : Placed). u.parent) items_same; name = ap (λ (u : Placed). u.name) items_same; folder = can.folder ∙ ap (λ (u : Placed). is_folder u.item) items_same }
    | false ↦ λ off. record { placed = z; is = (with_differs items n y).same m off ∙ is; parent = refl; name = refl; folder = refl }
  ] refl

  to_old : (m : ℕ) (z : Placed) → new m ≡ Some z → Alike new items m z
  to_old m z is = elim (m == n) as (λ b. (m == n) ≡ b → Alike new items m z) [
    | true ↦ λ here.
        let same : Some y ≡ Some z = sym (with_at items n y) ∙ ap new (sym (number_is m n here)) ∙ is in
        let items_same : y ≡ z = cc same in
        record { placed = x; is = ap items (number_is m n here) ∙ can.is; parent = ap (λ (u : Placed). u.parent) items_same; name = ap (λ (u : Placed). u.name) items_same; folder = sym can.folder ∙ ap (λ (u : Placed). is_folder u.item) items_same }
    | false ↦ λ off. record { placed = z; is = sym ((with_differs items n y).same m off) ∙ is; parent = refl; name = refl; folder = refl }
  ] refl

  pub walks_new : (a m : ℕ) (r : Names) → Walks items a r m → Walks new a r m
  walks_new a m [] w = w
  walks_new a m (name ∷ r) w =
      let c = to_new w.0 w.1.placed w.1.is in
      (w.0, record { placed = c.placed; is = c.is; parent = c.parent ∙ w.1.parent; name = c.name ∙ w.1.name; not_root = w.1.not_root }, walks_new w.0 m r w.2)

  pub walks_old : (a m : ℕ) (r : Names) → Walks new a r m → Walks items a r m
  walks_old a m [] w = w
  walks_old a m (name ∷ r) w =
      let c = to_old w.0 w.1.placed w.1.is in
      (w.0, record { placed = c.placed; is = c.is; parent = c.parent ∙ w.1.parent; name = c.name ∙ w.1.name; not_root = w.1.not_root }, walks_old w.0 m r w.2)

  elsewhere : (r : Names) (m : ℕ) → is_at (path_cmp r) p ≡ false → Walks items 1 r m → (m == n) ≡ false
  elsewhere r m past w = elim (m == n) as (λ b. (m == n) ≡ b → b ≡ false) [
    | true ↦ λ here. false_true (sym past ∙ (at_is r p).1 (one_path items m r p w (subst (λ (u : ℕ). Walks items 1 p u) (sym (number_is m n here)) can.stands)))
    | false ↦ λ off. refl
  ] refl

  there_set : (r : Names) (f : Item) (s : LeadsTo new r f) → cond (is_at (path_cmp r) p) (Some e) (item_at t r) ≡ Some f
  there_set r f s =
      elim (is_at (path_cmp r) p) as (λ b. is_at (path_cmp r) p ≡ b → cond b (Some e) (item_at t r) ≡ Some f) [
        | true ↦ λ hit.
            let w = subst (λ (u : Names). Walks items 1 u s.number) ((at_is r p).0 hit) (walks_old 1 s.number r s.walks) in
            let one : s.number ≡ n = one_number items (one_each items are.sound) 1 s.number n p w can.stands in
            let same : Some y ≡ Some s.placed = sym (with_at items n y) ∙ ap new (sym one) ∙ s.is in
            let items_same : y ≡ s.placed = cc same in
            ap Some (ap (λ (u : Placed). u.item) items_same ∙ s.item)
        | false ↦ λ past.
            let off : (s.number == n) ≡ false = elsewhere r s.number past (walks_old 1 s.number r s.walks) in
            are.reads.there r f (record { number = s.number; walks = walks_old 1 s.number r s.walks; placed = s.placed; is = sym ((with_differs items n y).same s.number off) ∙ s.is; item = s.item })
      ] refl

  only_set : (r : Names) (f : Item) → item_at (put t p e) r ≡ Some f → LeadsTo new r f
  only_set r f is =
      elim (is_at (path_cmp r) p) as (λ b. is_at (path_cmp r) p ≡ b → cond b (Some e) (item_at t r) ≡ Some f → LeadsTo new r f) [
        | true ↦ λ hit same.
            let e_same : e ≡ f = cc same in
            record { number = n; walks = walks_new 1 n r (subst (λ (u : Names). Walks items 1 u n) (sym ((at_is r p).0 hit)) can.stands); placed = y; is = with_at items n y; item = e_same }
        | false ↦ λ past is.
            let s = are.reads.only r f is in
            let off : (s.number == n) ≡ false = elsewhere r s.number past s.walks in
            record { number = s.number; walks = walks_new 1 s.number r s.walks; placed = s.placed; is = (with_differs items n y).same s.number off ∙ s.is; item = s.item }
      ] refl (sym (item_at-put t p e r) ∙ is)

  pub set_reads : ReadsAs new (put t p e)
  set_reads = record {
    in_order = in_order_put t p e are.reads.in_order;
    there = λ r f s. item_at-put t p e r ∙ there_set r f s;
    only = only_set;
  }

  in_new : (m : ℕ) → is_folder_placed (items m) ≡ true → is_folder_placed (new m) ≡ true
  in_new m h = elim (m == n) as (λ c. (m == n) ≡ c → is_folder_placed (new m) ≡ true) [
    | true ↦ λ here. ap is_folder_placed (ap new (number_is m n here) ∙ with_at items n y) ∙ can.folder ∙ ap is_folder_placed (sym can.is) ∙ ap (λ (u : ℕ). is_folder_placed (items u)) (sym (number_is m n here)) ∙ h
    | false ↦ λ off. ap is_folder_placed ((with_differs items n y).same m off) ∙ h
  ] refl

  pub set_sound : IsSound new
  set_sound m = record {
    root = λ one. let r = (are.sound 1).root refl in
        elim (1 == n) as (λ b. (1 == n) ≡ b → RootStands new) [
          | true ↦ λ here.
              let same : Some r.placed ≡ Some x = sym r.is ∙ ap items (number_is 1 n here) ∙ can.is in
              let items_same : r.placed ≡ x = cc same in
              record {
                placed = y;
                is = ap new (number_is 1 n here) ∙ with_at items n y;
                root = record {
                  parent = ap (λ (u : Placed). u.parent) (sym items_same) ∙ r.root.parent;
                  name = ap (λ (u : Placed). u.name) (sym items_same) ∙ r.root.name;
                  folder = can.folder ∙ ap (λ (u : Placed). is_folder u.item) (sym items_same) ∙ r.root.folder;
                  included = can.included (flip_one n here);
                };
              }
          | false ↦ λ off. record { placed = r.placed; is = (with_differs items n y).same 1 off ∙ r.is; root = r.root }
        ] refl;
    placed = λ z is out.
        let o = to_old m z is in
        let old = (are.sound m).placed o.placed o.is out in
        let w = reached items are.sound m o.placed o.is in
        let far = climbs_far items 1 m _ 64 w old.near in
        record {
          named = ap is_some (sym o.name) ∙ old.named;
          in_folder = in_new z.parent (ap (λ (u : ℕ). is_folder_placed (items u)) (sym o.parent) ∙ old.in_folder);
          first = λ l u low is_u parent called.
              let v = to_old l u is_u in
              old.first l v.placed low v.is (v.parent ∙ parent ∙ sym o.parent) (v.name ∙ called ∙ sym o.name);
          near = climbs_walk new m _ 64 (walks_new 1 m _ w) (omega (arith, far.1));
        };
  }

pub replace_reads : ReplaceReads
replace_reads items t n p x e are can = record { sound = set_sound items t n x p e are can; reads = set_reads items t n x p e are can }

pub kept_walks : (items : Items) (t : Tree) (n : ℕ) (p : Names) (x : Placed) (e : Item) → Are items t → CanReplace items n p x e → (m : ℕ) (r : Names) → Walks items 1 r m → Walks (replaced_items items n x e) 1 r m
kept_walks items t n p x e are can m r w = walks_new items t n x p e are can 1 m r w

-- ---- a folder dated

-- an item changed is another one put
pub changed_is_put : (f : Item → Item) (t : Tree) (p : Names) (e : Item) → InOrder t → item_at t p ≡ Some e → change_at f t p ≡ put t p (f e)
changed_is_put f t p e h is =
    trees_equal (change_at f t p) (put t p (f e)) (subst (λ (ks : List Names). IsStrictlySortedBy path_cmp ks) (sym (keys-change f t p)) h) (in_order_put t p (f e) h)
    (λ q. item_at-change f t p q ∙ at_put q ∙ sym (item_at-put t p (f e) q))
  where
    at_put : (q : Names) → cond (is_at (path_cmp p) q) (option_map f (item_at t q)) (item_at t q) ≡ cond (is_at (path_cmp q) p) (Some (f e)) (item_at t q)
    at_put q = elim (is_at (path_cmp p) q) as (λ b. is_at (path_cmp p) q ≡ b → cond b (option_map f (item_at t q)) (item_at t q) ≡ cond (is_at (path_cmp q) p) (Some (f e)) (item_at t q)) [
      | true ↦ λ here.
          let same : p ≡ q = (at_is p q).0 here in
          rw ((at_is q p).1 (sym same), ap (item_at t) (sym same) ∙ is) refl
      | false ↦ λ off.
          elim (is_at (path_cmp q) p) as (λ b. is_at (path_cmp q) p ≡ b → item_at t q ≡ cond b (Some (f e)) (item_at t q)) [
            | true ↦ λ here. false_true (sym off ∙ (at_is p q).1 (sym ((at_is q p).0 here)))
            | false ↦ λ _. refl
          ] refl
    ] refl
