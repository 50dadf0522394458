-- An item less, in which nothing stands.
use Rattle.std.proofs.Common.{◌≡◌, ℕ, ◌==◌, Bool, true, false, cond, [], ◌∷◌, ◌++◌, refl, sym, ap, ◌∙◌, subst, Option, Some, None, arith, ◌⊎◌, inl, inr, append-nil}
use Rattle.std.specs.BTreeMap.{is_at}
use Rattle.tm_base.proofs.Facts.{false_true, none_some}
use Rattle.tm_tree.specs.declared.item.Item.{Item}
use Rattle.tm_base.specs.Paths.{Names, path_cmp}
use Rattle.tm_tree.specs.Trees.{Tree, item_at, without}
use Rattle.tm_tree.proofs.CopyProofs.{at_is}
use Rattle.tm_tree.proofs.Edits.{item_at-without, in_order_without}
use Rattle.tm_items.specs.Placings.{Placed, Items, Walks, ReadsAs}
use Rattle.tm_items.specs.Rules.{IsSound, is_folder_placed}
use Rattle.tm_items.specs.Changes.{Are, CanRemove, without_item}
use Rattle.tm_items.proofs.Walking.{one_path, one_number, one_each, reached, climbs_far, climbs_walk}
use Rattle.tm_items.proofs.Avoiding.{Avoids, DifferAt, avoids_walks, end_avoids, itself, last_passage, back_at, avoids_alike, not_free}
use Rattle.tm_items.proofs.Making.{flip}
use Rattle.tm_items.proofs.Parents.{not_one}

module _ (items : Items) (t : Tree) (p : Names) (n k : ℕ) (are : Are items t) (can : CanRemove items t p n k) where
  not_root : (n == 1) ≡ false
  not_root = not_one items n p can.below can.stands

  abbrev new : Items
  new = without_item items n

  gone : new n ≡ None
  gone = rw (itself n) refl

  differs : DifferAt n items new
  differs = record { same = λ m off. rw off refl }

  -- nothing stands beneath n
  ends : (m : ℕ) (back : Names) → Avoids items n n back m → (back ≡ []) × (m ≡ n)
  ends m [] w = (refl, sym w)
  ends m (c ∷ back) w = false_true (sym (can.empty w.0 w.1.placed w.1.is w.1.not_root) ∙ ap (λ (k : ℕ). k == n) w.1.parent ∙ itself n)

  split : (m : ℕ) (r : Names) → Walks items 1 r m → Avoids items n 1 r m ⊎ ((r ≡ p) × (m ≡ n))
  split m r w = elim (last_passage items n 1 m r w) [
    | inl avoids ↦ inl avoids
    | inr pass ↦
        let z = ends m pass.back pass.on in
        inr (pass.parts ∙ ap (λ (u : Names). pass.front ++ u) z.0 ∙ append-nil pass.front ∙ one_path items n pass.front p pass.to can.stands, z.1)
  ]

  new_avoids : (a m : ℕ) (r : Names) → Walks new a r m → Avoids new n a r m
  new_avoids a m [] w = w
  new_avoids a m (name ∷ r) w = (w.0, w.1, not_free new n w.0 w.1.placed gone w.1.is, new_avoids w.0 m r w.2)

  to_old : (m : ℕ) (r : Names) → Walks new 1 r m → Avoids items n 1 r m
  to_old m r w = avoids_alike n new items (back_at n items new differs) 1 m r (new_avoids 1 m r w)

  pub removed_reads : ReadsAs new (without t p)
  removed_reads = record {
    in_order = in_order_without t p are.reads.in_order;
    there = λ r e s.
        let a = to_old s.number r s.walks in
        let off = end_avoids items n 1 s.number r (flip n not_root) a in
        let is = are.reads.there r e (record { number = s.number; walks = avoids_walks items n 1 s.number r a; placed = s.placed; is = sym (differs.same s.number off) ∙ s.is; item = s.item }) in
        item_at-without t p r are.reads.in_order ∙ rw (elsewhere r s.number (avoids_walks items n 1 s.number r a) off) is;
    only = λ r e is.
        let at = sym (item_at-without t p r are.reads.in_order) ∙ is in
        let old = kept (is_at (path_cmp p) r) (item_at t r) e at in
        let s = are.reads.only r e old.1 in
        elim (split s.number r s.walks) [
          | inl a ↦ record { number = s.number; walks = avoids_walks new n 1 s.number r (avoids_alike n items new differs 1 s.number r a); placed = s.placed; is = differs.same s.number (end_avoids items n 1 s.number r (flip n not_root) a) ∙ s.is; item = s.item }
          | inr z ↦ false_true (sym old.0 ∙ (at_is p r).1 (sym z.0))
        ];
  }
    where
      kept : (b : Bool) (o : Option Item) (e : Item) → cond b None o ≡ Some e → (b ≡ false) × (o ≡ Some e)
      kept true o e h = none_some h
      kept false o e h = (refl, h)

      elsewhere : (r : Names) (m : ℕ) → Walks items 1 r m → (m == n) ≡ false → is_at (path_cmp p) r ≡ false
      elsewhere r m w off = elim (is_at (path_cmp p) r) as (λ b. is_at (path_cmp p) r ≡ b → b ≡ false) [
        | true ↦ λ at. false_true (sym off ∙ ap (λ (k : ℕ). k == n) (one_number items (one_each items are.sound) 1 m n p (subst (λ (u : Names). Walks items 1 u m) (sym ((at_is p r).0 at)) w) can.stands) ∙ itself n)
        | false ↦ λ _. refl
      ] refl

  old_of : (m : ℕ) (x : Placed) → new m ≡ Some x → (items m ≡ Some x) × ((m == n) ≡ false)
  old_of m x is = let off = not_free new n m x gone is in (sym (differs.same m off) ∙ is, off)

  pub removed_sound : IsSound new
  removed_sound m = record {
    root = λ one. let r = (are.sound 1).root refl in record { placed = r.placed; is = differs.same 1 (flip n not_root) ∙ r.is; root = r.root };
    placed = λ x is out.
        let o = old_of m x is in
        let old = (are.sound m).placed x o.0 out in
        let w = reached items are.sound m x o.0 in
        let far = climbs_far items 1 m _ 64 w old.near in
        record {
          named = old.named;
          in_folder = ap is_folder_placed (differs.same x.parent (can.empty m x o.0 out)) ∙ old.in_folder;
          first = λ l y low is_y parent called. old.first l y low (old_of l y is_y).0 parent called;
          near = elim (split m _ w) [
            | inl a ↦ climbs_walk new m _ 64 (avoids_walks new n 1 m _ (avoids_alike n items new differs 1 m _ a)) (omega (arith, far.1))
            | inr z ↦ false_true (sym o.1 ∙ ap (λ (k : ℕ). k == n) z.1 ∙ itself n)
          ];
        };
  }

  -- the other numbers stay
  pub removed_walks : (m : ℕ) (r : Names) → (r ≡ p → ⊥) → Walks items 1 r m → Walks new 1 r m
  removed_walks m r other w = elim (split m r w) [
    | inl a ↦ avoids_walks new n 1 m r (avoids_alike n items new differs 1 m r a)
    | inr z ↦ absurd (other z.0)
  ]
