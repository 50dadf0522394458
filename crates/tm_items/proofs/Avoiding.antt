-- Walks that come to a number, and walks that do not.
use Rattle.std.proofs.Common.{◌≡◌, ℕ, ◌==◌, Bool, true, false, List, [], ◌∷◌, ◌++◌, refl, sym, ap, ◌∙◌, subst, Some, None, arith, ◌⊎◌, inl, inr}
use Rattle.std.proofs.lemmas.Bool.Decides.{nat_tests}
use Rattle.tm_tree.specs.declared.item.Item.{Item}
use Rattle.tm_base.specs.Paths.{Names}
use Rattle.tm_tree.specs.Trees.{Tree, item_at}
use Rattle.tm_items.specs.Placings.{Placed, Items, IsChild, Walks, ReadsAs}
use Rattle.tm_items.specs.Rules.{IsSound, is_folder_placed}
use Rattle.tm_items.specs.Changes.{with_item}
use Rattle.tm_items.proofs.Walking.{walks_on}

-- down from a, and to n nowhere
abbrev pub Avoids : Items → ℕ → ℕ → Names → ℕ → Type 0
Avoids items n a [] m = a ≡ m
Avoids items n a (name ∷ rest) m = (k : ℕ) × IsChild items a name k × ((k == n) ≡ false) × Avoids items n k rest m

pub avoids_walks : (items : Items) (n a m : ℕ) (p : Names) → Avoids items n a p m → Walks items a p m
avoids_walks items n a m [] w = w
avoids_walks items n a m (name ∷ p) w = (w.0, w.1, avoids_walks items n w.0 m p w.3)

pub end_avoids : (items : Items) (n a m : ℕ) (p : Names) → (a == n) ≡ false → Avoids items n a p m → (m == n) ≡ false
end_avoids items n a m [] out w = subst (λ (x : ℕ). (x == n) ≡ false) w out
end_avoids items n a m (name ∷ p) out w = end_avoids items n w.0 m p w.2 w.3

-- down to n, and from there to n no more
pub record Passes (items : Items) (n a : ℕ) (p : Names) (m : ℕ) : Type 0 where
  pub front : Names
  pub back : Names
  pub parts : p ≡ front ++ back
  pub to : Walks items a front n
  pub on : Avoids items n n back m

pub number_is : (k n : ℕ) → (k == n) ≡ true → k ≡ n
number_is k n h = grind (arith, nat_tests)

pub itself : (n : ℕ) → (n == n) ≡ true
itself n = grind (arith, nat_tests)

pub last_passage : (items : Items) (n a m : ℕ) (p : Names) → Walks items a p m → Avoids items n a p m ⊎ Passes items n a p m
last_passage items n a m [] w = inl w
last_passage items n a m (name ∷ p) w =
    elim (last_passage items n w.0 m p w.2) [
      | inl avoids ↦ elim (w.0 == n) as (λ b. (w.0 == n) ≡ b → Avoids items n a (name ∷ p) m ⊎ Passes items n a (name ∷ p) m) [
        | true ↦ λ here. inr (record {
          front = name ∷ [];
          back = p;
          parts = refl;
          to = (w.0, w.1, number_is w.0 n here);
          on = subst (λ (x : ℕ). Avoids items n x p m) (number_is w.0 n here) avoids;
        })
        | false ↦ λ past. inl (w.0, w.1, past, avoids)
      ] refl
      | inr r ↦ inr (record { front = name ∷ r.front; back = r.back; parts = ap (λ (q : Names). name ∷ q) r.parts; to = (w.0, w.1, r.to); on = r.on })
    ]

-- the two parts of such a walk
pub avoids_parts : (items : Items) (n a m : ℕ) (p q : Names) → Avoids items n a (p ++ q) m → (k : ℕ) × Avoids items n a p k × Avoids items n k q m
avoids_parts items n a m [] q w = (a, refl, w)
avoids_parts items n a m (name ∷ p) q w = let r = avoids_parts items n w.0 m p q w.3 in (r.0, (w.0, w.1, w.2, r.1), r.2)

-- ---- records that differ at n alone

pub record DifferAt (n : ℕ) (items new : Items) : Type 0 where
  pub same : (m : ℕ) → (m == n) ≡ false → new m ≡ items m

pub back_at : (n : ℕ) (items new : Items) → DifferAt n items new → DifferAt n new items
back_at n items new d = record { same = λ m off. sym (d.same m off) }

pub avoids_alike : (n : ℕ) (items new : Items) → DifferAt n items new → (a m : ℕ) (p : Names) → Avoids items n a p m → Avoids new n a p m
avoids_alike n items new d a m [] w = w
avoids_alike n items new d a m (name ∷ p) w =
    (w.0, record { placed = w.1.placed; is = d.same w.0 w.2 ∙ w.1.is; parent = w.1.parent; name = w.1.name; not_root = w.1.not_root }, w.2, avoids_alike n items new d w.0 m p w.3)

pub with_at : (items : Items) (n : ℕ) (x : Placed) → with_item items n x n ≡ Some x
with_at items n x = rw (itself n) refl

pub with_differs : (items : Items) (n : ℕ) (x : Placed) → DifferAt n items (with_item items n x)
with_differs items n x = record { same = λ m off. rw off refl }

clash_none : {x : Placed} {b : Bool} → None ≡ Some x → b ≡ false
clash_none h = cc

pub not_free : (items : Items) (n k : ℕ) (x : Placed) → items n ≡ None → items k ≡ Some x → (k == n) ≡ false
not_free items n k x free is =
    elim (k == n) as (λ b. (k == n) ≡ b → b ≡ false) [
      | true ↦ λ e. clash_none (sym free ∙ ap items (sym (number_is k n e)) ∙ is)
      | false ↦ λ e. refl
    ] refl

-- where no placed is n, walks avoid it
pub free_avoids : (items : Items) (n : ℕ) → items n ≡ None → (a m : ℕ) (p : Names) → Walks items a p m → Avoids items n a p m
free_avoids items n free a m [] w = w
free_avoids items n free a m (name ∷ p) w = (w.0, w.1, not_free items n w.0 w.1.placed free w.1.is, free_avoids items n free w.0 m p w.2)

-- a child's folder is one
pub folder_above : (items : Items) → IsSound items → (a k : ℕ) (name : List ℕ) → IsChild items a name k → is_folder_placed (items a) ≡ true
folder_above items sound a k name c = subst (λ (x : ℕ). is_folder_placed (items x) ≡ true) c.parent ((sound k).placed c.placed c.is c.not_root).in_folder

-- where nothing stands at a place of the tree, no number has it
pub no_child : (items : Items) (t : Tree) → ReadsAs items t → (k m : ℕ) (q : Names) (name : List ℕ) → Walks items 1 q k → item_at t (q ++ name ∷ []) ≡ None → IsChild items k name m → ⊥
no_child items t reads k m q name w none c =
    clash (sym none ∙ reads.there (q ++ name ∷ []) c.placed.item (record { number = m; walks = walks_on items 1 k m q (name ∷ []) w (m, c, refl); placed = c.placed; is = c.is; item = refl }))
  where
    clash : {e : Item} → None ≡ Some e → ⊥
    clash h = cc
