-- Changes that keep a tree a tree.
use Rattle.std.proofs.Common.{◌≡◌, ℕ, suc, zero, ◌+◌, ◌-◌, Bool, true, false, cond, [], ◌∷◌, ◌++◌, length, take, drop, refl, sym, ap, ◌∙◌, subst, Option, Some, None, is_some, arith, length-append, length-take, append-nil}
use Rattle.std.proofs.Math.Seq.{take-append-add}
use Rattle.std.proofs.lemmas.Bool.Decides.{nat_tests}
use Rattle.tm_base.proofs.PathLemmas.{prefix_is}
use Rattle.std.specs.BTreeMap.{is_at}
use Rattle.tm_tree.specs.declared.item.Item.{Item}
use Rattle.tm_tree.specs.Items.{is_folder}
use Rattle.tm_base.specs.Paths.{Names, path_cmp, is_prefix, parent_of, is_root}
use Rattle.tm_tree.specs.Trees.{Tree, put, item_at, is_some_folder, folder_at, IsTree}
use Rattle.tm_tree.proofs.AtPaths.{item_at-put, in_order_put}
use Rattle.tm_tree.proofs.CopyProofs.{at_is as at_decides}

pub clash : false ≡ true → ⊥
clash e = cc

stays_folder : (b : Bool) (e : Item) (o : Option Item) → is_folder e ≡ true → is_some_folder o ≡ true → is_some_folder (cond b (Some e) o) ≡ true
stays_folder true e o h g = h
stays_folder false e o h g = g

-- a folder may be put into a folder, whatever stood there
pub put_folder : (t : Tree) (p : Names) (e : Item) → IsTree t → is_folder e ≡ true → folder_at t (parent_of p) ≡ true → IsTree (put t p e)
put_folder t p e h is into = record {
  in_order = in_order_put t p e h.in_order;
  rooted = rw (item_at-put t p e []) (stays_folder _ e _ is h.rooted);
  placed = λ q out there.
      rw (item_at-put t p e (parent_of q))
      (stays_folder _ e _ is
      (elim (is_at (path_cmp q) p) as (λ b. is_at (path_cmp q) p ≡ b → is_some (cond b (Some e) (item_at t q)) ≡ true → folder_at t (parent_of q) ≡ true) [
        | true ↦ λ here _. subst (λ (x : Names). folder_at t (parent_of x) ≡ true) (sym ((at_decides q p).0 here)) into
        | false ↦ λ _ stood. h.placed q out stood
      ] refl (sym (ap is_some (item_at-put t p e q)) ∙ there)));
}

not_folder_there : (t : Tree) (p q : Names) (e : Item) → folder_at t p ≡ false → folder_at t q ≡ true → is_some_folder (cond (is_at (path_cmp q) p) (Some e) (item_at t q)) ≡ true
not_folder_there t p q e leaf is =
    elim (is_at (path_cmp q) p) as (λ b. is_at (path_cmp q) p ≡ b → is_some_folder (cond b (Some e) (item_at t q)) ≡ true) [
      | true ↦ λ here. absurd (clash (sym leaf ∙ subst (λ (x : Names). folder_at t x ≡ true) ((at_decides q p).0 here) is))
      | false ↦ λ _. is
    ] refl

-- anything may be put into a folder where no folder stands
pub put_leaf : (t : Tree) (p : Names) (e : Item) → IsTree t → folder_at t p ≡ false → folder_at t (parent_of p) ≡ true → IsTree (put t p e)
put_leaf t p e h leaf into = record {
  in_order = in_order_put t p e h.in_order;
  rooted = rw (item_at-put t p e []) (not_folder_there t p [] e leaf h.rooted);
  placed = λ q out there.
      rw (item_at-put t p e (parent_of q))
      (not_folder_there t p (parent_of q) e leaf
      (elim (is_at (path_cmp q) p) as (λ b. is_at (path_cmp q) p ≡ b → is_some (cond b (Some e) (item_at t q)) ≡ true → folder_at t (parent_of q) ≡ true) [
        | true ↦ λ here _. subst (λ (x : Names). folder_at t (parent_of x) ≡ true) (sym ((at_decides q p).0 here)) into
        | false ↦ λ _ stood. h.placed q out stood
      ] refl (sym (ap is_some (item_at-put t p e q)) ∙ there)));
}

-- ---- where nothing stands, nothing is beneath

pub none_from : (o : Option Item) → (is_some o ≡ true → ⊥) → o ≡ None
none_from None n = refl
none_from (Some e) n = absurd (n refl)

pub parent_below : (b rest : Names) (n : ℕ) → length rest ≡ suc n → parent_of (b ++ rest) ≡ b ++ parent_of rest
parent_below b rest n h =
    let long : length (b ++ rest) - 1 ≡ length b + (length rest - 1) = omega (arith, length-append b rest) in
    ap (λ (i : ℕ). take i (b ++ rest)) long ∙ take-append-add b rest (length rest - 1)

pub empty_is : (rest : Names) → length rest ≡ 0 → rest ≡ []
empty_is [] h = refl
empty_is (x ∷ rest) h = absurd (omega arith)

nothing_at : (t : Tree) (b : Names) → IsTree t → item_at t b ≡ None → (n : ℕ) (rest : Names) → length rest ≡ n → item_at t (b ++ rest) ≡ None
nothing_at t b h none zero rest l = ap (λ (x : Names). item_at t (b ++ x)) (empty_is rest l) ∙ ap (item_at t) (append-nil b) ∙ none
nothing_at t b h none (suc n) rest l =
    none_from _ (λ stands.
    let long : is_root (b ++ rest) ≡ false = not_root b rest n l in
    let above : item_at t (b ++ parent_of rest) ≡ None = nothing_at t b h none n (parent_of rest) (omega (arith, length-take (length rest - 1) rest)) in
    let folder : folder_at t (b ++ parent_of rest) ≡ true = subst (λ (x : Names). folder_at t x ≡ true) (parent_below b rest n l) (h.placed (b ++ rest) long stands) in
    clash (ap is_some_folder (sym above) ∙ folder))
  where
    not_root : (b rest : Names) (n : ℕ) → length rest ≡ suc n → is_root (b ++ rest) ≡ false
    not_root b rest n l = grind (arith, nat_tests, length-append b rest)

pub nothing_beneath : (t : Tree) (b q : Names) → IsTree t → item_at t b ≡ None → is_prefix b q ≡ true → item_at t q ≡ None
nothing_beneath t b q h none under = ap (item_at t) (prefix_is b q under) ∙ nothing_at t b h none (length (drop (length b) q)) (drop (length b) q) refl
