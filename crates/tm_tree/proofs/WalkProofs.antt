-- Where walks end, and what stands there.
use Rattle.std.proofs.Common.{◌≡◌, ℕ, suc, zero, ◌-◌, true, false, cond, List, [], ◌∷◌, ◌++◌, length, refl, sym, ap, ◌∙◌, subst, Some, None, Result, Ok, Err, is_some, arith, length-append, length-take, append-nil, append_assoc}
use Rattle.std.proofs.lemmas.Bool.Decides.{nat_tests}
use Rattle.tm_base.specs.Paths.{Names, is_root, parent_of}
use Rattle.tm_base.specs.declared.refused.Refused.{Refused}
use Rattle.tm_base.specs.declared.refused.Refused.TheVariants.{NotFound, NotFolder}
use Rattle.tm_tree.proofs.TreesKept.{clash, none_from, parent_below, empty_is}
use Rattle.tm_tree.specs.declared.item.Item.{Item}
use Rattle.tm_tree.specs.declared.item.Item.TheVariants.{Folder, File, Link}
use Rattle.tm_tree.specs.Items.{is_folder}
use Rattle.tm_tree.specs.Trees.{Tree, item_at, is_some_folder, folder_at, IsTree}
use Rattle.tm_tree.specs.Walks.{through, found, walk_from, walk, way_to, way_of, way, is_at_folder}

-- a walk that comes to an item comes to what stands at its path
walk_ok : (t : Tree) (done rest : Names) (e : Item) → walk_from t done rest ≡ Ok e → item_at t (done ++ rest) ≡ Some e
walk_ok t done [] e h =
    ap (item_at t) (append-nil done)
    ∙ elim (item_at t done) as (λ o. found o ≡ Ok e → o ≡ Some e) [ None ↦ λ g. cc | Some d ↦ λ g. cc ] h
walk_ok t done (n ∷ rest) e h =
    let on : walk_from t (done ++ n ∷ []) rest ≡ Ok e =
    elim (item_at t done) as (λ o. through o (walk_from t (done ++ n ∷ []) rest) ≡ Ok e → walk_from t (done ++ n ∷ []) rest ≡ Ok e) [
      | None ↦ λ g. cc
      | Some d ↦ λ g. elim (is_folder d) as (λ b. cond b (walk_from t (done ++ n ∷ []) rest) (Err NotFolder) ≡ Ok e → walk_from t (done ++ n ∷ []) rest ≡ Ok e) [
        | true ↦ λ k. k
        | false ↦ λ k. cc
      ] g
    ] h in
    ap (item_at t) (sym (append_assoc done (n ∷ []) rest)) ∙ walk_ok t (done ++ n ∷ []) rest e on

no_folder : (why : Refused) → is_at_folder (way_of (Err why)) ≡ false
no_folder NotFound = refl
no_folder _ = refl

-- where a walk ends at a folder, one stands
pub way_folder : (t : Tree) (p : Names) → is_at_folder (way t p) ≡ true → folder_at t p ≡ true
way_folder t p h =
    elim (walk t p) as (λ r. walk t p ≡ r → is_at_folder (way_of r) ≡ true → folder_at t p ≡ true) [
      | Ok e ↦ λ is at. ap is_some_folder (walk_ok t [] p e is) ∙ at_a_folder e at
      | Err why ↦ λ is at. let no = no_folder why in cc
    ] refl h
  where
    at_a_folder : (e : Item) → is_at_folder (way_to e) ≡ true → is_folder e ≡ true
    at_a_folder (Folder a) h = refl
    at_a_folder (File a s b) h = cc
    at_a_folder (Link a s b) h = cc

-- ---- in a tree

not_root : (b rest : Names) (n : ℕ) → length rest ≡ suc n → is_root (b ++ rest) ≡ false
not_root b rest n l = grind (arith, nat_tests, length-append b rest)

parent_short : (rest : Names) (n : ℕ) → length rest ≡ suc n → length (parent_of rest) ≡ n
parent_short rest n l = omega (arith, length-take (length rest - 1) rest)

-- beneath what is no folder nothing stands
nothing_under : (t : Tree) (b : Names) → IsTree t → folder_at t b ≡ false → (n : ℕ) (rest : Names) → length rest ≡ suc n → item_at t (b ++ rest) ≡ None
nothing_under t b h leaf zero rest l =
    none_from _ (λ stands.
    let folder : folder_at t (b ++ parent_of rest) ≡ true =
    subst (λ (x : Names). folder_at t x ≡ true) (parent_below b rest zero l) (h.placed (b ++ rest) (not_root b rest zero l) stands) in
    let there : b ++ parent_of rest ≡ b = ap (λ (x : Names). b ++ x) (empty_is (parent_of rest) (parent_short rest zero l)) ∙ append-nil b in
    clash (sym leaf ∙ ap (folder_at t) (sym there) ∙ folder))
nothing_under t b h leaf (suc n) rest l =
    none_from _ (λ stands.
    let folder : folder_at t (b ++ parent_of rest) ≡ true =
    subst (λ (x : Names). folder_at t x ≡ true) (parent_below b rest (suc n) l) (h.placed (b ++ rest) (not_root b rest (suc n) l) stands) in
    let above : item_at t (b ++ parent_of rest) ≡ None = nothing_under t b h leaf n (parent_of rest) (parent_short rest (suc n) l) in
    clash (ap is_some_folder (sym above) ∙ folder))

folder_above : (t : Tree) (b : Names) (n : List ℕ) (rest : Names) → IsTree t → is_some (item_at t (b ++ n ∷ rest)) ≡ true → folder_at t b ≡ true
folder_above t b n rest h stands =
    elim (folder_at t b) as (λ f. folder_at t b ≡ f → f ≡ true) [
      | true ↦ λ is. refl
      | false ↦ λ leaf. ap is_some (sym (nothing_under t b h leaf (length rest) (n ∷ rest) refl)) ∙ stands
    ] refl

-- the walk down the path of an item comes to it
walk_stands : (t : Tree) → IsTree t → (done rest : Names) (e : Item) → item_at t (done ++ rest) ≡ Some e → walk_from t done rest ≡ Ok e
walk_stands t h done [] e is = ap found (ap (item_at t) (sym (append-nil done)) ∙ is)
walk_stands t h done (n ∷ rest) e is =
    elim (item_at t done) as (λ o. is_some_folder o ≡ true → through o (walk_from t (done ++ n ∷ []) rest) ≡ Ok e) [
      | None ↦ λ f. cc
      | Some d ↦ λ f. rw f (walk_stands t h (done ++ n ∷ []) rest e (ap (item_at t) (append_assoc done (n ∷ []) rest) ∙ is))
    ] (folder_above t done n rest h (ap is_some is))

way_is_folder : (e : Item) → is_at_folder (way_to e) ≡ is_folder e
way_is_folder (Folder a) = refl
way_is_folder (File a s b) = refl
way_is_folder (Link a s b) = refl

-- the walk to a folder ends there
pub folder_way : (t : Tree) (p : Names) → IsTree t → is_at_folder (way t p) ≡ folder_at t p
folder_way t p h =
    elim (item_at t p) as (λ o. item_at t p ≡ o → is_at_folder (way t p) ≡ is_some_folder o) [
      | Some e ↦ λ is. ap (λ (r : Result Item Refused). is_at_folder (way_of r)) (walk_stands t h [] p e is) ∙ way_is_folder e
      | None ↦ λ is. elim (is_at_folder (way t p)) as (λ b. is_at_folder (way t p) ≡ b → b ≡ false) [
        | true ↦ λ at. sym (ap is_some_folder (sym is) ∙ way_folder t p at)
        | false ↦ λ at. refl
      ] refl
    ] refl
