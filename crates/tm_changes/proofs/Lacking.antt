-- When a removal is refused.
use Rattle.std.proofs.Common.{◌≡◌, ◌⊎◌, inl, inr, ℕ, ◌+◌, ◌^◌, ◌<◌, ◌≤◌, Bool, true, false, cond, not, nat_lt, [], ◌∷◌, ◌++◌, refl, sym, ap, ◌∙◌, Option, Some, None, Ok, Err, arith}
use Rattle.std.specs.Prelude.{Result}
use Rattle.std.proofs.lemmas.Bool.Decides.{nat_tests}
use Rattle.tm_base.specs.Paths.{Names}
use Rattle.tm_base.specs.declared.refused.Refused.{Refused}
use Rattle.tm_base.specs.declared.refused.Refused.TheVariants.{NotFound, NotFolder, IsFolder, NotEmpty, RootItem, NoMoment, IdsSpent}
use Rattle.tm_tree.specs.declared.item.Item.{Item}
use Rattle.tm_tree.specs.declared.item.Item.TheVariants as item
use Rattle.tm_tree.specs.declared.walk.Way.{Way}
use Rattle.tm_tree.specs.Items.{is_folder}
use Rattle.tm_tree.specs.Trees.{Tree, item_at}
use Rattle.tm_tree.specs.Walks.{walk, walk_from, found, through, way_of, way_to, is_nowhere, is_blocked, is_at_folder}
use Rattle.tm_tree.specs.Contents.{Contents}
use Rattle.tm_tree.specs.Changes.{ids_spent}
use Rattle.tm_tree.specs.Refusing.{Tests, first_refused, needs_moment}

-- ---- why a walk stops

pub stops : (t : Tree) (done rest : Names) (why : Refused) → walk_from t done rest ≡ Err why → (why ≡ NotFound) ⊎ (why ≡ NotFolder)
stops t done [] why h = on_item (item_at t done) h
  where
    on_item : (o : Option Item) → found o ≡ Err why → (why ≡ NotFound) ⊎ (why ≡ NotFolder)
    on_item None h = inl (let e : why ≡ NotFound = cc in e)
    on_item (Some e) h = cc
stops t done (n ∷ rest) why h = on_item (stops t (done ++ n ∷ []) rest why) (item_at t done) h
  where
    on_kind : (walk_from t (done ++ n ∷ []) rest ≡ Err why → (why ≡ NotFound) ⊎ (why ≡ NotFolder)) → (b : Bool) → cond b (walk_from t (done ++ n ∷ []) rest) (Err NotFolder) ≡ Err why → (why ≡ NotFound) ⊎ (why ≡ NotFolder)
    on_kind past true h = past h
    on_kind past false h = inr (let e : why ≡ NotFolder = cc in e)

    on_item : (walk_from t (done ++ n ∷ []) rest ≡ Err why → (why ≡ NotFound) ⊎ (why ≡ NotFolder)) → (o : Option Item) → through o (walk_from t (done ++ n ∷ []) rest) ≡ Err why → (why ≡ NotFound) ⊎ (why ≡ NotFolder)
    on_item past None h = inl (let e : why ≡ NotFound = cc in e)
    on_item past (Some e) h = on_kind past (is_folder e) h

-- ---- the moment and the numbers, which are the last tests

pub no_moment : (ids : Tests) (moment : Option ℕ) → moment ≡ None → first_refused (needs_moment moment ++ ids) ≡ Some NoMoment
no_moment ids moment is = ap (λ (o : Option ℕ). first_refused (needs_moment o ++ ids)) is

pub spent : (v : Contents) (count : ℕ) (moment : Option ℕ) (x : ℕ) → moment ≡ Some x → 2 ^ 62 < v.next + count → first_refused (needs_moment moment ++ ids_spent v count) ≡ Some IdsSpent
spent v count moment x is lt =
    ap (λ (o : Option ℕ). first_refused (needs_moment o ++ ids_spent v count)) is ∙ ap (λ b. cond b (Some IdsSpent) None) (is_less (2 ^ 62) (v.next + count) lt)
  where
    is_less : (a b : ℕ) → a < b → nat_lt a b ≡ true
    is_less a b lt = grind (arith, nat_tests)

pub drawn : (v : Contents) (count : ℕ) (moment : Option ℕ) (x : ℕ) → moment ≡ Some x → v.next + count ≤ 2 ^ 62 → first_refused (needs_moment moment ++ ids_spent v count) ≡ None
drawn v count moment x is le =
    ap (λ (o : Option ℕ). first_refused (needs_moment o ++ ids_spent v count)) is ∙ ap (λ b. cond b (Some IdsSpent) None) (not_less (2 ^ 62) (v.next + count) le)
  where
    not_less : (a b : ℕ) → b ≤ a → nat_lt a b ≡ false
    not_less a b le = grind (arith, nat_tests)

-- ---- a file or link

abbrev rm_list : Way → Tests → Tests
rm_list there rest = (is_nowhere there, NotFound) ∷ (is_blocked there, NotFolder) ∷ (is_at_folder there, IsFolder) ∷ rest

pub rm_stops : (t : Tree) (p : Names) (rest : Tests) (why : Refused) → walk t p ≡ Err why → first_refused (rm_list (way_of (walk t p)) rest) ≡ Some why
rm_stops t p rest why is = elim (stops t [] p why is) [
  | inl one ↦ ap (λ (r : Result Item Refused). first_refused (rm_list (way_of r) rest)) (is ∙ ap (λ (w : Refused). Err w) one) ∙ ap Some (sym one)
  | inr two ↦ ap (λ (r : Result Item Refused). first_refused (rm_list (way_of r) rest)) (is ∙ ap (λ (w : Refused). Err w) two) ∙ ap Some (sym two)
]

pub rm_folder : (t : Tree) (p : Names) (rest : Tests) (e : Item) → walk t p ≡ Ok e → is_folder e ≡ true → first_refused (rm_list (way_of (walk t p)) rest) ≡ Some IsFolder
rm_folder t p rest e is folder = ap (λ (r : Result Item Refused). first_refused (rm_list (way_of r) rest)) is ∙ by_kind e folder
  where
    by_kind : (e : Item) → is_folder e ≡ true → first_refused (rm_list (way_to e) rest) ≡ Some IsFolder
    by_kind (item.Folder a) h = refl
    by_kind (item.File a s b) h = cc
    by_kind (item.Link a s t) h = cc

pub rm_leaf : (t : Tree) (p : Names) (rest : Tests) (e : Item) → walk t p ≡ Ok e → is_folder e ≡ false → first_refused (rm_list (way_of (walk t p)) rest) ≡ first_refused rest
rm_leaf t p rest e is leaf = ap (λ (r : Result Item Refused). first_refused (rm_list (way_of r) rest)) is ∙ by_kind e leaf
  where
    by_kind : (e : Item) → is_folder e ≡ false → first_refused (rm_list (way_to e) rest) ≡ first_refused rest
    by_kind (item.Folder a) h = cc
    by_kind (item.File a s b) h = refl
    by_kind (item.Link a s t) h = refl

-- ---- a folder

abbrev rmdir_list : Way → Bool → Bool → Tests → Tests
rmdir_list there full root rest = (is_nowhere there, NotFound) ∷ (not (is_at_folder there), NotFolder) ∷ (full, NotEmpty) ∷ (root, RootItem) ∷ rest

pub rmdir_stops : (t : Tree) (p : Names) (full root : Bool) (rest : Tests) (why : Refused) → walk t p ≡ Err why → first_refused (rmdir_list (way_of (walk t p)) full root rest) ≡ Some why
rmdir_stops t p full root rest why is = elim (stops t [] p why is) [
  | inl one ↦ ap (λ (r : Result Item Refused). first_refused (rmdir_list (way_of r) full root rest)) (is ∙ ap (λ (w : Refused). Err w) one) ∙ ap Some (sym one)
  | inr two ↦ ap (λ (r : Result Item Refused). first_refused (rmdir_list (way_of r) full root rest)) (is ∙ ap (λ (w : Refused). Err w) two) ∙ ap Some (sym two)
]

pub rmdir_leaf : (t : Tree) (p : Names) (full root : Bool) (rest : Tests) (e : Item) → walk t p ≡ Ok e → is_folder e ≡ false → first_refused (rmdir_list (way_of (walk t p)) full root rest) ≡ Some NotFolder
rmdir_leaf t p full root rest e is leaf = ap (λ (r : Result Item Refused). first_refused (rmdir_list (way_of r) full root rest)) is ∙ by_kind e leaf
  where
    by_kind : (e : Item) → is_folder e ≡ false → first_refused (rmdir_list (way_to e) full root rest) ≡ Some NotFolder
    by_kind (item.Folder a) h = cc
    by_kind (item.File a s b) h = refl
    by_kind (item.Link a s t) h = refl

pub rmdir_folder : (t : Tree) (p : Names) (full root : Bool) (rest : Tests) (e : Item) → walk t p ≡ Ok e → is_folder e ≡ true
    → first_refused (rmdir_list (way_of (walk t p)) full root rest) ≡ first_refused ((full, NotEmpty) ∷ (root, RootItem) ∷ rest)
rmdir_folder t p full root rest e is folder = ap (λ (r : Result Item Refused). first_refused (rmdir_list (way_of r) full root rest)) is ∙ by_kind e folder
  where
    by_kind : (e : Item) → is_folder e ≡ true → first_refused (rmdir_list (way_to e) full root rest) ≡ first_refused ((full, NotEmpty) ∷ (root, RootItem) ∷ rest)
    by_kind (item.Folder a) h = refl
    by_kind (item.File a s b) h = cc
    by_kind (item.Link a s t) h = cc
