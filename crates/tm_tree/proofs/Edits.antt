-- What stands where, after an item is changed or removed.
use Rattle.std.proofs.Common.{◌≡◌, Bool, true, false, cond, [], ◌∷◌, refl, sym, ap, ◌∙◌, Option, Some, None, option_map, is_some}
use Rattle.std.proofs.lemmas.Map.{lookup-set_value, lookup-remove_entry, keys-set_value}
use Rattle.std.proofs.lemmas.Map.Keys.{IsDistinct-from_sorted}
use Rattle.std.specs.BTreeMap.{is_at}
use Rattle.std.specs.declared.cmp.Ordering.TheVariants.{Less}
use Rattle.std.specs.Cmp.{eq_by_cmp_equiv}
use Rattle.std.specs.List.Sorted.{IsStrictlySortedBy}
use Rattle.std.specs.Map.{keys_of, remove_entry}
use Rattle.tm_base.specs.Paths.{Names, path_cmp}
use Rattle.tm_tree.specs.declared.item.Item.{Item}
use Rattle.tm_tree.specs.Items.{is_folder}
use Rattle.tm_tree.specs.Trees.{Tree, item_at, without, changed_at, change_at, is_some_folder, folder_at}
use Rattle.tm_tree.proofs.CopyProofs.{at_is}
use Rattle.tm_tree.proofs.Order.{path_total, InOrder, AllPaths}

-- a query that finds x finds what is equal to x
one_path : (p x y : Names) → is_at (path_cmp p) x ≡ true → is_at (path_cmp p) y ≡ is_at (path_cmp x) y
one_path p x y h = ap (λ (q : Names). is_at (path_cmp q) y) ((at_is p x).0 h)

-- ---- an item changed

map_there : (f : Item → Item) (b : Bool) (e : Item) (o : Option Item) → (b ≡ true → o ≡ Some e) → cond b (Some (f e)) o ≡ cond b (option_map f o) o
map_there f true e o h = rw (h refl)
map_there f false e o h = refl

map_none : (f : Item → Item) (b : Bool) (o : Option Item) → (b ≡ true → o ≡ None) → o ≡ cond b (option_map f o) o
map_none f true o h = h refl ∙ ap (option_map f) (sym (h refl))
map_none f false o h = refl

pub item_at-change : (f : Item → Item) (t : Tree) (p q : Names) → item_at (change_at f t p) q ≡ cond (is_at (path_cmp p) q) (option_map f (item_at t q)) (item_at t q)
item_at-change f t p q =
    elim (item_at t p) as (λ o. item_at t p ≡ o → item_at (changed_at f o t p) q ≡ cond (is_at (path_cmp p) q) (option_map f (item_at t q)) (item_at t q)) [
      | None ↦ λ is. map_none f (is_at (path_cmp p) q) (item_at t q) (λ here. ap (item_at t) (sym ((at_is p q).0 here)) ∙ is)
      | Some e ↦ λ is.
          lookup-set_value (eq_by_cmp_equiv path_total) (is_at (path_cmp p)) (one_path p) q (f e) t (ap is_some is)
          ∙ map_there f (is_at (path_cmp p) q) e (item_at t q) (λ here. ap (item_at t) (sym ((at_is p q).0 here)) ∙ is)
    ] refl

pub keys-change : (f : Item → Item) (t : Tree) (p : Names) → keys_of (change_at f t p) ≡ keys_of t
keys-change f t p =
    elim (item_at t p) as (λ o. keys_of (changed_at f o t p) ≡ keys_of t) [ None ↦ refl | Some e ↦ keys-set_value (is_at (path_cmp p)) t (f e) ]

folder_kept : (f : Item → Item) → ((e : Item) → is_folder (f e) ≡ is_folder e) → (b : Bool) (o : Option Item) → is_some_folder (cond b (option_map f o) o) ≡ is_some_folder o
folder_kept f same true None = refl
folder_kept f same true (Some e) = same e
folder_kept f same false o = refl

some_kept : (f : Item → Item) (b : Bool) (o : Option Item) → is_some (cond b (option_map f o) o) ≡ is_some o
some_kept f true None = refl
some_kept f true (Some e) = refl
some_kept f false o = refl

pub folder_at-change : (f : Item → Item) → ((e : Item) → is_folder (f e) ≡ is_folder e) → (t : Tree) (p q : Names) → folder_at (change_at f t p) q ≡ folder_at t q
folder_at-change f same t p q = ap is_some_folder (item_at-change f t p q) ∙ folder_kept f same (is_at (path_cmp p) q) (item_at t q)

pub stands-change : (f : Item → Item) (t : Tree) (p q : Names) → is_some (item_at (change_at f t p) q) ≡ is_some (item_at t q)
stands-change f t p q = ap is_some (item_at-change f t p q) ∙ some_kept f (is_at (path_cmp p) q) (item_at t q)

-- ---- an item removed

pub item_at-without : (t : Tree) (p q : Names) → InOrder t → item_at (without t p) q ≡ cond (is_at (path_cmp p) q) None (item_at t q)
item_at-without t p q h =
    lookup-remove_entry (eq_by_cmp_equiv path_total) (is_at (path_cmp p)) (one_path p) q t (IsDistinct-from_sorted path_cmp (keys_of t) h)

all_without : (P : Names → Type 0) (test : Names → Bool) (t : Tree) → AllPaths P t → AllPaths P (remove_entry test t)
all_without P test [] h = tt
all_without P test (row ∷ t) h =
    elim (test row.0) as (λ b. AllPaths P (cond b t (row ∷ remove_entry test t))) [ true ↦ h.1 | false ↦ (h.0, all_without P test t h.1) ]

pub in_order_without : (t : Tree) (p : Names) → InOrder t → InOrder (without t p)
unfolding IsStrictlySortedBy
in_order_without [] p h = tt
in_order_without (row ∷ t) p h =
    elim (is_at (path_cmp p) row.0) as (λ b. InOrder (cond b t (row ∷ without t p))) [
      | true ↦ h.1
      | false ↦ (all_without (λ q. path_cmp row.0 q ≡ Less) (is_at (path_cmp p)) t h.0, in_order_without t p h.1)
    ]
