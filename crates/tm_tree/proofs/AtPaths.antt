-- What stands at a path after each change, and that the rows in order are told by that.
use Rattle.std.proofs.Common.{◌≡◌, Bool, true, false, cond, [], ◌∷◌, refl, sym, ap, ◌∙◌, T, ◌&&◌, Some}
use Rattle.std.specs.declared.cmp.Ordering.TheVariants.{Less, Equal, Greater}
use Rattle.std.specs.Ordering.{match_ordering, ordering_reverse}
use Rattle.std.specs.FinMap.{IsAntisymmetric, nat_cmp-IsAntisymmetric, slice_cmp-IsAntisymmetric}
use Rattle.std.specs.FinMap.Entries.{by_order, find, find-put, same_entries, is_sorted}
use Rattle.std.specs.FinMap.Entries as sorted
use Rattle.std.specs.BTreeMap.{is_at}
use Rattle.tm_tree.specs.declared.item.Item.{Item}
use Rattle.tm_base.specs.Paths.{Names, path_cmp}
use Rattle.tm_tree.specs.Trees.{Tree, put, put_all, item_at}
use Rattle.std.specs.List.Sorted.{IsStrictlySortedBy}
use Rattle.tm_tree.proofs.Order.{path_total, InOrder, AllPaths}

pub path_exact : IsAntisymmetric path_cmp
path_exact = slice_cmp-IsAntisymmetric (slice_cmp-IsAntisymmetric nat_cmp-IsAntisymmetric)

-- a tree is read as a finite map is
find_is : (t : Tree) (q : Names) → find path_cmp q t ≡ item_at t q
find_is [] q = refl
find_is (row ∷ t) q = ap (cond (is_at (path_cmp q) row.0) (Some row.1)) (find_is t q)

put_is : (t : Tree) (p : Names) (e : Item) → sorted.put path_cmp p e t ≡ put t p e
put_is [] p e = refl
put_is (row ∷ t) p e =
    elim (path_cmp p row.0) as (λ r. by_order r ((p, e) ∷ row ∷ t) ((row.0, e) ∷ t) (row ∷ sorted.put path_cmp p e t) ≡ match_ordering r ((p, e) ∷ row ∷ t) ((row.0, e) ∷ t) (row ∷ put t p e)) [
      | Less ↦ refl
      | Equal ↦ refl
      | Greater ↦ ap (λ (u : Tree). row ∷ u) (put_is t p e)
    ]

pub item_at-put : (t : Tree) (p : Names) (e : Item) (q : Names) → item_at (put t p e) q ≡ cond (is_at (path_cmp q) p) (Some e) (item_at t q)
item_at-put t p e q =
    sym (find_is (put t p e) q) ∙ ap (find path_cmp q) (sym (put_is t p e)) ∙ find-put path_cmp path_total q p e t ∙ ap (cond (is_at (path_cmp q) p) (Some e)) (find_is t q)

-- ---- rows in order are told by what stands at each path

both_hold : (a b : Bool) → T a → T b → T (a && b)
both_hold true b p q = q
both_hold false b p q = absurd p

below_is : (p : Names) (t : Tree) → AllPaths (λ q. path_cmp p q ≡ Less) t → T (sorted.below_all path_cmp p t)
below_is p [] h = tt
below_is p (row ∷ t) h = rw h.0 (below_is p t h.1)

sorted_is : (t : Tree) → InOrder t → T (is_sorted path_cmp t)
unfolding IsStrictlySortedBy
sorted_is [] h = tt
sorted_is (row ∷ t) h = both_hold _ _ (below_is row.0 t h.0) (sorted_is t h.1)

pub trees_equal : (t u : Tree) → InOrder t → InOrder u → ((p : Names) → item_at t p ≡ item_at u p) → t ≡ u
trees_equal t u h g is = same_entries path_cmp path_total path_exact t u (sorted_is t h) (sorted_is u g) (λ p. find_is t p ∙ is p ∙ sym (find_is u p))

-- ---- order is kept

below_put : (p q : Names) (e : Item) (t : Tree) → path_cmp p q ≡ Less → AllPaths (λ r. path_cmp p r ≡ Less) t → AllPaths (λ r. path_cmp p r ≡ Less) (put t q e)
below_put p q e [] l h = (l, tt)
below_put p q e (row ∷ t) l h =
    elim (path_cmp q row.0) as (λ r. AllPaths (λ r. path_cmp p r ≡ Less) (match_ordering r ((q, e) ∷ row ∷ t) ((row.0, e) ∷ t) (row ∷ put t q e))) [
      | Less ↦ (l, h)
      | Equal ↦ (h.0, h.1)
      | Greater ↦ (h.0, below_put p q e t l h.1)
    ]

above_all : (p q : Names) (t : Tree) → path_cmp p q ≡ Less → AllPaths (λ r. path_cmp q r ≡ Less) t → AllPaths (λ r. path_cmp p r ≡ Less) t
above_all p q [] l h = tt
above_all p q (row ∷ t) l h = (path_total.trans p q row.0 l h.0, above_all p q t l h.1)

pub in_order_put : (t : Tree) (p : Names) (e : Item) → InOrder t → InOrder (put t p e)
unfolding IsStrictlySortedBy
in_order_put [] p e h = (tt, tt)
in_order_put (row ∷ t) p e h =
    elim (path_cmp p row.0) as (λ r. path_cmp p row.0 ≡ r → InOrder (match_ordering r ((p, e) ∷ row ∷ t) ((row.0, e) ∷ t) (row ∷ put t p e))) [
      | Less ↦ λ is. ((is, above_all p row.0 t is h.0), h)
      | Equal ↦ λ is. h
      | Greater ↦ λ is. (below_put row.0 p e t (path_total.antisymm row.0 p ∙ ap ordering_reverse is) h.0, in_order_put t p e h.1)
    ] refl

pub in_order_put_all : (t rows : Tree) → InOrder t → InOrder (put_all t rows)
in_order_put_all t [] h = h
in_order_put_all t (row ∷ rows) h = in_order_put_all (put t row.0 row.1) rows (in_order_put t row.0 row.1 h)
