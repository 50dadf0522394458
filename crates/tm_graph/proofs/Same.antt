-- Nodes in order are told by what each number has.
use Rattle.std.proofs.Common.{◌≡◌, ℕ, Bool, true, false, cond, Some, List, [], ◌∷◌, ◌++◌, map, refl, sym, ap, ◌∙◌, arith, T, ◌&&◌}
use Rattle.std.specs.declared.cmp.Ordering.TheVariants.{Less, Equal, Greater}
use Rattle.std.specs.Ordering.{nat_cmp, match_ordering, ordering_reverse}
use Rattle.std.specs.Cmp.{nat_cmp_total}
use Rattle.std.specs.List.{AllByRecursion}
use Rattle.std.specs.List.Sorted.{IsStrictlySortedBy}
use Rattle.std.specs.Map.{keys_of}
use Rattle.std.specs.BTreeMap.{is_at, insert_entry}
use Rattle.std.specs.Option.{option_map}
use Rattle.std.specs.FinMap.{nat_cmp-IsAntisymmetric}
use Rattle.std.specs.FinMap.Entries.{by_order, find, find-put, same_entries, is_sorted}
use Rattle.std.specs.FinMap.Entries as sorted
use Rattle.std.proofs.lemmas.Bool.Decides.{nat_tests}
use Rattle.tm_graph.proofs.Taken.{Sorted, at}

both_hold : (a b : Bool) → T a → T b → T (a && b)
both_hold true b p q = q
both_hold false b p q = absurd p

module _ {X : Type 0} where
  find_is : (t : List (ℕ × X)) (q : ℕ) → find nat_cmp q t ≡ at t q
  find_is [] q = refl
  find_is (row ∷ t) q = ap (cond (is_at (nat_cmp q) row.0) (Some row.1)) (find_is t q)

  below_is : (p : ℕ) (t : List (ℕ × X)) → AllByRecursion (λ q. nat_cmp p q ≡ Less) (keys_of t) → T (sorted.below_all nat_cmp p t)
  below_is p [] h = tt
  below_is p (row ∷ t) h = rw h.0 (below_is p t h.1)

  sorted_is : (t : List (ℕ × X)) → Sorted t → T (is_sorted nat_cmp t)
  unfolding IsStrictlySortedBy
  sorted_is [] h = tt
  sorted_is (row ∷ t) h = both_hold _ _ (below_is row.0 t h.0) (sorted_is t h.1)

  pub same_nodes : (t u : List (ℕ × X)) → Sorted t → Sorted u → ((q : ℕ) → at t q ≡ at u q) → t ≡ u
  same_nodes t u h g is = same_entries nat_cmp nat_cmp_total nat_cmp-IsAntisymmetric t u (sorted_is t h) (sorted_is u g) (λ q. find_is t q ∙ is q ∙ sym (find_is u q))

-- one more number
module _ {X : Type 0} where
  put_is : (t : List (ℕ × X)) (p : ℕ) (e : X) → sorted.put nat_cmp p e t ≡ insert_entry nat_cmp t p e
  put_is [] p e = refl
  put_is (row ∷ t) p e =
      elim (nat_cmp p row.0) as (λ r. by_order r ((p, e) ∷ row ∷ t) ((row.0, e) ∷ t) (row ∷ sorted.put nat_cmp p e t) ≡ match_ordering r ((p, e) ∷ row ∷ t) ((row.0, e) ∷ t) (row ∷ insert_entry nat_cmp t p e)) [
        | Less ↦ refl
        | Equal ↦ refl
        | Greater ↦ ap (λ (u : List (ℕ × X)). row ∷ u) (put_is t p e)
      ]

  pub at-put : (t : List (ℕ × X)) (p : ℕ) (e : X) (q : ℕ) → at (insert_entry nat_cmp t p e) q ≡ cond (is_at (nat_cmp q) p) (Some e) (at t q)
  at-put t p e q =
      sym (find_is (insert_entry nat_cmp t p e) q) ∙ ap (find nat_cmp q) (sym (put_is t p e)) ∙ find-put nat_cmp nat_cmp_total q p e t ∙ ap (cond (is_at (nat_cmp q) p) (Some e)) (find_is t q)

  below_put : (p q : ℕ) (e : X) (t : List (ℕ × X)) → nat_cmp p q ≡ Less → AllByRecursion (λ r. nat_cmp p r ≡ Less) (keys_of t) → AllByRecursion (λ r. nat_cmp p r ≡ Less) (keys_of (insert_entry nat_cmp t q e))
  below_put p q e [] l h = (l, tt)
  below_put p q e (row ∷ t) l h =
      elim (nat_cmp q row.0) as (λ r. AllByRecursion (λ r. nat_cmp p r ≡ Less) (keys_of (match_ordering r ((q, e) ∷ row ∷ t) ((row.0, e) ∷ t) (row ∷ insert_entry nat_cmp t q e)))) [
        | Less ↦ (l, h)
        | Equal ↦ (h.0, h.1)
        | Greater ↦ (h.0, below_put p q e t l h.1)
      ]

  above_all : (p q : ℕ) (t : List (ℕ × X)) → nat_cmp p q ≡ Less → AllByRecursion (λ r. nat_cmp q r ≡ Less) (keys_of t) → AllByRecursion (λ r. nat_cmp p r ≡ Less) (keys_of t)
  above_all p q [] l h = tt
  above_all p q (row ∷ t) l h = (nat_cmp_total.trans p q row.0 l h.0, above_all p q t l h.1)

  pub sorted_put : (t : List (ℕ × X)) (p : ℕ) (e : X) → Sorted t → Sorted (insert_entry nat_cmp t p e)
  unfolding IsStrictlySortedBy
  sorted_put [] p e h = (tt, tt)
  sorted_put (row ∷ t) p e h =
      elim (nat_cmp p row.0) as (λ r. nat_cmp p row.0 ≡ r → Sorted (match_ordering r ((p, e) ∷ row ∷ t) ((row.0, e) ∷ t) (row ∷ insert_entry nat_cmp t p e))) [
        | Less ↦ λ is. ((is, above_all p row.0 t is h.0), h)
        | Equal ↦ λ is. h
        | Greater ↦ λ is. (below_put row.0 p e t (nat_cmp_total.antisymm row.0 p ∙ ap ordering_reverse is) h.0, sorted_put t p e h.1)
      ] refl

  -- a number above all others goes to the end
  pub put_last : (t : List (ℕ × X)) (row : ℕ × X) (rest : List (ℕ × X)) → Sorted (t ++ row ∷ rest) → insert_entry nat_cmp t row.0 row.1 ≡ t ++ row ∷ []
  unfolding IsStrictlySortedBy
  put_last [] row rest s = refl
  put_last (first ∷ t) row rest s =
      let above : nat_cmp row.0 first.0 ≡ Greater = nat_cmp_total.antisymm row.0 first.0 ∙ ap ordering_reverse (at_end t row rest s.0) in
      rw above (ap (λ (u : List (ℕ × X)). first ∷ u) (put_last t row rest s.1))
    where
      at_end : (t : List (ℕ × X)) (row : ℕ × X) (rest : List (ℕ × X)) → AllByRecursion (λ q. nat_cmp first.0 q ≡ Less) (keys_of (t ++ row ∷ rest)) → nat_cmp first.0 row.0 ≡ Less
      at_end [] row rest h = h.0
      at_end (x ∷ t) row rest h = at_end t row rest h.1

-- rows whose numbers stay
module _ {X Y : Type 0} (h : ℕ → X → Y) where
  abbrev pub mapped : List (ℕ × X) → List (ℕ × Y)
  mapped g = map (λ row. (row.0, h row.0 row.1)) g

  pub keys-mapped : (g : List (ℕ × X)) → keys_of (mapped g) ≡ keys_of g
  keys-mapped [] = refl
  keys-mapped (row ∷ g) = ap (λ (ks : List ℕ). row.0 ∷ ks) (keys-mapped g)

  pub sorted-mapped : (g : List (ℕ × X)) → Sorted g → Sorted (mapped g)
  sorted-mapped g s = rw (keys-mapped g) s

  pub at-mapped : (g : List (ℕ × X)) (q : ℕ) → at (mapped g) q ≡ option_map (h q) (at g q)
  at-mapped [] q = refl
  at-mapped (row ∷ g) q =
      elim (is_at (nat_cmp q) row.0) as (λ b. is_at (nat_cmp q) row.0 ≡ b → cond b (Some (h row.0 row.1)) (at (mapped g) q) ≡ option_map (h q) (cond b (Some row.1) (at g q))) [
        | true ↦ λ e. let same : row.0 ≡ q = here row.0 e in ap (λ n. Some (h n row.1)) same
        | false ↦ λ e. at-mapped g q
      ] refl
    where
      here : (n : ℕ) → is_at (nat_cmp q) n ≡ true → n ≡ q
      here n e = grind (arith, nat_tests)
