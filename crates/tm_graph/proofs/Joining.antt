-- Nodes after all others: where they stand, and how often they name a node.
use Rattle.std.proofs.Common.{zero, suc, ◌≡◌, ℕ, ◌+◌, ◌<◌, ◌≤◌, true, false, cond, Some, None, is_some, List, [], ◌∷◌, ◌++◌, length, take, get_or, refl, ap, arith, subst}
use Rattle.std.specs.declared.cmp.Ordering.TheVariants.{Less}
use Rattle.std.specs.Prelude.{slice_get}
use Rattle.std.specs.Ordering.{nat_cmp}
use Rattle.std.specs.List.{All, AllByRecursion}
use Rattle.std.specs.List.Sorted.{IsStrictlySortedBy}
use Rattle.std.specs.Map.{keys_of, values_of}
use Rattle.std.specs.BTreeMap.{is_at}
use Rattle.std.proofs.lemmas.Bool.Decides.{nat_tests}
use Rattle.std.proofs.lemmas.List.Sums.{sum_by-cons}
use Rattle.tm_tree.specs.declared.node.NodeRow.{NodeRow}
use Rattle.tm_graph.specs.Nodes.{Nodes, node, named, row_names}
use Rattle.tm_graph.specs.Growing.{gain, unlinked}
use Rattle.tm_graph.proofs.Taken.{Sorted, at}

-- ---- keys

pub keys-unlinked : (g new : Nodes) → keys_of (g ++ unlinked new) ≡ keys_of (g ++ new)
keys-unlinked [] [] = refl
keys-unlinked [] (e ∷ new) = ap (λ (ks : List ℕ). e.0 ∷ ks) (keys-unlinked [] new)
keys-unlinked (e ∷ g) new = ap (λ (ks : List ℕ). e.0 ∷ ks) (keys-unlinked g new)

-- numbers that go up one by one from n
abbrev pub AreNumbered : ℕ → Nodes → Type 0
AreNumbered n new = (place : ℕ) (e : ℕ × NodeRow) → slice_get new place ≡ Some e → e.0 ≡ n + place

less : (m n : ℕ) → m < n → nat_cmp m n ≡ Less
less m n h = grind (arith, nat_tests)

pub numbered_rest : (n : ℕ) (e : ℕ × NodeRow) (new : Nodes) → AreNumbered n (e ∷ new) → AreNumbered (n + 1) new
numbered_rest n e new h place f is = omega (arith, h (suc place) f is)

above_all : (m n : ℕ) (new : Nodes) → m < n → AreNumbered n new → AllByRecursion (λ k. nat_cmp m k ≡ Less) (keys_of new)
above_all m n [] l h = tt
above_all m n (e ∷ new) l h = (less m e.0 (omega (arith, h 0 e refl)), above_all m (n + 1) new (omega arith) (numbered_rest n e new h))

sorted_numbered : (n : ℕ) (new : Nodes) → AreNumbered n new → Sorted new
unfolding IsStrictlySortedBy
sorted_numbered n [] h = tt
sorted_numbered n (e ∷ new) h = (above_all e.0 (n + 1) new (omega (arith, h 0 e refl)) (numbered_rest n e new h), sorted_numbered (n + 1) new (numbered_rest n e new h))

all_joined : (P : ℕ → Type 0) (g new : Nodes) → AllByRecursion P (keys_of g) → AllByRecursion P (keys_of new) → AllByRecursion P (keys_of (g ++ new))
all_joined P [] new h i = i
all_joined P (e ∷ g) new h i = (h.0, all_joined P g new h.1 i)

pub sorted_joined : (n : ℕ) (g new : Nodes) → Sorted g → AllByRecursion (λ k. k < n) (keys_of g) → AreNumbered n new → Sorted (g ++ new)
unfolding IsStrictlySortedBy
sorted_joined n [] new s l h = sorted_numbered n new h
sorted_joined n (e ∷ g) new s l h = (all_joined _ g new s.0 (above_all e.0 n new l.0 h), sorted_joined n g new s.1 l.1 h)

-- ---- look-ups

module _ {X : Type 0} where
  pub at_first : (t u : List (ℕ × X)) (q : ℕ) → is_some (at t q) ≡ true → at (t ++ u) q ≡ at t q
  at_first [] u q h = absurd (cc h)
  at_first (e ∷ t) u q h =
      elim (is_at (nat_cmp q) e.0) as (λ b. is_some (cond b (Some e.1) (at t q)) ≡ true → cond b (Some e.1) (at (t ++ u) q) ≡ cond b (Some e.1) (at t q)) [ true ↦ λ h. refl | false ↦ λ h. at_first t u q h ] h

  pub at_rest : (t u : List (ℕ × X)) (q : ℕ) → at t q ≡ None → at (t ++ u) q ≡ at u q
  at_rest [] u q h = refl
  at_rest (e ∷ t) u q h =
      elim (is_at (nat_cmp q) e.0) as (λ b. cond b (Some e.1) (at t q) ≡ None → cond b (Some e.1) (at (t ++ u) q) ≡ at u q) [ true ↦ λ h. cc h | false ↦ λ h. at_rest t u q h ] h

-- a node that stands among numbered ones has a number from n on
pub at_numbered : (n : ℕ) (new : Nodes) (q : ℕ) → AreNumbered n new → is_some (node new q) ≡ true → (n ≤ q) × (q < n + length new)
at_numbered n [] q h t = absurd (cc t)
at_numbered n (e ∷ new) q h t =
    elim (is_at (nat_cmp q) e.0) as (λ b. is_at (nat_cmp q) e.0 ≡ b → is_some (cond b (Some e.1) (node new q)) ≡ true → (n ≤ q) × (q < n + suc (length new))) [
      | true ↦ λ is t. let same : e.0 ≡ q = here e.0 is in let first = h 0 e refl in (omega arith, omega arith)
      | false ↦ λ is t. let rest = at_numbered (n + 1) new q (numbered_rest n e new h) t in (omega (arith, rest.0), omega (arith, rest.1))
    ] refl t
  where
    here : (m : ℕ) → is_at (nat_cmp q) m ≡ true → m ≡ q
    here m is = grind (arith, nat_tests)

-- what holds of each node holds of the one that stands under a number
pub each_at : (P : ℕ × NodeRow → Type 0) (new : Nodes) (q : ℕ) (row : NodeRow) → All P new → node new q ≡ Some row → P (q, row)
each_at P [] q row h e = absurd (cc e)
each_at P (f ∷ new) q row h e =
    elim (is_at (nat_cmp q) f.0) as (λ b. is_at (nat_cmp q) f.0 ≡ b → cond b (Some f.1) (node new q) ≡ Some row → P (q, row)) [
      | true ↦ λ is e. let number : f.0 ≡ q = here f.0 is in let its : f.1 ≡ row = cc in subst (λ m. P (m, row)) number (subst (λ (r : NodeRow). P (f.0, r)) its (h 0 f (omega arith)))
      | false ↦ λ is e. each_at P new q row (λ k d l. h (suc k) d (omega arith)) e
    ] refl e
  where
    here : (m : ℕ) → is_at (nat_cmp q) m ≡ true → m ≡ q
    here m is = grind (arith, nat_tests)

-- ---- how often nodes name one

pub named-joined : (g new : Nodes) (q : ℕ) → named (g ++ new) q ≡ named g q + named new q
named-joined [] new q = omega arith
named-joined (e ∷ g) new q =
    omega (arith, sum_by-cons (row_names q) e.1 (values_of (g ++ new)), sum_by-cons (row_names q) e.1 (values_of g), named-joined g new q)

-- the first nodes and the next one name it no more often than all
pub gain_next : (new : Nodes) (root q i : ℕ) (d : ℕ × NodeRow) → i < length new → gain (take i new) root q + row_names q (get_or new i d).1 ≤ gain new root q
gain_next new root q i d l = let n = named_next new i l in omega (arith, n)
  where
    named_next : (new : Nodes) (i : ℕ) → i < length new → named (take i new) q + row_names q (get_or new i d).1 ≤ named new q
    named_next [] i l = absurd (omega arith)
    named_next (e ∷ new) zero l = omega (arith, sum_by-cons (row_names q) e.1 (values_of new))
    named_next (e ∷ new) (suc i) l =
        omega (arith, sum_by-cons (row_names q) e.1 (values_of new), sum_by-cons (row_names q) e.1 (values_of (take i new)), named_next new i (omega arith))
