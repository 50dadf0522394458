-- The first and the last locations of the walk.
use Rattle.std.proofs.Common.{zero, suc, ◌≡◌, inl, inr, ℕ, Bool, true, false, cond, Option, Some, None, List, [], ◌∷◌, ◌++◌, length, slice_get, nat_eq, refl, sym, ap, ◌∙◌, arith, length-append}
use Rattle.std.specs.Ordering.{nat_cmp}
use Rattle.std.specs.Set.{is_member}
use Rattle.std.specs.Map.{keys_of}
use Rattle.std.specs.List.Sorted.{IsStrictlySortedBy}
use Rattle.std.proofs.lemmas.Option.{slice_get_within}
use Rattle.tm_base.specs.Paths.{Names}
use Rattle.tm_graph.specs.Nodes.{Nodes}
use Rattle.tm_store_records.specs.declared.locations.Location.{Location}
use Rattle.tm_store_records.specs.declared.locations.Location.TheVariants.{At, Misplaced}
use Rattle.tm_store_records.specs.declared.locations.Step.{Step}
use Rattle.tm_store_records.specs.Places.{NodeStandsAt}
use Rattle.tm_store_records.specs.Located.{Comes, DoneFrom, AreLocations, AreNumberedPaths, IsAtOne, IsMisplaced}
use Rattle.tm_store_records.proofs.Placed.{place_of}
use Rattle.tm_store_records.proofs.LocationLemmas.{locations_same}
use Rattle.tm_store_records.proofs.ArrivalLemmas.{comes_stands, stands_comes}

no_last : (i : ℕ) (p : Names) (name : List ℕ) → slice_get ([] ∷ []) i ≡ Some (p ++ name ∷ []) → ⊥
no_last zero p name is = (let e : [] ≡ p ++ name ∷ [] = cc in omega (arith, ap length e, length-append p (name ∷ [])))
no_last (suc i) p name is = cc

only_first : (i : ℕ) (p : Names) → slice_get ([] ∷ []) i ≡ Some p → i ≡ 0
only_first zero p is = refl
only_first (suc i) p is = absurd (cc is)

root_paths : (ids : Step → Option ℕ) → ((s : Step) → ids s ≡ None) → AreNumberedPaths ([] ∷ []) ids 1
root_paths ids none = record {
  size = refl;
  first = refl;
  told = λ s id e. absurd (let bad : None ≡ Some id = sym (none s) ∙ e in cc);
  known = λ s id ext. absurd (no_last id ext.path s.name ext.to);
  distinct = λ i j p a b. only_first i p a ∙ sym (only_first j p b);
  closed = λ i p name is. absurd (no_last i p name is);
}

module _ (g : Nodes) (roots : List ℕ) where
  -- nothing is done after the last place
  none_after : (p : Names) (n : ℕ) → Comes g roots (DoneFrom g (length g)) p n → (p ≡ []) × (is_member nat_eq roots n ≡ true)
  none_after p n (inl root) = root
  none_after p n (inr by) = absurd (let low = slice_get_within g by.done.at (by.folder, by.done.row) by.done.is in let from = by.done.from in omega (arith, low, from))

  pub roots_tell : (locations : ℕ → Option Location) (ids : Step → Option ℕ) → ((q : ℕ) → locations q ≡ cond (is_member nat_eq roots q) (Some (At 0 0)) None) → ((s : Step) → ids s ≡ None)
      → AreLocations g roots (Comes g roots (DoneFrom g (length g))) locations ids 1
  roots_tell locations ids are none = record {
    paths = [] ∷ [];
    numbered = root_paths ids none;
    none = λ n e p came.
        let root = none_after p n came in
        let both : Some (At 0 0) ≡ None = sym (are n ∙ ap (λ b. cond b (Some (At 0 0)) None) root.1) ∙ e in cc;
    one = λ n id depth e. by_test n id depth (is_member nat_eq roots n) refl (sym (are n) ∙ e);
    misplaced = λ n e. misplaced_none n (is_member nat_eq roots n) (sym (are n) ∙ e);
  }
    where
      by_test : (n id depth : ℕ) (b : Bool) → is_member nat_eq roots n ≡ b → cond b (Some (At 0 0)) None ≡ Some (At id depth) → IsAtOne g roots (Comes g roots (DoneFrom g (length g))) ([] ∷ []) id depth n
      by_test n id depth true t e =
          let locations : At 0 0 ≡ At id depth = cc in
          let number : 0 ≡ id = cc in
          let long : 0 ≡ depth = cc in
          record { path = []; is = ap (λ k. slice_get ([] ∷ []) k) (sym number); long = long; near = omega (arith, long); came = inl (refl, t); only = λ q came. (none_after q n came).0 }
      by_test n id depth false t e = absurd (cc e)

      misplaced_none : (n : ℕ) (b : Bool) → cond b (Some (At 0 0)) None ≡ Some Misplaced → IsMisplaced g roots n
      misplaced_none n true e = absurd (cc e)
      misplaced_none n false e = absurd (cc e)

  -- at the end all that stands has come
  pub all_tell : (locations : ℕ → Option Location) (ids : Step → Option ℕ) (count : ℕ) → IsStrictlySortedBy nat_cmp (keys_of g) → AreLocations g roots (Comes g roots (DoneFrom g 0)) locations ids count → AreLocations g roots (NodeStandsAt g roots) locations ids count
  all_tell locations ids count sorted = locations_same g roots (Comes g roots (DoneFrom g 0)) (NodeStandsAt g roots) locations ids count
      (comes_stands g roots (DoneFrom g 0))
      (λ p n at. stands_comes g roots (DoneFrom g 0) p n (λ folder row name low e. (let there = place_of g folder row e in record { at = there.0; row = row; from = omega arith; is = there.1 })) at)
