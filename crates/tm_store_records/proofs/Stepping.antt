-- Steps from paths, and the numbers of paths.
use Rattle.std.proofs.Common.{zero, suc, ◌≡◌, ◌⊎◌, inl, inr, ⊎_elim, ℕ, ◌+◌, Bool, true, false, cond, Option, Some, None, List, [], ◌∷◌, ◌++◌, length, slice_get, refl, sym, ap, ◌∙◌, arith, subst, length-append}
use Rattle.std.specs.declared.cmp.Ordering.{Ordering}
use Rattle.std.specs.declared.cmp.Ordering.TheVariants.{Less, Equal, Greater}
use Rattle.std.specs.Ordering.{nat_cmp, ordering_then, is_eq}
use Rattle.std.specs.BTreeMap.{is_at}
use Rattle.std.proofs.lemmas.Cmp.{nat_cmp_total, nat_list_cmp_total, tied_itself}
use Rattle.tm_base.specs.Paths.{Names, name_cmp}
use Rattle.tm_graph.proofs.ChildLemmas.{name_is}
use Rattle.tm_store_records.specs.declared.locations.Step.{Step}
use Rattle.tm_store_records.specs.Located.{step_cmp, StepLeads, Extends, AreNumberedPaths}
use Rattle.tm_store_records.proofs.Placed.{equal_is}

pub lead_known : (old new : Step → Option ℕ) (count : ℕ) (s : Step) (id : ℕ) → ((q : Step) → new q ≡ old q) → Some id ≡ old s → StepLeads old new count count s id
lead_known old new count s id same is = record {
  known = λ i e. (let both : Some id ≡ Some i = is ∙ e in let ids : id ≡ i = cc in (ids, refl, same));
  fresh = λ none. absurd (let both : Some id ≡ None = is ∙ none in cc);
}

pub lead_fresh : (old new : Step → Option ℕ) (count : ℕ) (s : Step) → None ≡ old s → ((q : Step) → new q ≡ cond (is_at (step_cmp s) q) (Some count) (old q)) → StepLeads old new count (count + 1) s count
lead_fresh old new count s none put = record {
  known = λ i e. absurd (let both : None ≡ Some i = none ∙ e in cc);
  fresh = λ e. (refl, refl, put);
}

-- ---- equal steps

pub then_equal : (a b : Ordering) → ordering_then a b ≡ Equal → (a ≡ Equal) × (b ≡ Equal)
then_equal Less b e = absurd (cc e)
then_equal Equal b e = (refl, e)
then_equal Greater b e = absurd (cc e)

pub at_equal : (o : Ordering) → is_eq o ≡ true → o ≡ Equal
at_equal Less e = absurd (cc e)
at_equal Equal e = refl
at_equal Greater e = absurd (cc e)

pub step_is : (s q : Step) → is_at (step_cmp s) q ≡ true → s ≡ q
step_is s q e =
    let both = then_equal (nat_cmp s.path q.path) (name_cmp s.name q.name) (at_equal (step_cmp s q) e) in
    let paths = equal_is s.path q.path both.0 in
    let names = name_is s.name q.name both.1 in
    λ i. record { path = paths i; name = names i }

step_same : (s : Step) → is_at (step_cmp s) s ≡ true
step_same s = λ i. is_eq (ordering_then (tied_itself nat_cmp_total s.path i) (tied_itself nat_list_cmp_total s.name i))

-- ---- a list with one more

pub push_front : {X : Type 0} (xs : List X) (x : X) (i : ℕ) (y : X) → slice_get xs i ≡ Some y → slice_get (xs ++ x ∷ []) i ≡ Some y
push_front [] x i y is = absurd (cc is)
push_front (z ∷ zs) x zero y is = is
push_front (z ∷ zs) x (suc i) y is = push_front zs x i y is

pub push_end : {X : Type 0} (xs : List X) (x : X) → slice_get (xs ++ x ∷ []) (length xs) ≡ Some x
push_end [] x = refl
push_end (z ∷ zs) x = push_end zs x

pub push_cases : {X : Type 0} (xs : List X) (x : X) (i : ℕ) (y : X) → slice_get (xs ++ x ∷ []) i ≡ Some y → (slice_get xs i ≡ Some y) ⊎ ((i ≡ length xs) × (x ≡ y))
push_cases [] x zero y is = inr (refl, cc)
push_cases [] x (suc i) y is = absurd (cc is)
push_cases (z ∷ zs) x zero y is = inl is
push_cases (z ∷ zs) x (suc i) y is = ⊎_elim (λ (h : slice_get zs i ≡ Some y). inl h) (λ (h : (i ≡ length zs) × (x ≡ y)). inr (ap suc h.0, h.1)) (push_cases zs x i y is)

pub last_same : {X : Type 0} (p q : List X) (x y : X) → p ++ x ∷ [] ≡ q ++ y ∷ [] → (p ≡ q) × (x ≡ y)
last_same [] [] x y e = (refl, cc)
last_same [] (b ∷ q) x y e = absurd (omega (arith, ap length e, length-append q (y ∷ [])))
last_same (a ∷ p) [] x y e = absurd (omega (arith, ap length e, length-append p (x ∷ [])))
last_same (a ∷ p) (b ∷ q) x y e =
    let heads : a ≡ b = cc in
    let tails : p ++ x ∷ [] ≡ q ++ y ∷ [] = cc in
    let both = last_same p q x y tails in
    (λ i. heads i ∷ both.0 i, both.1)

-- ---- a path more

-- the paths with the one to which a step leads
pub record Longer (paths : List Names) (ids : Step → Option ℕ) (count id : ℕ) (p : Names) : Type 0 where
  pub longer : List Names
  pub numbered : AreNumberedPaths longer ids count
  pub keeps : (i : ℕ) (q : Names) → slice_get paths i ≡ Some q → slice_get longer i ≡ Some q
  pub is : slice_get longer id ≡ Some p

module _ (paths : List Names) (ids new : Step → Option ℕ) (count after : ℕ) (s : Step) (id : ℕ) (p : Names)
    (are : AreNumberedPaths paths ids count) (here : slice_get paths s.path ≡ Some p) (leads : StepLeads ids new count after s id) where
  known_longer : (i : ℕ) → ids s ≡ Some i → Longer paths new after id (p ++ s.name ∷ [])
  known_longer i e =
      let known = leads.known i e in
      let told = are.told s i e in
      let same : new ≡ ids = (λ j q. known.2 q j) in
      let from : told.path ≡ p = (let both : Some told.path ≡ Some p = sym told.from ∙ here in cc) in
      record {
        longer = paths;
        numbered = subst (λ n. AreNumberedPaths paths new n) (sym known.1) (subst (λ (f : Step → Option ℕ). AreNumberedPaths paths f count) (sym same) are);
        keeps = λ k q is. is;
        is = ap (slice_get paths) known.0 ∙ told.to ∙ ap (λ (r : Names). Some (r ++ s.name ∷ [])) from;
      }

  -- the step has led nowhere: the path is a new one
  module _ (none : ids s ≡ None) where
    abbrev longer : List Names
    longer = paths ++ (p ++ s.name ∷ []) ∷ []

    fresh : (id ≡ count) × (after ≡ count + 1) × ((q : Step) → new q ≡ cond (is_at (step_cmp s) q) (Some count) (ids q))
    fresh = leads.fresh none

    not_yet : (i : ℕ) → slice_get paths i ≡ Some (p ++ s.name ∷ []) → ⊥
    not_yet i is = let e : Some i ≡ None = sym (are.known s i (record { path = p; from = here; to = is })) ∙ none in cc

    front : (i : ℕ) (q : Names) → slice_get paths i ≡ Some q → slice_get longer i ≡ Some q
    front i q is = push_front paths (p ++ s.name ∷ []) i q is

    at_count : slice_get longer count ≡ Some (p ++ s.name ∷ [])
    at_count = subst (λ n. slice_get longer n ≡ Some (p ++ s.name ∷ [])) are.size (push_end paths (p ++ s.name ∷ []))

    split : (i : ℕ) (q : Names) → slice_get longer i ≡ Some q → (slice_get paths i ≡ Some q) ⊎ ((i ≡ count) × (p ++ s.name ∷ [] ≡ q))
    split i q is = ⊎_elim
        (λ (h : slice_get paths i ≡ Some q). inl h)
        (λ (h : (i ≡ length paths) × (p ++ s.name ∷ [] ≡ q)). inr (h.0 ∙ are.size, h.1))
        (push_cases paths (p ++ s.name ∷ []) i q is)

    told_next : (q : Step) (j : ℕ) → new q ≡ Some j → Extends longer q j
    told_next q j e = by_test (is_at (step_cmp s) q) refl
      where
        by_test : (b : Bool) → is_at (step_cmp s) q ≡ b → Extends longer q j
        by_test true t =
            let same = step_is s q t in
            let put : Some count ≡ Some j = sym (fresh.2 q ∙ ap (λ b. cond b (Some count) (ids q)) t) ∙ e in
            let number : count ≡ j = cc in
            subst (λ (x : Step). Extends longer x j) same (subst (λ n. Extends longer s n) number (record { path = p; from = front s.path p here; to = at_count }))
        by_test false t =
            let old : ids q ≡ Some j = sym (fresh.2 q ∙ ap (λ b. cond b (Some count) (ids q)) t) ∙ e in
            let told = are.told q j old in
            record { path = told.path; from = front q.path told.path told.from; to = front j (told.path ++ q.name ∷ []) told.to }

    other : (q : Step) (j : ℕ) → ids q ≡ Some j → new q ≡ Some j
    other q j old = by_test (is_at (step_cmp s) q) refl
      where
        by_test : (b : Bool) → is_at (step_cmp s) q ≡ b → new q ≡ Some j
        by_test true t = absurd (let e : None ≡ Some j = sym none ∙ ap ids (step_is s q t) ∙ old in cc)
        by_test false t = fresh.2 q ∙ ap (λ b. cond b (Some count) (ids q)) t ∙ old

    this : (q : Step) (j : ℕ) → s ≡ q → count ≡ j → new q ≡ Some j
    this q j same number = subst (λ (x : Step). new x ≡ Some j) same (fresh.2 s ∙ ap (λ b. cond b (Some count) (ids s)) (step_same s) ∙ ap (λ n. Some n) number)

    known_next : (q : Step) (j : ℕ) → Extends longer q j → new q ≡ Some j
    known_next q j ext = ⊎_elim
        (λ (from : slice_get paths q.path ≡ Some ext.path). ⊎_elim
        (λ (to : slice_get paths j ≡ Some (ext.path ++ q.name ∷ [])). other q j (are.known q j (record { path = ext.path; from = from; to = to })))
        (λ (to : (j ≡ count) × (p ++ s.name ∷ [] ≡ ext.path ++ q.name ∷ [])).
        let both = last_same p ext.path s.name q.name to.1 in
        let places : s.path ≡ q.path = are.distinct s.path q.path p here (from ∙ ap (λ (r : Names). Some r) (sym both.0)) in
        this q j (λ i. record { path = places i; name = both.1 i }) (sym to.0))
        (split j (ext.path ++ q.name ∷ []) ext.to))
        (λ (from : (q.path ≡ count) × (p ++ s.name ∷ [] ≡ ext.path)). ⊎_elim
        (λ (to : slice_get paths j ≡ Some (ext.path ++ q.name ∷ [])).
        let up = are.closed j ext.path q.name to in
        absurd (not_yet up.0 (up.1 ∙ ap (λ (r : Names). Some r) (sym from.1))))
        (λ (to : (j ≡ count) × (p ++ s.name ∷ [] ≡ ext.path ++ q.name ∷ [])).
        let both = last_same p ext.path s.name q.name to.1 in
        absurd (omega (arith, length-append p (s.name ∷ []), ap length (from.1 ∙ sym both.0))))
        (split j (ext.path ++ q.name ∷ []) ext.to))
        (split q.path ext.path ext.from)

    distinct_next : (i j : ℕ) (q : Names) → slice_get longer i ≡ Some q → slice_get longer j ≡ Some q → i ≡ j
    distinct_next i j q a b = ⊎_elim
        (λ (x : slice_get paths i ≡ Some q). ⊎_elim
        (λ (y : slice_get paths j ≡ Some q). are.distinct i j q x y)
        (λ (y : (j ≡ count) × (p ++ s.name ∷ [] ≡ q)). absurd (not_yet i (x ∙ ap (λ (r : Names). Some r) (sym y.1))))
        (split j q b))
        (λ (x : (i ≡ count) × (p ++ s.name ∷ [] ≡ q)). ⊎_elim
        (λ (y : slice_get paths j ≡ Some q). absurd (not_yet j (y ∙ ap (λ (r : Names). Some r) (sym x.1))))
        (λ (y : (j ≡ count) × (p ++ s.name ∷ [] ≡ q)). x.0 ∙ sym y.0)
        (split j q b))
        (split i q a)

    closed_next : (i : ℕ) (q : Names) (name : List ℕ) → slice_get longer i ≡ Some (q ++ name ∷ []) → (k : ℕ) × (slice_get longer k ≡ Some q)
    closed_next i q name is = ⊎_elim
        (λ (x : slice_get paths i ≡ Some (q ++ name ∷ [])). let up = are.closed i q name x in (up.0, front up.0 q up.1))
        (λ (x : (i ≡ count) × (p ++ s.name ∷ [] ≡ q ++ name ∷ [])). (s.path, front s.path q (here ∙ ap (λ (r : Names). Some r) (last_same p q s.name name x.1).0)))
        (split i (q ++ name ∷ []) is)

    fresh_longer : Longer paths new after id (p ++ s.name ∷ [])
    fresh_longer = record {
      longer = longer;
      numbered = record {
        size = length-append paths ((p ++ s.name ∷ []) ∷ []) ∙ ap (λ n. n + 1) are.size ∙ sym fresh.1;
        first = front 0 [] are.first;
        told = told_next;
        known = known_next;
        distinct = distinct_next;
        closed = closed_next;
      };
      keeps = front;
      is = ap (slice_get longer) fresh.0 ∙ at_count;
    }

  pub a_path_more : Longer paths new after id (p ++ s.name ∷ [])
  a_path_more = by_number (ids s) refl
    where
      by_number : (o : Option ℕ) → ids s ≡ o → Longer paths new after id (p ++ s.name ∷ [])
      by_number None e = fresh_longer e
      by_number (Some i) e = known_longer i e
