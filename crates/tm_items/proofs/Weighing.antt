-- What the items of a tree weigh together is what the numbered items weigh.
use Rattle.std.proofs.Common.{◌≡◌, ℕ, suc, ◌+◌, ◌-◌, ◌==◌, true, false, cond, List, [], ◌∷◌, ◌++◌, length, slice_get, refl, sym, ap, ◌∙◌, subst, Option, Some, None, is_some, arith, length-append, inl, inr}
use Rattle.std.proofs.lemmas.List.Sums.{sum_by-cons}
use Rattle.std.specs.declared.cmp.Ordering.TheVariants.{Less, Equal, Greater}
use Rattle.std.specs.Ordering.{nat_cmp, match_ordering}
use Rattle.std.specs.Cmp.{tied_itself, nat_cmp_total}
use Rattle.std.specs.List.{sum_by}
use Rattle.std.specs.List.Sorted.{IsStrictlySortedBy}
use Rattle.std.specs.Map.{keys_of}
use Rattle.std.specs.BTreeMap.{is_at}
use Rattle.tm_base.proofs.Facts.{true_false}
use Rattle.tm_base.specs.Paths.{Names, path_cmp}
use Rattle.tm_tree.specs.declared.item.Item.{Item}
use Rattle.tm_tree.specs.Trees.{Tree, item_at, put, put_all}
use Rattle.tm_tree.proofs.AtPaths.{item_at-put}
use Rattle.tm_tree.proofs.CopyProofs.{at_is}
use Rattle.tm_items.specs.Placings.{Placed, Items, Walks}
use Rattle.tm_items.specs.Rules.{IsSound}
use Rattle.tm_items.specs.Computed.{Placings, items_of, under, path_to, placed_rows, tree_of, last_name, WeighsAlike, CountsAlike}
use Rattle.tm_items.proofs.Walking.{one_number, one_each, reached}
use Rattle.tm_items.proofs.Reading.{one_tree, tree_reads, Among, above, found_among}
use Rattle.tm_items.proofs.Avoiding.{number_is}

-- ---- rows put where nothing stood

found : {P : Type 0} {e : Item} → Some e ≡ None → P
found h = cc

module _ (f : Names × Item → ℕ) where
  behind : (row new : Names × Item) (t u : Tree) → sum_by f u ≡ f new + sum_by f t → sum_by f (row ∷ u) ≡ f new + sum_by f (row ∷ t)
  behind row new t u more = let left = sum_by-cons f row u in let right = sum_by-cons f row t in omega (arith, more, left, right)

  weigh_put : (t : Tree) (p : Names) (e : Item) → item_at t p ≡ None → sum_by f (put t p e) ≡ f (p, e) + sum_by f t
  weigh_put [] p e none = sum_by-cons f (p, e) []
  weigh_put (row ∷ t) p e none =
      elim (path_cmp p row.0) as (λ r. path_cmp p row.0 ≡ r → sum_by f (match_ordering r ((p, e) ∷ row ∷ t) ((row.0, e) ∷ t) (row ∷ put t p e)) ≡ f (p, e) + sum_by f (row ∷ t)) [
        | Less ↦ λ is. sum_by-cons f (p, e) (row ∷ t)
        | Equal ↦ λ is. found (rw is at none)
        | Greater ↦ λ is. behind row (p, e) t (put t p e) (weigh_put t p e (rw is at none))
      ] refl

-- ---- the items of numbers, put at their paths one after another

module _ (items : Items) (sound : IsSound items) where
  other_path : (n m : ℕ) (x y : Placed) → items n ≡ Some x → items m ≡ Some y → nat_cmp n m ≡ Less → is_at (path_cmp (path_to 64 items m)) (path_to 64 items n) ≡ false
  other_path n m x y is_x is_y low =
      elim (is_at (path_cmp (path_to 64 items m)) (path_to 64 items n)) as (λ b. is_at (path_cmp (path_to 64 items m)) (path_to 64 items n) ≡ b → b ≡ false) [
        | true ↦ λ here.
            let same : path_to 64 items m ≡ path_to 64 items n = (at_is (path_to 64 items m) (path_to 64 items n)).0 here in
            let at_m : Walks items 1 (path_to 64 items n) m = subst (λ (q : Names). Walks items 1 q m) same (reached items sound m y is_y) in
            let one : n ≡ m = one_number items (one_each items sound) 1 n m (path_to 64 items n) (reached items sound n x is_x) at_m in
            not_less (sym (tied_itself nat_cmp_total n) ∙ ap (nat_cmp n) one ∙ low)
        | false ↦ λ _. refl
      ] refl
    where
      not_less : {P : Type 0} → Equal ≡ Less → P
      not_less h = cc

  -- numbers that stand there, at whose paths nothing stands yet
  pub record Free (acc : Tree) (rest : Placings) : Type 0 where
    pub there : (m : ℕ) (y : Placed) → Among rest m y → items m ≡ Some y
    pub none : (m : ℕ) (y : Placed) → Among rest m y → item_at acc (path_to 64 items m) ≡ None

  next : (acc : Tree) (row : ℕ × Placed) (rest : Placings) → IsStrictlySortedBy nat_cmp (keys_of (row ∷ rest)) → Free acc (row ∷ rest) → Free (put acc (path_to 64 items row.0) row.1.item) rest
  unfolding IsStrictlySortedBy
  next acc row rest sorted free = record {
    there = λ m y a. free.there m y (inr a);
    none = λ m y a.
        let low = above (λ k. nat_cmp row.0 k ≡ Less) rest m y sorted.0 a in
        let other = other_path row.0 m row.1 y (free.there row.0 row.1 (inl (refl, refl))) (free.there m y (inr a)) low in
        item_at-put acc (path_to 64 items row.0) row.1.item (path_to 64 items m) ∙ ap (λ b. cond b (Some row.1.item) (item_at acc (path_to 64 items m))) other ∙ free.none m y (inr a);
  }

  weigh_all : (f : Names × Item → ℕ) (acc : Tree) (rest : Placings) → IsStrictlySortedBy nat_cmp (keys_of rest) → Free acc rest → sum_by f (put_all acc (placed_rows items rest)) ≡ sum_by (λ row. f (path_to 64 items row.0, row.1.item)) rest + sum_by f acc
  unfolding IsStrictlySortedBy
  weigh_all f acc [] sorted free = omega arith
  weigh_all f acc (row ∷ rest) sorted free =
      let p = path_to 64 items row.0 in
      let more = weigh_all f (put acc p row.1.item) rest sorted.1 (next acc row rest sorted free) in
      let one = weigh_put f acc p row.1.item (free.none row.0 row.1 (inl (refl, refl))) in
      let right = sum_by-cons (λ (r : ℕ × Placed). f (path_to 64 items r.0, r.1.item)) row rest in
      omega (arith, more, one, right)

-- ---- last names

last_is : (q : Names) (name : List ℕ) → last_name (q ++ name ∷ []) ≡ Some name
last_is [] name = refl
last_is (c ∷ q) name =
    let more : length (c ∷ q ++ name ∷ []) - 1 ≡ suc (length (q ++ name ∷ []) - 1) = omega (arith, length-append q (name ∷ [])) in
    ap (slice_get (c ∷ q ++ name ∷ [])) more ∙ last_is q name

last_under : (q : Names) (o : Option (List ℕ)) → is_some o ≡ true → last_name (under q o) ≡ o
last_under q None h = true_false (sym h)
last_under q (Some name) h = last_is q name

called : (items : Items) → IsSound items → (f n : ℕ) (x : Placed) → items n ≡ Some x → last_name (path_to (suc f) items n) ≡ x.name
unfolding path_to
called items sound f n x is =
    elim (n == 1) as (λ b. (n == 1) ≡ b → last_name (path_to (suc f) items n) ≡ x.name) [
      | true ↦ λ one.
          let root = (sound 1).root refl in
          let same : Some root.placed ≡ Some x = sym root.is ∙ ap items (sym (number_is n 1 one)) ∙ is in
          let placed_same : root.placed ≡ x = cc same in
          rw one (sym root.root.name ∙ ap (λ (u : Placed). u.name) placed_same)
      | false ↦ λ out. rw (out, is) (last_under (path_to f items x.parent) x.name ((sound n).placed x is out).named)
    ] refl

alike : (f g : ℕ × Placed → ℕ) (rest : Placings) → ((m : ℕ) (y : Placed) → Among rest m y → f (m, y) ≡ g (m, y)) → sum_by f rest ≡ sum_by g rest
alike f g [] h = refl
alike f g (row ∷ rest) h =
    let one = h row.0 row.1 (inl (refl, refl)) in
    let more = alike f g rest (λ m y a. h m y (inr a)) in
    sum_by-cons f row rest ∙ omega (arith, one, more) ∙ sym (sum_by-cons g row rest)

-- ---- the sums

weighs_put : (w : Option (List ℕ) → Item → ℕ) (placings : Placings) → IsStrictlySortedBy nat_cmp (keys_of placings) → IsSound (items_of placings)
    → sum_by (λ row. w (last_name row.0) row.1) (tree_of placings) ≡ sum_by (λ row. w row.1.name row.1.item) placings
unfolding tree_of
weighs_put w placings sorted sound =
    let items = items_of placings in
    let there : (m : ℕ) (y : Placed) → Among placings m y → items m ≡ Some y = λ m y a. found_among placings m y sorted a in
    let free : Free items sound [] placings = record { there = there; none = λ m y a. refl } in
    let all = weigh_all items sound (λ row. w (last_name row.0) row.1) [] placings sorted free in
    let names = alike (λ row. w (last_name (path_to 64 items row.0)) row.1.item) (λ row. w row.1.name row.1.item) placings (λ m y a. ap (λ o. w o y.item) (called items sound 63 m y (there m y a))) in
    all ∙ omega (arith, names)

pub weighs_alike : WeighsAlike
weighs_alike w placings t sorted sound reads =
    ap (sum_by (λ (row : Names × Item). w (last_name row.0) row.1)) (one_tree (items_of placings) t (tree_of placings) reads (tree_reads placings sorted sound)) ∙ weighs_put w placings sorted sound

ones : {X : Type 0} (xs : List X) → sum_by (λ x. 1) xs ≡ length xs
ones [] = refl
ones (x ∷ xs) = sum_by-cons (λ x. 1) x xs ∙ omega (arith, ones xs)

pub counts_alike : CountsAlike
counts_alike placings t sorted sound reads = sym (ones t) ∙ weighs_alike (λ name e. 1) placings t sorted sound reads ∙ ones placings
