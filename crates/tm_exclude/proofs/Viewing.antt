-- The test is the view's.
use Rattle.std.proofs.Common.{◌≡◌, ℕ, ◌+◌, ◌<◌, Bool, true, false, cond, not, ◌&&◌, ◌||◌, Option, Some, None, List, [], ◌∷◌, length, map, filter, take, get_or, refl, sym, ap, ◌∙◌, arith, if◌then◌else◌}
use Rattle.std.proofs.lemmas.Bool.Decides.{nat_tests}
use Rattle.std.proofs.lemmas.List.{get_or_default}
use Rattle.std.proofs.lemmas.List.Elements.{All-head, All-tail}
use Rattle.std.proofs.lemmas.List.FromFn.{get_or-map-range_with_len}
use Rattle.std.proofs.lemmas.Map.Keys.{IsDistinct-from_sorted}
use Rattle.std.proofs.lemmas.Map.Views.{lookup-from_Contains}
use Rattle.std.specs.BTreeMap.{is_at}
use Rattle.std.specs.Cmp.{eq_by_cmp_equiv}
use Rattle.std.specs.List.{All}
use Rattle.std.specs.Map.{keys_of}
use Rattle.std.specs.Option.{option_map_or}
use Rattle.tm_base.specs.Paths.{Names, path_cmp, is_prefix, is_root}
use Rattle.tm_base.proofs.Facts.{none_some}
use Rattle.tm_tree.specs.declared.item.Item.{Item}
use Rattle.tm_tree.specs.Contents.{is_fixed}
use Rattle.tm_tree.specs.Items.{is_excluded as carries_exclusion}
use Rattle.tm_tree.specs.Trees.{Tree, IsTree, item_at}
use Rattle.tm_tree.specs.Views.{hides, hidden_paths, is_hidden}
use Rattle.tm_tree.proofs.CopyProofs.{at_is}
use Rattle.tm_tree.proofs.Order.{path_total, InOrder}
use Rattle.tm_tree.proofs.TreesKept.{clash, empty_is, nothing_beneath}
use Rattle.tm_tree.proofs.ViewsKept.{item_at-view}
use Rattle.tm_exclude.specs.Exclusions.{ViewIsTested, is_excluded, is_marked, marks}
use Rattle.tm_exclude.proofs.Prefixes.{same_bool, left_true, right_true, first_leads, leads_as_first, passing, passes}

-- each row is what stands at its path
found_rows : (t : Tree) → InOrder t → All (λ row. item_at t row.0 ≡ Some row.1) t
found_rows t h i d below =
    let row : Names × Item = get_or t i d in
    lookup-from_Contains (eq_by_cmp_equiv path_total) row.0 row.1 t (IsDistinct-from_sorted path_cmp (keys_of t) h) (i, below, get_or_default t i row d below)

-- what hides a path
record Hiding (P : Names × Item → Type 0) (fixed : List Names) (q : Names) : Type 0 where
  row : Names × Item
  has : P row
  hides_it : hides fixed row.0 row.1 ≡ true
  over : is_prefix row.0 q ≡ true

hidden_by : (P : Names × Item → Type 0) (fixed : List Names) (t : Tree) (q : Names) → All P t → is_hidden (hidden_paths fixed t) q ≡ true → Hiding P fixed q
hidden_by P fixed [] q each h = absurd (cc h)
hidden_by P fixed (row ∷ t) q each h = by_hides (hides fixed row.0 row.1) refl (hidden_by P fixed t q (All-tail P row t each)) h
  where
    by_over : hides fixed row.0 row.1 ≡ true → (b : Bool) → is_prefix row.0 q ≡ b → (is_hidden (hidden_paths fixed t) q ≡ true → Hiding P fixed q) → (b || is_hidden (hidden_paths fixed t) q) ≡ true → Hiding P fixed q
    by_over hide true on rest h = record { row = row; has = All-head P row t each; hides_it = hide; over = on }
    by_over hide false off rest h = rest h

    by_hides : (b : Bool) → hides fixed row.0 row.1 ≡ b → (is_hidden (hidden_paths fixed t) q ≡ true → Hiding P fixed q)
        → is_hidden (map (λ (r : Names × Item). r.0) (cond b (row ∷ filter (λ r. hides fixed r.0 r.1) t) (filter (λ r. hides fixed r.0 r.1) t))) q ≡ true → Hiding P fixed q
    by_hides true hide rest h = by_over hide (is_prefix row.0 q) refl rest h
    by_hides false shown rest h = rest h

-- an item that hides what is beneath it does
hides_beneath : (fixed : List Names) (t : Tree) (q p : Names) (e : Item) → is_prefix q p ≡ true → item_at t q ≡ Some e → hides fixed q e ≡ true → is_hidden (hidden_paths fixed t) p ≡ true
hides_beneath fixed [] q p e under is hide = absurd (cc is)
hides_beneath fixed (row ∷ t) q p e under is hide = by_at (is_at (path_cmp q) row.0) refl is (λ later. hides_beneath fixed t q p e under later hide)
  where
    later : is_hidden (hidden_paths fixed t) p ≡ true → is_hidden (hidden_paths fixed (row ∷ t)) p ≡ true
    later h = elim (hides fixed row.0 row.1) as (λ b. is_hidden (map (λ (r : Names × Item). r.0) (cond b (row ∷ filter (λ r. hides fixed r.0 r.1) t) (filter (λ r. hides fixed r.0 r.1) t))) p ≡ true) [
      | true ↦ right_true (is_prefix row.0 p) _ h
      | false ↦ h
    ]

    here : q ≡ row.0 → row.1 ≡ e → is_hidden (hidden_paths fixed (row ∷ t)) p ≡ true
    here path item =
        let hide_row : hides fixed row.0 row.1 ≡ true = (λ j. hides fixed (sym path j) (item j)) ∙ hide in
        let on : is_prefix row.0 p ≡ true = ap (λ (x : Names). is_prefix x p) (sym path) ∙ under in
        ap (λ b. is_hidden (map (λ (r : Names × Item). r.0) (cond b (row ∷ filter (λ r. hides fixed r.0 r.1) t) (filter (λ r. hides fixed r.0 r.1) t))) p) hide_row
        ∙ ap (λ b. b || is_hidden (hidden_paths fixed t) p) on

    by_at : (b : Bool) → is_at (path_cmp q) row.0 ≡ b → cond b (Some row.1) (item_at t q) ≡ Some e → (item_at t q ≡ Some e → is_hidden (hidden_paths fixed t) p ≡ true) → is_hidden (hidden_paths fixed (row ∷ t)) p ≡ true
    by_at true at is rest = let item : row.1 ≡ e = cc is in here ((at_is q row.0).0 at) item
    by_at false off is rest = later (rest is)

-- ---- one path

-- excluded at a prefix
abbrev excluded_at : List Names → Tree → Names → Bool
excluded_at fixed t q = is_fixed fixed q || is_marked t q

module _ (fixed : List Names) (t : Tree) (p : Names) where
  abbrev test : ℕ → Bool
  test n = is_fixed fixed (take n p) || get_or (marks t p) n false

  mark_is : (n : ℕ) → n < length p + 1 → get_or (marks t p) n false ≡ is_marked t (take n p)
  mark_is n few = get_or-map-range_with_len (λ m. is_marked t (take m p)) 0 (length p + 1) n n false few (omega arith)

  tests_as : (n : ℕ) → n < length p + 1 → test n ≡ excluded_at fixed t (take n p)
  tests_as n few = ap (λ (b : Bool). is_fixed fixed (take n p) || b) (mark_is n few)

  -- an item of the tree that hides is excluded
  hides_excluded : (q : Names) (e : Item) → item_at t q ≡ Some e → hides fixed q e ≡ true → excluded_at fixed t q ≡ true
  hides_excluded q e is hide =
      rw is (turned (carries_exclusion e) (is_fixed fixed q) (second (not (is_root q)) _ hide))
    where
      second : (a b : Bool) → (a && b) ≡ true → b ≡ true
      second true b h = h
      second false b h = absurd (cc h)

      turned : (a b : Bool) → (a || b) ≡ true → (b || a) ≡ true
      turned true b h = right_true b true refl
      turned false b h = left_true b false h

  hidden_tested : IsTree t → is_hidden (hidden_paths fixed t) p ≡ true → is_excluded fixed (marks t p) p ≡ true
  hidden_tested tree h =
      let by = hidden_by (λ row. item_at t row.0 ≡ Some row.1) fixed t p (found_rows t tree.in_order) h in
      let first = leads_as_first by.row.0 p by.over in
      let few : length by.row.0 < length p + 1 = omega (arith, first.0) in
      passes test p (length by.row.0) few (tests_as (length by.row.0) few ∙ ap (excluded_at fixed t) first.1 ∙ hides_excluded by.row.0 by.row.1 by.has by.hides_it)

  -- a prefix that is excluded hides, where an item stands beneath it
  tested_hides : IsTree t → excluded_at fixed t [] ≡ false → (e : Item) → item_at t p ≡ Some e → (q : Names) → is_prefix q p ≡ true → excluded_at fixed t q ≡ true → is_hidden (hidden_paths fixed t) p ≡ true
  tested_hides tree root e is q under out = by_item (item_at t q) refl
    where
      not_root : is_root q ≡ false
      not_root = elim (is_root q) as (λ b. is_root q ≡ b → b ≡ false) [
        | true ↦ λ at. absurd (clash (sym root ∙ ap (excluded_at fixed t) (sym (root_is q at)) ∙ out))
        | false ↦ λ _. refl
      ] refl
        where
          root_is : (x : Names) → is_root x ≡ true → x ≡ []
          root_is x h = empty_is x (grind (arith, nat_tests))

      turned : (a b : Bool) → (b || a) ≡ true → (a || b) ≡ true
      turned true b h = refl
      turned false true h = refl
      turned false false h = h

      by_item : (o : Option Item) → item_at t q ≡ o → is_hidden (hidden_paths fixed t) p ≡ true
      by_item None none = none_some (sym (nothing_beneath t q p tree none under) ∙ is)
      by_item (Some d) there =
          let carries : (carries_exclusion d || is_fixed fixed q) ≡ true =
          turned (carries_exclusion d) (is_fixed fixed q) (ap (λ (o : Option Item). is_fixed fixed q || option_map_or carries_exclusion o false) (sym there) ∙ out) in
          hides_beneath fixed t q p d under there (ap (λ (b : Bool). not b && (carries_exclusion d || is_fixed fixed q)) not_root ∙ carries)

  tested_hidden : IsTree t → excluded_at fixed t [] ≡ false → (e : Item) → item_at t p ≡ Some e → is_excluded fixed (marks t p) p ≡ true → is_hidden (hidden_paths fixed t) p ≡ true
  tested_hidden tree root e is h =
      let at = passing test p h in
      tested_hides tree root e is (take at.count p) (first_leads at.count p) (sym (tests_as at.count at.few) ∙ at.passes)

both_false : (a b : Bool) → a ≡ false → b ≡ false → (a || b) ≡ false
both_false a b h g = rw (h, g) refl

pub view_is_tested : ViewIsTested
view_is_tested fixed t p tree root_fixed root_marked = item_at-view fixed t p ∙ by_item (item_at t p) refl
  where
    turned : (b c : Bool) (o : Option Item) → b ≡ c → cond (not b) o None ≡ (if c then None else o)
    turned true c o h = rw (sym h) refl
    turned false c o h = rw (sym h) refl

    nothing : (b c : Bool) → ◌≡◌ {A = Option Item} (cond (not b) None None) (if c then None else None)
    nothing true true = refl
    nothing true false = refl
    nothing false true = refl
    nothing false false = refl

    by_item : (o : Option Item) → item_at t p ≡ o → cond (not (is_hidden (hidden_paths fixed t) p)) (item_at t p) None ≡ (if is_excluded fixed (marks t p) p then None else item_at t p)
    by_item None none = rw none (nothing (is_hidden (hidden_paths fixed t) p) (is_excluded fixed (marks t p) p))
    by_item (Some e) is =
        turned (is_hidden (hidden_paths fixed t) p) (is_excluded fixed (marks t p) p) (item_at t p)
        (same_bool _ _ (hidden_tested fixed t p tree) (tested_hidden fixed t p tree (both_false (is_fixed fixed []) (is_marked t []) root_fixed root_marked) e is))
