-- The tests of a move: how far what is moved reaches, and which are left.
use Rattle.std.proofs.Common.{◌≡◌, inl, inr, ℕ, ◌+◌, ◌-◌, ◌<◌, ◌≤◌, Bool, true, false, cond, not, nat_lt, List, [], ◌∷◌, ◌++◌, length, drop, refl, sym, ap, ◌∙◌, subst, Option, Some, None, is_some, Result, Ok, Err, arith, length-append}
use Rattle.std.proofs.lemmas.Bool.Decides.{nat_tests}
use Rattle.std.specs.BTreeMap.{is_at}
use Rattle.std.specs.List.{list_any}
use Rattle.std.specs.Prelude.{filter, ◌||◌, if◌then◌else◌, IfOk, IfErr}
use Rattle.tm_base.specs.Paths.{Names, path_cmp, is_prefix, is_root, parent_of}
use Rattle.tm_base.specs.declared.refused.Refused.{Refused}
use Rattle.tm_base.specs.declared.refused.Refused.TheVariants.{NotFound, Exists, NotFolder, IntoSelf, TooDeep}
use Rattle.tm_base.proofs.PathLemmas.{prefix_is, is_prefix_of_append}
use Rattle.tm_items.specs.Finding.{FoundAt}
use Rattle.tm_items.specs.Index.{Numbers}
use Rattle.tm_items.specs.Placings.{Walks}
use Rattle.tm_items.specs.Rules.{is_folder_placed}
use Rattle.tm_items.proofs.Finding.{from_root, stands_at, folder_alike}
use Rattle.tm_items.proofs.Reading.{some_of}
use Rattle.tm_items.proofs.Walking.{walks_on, walk_parts, one_number, one_each}
use Rattle.tm_tree.specs.declared.change.Change.{Change}
use Rattle.tm_tree.specs.declared.change.Change.TheVariants.{Mv}
use Rattle.tm_tree.specs.declared.item.Item.{Item}
use Rattle.tm_tree.specs.declared.item.Item.TheVariants as item
use Rattle.tm_tree.specs.Changes.{ids_spent, is_too_deep, move_to, tests}
use Rattle.tm_tree.specs.Refusing.{Tests, first_refused, needs_moment}
use Rattle.tm_tree.specs.Touches.{numbers, plain, scan}
use Rattle.tm_tree.specs.Trees.{Tree, item_at, folder_at}
use Rattle.tm_tree.specs.Walks.{walk, way, way_of, way_to, is_nowhere, is_blocked}
use Rattle.tm_tree.proofs.CopyProofs.{at_is}
use Rattle.tm_changes.specs.Changes.{changed as changed_by, with_contents}
use Rattle.tm_changes.specs.Depths.{Reaches}
use Rattle.tm_volume.specs.Seen.{Seen, items_on, tree_on, stored_on, volume_on}
use Rattle.tm_changes.specs.declared.destination.Destination.{Destination}
use Rattle.tm_changes.specs.Shifts.{IsMovable, move_tests, starts_nowhere, starts_blocked}
use Rattle.tm_changes.specs.Destinations.{MeetsDestination, LeadsInto}
use Rattle.tm_changes.proofs.Backing.{refused_first}
use Rattle.tm_changes.proofs.Deepening.{any_row, reached_down, nothing_down}
use Rattle.tm_volume.proofs.Finding.{OnShelf, are_on}
use Rattle.tm_changes.proofs.Lacking.{stops}
use Rattle.tm_changes.proofs.Planning.{not_root}
use Rattle.tm_changes.proofs.Destinations.{goes_is}
use Rattle.tm_base.specs.Limits.{max_names}

-- ---- rows that no test finds

-- where no path that is kept passes, no row does
no_row : (f g : Names → Bool) (t : Tree) → ((p : Names) → is_some (item_at t p) ≡ true → g p ≡ true → f p ≡ false) → list_any (λ row. f row.0) (filter (λ row. g row.0) t) ≡ false
no_row f g [] each = refl
no_row f g (row ∷ t) each = by_kept (no_row f g t (λ p there. each p (later p there))) (g row.0) refl
  where
    here : is_some (item_at (row ∷ t) row.0) ≡ true
    here = ap (λ b. is_some (cond b (Some row.1) (item_at t row.0))) ((at_is row.0 row.0).1 refl)

    later : (p : Names) → is_some (item_at t p) ≡ true → is_some (item_at (row ∷ t) p) ≡ true
    later p there = by_test (is_at (path_cmp p) row.0)
      where
        by_test : (b : Bool) → is_some (cond b (Some row.1) (item_at t p)) ≡ true
        by_test true = refl
        by_test false = there

    by_kept : list_any (λ row. f row.0) (filter (λ row. g row.0) t) ≡ false → (b : Bool) → g row.0 ≡ b
        → list_any (λ row. f row.0) (cond b (row ∷ filter (λ row. g row.0) t) (filter (λ row. g row.0) t)) ≡ false
    by_kept rest true kept = ap (λ b. b || list_any (λ row. f row.0) (filter (λ row. g row.0) t)) (each row.0 here kept) ∙ rest
    by_kept rest false kept = rest

is_less : (a b : ℕ) → a < b → nat_lt a b ≡ true
is_less a b lt = grind (arith, nat_tests)

not_less : (a b : ℕ) → b ≤ a → nat_lt a b ≡ false
not_less a b le = grind (arith, nat_tests)

-- ---- how far what is moved reaches

module _ (m : Seen) (n0 : Numbers) (on : OnShelf m n0) (a b : Names) (n : ℕ) (found : (bytes : ℕ → List ℕ) → FoundAt (items_on m bytes) (tree_on m bytes) a n) (few : length b ≤ max_names)
    (deep : Bool) (reach : Reaches n0 n (max_names + 1 - length b) deep) where
  abbrev passes : Names → Bool
  passes p = nat_lt max_names (length b + (length p - length a))

  -- all that is moved stands under few enough names
  pub short_there : deep ≡ false → (bytes : ℕ → List ℕ) (rest : Names) → is_some (item_at (tree_on m bytes) (a ++ rest)) ≡ true → length b + length rest ≤ max_names
  short_there shallow bytes rest there =
      let items = items_on m bytes in
      let are = are_on m n0 on bytes in
      let e = some_of (item_at (tree_on m bytes) (a ++ rest)) there in
      let s = are.reads.only (a ++ rest) e.0 e.1 in
      let parts = walk_parts items 1 s.number a rest s.walks in
      let same : parts.0 ≡ n = one_number items (one_each items are.sound) 1 parts.0 n a parts.1 (found bytes).walks in
      let walks : Walks items n rest s.number = subst (λ (k : ℕ). Walks items k rest s.number) same parts.2 in
      let lt : length rest < max_names + 1 - length b = nothing_down items n0 (on.shelf.index_is bytes) n (max_names + 1 - length b) (subst (λ d. Reaches n0 n (max_names + 1 - length b) d) shallow reach) rest s.number walks in
      omega (arith, lt, few)

  far_there : deep ≡ true → (bytes : ℕ → List ℕ) → is_too_deep (tree_on m bytes) a b ≡ true
  far_there far bytes =
      let items = items_on m bytes in
      let are = are_on m n0 on bytes in
      let r = reached_down items n0 (on.shelf.index_is bytes) n (max_names + 1 - length b) (subst (λ d. Reaches n0 n (max_names + 1 - length b) d) far reach) in
      let rest : Names = r.0 in
      let walks : Walks items 1 (a ++ rest) r.2.0 = walks_on items 1 n r.2.0 a rest (found bytes).walks r.2.1 in
      let y = from_root items are.sound r.2.0 (a ++ rest) walks in
      let long : max_names < length b + (length (a ++ rest) - length a) = omega (arith, length-append a rest, r.1, few) in
      any_row passes (is_prefix a) (tree_on m bytes) (a ++ rest) y.0.item (stands_at items (tree_on m bytes) are (a ++ rest) r.2.0 y.0 walks y.1)
      (is_prefix_of_append a (a ++ rest) rest refl) (is_less max_names (length b + (length (a ++ rest) - length a)) long)

  near_there : deep ≡ false → (bytes : ℕ → List ℕ) → is_too_deep (tree_on m bytes) a b ≡ false
  near_there shallow bytes = no_row passes (is_prefix a) (tree_on m bytes) (λ p there beneath.
      let apart : p ≡ a ++ drop (length a) p = prefix_is a p beneath in
      let le = short_there shallow bytes (drop (length a) p) (subst (λ (q : Names). is_some (item_at (tree_on m bytes) q) ≡ true) apart there) in
      let len : length p ≡ length a + length (drop (length a) p) = ap length apart ∙ length-append a (drop (length a) p) in
      not_less max_names (length b + (length p - length a)) (omega (arith, le, len)))

  pub depth_is : (bytes : ℕ → List ℕ) → is_too_deep (tree_on m bytes) a b ≡ deep
  depth_is bytes = by_depth deep refl
    where
      by_depth : (d : Bool) → deep ≡ d → is_too_deep (tree_on m bytes) a b ≡ d
      by_depth true h = far_there h bytes
      by_depth false h = near_there h bytes

-- ---- the numbers that it draws

pub draws_by_kind : (t : Tree) (a b : Names) (folder : Bool) → folder_at t a ≡ folder → numbers t (Mv a b) ≡ (if folder then 3 else 2)
draws_by_kind t a b true is = ap (λ (f : Bool). 0 + length (plain (parent_of a) ++ plain (parent_of b) ++ (if f then scan b else []))) is
draws_by_kind t a b false is = ap (λ (f : Bool). 0 + length (plain (parent_of a) ++ plain (parent_of b) ++ (if f then scan b else []))) is

-- ---- what is known of a move

-- what isn't at or above a path isn't the root
pub apart_below : (a b : Names) → is_prefix a b ≡ false → is_root a ≡ false
apart_below [] b apart = let bad : true ≡ false = sym (is_prefix_of_append [] b b refl) ∙ apart in cc
apart_below (x ∷ p) b apart = more x p
  where
    more : (x : List ℕ) (q : Names) → is_root (x ∷ q) ≡ false
    more x q = grind (arith, nat_tests)

at_item : (e : Item) → (is_nowhere (way_to e) ≡ false) × (is_blocked (way_to e) ≡ false)
at_item (item.Folder x) = (refl, refl)
at_item (item.File x s y) = (refl, refl)
at_item (item.Link x s y) = (refl, refl)

-- where the walks come to, and how far n reaches
pub record IsShift (m : Seen) (n0 : Numbers) (a b : Names) (n k : ℕ) (c : Change) (deep : Bool) : Type 0 where
  pub on : OnShelf m n0
  pub change : c ≡ Mv a b
  pub found : (bytes : ℕ → List ℕ) → FoundAt (items_on m bytes) (tree_on m bytes) a n
  pub into : (bytes : ℕ → List ℕ) → LeadsInto (items_on m bytes) (tree_on m bytes) b k
  pub none : (bytes : ℕ → List ℕ) → item_at (tree_on m bytes) b ≡ None
  pub apart : is_prefix a b ≡ false
  pub few : length b ≤ max_names
  pub reach : Reaches n0 n (max_names + 1 - length b) deep

module _ (m : Seen) (n0 : Numbers) (a b : Names) (n k : ℕ) (c : Change) (deep : Bool) (is : IsShift m n0 a b n k c deep) where
  -- the tests that are left
  pub shift_left : (moment : Option ℕ) (bytes : ℕ → List ℕ) → first_refused (tests (volume_on m bytes).contents c moment)
      ≡ first_refused ((deep, TooDeep) ∷ needs_moment moment ++ ids_spent (volume_on m bytes).contents (numbers (tree_on m bytes) (Mv a b)))
  shift_left moment bytes =
      let v = (volume_on m bytes).contents in
      let t = tree_on m bytes in
      let kind = at_item (is.found bytes).placed.item in
      let from : is_nowhere (way t a) ≡ false = ap (λ (r : Result Item Refused). is_nowhere (way_of r)) (is.found bytes).walk_is ∙ kind.0 in
      let onward : is_blocked (way t a) ≡ false = ap (λ (r : Result Item Refused). is_blocked (way_of r)) (is.found bytes).walk_is ∙ kind.1 in
      let free : is_some (item_at t b) ≡ false = ap is_some (is.none bytes) in
      let depth = depth_is m n0 is.on a b n is.found is.few deep is.reach bytes in
      ap (λ (d : Change). first_refused (tests v d moment)) is.change
      ∙ (λ i. first_refused ((from i || (is.into bytes).nowhere i, NotFound) ∷ (free i, Exists) ∷ (onward i || not ((is.into bytes).at_folder i), NotFolder) ∷ (is.apart i, IntoSelf) ∷ (depth i, TooDeep)
      ∷ needs_moment moment ++ ids_spent v (numbers t (Mv a b))))

  pub draws : (folder : Bool) → ((bytes : ℕ → List ℕ) → is_folder_placed (items_on m bytes n) ≡ folder) → (bytes : ℕ → List ℕ) → numbers (tree_on m bytes) (Mv a b) ≡ (if folder then 3 else 2)
  draws folder kind bytes = draws_by_kind (tree_on m bytes) a b folder (folder_alike (items_on m bytes) (tree_on m bytes) (are_on m n0 is.on bytes) a n (is.found bytes).walks ∙ kind bytes)

  pub movable : deep ≡ false → IsMovable m a b n k
  movable shallow = record {
    found = is.found;
    below = apart_below a b is.apart;
    into = is.into;
    below_to = not_root (items_on m (λ _. [])) (tree_on m (λ _. [])) (are_on m n0 is.on (λ _. [])) b (is.none (λ _. []));
    none = is.none;
    apart = is.apart;
    short = short_there m n0 is.on a b n is.found is.few deep is.reach shallow;
  }

  -- the volume changed
  pub shift_changed : (bytes : ℕ → List ℕ) (moment count : ℕ) → numbers (tree_on m bytes) (Mv a b) ≡ count
      → record { volume = with_contents (volume_on m bytes) (record { tree = move_to (tree_on m bytes) a b moment; fixed = m.fixed; next = m.tag.next + count }); clean = false; journal = None }
      ≡ changed_by (stored_on m bytes) c (Some moment)
  shift_changed bytes moment count draw =
      (λ i. record { volume = with_contents (volume_on m bytes) (record { tree = move_to (tree_on m bytes) a b moment; fixed = m.fixed; next = m.tag.next + sym draw i }); clean = false; journal = None })
      ∙ ap (λ (d : Change). changed_by (stored_on m bytes) d (Some moment)) (sym is.change)

-- ---- where the walks don't come to a folder and an item, or something stands there, or it is beneath what is moved

starts_is : (m : Seen) (a : Names) (start : Result ℕ Refused) → IfOk start (λ n. (bytes : ℕ → List ℕ) → FoundAt (items_on m bytes) (tree_on m bytes) a n)
    → IfErr start (λ why. (bytes : ℕ → List ℕ) → walk (tree_on m bytes) a ≡ Err why) → (bytes : ℕ → List ℕ)
    → (is_nowhere (way (tree_on m bytes) a) ≡ starts_nowhere start) × (is_blocked (way (tree_on m bytes) a) ≡ starts_blocked start)
starts_is m a (Ok n) found stopped bytes =
    let kind = at_item (found bytes).placed.item in
    (ap (λ (r : Result Item Refused). is_nowhere (way_of r)) (found bytes).walk_is ∙ kind.0, ap (λ (r : Result Item Refused). is_blocked (way_of r)) (found bytes).walk_is ∙ kind.1)
starts_is m a (Err why) found stopped bytes = elim (stops (tree_on m bytes) [] a why (stopped bytes)) [
  | inl one ↦ by_reason NotFound one refl refl
  | inr two ↦ by_reason NotFolder two refl refl
]
  where
    by_reason : (r : Refused) → why ≡ r → is_nowhere (way_of (Err r)) ≡ starts_nowhere (Err r) → is_blocked (way_of (Err r)) ≡ starts_blocked (Err r)
        → (is_nowhere (way (tree_on m bytes) a) ≡ starts_nowhere (Err why)) × (is_blocked (way (tree_on m bytes) a) ≡ starts_blocked (Err why))
    by_reason r same nowhere blocked =
        let walked = stopped bytes ∙ ap (λ (w : Refused). Err w) same in (
          ap (λ (x : Result Item Refused). is_nowhere (way_of x)) walked ∙ nowhere ∙ ap (λ (w : Refused). starts_nowhere (Err w)) (sym same),
          ap (λ (x : Result Item Refused). is_blocked (way_of x)) walked ∙ blocked ∙ ap (λ (w : Refused). starts_blocked (Err w)) (sym same),
        )

pub move_refused : (m : Seen) (a b : Names) (start : Result ℕ Refused) (into : Destination) (there inside : Bool) → IfOk start (λ n. (bytes : ℕ → List ℕ) → FoundAt (items_on m bytes) (tree_on m bytes) a n)
    → IfErr start (λ why. (bytes : ℕ → List ℕ) → walk (tree_on m bytes) a ≡ Err why) → ((bytes : ℕ → List ℕ) → MeetsDestination (items_on m bytes) (tree_on m bytes) b into)
    → ((bytes : ℕ → List ℕ) → there ≡ is_some (item_at (tree_on m bytes) b)) → inside ≡ is_prefix a b → (c : Change) (moment : Option ℕ) → c ≡ Mv a b
    → (why : Refused) → first_refused (move_tests start into there inside) ≡ Some why → (bytes : ℕ → List ℕ) → first_refused (tests (volume_on m bytes).contents c moment) ≡ Some why
move_refused m a b start into there inside found stopped goes stands prefix c moment same why is bytes =
    let v = (volume_on m bytes).contents in
    let t = tree_on m bytes in
    let rest : Tests = (is_too_deep t a b, TooDeep) ∷ needs_moment moment ++ ids_spent v (numbers t (Mv a b)) in
    let from = starts_is m a start found stopped bytes in
    let g = goes_is (items_on m bytes) t b into (goes bytes) in
    ap (λ (d : Change). first_refused (tests v d moment)) same
    ∙ (λ i. first_refused ((from.0 i || g.0 i, NotFound) ∷ (sym (stands bytes) i, Exists) ∷ (from.1 i || not (g.1 i), NotFolder) ∷ (sym prefix i, IntoSelf) ∷ rest))
    ∙ refused_first (move_tests start into there inside) rest why is
