-- Items in which nothing stands, and the refusals of their removal.
use Rattle.std.proofs.Common.{◌≡◌, inl, ℕ, suc, ◌==◌, Bool, true, false, not, nat_lt, List, [], ◌∷◌, ◌++◌, length, refl, sym, ap, ◌∙◌, subst, Option, Some, None, arith}
use Rattle.std.proofs.lemmas.Bool.Decides.{nat_tests}
use Rattle.tm_base.specs.Paths.{Names, is_root}
use Rattle.tm_base.specs.declared.refused.Refused.TheVariants.{NotEmpty, RootItem}
use Rattle.tm_items.specs.Finding.{FoundAt}
use Rattle.tm_items.specs.Index.{Numbers, IsIndex}
use Rattle.tm_items.specs.Listing.{AreEntries, row_of, rows_in}
use Rattle.tm_items.specs.Places.{at_name}
use Rattle.tm_items.specs.Placings.{Placed, Items, Walks}
use Rattle.tm_items.specs.Rules.{IsSound, is_folder_placed}
use Rattle.tm_items.proofs.Entries.{lists_children, found_at}
use Rattle.tm_items.proofs.Finding.{nothing_in, nothing_in_leaf}
use Rattle.tm_tree.specs.declared.change.Change.{Change}
use Rattle.tm_tree.specs.declared.change.Change.TheVariants.{Rmdir}
use Rattle.tm_tree.specs.Changes.{ids_spent, tests}
use Rattle.tm_tree.specs.Items.{is_folder}
use Rattle.tm_tree.specs.Refusing.{Tests, first_refused, needs_moment}
use Rattle.tm_tree.specs.Trees.{Tree, children}
use Rattle.tm_changes.specs.Removals.{IsBare, IsLoose}
use Rattle.tm_volume.specs.Seen.{IsShelved}
use Rattle.tm_volume.specs.Seen.{Seen, IsShelf, items_on, tree_on, volume_on}
use Rattle.tm_volume.proofs.Finding.{OnShelf, are_on}
use Rattle.tm_changes.proofs.Lacking.{rmdir_folder}

truths : {P : Type 0} → false ≡ true → P
truths h = cc

-- ---- the index in memory

pub on_index : (m : Seen) (s : IsShelved m) (numbers : Numbers) → IsShelf m numbers → OnShelf m numbers
on_index m s numbers shelf = record { shelf = shelf; rising = s.image.rising }

-- ---- what kind of item stands

pub item_kind : (items : Items) (t : Tree) (p : Names) (n : ℕ) (found : FoundAt items t p n) (b : Bool) → is_folder_placed (items n) ≡ b → is_folder found.placed.item ≡ b
item_kind items t p n found b is = sym (ap is_folder_placed found.is) ∙ is

-- ---- a file or link isn't the root

leaf_below : (items : Items) (p : Names) (n : ℕ) → IsSound items → Walks items 1 p n → is_folder_placed (items n) ≡ false → is_root p ≡ false
leaf_below items [] n sound w leaf =
    let root = (sound 1).root refl in
    truths (sym leaf ∙ ap (λ (k : ℕ). is_folder_placed (items k)) (sym w) ∙ ap is_folder_placed root.is ∙ root.root.folder)
leaf_below items (x ∷ q) n sound w leaf = more x q
  where
    more : (x : List ℕ) (q : Names) → is_root (x ∷ q) ≡ false
    more x q = grind (arith, nat_tests)

pub leaf_loose : (m : Seen) (n0 : Numbers) → OnShelf m n0 → (p : Names) (n : ℕ) → ((bytes : ℕ → List ℕ) → FoundAt (items_on m bytes) (tree_on m bytes) p n)
    → ((bytes : ℕ → List ℕ) → is_folder_placed (items_on m bytes n) ≡ false) → IsLoose m p n
leaf_loose m n0 on p n found leaf = record {
  found = found;
  below = leaf_below (items_on m (λ _. [])) p n (are_on m n0 on (λ _. [])).sound (found (λ _. [])).walks (leaf (λ _. []));
  empty = λ bytes. nothing_in_leaf (items_on m bytes) n (are_on m n0 on bytes).sound (leaf bytes);
}

-- ---- a folder without entries

no_entries : {X : Type 0} (es : List X) → (length es == 0) ≡ true → es ≡ []
no_entries [] h = refl
no_entries (e ∷ es) h = absurd (not_zero (length es) h)
  where
    not_zero : (a : ℕ) → (suc a == 0) ≡ true → ⊥
    not_zero a h = grind (arith, nat_tests)

bare_rows : (items : Items) (t : Tree) (numbers : Numbers) (entries : List (List ℕ × ℕ)) (k : ℕ) (p : Names) → IsIndex items numbers → AreEntries numbers k entries
    → nat_lt 0 (length (rows_in items p entries)) ≡ not (length entries == 0)
bare_rows items t numbers [] k p index are = refl
bare_rows items t numbers (e ∷ es) k p index are =
    let there : numbers (at_name k e.0) ≡ Some e.1 = sym (are.are e.0) ∙ found_at (e ∷ es) e.0 e.1 are.in_order (inl (refl, refl)) in
    let child = index.told (at_name k e.0) e.1 there in
    ap (λ (o : Option Placed). nat_lt 0 (length (row_of p e.0 o ++ rows_in items p es))) child.is ∙ some_row (length (rows_in items p es)) (length es)
  where
    some_row : (a b : ℕ) → nat_lt 0 (suc a) ≡ not (suc b == 0)
    some_row a b = grind (arith, nat_tests)

module _ (m : Seen) (n0 : Numbers) (on : OnShelf m n0) (p : Names) (n : ℕ) (found : (bytes : ℕ → List ℕ) → FoundAt (items_on m bytes) (tree_on m bytes) p n) (bare : Bool) (is : IsBare n0 n bare) where
  pub full_is : (bytes : ℕ → List ℕ) → nat_lt 0 (length (children (tree_on m bytes) p)) ≡ not bare
  full_is bytes =
      ap (λ (rows : Tree). nat_lt 0 (length rows)) (sym (lists_children (items_on m bytes) (tree_on m bytes) n0 is.entries n p (are_on m n0 on bytes) (on.shelf.index_is bytes) is.are (found bytes).walks))
      ∙ bare_rows (items_on m bytes) (tree_on m bytes) n0 is.entries n p (on.shelf.index_is bytes) is.are ∙ ap not (sym is.is)

  pub bare_loose : bare ≡ true → is_root p ≡ false → IsLoose m p n
  bare_loose empty below = record {
    found = found;
    below = below;
    empty = λ bytes. nothing_in (items_on m bytes) n0 n (are_on m n0 on bytes).sound (on.shelf.index_is bytes) (none is.entries is.are (no_entries is.entries (sym is.is ∙ empty)));
  }
    where
      none : (entries : List (List ℕ × ℕ)) → AreEntries n0 n entries → entries ≡ [] → (name : List ℕ) → n0 (at_name n name) ≡ None
      none entries are nothing name = sym ((subst (λ (es : List (List ℕ × ℕ)). AreEntries n0 n es) nothing are).are name)

  -- the tests that are left once a folder stands there
  pub rmdir_left : (c : Change) (moment : Option ℕ) → c ≡ Rmdir p → ((bytes : ℕ → List ℕ) → is_folder_placed (items_on m bytes n) ≡ true) → (bytes : ℕ → List ℕ)
      → first_refused (tests (volume_on m bytes).contents c moment)
      ≡ first_refused ((not bare, NotEmpty) ∷ (is_root p, RootItem) ∷ needs_moment moment ++ ids_spent (volume_on m bytes).contents 1)
  rmdir_left c moment same kind bytes =
      let v = (volume_on m bytes).contents in
      let rest : Tests = needs_moment moment ++ ids_spent v 1 in
      let folder = item_kind (items_on m bytes) (tree_on m bytes) p n (found bytes) true (kind bytes) in
      ap (λ (d : Change). first_refused (tests v d moment)) same
      ∙ rmdir_folder (tree_on m bytes) p (nat_lt 0 (length (children (tree_on m bytes) p))) (is_root p) rest (found bytes).placed.item (found bytes).walk_is folder
      ∙ ap (λ b. first_refused ((b, NotEmpty) ∷ (is_root p, RootItem) ∷ rest)) (full_is bytes)
