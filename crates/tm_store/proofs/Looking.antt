-- The way down a snapshot's tree goes as the way down its nodes.
use Rattle.std.proofs.Common.{◌≡◌, ℕ, Bool, true, false, cond, Option, Some, None, is_some, Result, Ok, Err, List, [], ◌∷◌, ◌++◌, refl, sym, ap, ◌∙◌, if◌then◌else◌}
use Rattle.std.specs.BTreeMap.{is_at}
use Rattle.std.specs.Option.{option_map}
use Rattle.tm_base.specs.Paths.{Names, path_cmp}
use Rattle.tm_base.specs.declared.refused.Refused.{Refused}
use Rattle.tm_base.specs.declared.refused.Refused.TheVariants as refused
use Rattle.tm_graph.specs.declared.walk.Walk.{Walk}
use Rattle.tm_graph.specs.declared.walk.Walk.TheVariants.{NotFound, NotFolder}
use Rattle.tm_graph.specs.Nodes.{Nodes, node, entries_of, is_folder, is_folder_body, IsGraph}
use Rattle.tm_graph.specs.Trees.{and_then, child_of, number, number_at, value_at, rows_of, RowsStand}
use Rattle.tm_graph.specs.Walks.{child_named, down, found, onward, step}
use Rattle.tm_graph.proofs.WaysFound.{child_there}
use Rattle.tm_tree.specs.declared.item.Item.{Item}
use Rattle.tm_tree.specs.declared.item.Labelled.{Labelled}
use Rattle.tm_tree.specs.declared.node.LeafRow.TheVariants.{File, Link}
use Rattle.tm_tree.specs.declared.node.NodeBody.{NodeBody}
use Rattle.tm_tree.specs.declared.node.NodeBody.TheVariants.{Folder, Leaf}
use Rattle.tm_tree.specs.declared.node.NodeRow.{NodeRow}
use Rattle.tm_tree.specs.Copies.{LabelledTree, bare}
use Rattle.tm_tree.specs.Items as items
use Rattle.tm_tree.specs.Trees.{Tree, at, item_at}
use Rattle.tm_tree.specs.Walks as walks
use Rattle.tm_store_records.specs.States.{item_on, labelled_on}

bare_at : (t : LabelledTree) (p : Names) → item_at (bare t) p ≡ option_map (λ (l : Labelled). l.item) (at t p)
bare_at [] p = refl
bare_at (row ∷ t) p = by_test (is_at (path_cmp p) row.0) (bare_at t p)
  where
    by_test : (b : Bool) → item_at (bare t) p ≡ option_map (λ (l : Labelled). l.item) (at t p) → cond b (Some row.1.item) (item_at (bare t) p) ≡ option_map (λ (l : Labelled). l.item) (cond b (Some row.1) (at t p))
    by_test true rest = refl
    by_test false rest = rest

nothing_there : (t : Tree) (done rest : Names) → item_at t done ≡ None → walks.walk_from t done rest ≡ Err refused.NotFound
nothing_there t done [] none = ap walks.found none
nothing_there t done (name ∷ rest) none = ap (λ o. walks.through o (walks.walk_from t (done ++ name ∷ []) rest)) none

folder_is : (bytes : List ℕ) (body : NodeBody) → items.is_folder (item_on bytes body) ≡ is_folder_body body
folder_is bytes (Folder attrs entries) = refl
folder_is bytes (Leaf (File attrs stamp size)) = refl
folder_is bytes (Leaf (Link attrs stamp target)) = refl

module _ (g : Nodes) where
  -- what stands one name below
  pub longer : (n : ℕ) (done : Names) (name : List ℕ) → number_at g n (done ++ name ∷ []) ≡ and_then (number_at g n done) (λ m. number_at g m (name ∷ []))
  longer n [] name = by_node (node g n) refl
    where
      by_node : (o : Option NodeRow) → node g n ≡ o → number_at g n (name ∷ []) ≡ and_then (option_map (number n) o) (λ m. number_at g m (name ∷ []))
      by_node None e = ap (λ o. and_then (child_of o name) (λ m. number_at g m [])) e
      by_node (Some row) e = refl
  longer n (first ∷ done) name = by_child (λ m. longer m done name) (child_of (node g n) first)
    where
      by_child : ((m : ℕ) → number_at g m (done ++ name ∷ []) ≡ and_then (number_at g m done) (λ k. number_at g k (name ∷ [])))
          → (o : Option ℕ) → and_then o (λ m. number_at g m (done ++ name ∷ [])) ≡ and_then (and_then o (λ m. number_at g m done)) (λ m. number_at g m (name ∷ []))
      by_child below None = refl
      by_child below (Some m) = below m

  itself : (n : ℕ) → is_some (node g n) ≡ true → number_at g n [] ≡ Some n
  itself n there = by_node (node g n) there
    where
      by_node : (o : Option NodeRow) → is_some o ≡ true → option_map (number n) o ≡ Some n
      by_node None there = absurd (cc there)
      by_node (Some row) there = refl

  child_stands : (graph : IsGraph g) (root m k : ℕ) (done : Names) (name : List ℕ) → number_at g root done ≡ Some m → child_of (node g m) name ≡ Some k → number_at g root (done ++ name ∷ []) ≡ Some k
  child_stands graph root m k done name e child =
      longer root done name ∙ ap (λ o. and_then o (λ m. number_at g m (name ∷ []))) e
      ∙ ap (λ o. and_then o (λ m. number_at g m [])) child ∙ itself k (child_there g m k name graph child)

  no_child_stands : (root m : ℕ) (done : Names) (name : List ℕ) → number_at g root done ≡ Some m → child_of (node g m) name ≡ None → number_at g root (done ++ name ∷ []) ≡ None
  no_child_stands root m done name e child =
      longer root done name ∙ ap (λ o. and_then o (λ m. number_at g m (name ∷ []))) e
      ∙ ap (λ o. and_then o (λ m. number_at g m [])) child

  module _ (files : ℕ → List ℕ) where
    -- what is read at a path is what is read of the node there
    value_is : (n : ℕ) (p : Names) → value_at (labelled_on files) g n p ≡ and_then (number_at g n p) (λ m. option_map (labelled_on files m) (node g m))
    value_is n [] = by_node (node g n) refl
      where
        by_node : (o : Option NodeRow) → node g n ≡ o → option_map (labelled_on files n) o ≡ and_then (option_map (number n) o) (λ m. option_map (labelled_on files m) (node g m))
        by_node None e = refl
        by_node (Some row) e = ap (option_map (labelled_on files n)) (sym e)
    value_is n (name ∷ p) = by_child (λ m. value_is m p) (child_of (node g n) name)
      where
        by_child : ((m : ℕ) → value_at (labelled_on files) g m p ≡ and_then (number_at g m p) (λ k. option_map (labelled_on files k) (node g k)))
            → (o : Option ℕ) → and_then o (λ m. value_at (labelled_on files) g m p) ≡ and_then (and_then o (λ m. number_at g m p)) (λ m. option_map (labelled_on files m) (node g m))
        by_child below None = refl
        by_child below (Some m) = below m

    abbrev pub item_of : ℕ → Option NodeRow → Option Item
    item_of n o = option_map (λ (row : NodeRow). item_on (files n) row.body) o

    -- what the way down comes to, or why it ends
    abbrev pub tree_ends : Result ℕ Walk → Result Item Refused
    tree_ends (Ok n) = walks.found (item_of n (node g n))
    tree_ends (Err NotFound) = Err refused.NotFound
    tree_ends (Err NotFolder) = Err refused.NotFolder

    module _ (rows : RowsStand) (graph : IsGraph g) (root : ℕ) where
      abbrev tree : Tree
      tree = bare (rows_of (labelled_on files) g root)

      pub labelled_at : (p : Names) → at (rows_of (labelled_on files) g root) p ≡ and_then (number_at g root p) (λ m. option_map (labelled_on files m) (node g m))
      labelled_at p = (rows (labelled_on files) g root graph).1 p ∙ value_is root p

      item_is : (p : Names) → item_at tree p ≡ and_then (number_at g root p) (λ m. item_of m (node g m))
      item_is p = bare_at (rows_of (labelled_on files) g root) p ∙ ap (option_map (λ (l : Labelled). l.item)) (labelled_at p) ∙ by_number (number_at g root p)
        where
          by_node : (m : ℕ) (o : Option NodeRow) → option_map (λ (l : Labelled). l.item) (option_map (labelled_on files m) o) ≡ item_of m o
          by_node m None = refl
          by_node m (Some row) = refl

          by_number : (o : Option ℕ) → option_map (λ (l : Labelled). l.item) (and_then o (λ m. option_map (labelled_on files m) (node g m))) ≡ and_then o (λ m. item_of m (node g m))
          by_number None = refl
          by_number (Some m) = by_node m (node g m)

      goes : (done : Names) (m : ℕ) (rest : Names) → number_at g root done ≡ Some m → walks.walk_from tree done rest ≡ tree_ends (down g m rest)
      goes done m [] e = ap walks.found (item_is done ∙ ap (λ o. and_then o (λ m. item_of m (node g m))) e)
      goes done m (name ∷ rest) e =
          ap (λ o. walks.through o (walks.walk_from tree (done ++ name ∷ []) rest)) (item_is done ∙ ap (λ o. and_then o (λ m. item_of m (node g m))) e)
          ∙ by_node (λ k stands. goes (done ++ name ∷ []) k rest stands) (node g m) refl
        where
          Below : Type 0
          Below = (k : ℕ) → number_at g root (done ++ name ∷ []) ≡ Some k → walks.walk_from tree (done ++ name ∷ []) rest ≡ tree_ends (down g k rest)

          by_child : Below → (o : Option ℕ) → child_of (node g m) name ≡ o → walks.walk_from tree (done ++ name ∷ []) rest ≡ tree_ends (onward (found o) (λ k. down g k rest))
          by_child below None c = nothing_there tree (done ++ name ∷ []) rest (item_is (done ++ name ∷ []) ∙ ap (λ o. and_then o (λ m. item_of m (node g m))) (no_child_stands root m done name e c))
          by_child below (Some k) c = below k (child_stands graph root m k done name e c)

          by_folder : Below → (row : NodeRow) → node g m ≡ Some row → (b : Bool) → (if b then walks.walk_from tree (done ++ name ∷ []) rest else Err refused.NotFolder) ≡ tree_ends (onward (if b then found (child_named (entries_of row) name) else Err NotFolder) (λ k. down g k rest))
          by_folder below row is false = refl
          by_folder below row is true = by_child below (child_named (entries_of row) name) (ap (λ o. child_of o name) is)

          by_node : Below → (o : Option NodeRow) → node g m ≡ o → walks.through (item_of m o) (walks.walk_from tree (done ++ name ∷ []) rest) ≡ tree_ends (onward (step o name) (λ k. down g k rest))
          by_node below None is = refl
          by_node below (Some row) is =
              ap (λ b. if b then walks.walk_from tree (done ++ name ∷ []) rest else Err refused.NotFolder) (folder_is (files m) row.body) ∙ by_folder below row is (is_folder row)

      -- the walk from the root
      pub walks_as : (path : Names) → is_some (node g root) ≡ true → walks.walk tree path ≡ tree_ends (down g root path)
      walks_as path there = goes [] root path (itself root there)
