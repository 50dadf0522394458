-- What the trees of other roots hold, and sums over the rows of a tree beside them.
use Rattle.std.proofs.Common.{◌≡◌, ◌≢◌, ℕ, Bool, true, false, Some, List, [], ◌∷◌, ◌++◌, refl, ap, ◌∙◌, arith, subst, nat_eq, ⊎_elim, sum_by, ◌||◌, append_assoc, if◌then◌else◌}
use Rattle.std.specs.declared.cmp.Ordering.TheVariants.{Less}
use Rattle.std.specs.Ordering.{nat_cmp}
use Rattle.std.specs.Cmp.Lexicographic.{slice_cmp}
use Rattle.std.specs.List.{AllByRecursion}
use Rattle.std.specs.Set.{is_member}
use Rattle.std.proofs.lemmas.Bool.{cases_eq}
use Rattle.std.proofs.lemmas.Bool.Decides.{nat_tests}
use Rattle.std.proofs.lemmas.List.Sums.{sum_by-cons, sum_by-append}
use Rattle.tm_base.specs.Paths.{Names}
use Rattle.tm_tree.specs.declared.item.Labelled.{Labelled}
use Rattle.tm_tree.specs.declared.node.Child.{Child}
use Rattle.tm_tree.specs.declared.node.NodeRow.{NodeRow}
use Rattle.tm_tree.specs.Copies.{LabelledTree}
use Rattle.tm_graph.specs.Nodes.{Nodes, node, entries_of, IsGraph}
use Rattle.tm_graph.specs.Trees.{child_of, rows_of, under}
use Rattle.tm_graph.specs.Walks.{child_named}
use Rattle.tm_graph.proofs.ChildLemmas.{RiseEach, rise_each}
use Rattle.tm_graph.proofs.PlaceAt.{of_children}
use Rattle.tm_identity.specs.Identities.{holds}
use Rattle.tm_identity.specs.Sums.{is_elsewhere}
use Rattle.tm_identity.specs.Stores.{trees_of}
use Rattle.tm_identity.proofs.Parents.{own_name, head_name}

-- each entry is found by its name
pub own_names : (entries : List Child) → RiseEach entries → AllByRecursion (λ child. child_named entries child.name ≡ Some child.node) entries
own_names [] rise = tt
own_names (child ∷ entries) rise = (own_name child entries, later entries rise.0 (own_names entries rise.1))
  where
    later : (es : List Child) → AllByRecursion (λ other. slice_cmp nat_cmp child.name other.name ≡ Less) es → AllByRecursion (λ c. child_named entries c.name ≡ Some c.node) es → AllByRecursion (λ c. child_named (child ∷ entries) c.name ≡ Some c.node) es
    later [] a h = tt
    later (c ∷ es) a h = (head_name child entries c.name (Some c.node) a.0 h.0, later es a.1 h.1)

pub each : {P Q : Child → Type 0} (es : List Child) → ((c : Child) → P c → Q c) → AllByRecursion P es → AllByRecursion Q es
each [] f h = tt
each (c ∷ es) f h = (f c h.0, each es f h.1)

pub same_sums : (f k : Child → ℕ) (es : List Child) → AllByRecursion (λ c. f c ≡ k c) es → sum_by f es ≡ sum_by k es
same_sums f k [] h = refl
same_sums f k (c ∷ es) h = omega (arith, sum_by-cons f c es, sum_by-cons k c es, h.0, same_sums f k es h.1)

pub no_sum : (f : Child → ℕ) (es : List Child) → AllByRecursion (λ c. f c ≡ 0) es → sum_by f es ≡ 0
no_sum f [] h = refl
no_sum f (c ∷ es) h = omega (arith, sum_by-cons f c es, h.0, no_sum f es h.1)

-- the children of a node, each by its name
pub children : (g : Nodes) → IsGraph g → (n : ℕ) (row : NodeRow) → node g n ≡ Some row → AllByRecursion (λ c. child_of (node g n) c.name ≡ Some c.node) (entries_of row)
children g is n row e = each (entries_of row) (λ c own. ap (λ o. child_of o c.name) e ∙ own) (own_names (entries_of row) (rise_each (entries_of row) (is.rises n row e)))

-- ---- what other trees hold

module _ (v : ℕ → NodeRow → Labelled) (g : Nodes) where
  pub any_tree : (lab : ℕ) (p : Names) (ss : List ℕ) → is_elsewhere (trees_of v g ss) lab p ≡ true → (s : ℕ) × (is_member nat_eq ss s ≡ true) × (holds (rows_of v g s) lab p ≡ true)
  any_tree lab p [] h = cc
  any_tree lab p (s ∷ ss) h = by_test (holds (rows_of v g s) lab p) refl h (any_tree lab p ss)
    where
      mine : is_member nat_eq (s ∷ ss) s ≡ true
      mine = grind (arith, nat_tests)

      more : (q : ℕ) → is_member nat_eq ss q ≡ true → is_member nat_eq (s ∷ ss) q ≡ true
      more q m = grind (arith, m)

      by_test : (b : Bool) → holds (rows_of v g s) lab p ≡ b → (b || is_elsewhere (trees_of v g ss) lab p) ≡ true → (is_elsewhere (trees_of v g ss) lab p ≡ true → (q : ℕ) × (is_member nat_eq ss q ≡ true) × (holds (rows_of v g q) lab p ≡ true))
          → (q : ℕ) × (is_member nat_eq (s ∷ ss) q ≡ true) × (holds (rows_of v g q) lab p ≡ true)
      by_test true e h f = (s, mine, e)
      by_test false e h f = let k = f h in (k.0, more k.0 k.1, k.2)

  pub tree_any : (lab : ℕ) (p : Names) (ss : List ℕ) (s : ℕ) → is_member nat_eq ss s ≡ true → holds (rows_of v g s) lab p ≡ true → is_elsewhere (trees_of v g ss) lab p ≡ true
  tree_any lab p [] s m h = cc
  tree_any lab p (q ∷ ss) s m h = ⊎_elim (λ e. first (holds (rows_of v g q) lab p) (subst (λ k. holds (rows_of v g k) lab p ≡ true) e h)) (λ ne. later (holds (rows_of v g q) lab p) (tree_any lab p ss s (among_rest ne) h)) (cases_eq s q)
    where
      among_rest : s ≢ q → is_member nat_eq ss s ≡ true
      among_rest ne = grind (arith, nat_tests, m)

      first : (b : Bool) → b ≡ true → (b || is_elsewhere (trees_of v g ss) lab p) ≡ true
      first true t = refl
      first false t = cc

      later : (b : Bool) → is_elsewhere (trees_of v g ss) lab p ≡ true → (b || is_elsewhere (trees_of v g ss) lab p) ≡ true
      later true t = refl
      later false t = t

-- ---- sums over rows at p

module _ (v : ℕ → NodeRow → Labelled) (w : Names → Labelled → ℕ) (g : Nodes) (ss : List ℕ) where
  -- what a row at p counts beside the trees of these roots
  abbrev pub part : Names → Labelled → ℕ
  part p row = if is_elsewhere (trees_of v g ss) row.label p then 0 else w p row

  abbrev pub total : LabelledTree → Names → ℕ
  total t p = sum_by (λ row. part (p ++ row.0) row.1) t

  pub total-under : (x : List ℕ) (t : LabelledTree) (p : Names) → total (under x t) p ≡ total t (p ++ x ∷ [])
  total-under x [] p = refl
  total-under x (row ∷ t) p =
      omega (
        arith,
        sum_by-cons (λ (row : Names × Labelled). part (p ++ row.0) row.1) (x ∷ row.0, row.1) (under x t),
        sum_by-cons (λ (row : Names × Labelled). part ((p ++ x ∷ []) ++ row.0) row.1) row t,
        total-under x t p,
        ap (λ (q : Names). part q row.1) (append_assoc p (x ∷ []) row.0),
      )

  pub total-children : (rows : ℕ → LabelledTree) (p : Names) (es : List Child) → total (of_children rows es) p ≡ sum_by (λ c. total (rows c.node) (p ++ c.name ∷ [])) es
  total-children rows p [] = refl
  total-children rows p (c ∷ es) =
      omega (
        arith,
        sum_by-append (λ (row : Names × Labelled). part (p ++ row.0) row.1) (under c.name (rows c.node)) (of_children rows es),
        total-under c.name (rows c.node) p,
        total-children rows p es,
        sum_by-cons (λ (c : Child). total (rows c.node) (p ++ c.name ∷ [])) c es,
      )
