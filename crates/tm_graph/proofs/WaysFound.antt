-- The way down ends at the node that stands at the path.
use Rattle.std.proofs.Common.{◌≡◌, ℕ, ◌+◌, ◌<◌, ◌↔◌, true, false, cond, Option, Some, None, is_some, Result, Ok, Err, List, [], ◌∷◌, refl, sym, ap, ◌∙◌, arith, ◌==◌, if◌then◌else◌}
use Rattle.std.specs.BTreeMap.{is_at}
use Rattle.std.specs.Ordering.{nat_cmp}
use Rattle.std.specs.Option.{option_map}
use Rattle.std.proofs.lemmas.Bool.Decides.{nat_tests}
use Rattle.std.proofs.lemmas.List.Sums.{sum_by-cons}
use Rattle.std.proofs.lemmas.Map.Entries.{sum_by-remove_entry}
use Rattle.tm_base.specs.Paths.{Names, same_name}
use Rattle.tm_tree.specs.declared.node.Child.{Child}
use Rattle.tm_tree.specs.declared.node.NodeBody.{NodeBody}
use Rattle.tm_tree.specs.declared.node.NodeBody.TheVariants.{Folder, Leaf}
use Rattle.tm_tree.specs.declared.node.NodeRow.{NodeRow}
use Rattle.tm_graph.specs.declared.walk.Walk.{Walk}
use Rattle.tm_graph.specs.declared.walk.Walk.TheVariants.{NotFound, NotFolder}
use Rattle.tm_graph.specs.Nodes.{Nodes, node, names, row_names, times, entries_of, body_entries, is_folder_body, IsGraph}
use Rattle.tm_graph.specs.Walks.{child_named, down, step, found, onward}
use Rattle.tm_graph.specs.Trees.{child_of, and_then, number_at, number}
use Rattle.tm_graph.proofs.Climbs.{there}

-- a child is named
pub times_named : (es : List Child) (name : List ℕ) (m : ℕ) → child_named es name ≡ Some m → 0 < times m es
times_named [] name m e = absurd (cc e)
times_named (child ∷ es) name m e =
    let more = sum_by-cons (λ (c : Child). cond (c.node == m) 1 0) child es in
    let rest = times_named es name m in
    elim (same_name child.name name) as (λ b. cond b (Some child.node) (child_named es name) ≡ Some m → 0 < times m (child ∷ es)) [
      | true ↦ λ h. first (same h) more
      | false ↦ λ h. omega (arith, rest h, more)
    ] e
  where
    same : Some child.node ≡ Some m → child.node ≡ m
    same h = cc

    first : child.node ≡ m → times m (child ∷ es) ≡ cond (child.node == m) 1 0 + times m es → 0 < times m (child ∷ es)
    first e more = let t : (child.node == m) ≡ true = grind (arith, nat_tests) in let one : ◌≡◌ {A = ℕ} (cond (child.node == m) 1 0) 1 = ap (λ b. cond b 1 0) t in omega (arith, more, one)

-- what is named is there
pub named_there : (g : Nodes) (n m : ℕ) → IsGraph g → 0 < names m (node g n) → is_some (node g m) ≡ true
named_there g n m is often = there g m (omega (arith, is.counted m, sum_by-remove_entry (row_names m) (is_at (nat_cmp n)) g))

-- so a child is there
pub child_there : (g : Nodes) (n m : ℕ) (name : List ℕ) → IsGraph g → child_of (node g n) name ≡ Some m → is_some (node g m) ≡ true
child_there g n m name is e = named_there g n m is (by_node (node g n) e)
  where
    by_node : (o : Option NodeRow) → child_of o name ≡ Some m → 0 < names m o
    by_node None e = absurd (cc e)
    by_node (Some row) e = times_named (entries_of row) name m e

-- a step goes to the child, or ends
body_steps : (b : NodeBody) (name : List ℕ) (k : ℕ) → child_named (body_entries b) name ≡ Some k → (if is_folder_body b then found (child_named (body_entries b) name) else Err NotFolder) ≡ Ok k
body_steps (Folder attrs es) name k e = ap found e
body_steps (Leaf leaf) name k e = absurd (cc e)

body_ends : (b : NodeBody) (name : List ℕ) → child_named (body_entries b) name ≡ None → (why : Walk) × ((if is_folder_body b then found (child_named (body_entries b) name) else Err NotFolder) ≡ Err why)
body_ends (Folder attrs es) name e = (NotFound, ap found e)
body_ends (Leaf leaf) name e = (NotFolder, refl)

child_steps : (o : Option NodeRow) (name : List ℕ) (k : ℕ) → child_of o name ≡ Some k → step o name ≡ Ok k
child_steps None name k e = absurd (cc e)
child_steps (Some row) name k e = body_steps row.body name k e

child_ends : (o : Option NodeRow) (name : List ℕ) → child_of o name ≡ None → (why : Walk) × (step o name ≡ Err why)
child_ends None name e = (NotFound, refl)
child_ends (Some row) name e = body_ends row.body name e

ends_at_root : (n m : ℕ) (o : Option NodeRow) → is_some o ≡ true → (◌≡◌ {A = Result ℕ Walk} (Ok n) (Ok m)) ↔ (option_map (number n) o ≡ Some m)
ends_at_root n m None t = absurd (cc t)
ends_at_root n m (Some row) t = (λ e. cc, λ e. cc)

pub ways_found : (g : Nodes) (n m : ℕ) (p : Names) → IsGraph g → is_some (node g n) ≡ true → (down g n p ≡ Ok m) ↔ (number_at g n p ≡ Some m)
ways_found g n m [] is t = ends_at_root n m (node g n) t
ways_found g n m (name ∷ p) is t =
    elim (child_of (node g n) name) as (λ o. child_of (node g n) name ≡ o → (onward (step (node g n) name) (λ k. down g k p) ≡ Ok m) ↔ (and_then o (λ k. number_at g k p) ≡ Some m)) [
      | None ↦ λ e. (
        λ h. absurd (let ends = child_ends (node g n) name e in apart ends.0 (sym (ap (λ r. onward r (λ k. down g k p)) ends.1) ∙ h)),
        λ h. absurd (cc h),
      )
      | Some k ↦ λ e.
          let goes = ap (λ r. onward r (λ k. down g k p)) (child_steps (node g n) name k e) in
          let rest = ways_found g k m p is (child_there g n k name is e) in
          (λ h. rest.0 (sym goes ∙ h), λ h. goes ∙ rest.1 h)
    ] refl
  where
    apart : (why : Walk) → ◌≡◌ {A = Result ℕ Walk} (Err why) (Ok m) → ⊥
    apart why e = cc
