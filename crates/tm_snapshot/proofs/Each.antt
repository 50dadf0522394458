-- What holds of each record that is put, and which keys are put.
use Rattle.std.proofs.Common.{zero, suc, ◌≡◌, ⊎_elim, ℕ, ◌+◌, ◌<◌, ◌≤◌, ◌==◌, ◌||◌, Bool, true, false, cond, Option, Some, None, is_some, List, [], ◌∷◌, ◌++◌, refl, sym, ap, ◌∙◌, arith, subst}
use Rattle.std.specs.Prelude.{slice_get}
use Rattle.std.specs.List.{All, AllByRecursion, list_any, cons_option}
use Rattle.std.proofs.lemmas.Bool.{cases_lt}
use Rattle.std.proofs.lemmas.Bool.Decides.{nat_tests}
use Rattle.std.proofs.lemmas.List.Folds.{list_any-append}
use Rattle.std.proofs.lemmas.List.Sums.{sum_by-cons}
use Rattle.tm_world.specs.declared.bytes.Blob.{Blob}
use Rattle.tm_tree.specs.declared.node.Child.{Child}
use Rattle.tm_tree.specs.declared.node.NodeBody.{NodeBody}
use Rattle.tm_tree.specs.declared.node.NodeRow.{NodeRow}
use Rattle.tm_records.specs.declared.record.Body.TheVariants.{Kept, Empty, New}
use Rattle.tm_records.specs.declared.record.Put.{Put}
use Rattle.tm_graph.specs.Nodes.{Nodes, node, entries_of, times}
use Rattle.tm_store_records.specs.declared.snapshot.Snapshot.{Snapshot}
use Rattle.tm_store_records.proofs.NextKeyLemmas.{le_true, le_false}
use Rattle.tm_snapshot.specs.Puts.{node_put, old_put, old_puts, root_puts, bare_put, puts_at, tree_puts, file_puts, snapshot_put, all_puts, body_is_file}
use Rattle.tm_snapshot.proofs.Listing.{tree_puts_more}

pub all_append : {X : Type 0} (P : X → Type 0) (xs ys : List X) → AllByRecursion P xs → AllByRecursion P ys → AllByRecursion P (xs ++ ys)
all_append P [] ys a b = b
all_append P (x ∷ xs) ys a b = (a.0, all_append P xs ys a.1 b)

pub all_of_each : {X : Type 0} (P : X → Type 0) (xs : List X) → AllByRecursion P xs → All P xs
all_of_each P [] a k d low = absurd (omega (arith, low))
all_of_each P (x ∷ xs) a zero d low = a.0
all_of_each P (x ∷ xs) a (suc k) d low = all_of_each P xs a.1 k d (omega (arith, low))

pub more_of : {X : Type 0} {P Q : X → Type 0} (xs : List X) → ((x : X) → P x → Q x) → AllByRecursion P xs → AllByRecursion Q xs
more_of [] f a = tt
more_of (x ∷ xs) f a = (f x a.0, more_of xs f a.1)

suc_is : (n : ℕ) → n + 1 ≡ suc n
suc_is n = omega arith

either_left : (a b : Bool) → a ≡ true → (a || b) ≡ true
either_left true b h = refl
either_left false b h = absurd (cc h)

either_right : (a b : Bool) → b ≡ true → (a || b) ≡ true
either_right true b h = refl
either_right false b h = h

pub any_left : {X : Type 0} (t : X → Bool) (xs ys : List X) → list_any t xs ≡ true → list_any t (xs ++ ys) ≡ true
any_left t xs ys h = list_any-append t xs ys ∙ either_left (list_any t xs) (list_any t ys) h

pub any_right : {X : Type 0} (t : X → Bool) (xs ys : List X) → list_any t ys ≡ true → list_any t (xs ++ ys) ≡ true
any_right t xs ys h = list_any-append t xs ys ∙ either_right (list_any t xs) (list_any t ys) h

head_times : (c : Child) (es : List Child) → 0 < times c.node (c ∷ es)
head_times c es = let more = sum_by-cons (λ (x : Child). cond (x.node == c.node) 1 0) c es in let one : ◌≡◌ {A = ℕ} (cond (c.node == c.node) 1 0) 1 = grind (arith, nat_tests) in omega (arith, more, one)

tail_times : (q : ℕ) (c : Child) (es : List Child) → 0 < times q es → 0 < times q (c ∷ es)
tail_times q c es l = let more = sum_by-cons (λ (x : Child). cond (x.node == q) 1 0) c es in omega (arith, more, l)

module _ (g : Nodes) (last : ℕ) (P : Put → Type 0) where
  -- of the puts of old nodes
  module _ (olds : (n : ℕ) → n ≤ last → is_some (node g n) ≡ true → P (node_put g n Kept)) where
    pub all_root : (n : ℕ) → is_some (node g n) ≡ true → AllByRecursion P (root_puts g last n)
    all_root n t = ⊎_elim
        (λ (above : last < n). subst (λ b. AllByRecursion P (cons_option (cond b (Some (node_put g n Kept)) None) [])) (sym (le_false n last above)) tt)
        (λ (low : n ≤ last). subst (λ b. AllByRecursion P (cons_option (cond b (Some (node_put g n Kept)) None) [])) (sym (le_true n last low)) (olds n low t, tt))
        (cases_lt last n)

    all_old : (es : List Child) → ((q : ℕ) → 0 < times q es → is_some (node g q) ≡ true) → AllByRecursion P (old_puts g last es)
    all_old [] there = tt
    all_old (c ∷ es) there = by_put (old_put g last c.node) (all_root c.node (there c.node (head_times c es))) (all_old es (λ q l. there q (tail_times q c es l)))
      where
        by_put : (o : Option Put) → AllByRecursion P (cons_option o []) → AllByRecursion P (old_puts g last es) → AllByRecursion P (cons_option o (old_puts g last es))
        by_put None a rest = rest
        by_put (Some p) a rest = (a.0, rest)

    module _ (there : (n q : ℕ) (row : NodeRow) → node g n ≡ Some row → 0 < times q (entries_of row) → is_some (node g q) ≡ true)
        (bare : (n : ℕ) (row : NodeRow) → last < n → node g n ≡ Some row → body_is_file row.body ≡ false → P (node_put g n Empty)) where
      all_bare : (n : ℕ) (row : NodeRow) → last < n → node g n ≡ Some row → AllByRecursion P (bare_put g n row.body)
      all_bare n row above e = by_test (body_is_file row.body) refl
        where
          by_test : (b : Bool) → body_is_file row.body ≡ b → AllByRecursion P (cond b [] (node_put g n Empty ∷ []))
          by_test true t = tt
          by_test false t = (bare n row above e t, tt)

      all_at_node : (n : ℕ) → last < n → AllByRecursion P (puts_at g last n (node g n))
      all_at_node n above = by_node (node g n) refl
        where
          by_node : (o : Option NodeRow) → node g n ≡ o → AllByRecursion P (puts_at g last n o)
          by_node None e = tt
          by_node (Some row) e = all_append P (bare_put g n row.body) (old_puts g last (entries_of row)) (all_bare n row above e) (all_old (entries_of row) (λ q l. there n q row e l))

      pub all_tree : (count : ℕ) → AllByRecursion P (tree_puts g last count)
      all_tree zero = tt
      all_tree (suc n) = subst (λ k. AllByRecursion P (tree_puts g last k)) (suc_is n)
          (subst (λ (ps : List Put). AllByRecursion P ps) (sym (tree_puts_more g last n)) (all_append P (tree_puts g last n) _ (all_tree n) (all_at_node (last + 1 + n) (omega arith))))

      pub all_before : (count : ℕ) (s : Snapshot) → P (snapshot_put s) → is_some (node g s.root) ≡ true → AllByRecursion P (snapshot_put s ∷ root_puts g last s.root ++ tree_puts g last count)
      all_before count s snap root = (snap, all_append P (root_puts g last s.root) (tree_puts g last count) (all_root s.root root) (all_tree count))

      pub all_puts_are : (count : ℕ) (blobs : List (ℕ × Blob)) (s : Snapshot) → P (snapshot_put s) → is_some (node g s.root) ≡ true → AllByRecursion P (file_puts g blobs) → AllByRecursion P (all_puts g last count blobs s)
      all_puts_are count blobs s snap root files =
          all_append P (snapshot_put s ∷ root_puts g last s.root ++ tree_puts g last count) (file_puts g blobs) (all_before count s snap root) files

  pub all_files : (blobs : List (ℕ × Blob)) → AllByRecursion (λ b. P (node_put g b.0 (New b.1))) blobs → AllByRecursion P (file_puts g blobs)
  all_files [] a = tt
  all_files (b ∷ blobs) a = (a.0, all_files blobs a.1)

-- ---- which keys are put

module _ (g : Nodes) (last : ℕ) (t : Put → Bool) where
  pub any_root : (n : ℕ) → n ≤ last → t (node_put g n Kept) ≡ true → list_any t (root_puts g last n) ≡ true
  any_root n low is = ap (λ b. list_any t (cons_option (cond b (Some (node_put g n Kept)) None) [])) (le_true n last low) ∙ either_left (t (node_put g n Kept)) false is

  pub any_old : (es : List Child) (n : ℕ) → n ≤ last → 0 < times n es → t (node_put g n Kept) ≡ true → list_any t (old_puts g last es) ≡ true
  any_old [] n low l is = absurd (omega (arith, l))
  any_old (c ∷ es) n low l is = by_test (c.node == n) refl (λ later. any_old es n low later is)
    where
      more : (o : Option Put) → list_any t (old_puts g last es) ≡ true → list_any t (cons_option o (old_puts g last es)) ≡ true
      more None h = h
      more (Some p) h = either_right (t p) (list_any t (old_puts g last es)) h

      by_test : (b : Bool) → (c.node == n) ≡ b → (0 < times n es → list_any t (old_puts g last es) ≡ true) → list_any t (cons_option (old_put g last c.node) (old_puts g last es)) ≡ true
      by_test true e rest =
          let same : c.node ≡ n = grind (arith, nat_tests) in
          subst (λ k. list_any t (cons_option (old_put g last k) (old_puts g last es)) ≡ true) (sym same)
          (ap (λ b. list_any t (cons_option (cond b (Some (node_put g n Kept)) None) (old_puts g last es))) (le_true n last low) ∙ either_left (t (node_put g n Kept)) (list_any t (old_puts g last es)) is)
      by_test false e rest =
          let none : ◌≡◌ {A = ℕ} (cond (c.node == n) 1 0) 0 = ap (λ b. cond b 1 0) e in
          more (old_put g last c.node) (rest (omega (arith, l, none, sum_by-cons (λ (x : Child). cond (x.node == n) 1 0) c es)))

  pub any_bare : (n : ℕ) (body : NodeBody) → body_is_file body ≡ false → t (node_put g n Empty) ≡ true → list_any t (bare_put g n body) ≡ true
  any_bare n body not_file is = ap (λ b. list_any t (cond b [] (node_put g n Empty ∷ []))) not_file ∙ either_left (t (node_put g n Empty)) false is

  pub any_tree : (count m : ℕ) → m < count → list_any t (puts_at g last (last + 1 + m) (node g (last + 1 + m))) ≡ true → list_any t (tree_puts g last count) ≡ true
  any_tree zero m low h = absurd (omega (arith, low))
  any_tree (suc n) m low h = subst (λ k. list_any t (tree_puts g last k) ≡ true) (suc_is n) (ap (list_any t) (tree_puts_more g last n) ∙ ⊎_elim
      (λ (before : m < n). any_left t (tree_puts g last n) (puts_at g last (last + 1 + n) (node g (last + 1 + n))) (any_tree n m before h))
      (λ (here : n ≤ m).
      let same : m ≡ n = omega (arith, low, here) in
      any_right t (tree_puts g last n) (puts_at g last (last + 1 + n) (node g (last + 1 + n))) (subst (λ k. list_any t (puts_at g last (last + 1 + k) (node g (last + 1 + k))) ≡ true) same h))
      (cases_lt m n))

  pub any_file : (blobs : List (ℕ × Blob)) (i : ℕ) (b : ℕ × Blob) → slice_get blobs i ≡ Some b → t (node_put g b.0 (New b.1)) ≡ true → list_any t (file_puts g blobs) ≡ true
  any_file [] i b is h = absurd (cc is)
  any_file (c ∷ blobs) zero b is h = let same : c ≡ b = cc in either_left (t (node_put g c.0 (New c.1))) (list_any t (file_puts g blobs)) (subst (λ (x : ℕ × Blob). t (node_put g x.0 (New x.1)) ≡ true) (sym same) h)
  any_file (c ∷ blobs) (suc i) b is h = either_right (t (node_put g c.0 (New c.1))) (list_any t (file_puts g blobs)) (any_file blobs i b is h)

  module _ (count : ℕ) (blobs : List (ℕ × Blob)) (s : Snapshot) where
    pub snapshot_is_put : t (snapshot_put s) ≡ true → list_any t (all_puts g last count blobs s) ≡ true
    snapshot_is_put is = either_left (t (snapshot_put s)) _ is

    pub root_is_put : list_any t (root_puts g last s.root) ≡ true → list_any t (all_puts g last count blobs s) ≡ true
    root_is_put is = either_right (t (snapshot_put s)) _ (any_left t (root_puts g last s.root ++ tree_puts g last count) (file_puts g blobs) (any_left t (root_puts g last s.root) (tree_puts g last count) is))

    pub tree_is_put : list_any t (tree_puts g last count) ≡ true → list_any t (all_puts g last count blobs s) ≡ true
    tree_is_put is = either_right (t (snapshot_put s)) _ (any_left t (root_puts g last s.root ++ tree_puts g last count) (file_puts g blobs) (any_right t (root_puts g last s.root) (tree_puts g last count) is))

    pub file_is_put : list_any t (file_puts g blobs) ≡ true → list_any t (all_puts g last count blobs s) ≡ true
    file_is_put is = either_right (t (snapshot_put s)) _ (any_right t (root_puts g last s.root ++ tree_puts g last count) (file_puts g blobs) is)
