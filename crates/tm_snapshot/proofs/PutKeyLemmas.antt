-- What each key has after the puts of a finished backup.
use Rattle.std.proofs.Common.{◌≡◌, ◌≢◌, ◌⊎◌, inl, inr, ⊎_elim, ℕ, ◌+◌, ◌-◌, ◌^◌, ◌<◌, ◌≤◌, ◌==◌, Bool, true, false, cond, Option, Some, None, is_some, List, [], nat_eq, refl, sym, ap, ◌∙◌, arith, subst}
use Rattle.std.specs.Prelude.{nat_le, slice_get}
use Rattle.std.specs.List.{AllByRecursion, list_any}
use Rattle.std.specs.Option.{option_map, unwrap_or}
use Rattle.std.proofs.lemmas.Bool.{cases_lt, cases_eq}
use Rattle.std.proofs.lemmas.Bool.Decides.{nat_tests}
use Rattle.tm_world.specs.declared.bytes.Blob.{Blob}
use Rattle.tm_tree.specs.declared.node.NodeRow.{NodeRow}
use Rattle.tm_records.specs.declared.record.Body.{Body}
use Rattle.tm_records.specs.declared.record.Body.TheVariants.{Kept, Empty, New}
use Rattle.tm_records.specs.declared.record.Record.{Record}
use Rattle.tm_records.specs.declared.record.Put.{Put}
use Rattle.tm_records.specs.Records.{Records, at}
use Rattle.tm_records.specs.Puts.{put_record, with_puts}
use Rattle.tm_graph.specs.Nodes.{Nodes, node, entries_of, times}
use Rattle.tm_graph.proofs.Taken.{at as entry}
use Rattle.tm_nodes.specs.Headers.{snapshot_text}
use Rattle.tm_nodes.specs.Nodes.{node_text}
use Rattle.tm_store_records.specs.declared.snapshot.Snapshot.{Snapshot}
use Rattle.tm_store_records.specs.Found.{is_node_key, snapshot_key, node_key}
use Rattle.tm_store_records.specs.Room.{row_of_snapshot}
use Rattle.tm_store_records.proofs.NextKeyLemmas.{le_true, le_false}
use Rattle.tm_snapshot.specs.Puts.{node_put, meta_at, puts_at, root_puts, bare_put, old_puts, snapshot_put, all_puts, body_is_file}
use Rattle.tm_snapshot.proofs.Each.{all_puts_are, all_files, more_of, any_root, any_old, any_bare, any_tree, any_file, any_left, any_right, snapshot_is_put, root_is_put, tree_is_put, file_is_put}
use Rattle.tm_snapshot.proofs.Putting.{Makes, is_put, puts_make}
use Rattle.tm_snapshot.proofs.Readings.{is_node}

abbrev pub new_body : Option Blob → Body
new_body None = Empty
new_body (Some blob) = New blob

-- the data with which a node's record is put
abbrev pub body_at : ℕ → List (ℕ × Blob) → ℕ → Body
body_at last blobs n = cond (nat_le n last) Kept (new_body (entry blobs n))

-- putting a record again changes nothing
twice : (b : Body) (meta : List ℕ) (o : Option Record) → put_record b meta (Some (put_record b meta o)) ≡ put_record b meta o
twice Kept meta None = refl
twice Kept meta (Some r) = refl
twice Empty meta o = refl
twice (New blob) meta o = refl

module _ (g : Nodes) (last : ℕ) (blobs : List (ℕ × Blob)) (s : Snapshot) (R : Records) where
  -- the record of a node
  abbrev pub node_record : ℕ → NodeRow → Record
  node_record n row = put_record (body_at last blobs n) (node_text row) (at (node_key n) R)

  abbrev pub node_wanted : ℕ → Option Record
  node_wanted n = option_map (node_record n) (node g n)

  abbrev pub snapshot_record : Record
  snapshot_record = put_record Empty (snapshot_text (row_of_snapshot s)) None

  -- the record that a key is to have
  abbrev pub wanted : ℕ → Option Record
  wanted k = cond (nat_eq k (snapshot_key s.number)) (Some snapshot_record) (cond (is_node_key k) (node_wanted (k - 2 ^ 62)) (at k R))

  pub wanted_snapshot : wanted (snapshot_key s.number) ≡ Some snapshot_record
  wanted_snapshot =
      let here : nat_eq (snapshot_key s.number) (snapshot_key s.number) ≡ true = grind (arith, nat_tests) in
      ap (λ b. cond b (Some snapshot_record) (cond (is_node_key (snapshot_key s.number)) (node_wanted (snapshot_key s.number - 2 ^ 62)) (at (snapshot_key s.number) R))) here

  pub wanted_other : (k : ℕ) → k ≢ snapshot_key s.number → k < 2 ^ 62 → wanted k ≡ at k R
  wanted_other k ne low =
      let other : nat_eq k (snapshot_key s.number) ≡ false = grind (arith, nat_tests) in
      ap (λ b. cond b (Some snapshot_record) (cond (is_node_key k) (node_wanted (k - 2 ^ 62)) (at k R))) other
      ∙ ap (λ b. cond b (node_wanted (k - 2 ^ 62)) (at k R)) (le_false (2 ^ 62) k low)

  module _ (low : s.number ≤ 2 ^ 40) where
    pub wanted_node : (n : ℕ) → wanted (node_key n) ≡ node_wanted n
    wanted_node n =
        let other : nat_eq (node_key n) (snapshot_key s.number) ≡ false = apart (node_key n) (snapshot_key s.number) (omega (arith, low)) in
        let number : node_key n - 2 ^ 62 ≡ n = omega arith in
        ap (λ b. cond b (Some snapshot_record) (cond (is_node_key (node_key n)) (node_wanted (node_key n - 2 ^ 62)) (at (node_key n) R))) other
        ∙ ap (λ b. cond b (node_wanted (node_key n - 2 ^ 62)) (at (node_key n) R)) (is_node n)
        ∙ ap node_wanted number
      where
        apart : (a b : ℕ) → b < a → nat_eq a b ≡ false
        apart a b lt = grind (arith, nat_tests)

    -- ---- what is put makes it

    makes_node : (n : ℕ) (b : Body) → is_some (node g n) ≡ true → body_at last blobs n ≡ b → Makes R wanted (node_put g n b)
    makes_node n b t body =
        let text = meta_at g n in
        let old = at (node_key n) R in
        let first : Some (put_record b text old) ≡ wanted (node_key n) = ap (λ x. Some (put_record x text old)) (sym body) ∙ by_node (node g n) t ∙ sym (wanted_node n) in
        record { first = first; again = ap (λ (o : Option Record). Some (put_record b text o)) (sym first) ∙ ap (λ (r : Record). Some r) (twice b text old) ∙ first }
      where
        by_node : (o : Option NodeRow) → is_some o ≡ true → Some (put_record (body_at last blobs n) (unwrap_or (option_map node_text o) []) (at (node_key n) R)) ≡ option_map (node_record n) o
        by_node None t = cc
        by_node (Some row) t = refl

    makes_snapshot : Makes R wanted (snapshot_put s)
    makes_snapshot = record { first = sym wanted_snapshot; again = sym wanted_snapshot }

    body_old : (n : ℕ) → n ≤ last → body_at last blobs n ≡ Kept
    body_old n le = ap (λ b. cond b Kept (new_body (entry blobs n))) (le_true n last le)

    body_new : (n : ℕ) → last < n → body_at last blobs n ≡ new_body (entry blobs n)
    body_new n lt = ap (λ b. cond b Kept (new_body (entry blobs n))) (le_false n last lt)

    module _ (count : ℕ) (numbered : (n : ℕ) → is_some (node g n) ≡ true → n ≤ last + count)
        (there : (n q : ℕ) (row : NodeRow) → node g n ≡ Some row → 0 < times q (entries_of row) → is_some (node g q) ≡ true)
        (root_there : is_some (node g s.root) ≡ true)
        (bare : (n : ℕ) (row : NodeRow) → last < n → node g n ≡ Some row → body_is_file row.body ≡ false → entry blobs n ≡ None)
        (files : (n : ℕ) (row : NodeRow) → last < n → node g n ≡ Some row → body_is_file row.body ≡ true → (i : ℕ) × (b : ℕ × Blob) × (slice_get blobs i ≡ Some b) × (b.0 ≡ n))
        (blobs_are : AllByRecursion (λ b. (is_some (node g b.0) ≡ true) × (last < b.0) × (entry blobs b.0 ≡ Some b.1)) blobs)
        (absent : (n : ℕ) → node g n ≡ None → at (node_key n) R ≡ None)
        (stays : (n : ℕ) → n ≤ last → is_some (node g n) ≡ true
        → (n ≡ s.root) ⊎ ((m : ℕ) × (row : NodeRow) × (m < count) × (node g (last + 1 + m) ≡ Some row) × (0 < times n (entries_of row))) ⊎ (at (node_key n) R ≡ node_wanted n)) where
      abbrev puts : List Put
      puts = all_puts g last count blobs s

      pub all_make : AllByRecursion (Makes R wanted) puts
      all_make = all_puts_are g last (Makes R wanted) (λ n le t. makes_node n Kept t (body_old n le)) there
          (λ n row lt e not_file. makes_node n Empty (ap (λ (o : Option NodeRow). is_some o) e) (body_new n lt ∙ ap new_body (bare n row lt e not_file)))
          count blobs s makes_snapshot root_there
          (all_files g last (Makes R wanted) blobs (more_of blobs (λ b is. makes_node b.0 (New b.1) is.0 (body_new b.0 is.1 ∙ ap new_body is.2)) blobs_are))

      key_is : (k : ℕ) → ◌==◌ k k ≡ true
      key_is k = grind (arith, nat_tests)

      by_file : (n : ℕ) → (i : ℕ) × (b : ℕ × Blob) × (slice_get blobs i ≡ Some b) × (b.0 ≡ n) → is_put (node_key n) puts ≡ true
      by_file n at = file_is_put g last (λ p. p.key == node_key n) count blobs s (any_file g last (λ p. p.key == node_key n) blobs at.0 at.1 at.2 (subst (λ k. (node_key k == node_key n) ≡ true) (sym at.3) (key_is (node_key n))))

      by_place : (m : ℕ) → m < count → list_any (λ (p : Put). p.key == node_key (last + 1 + m)) (puts_at g last (last + 1 + m) (node g (last + 1 + m))) ≡ true → is_put (node_key (last + 1 + m)) puts ≡ true
      by_place m low is = tree_is_put g last (λ p. p.key == node_key (last + 1 + m)) count blobs s (any_tree g last (λ p. p.key == node_key (last + 1 + m)) count m low is)

      new_is_put : (n : ℕ) (row : NodeRow) → last < n → node g n ≡ Some row → is_put (node_key n) puts ≡ true
      new_is_put n row lt e = by_test (body_is_file row.body) refl
        where
          place : n ≡ last + 1 + (n - (last + 1))
          place = omega (arith, lt)

          bare_is : (t : Put → Bool) → body_is_file row.body ≡ false → t (node_put g n Empty) ≡ true → list_any t (puts_at g last n (node g n)) ≡ true
          bare_is t not_file is = ap (λ (o : Option NodeRow). list_any t (puts_at g last n o)) e ∙ any_left t (bare_put g n row.body) (old_puts g last (entries_of row)) (any_bare g last t n row.body not_file is)

          by_test : (b : Bool) → body_is_file row.body ≡ b → is_put (node_key n) puts ≡ true
          by_test true t = by_file n (files n row lt e t)
          by_test false t =
              let high = numbered n (ap (λ (o : Option NodeRow). is_some o) e) in
              subst (λ k. is_put (node_key k) puts ≡ true) (sym place)
              (by_place (n - (last + 1)) (omega (arith, lt, high))
              (subst (λ k. list_any (λ (p : Put). p.key == node_key k) (puts_at g last k (node g k)) ≡ true) place (bare_is (λ p. p.key == node_key n) t (key_is (node_key n)))))

      old_is_put : (n : ℕ) → n ≤ last → is_some (node g n) ≡ true → (is_put (node_key n) puts ≡ true) ⊎ (at (node_key n) R ≡ node_wanted n)
      old_is_put n le t = by_case (stays n le t)
        where
          is_key : Put → Bool
          is_key p = p.key == node_key n

          by_case : (n ≡ s.root) ⊎ ((m : ℕ) × (row : NodeRow) × (m < count) × (node g (last + 1 + m) ≡ Some row) × (0 < times n (entries_of row))) ⊎ (at (node_key n) R ≡ node_wanted n)
              → (is_put (node_key n) puts ≡ true) ⊎ (at (node_key n) R ≡ node_wanted n)
          by_case (inl root) = inl (root_is_put g last (λ p. p.key == node_key n) count blobs s
              (subst (λ k. list_any (λ (p : Put). p.key == node_key n) (root_puts g last k) ≡ true) root (any_root g last (λ p. p.key == node_key n) n le (key_is (node_key n)))))
          by_case (inr (inl by)) = inl (tree_is_put g last (λ p. p.key == node_key n) count blobs s (any_tree g last (λ p. p.key == node_key n) count by.0 by.2
              (ap (λ (o : Option NodeRow). list_any (λ (p : Put). p.key == node_key n) (puts_at g last (last + 1 + by.0) o)) by.3
              ∙ any_right (λ p. p.key == node_key n) (bare_put g (last + 1 + by.0) by.1.body) (old_puts g last (entries_of by.1)) (any_old g last (λ p. p.key == node_key n) (entries_of by.1) n le by.4 (key_is (node_key n))))))
          by_case (inr (inr same)) = inr same

      covered_node : (n : ℕ) → (is_put (node_key n) puts ≡ true) ⊎ (at (node_key n) R ≡ wanted (node_key n))
      covered_node n = by_node (node g n) refl
        where
          by_node : (o : Option NodeRow) → node g n ≡ o → (is_put (node_key n) puts ≡ true) ⊎ (at (node_key n) R ≡ wanted (node_key n))
          by_node None e = inr (absent n e ∙ sym (wanted_node n ∙ ap (option_map (node_record n)) e))
          by_node (Some row) e = ⊎_elim
              (λ (above : last < n). inl (new_is_put n row above e))
              (λ (le : n ≤ last). ⊎_elim (λ put. inl put) (λ same. inr (same ∙ sym (wanted_node n))) (old_is_put n le (ap (λ (o : Option NodeRow). is_some o) e)))
              (cases_lt last n)

      covered : (k : ℕ) → (is_put k puts ≡ true) ⊎ (at k R ≡ wanted k)
      covered k = ⊎_elim
          (λ (here : k ≡ snapshot_key s.number). inl (snapshot_is_put g last (λ p. p.key == k) count blobs s (subst (λ q. (snapshot_key s.number == q) ≡ true) (sym here) (key_is (snapshot_key s.number)))))
          (λ (other : k ≢ snapshot_key s.number). ⊎_elim
          (λ (low : k < 2 ^ 62). inr (sym (wanted_other k other low)))
          (λ (high : 2 ^ 62 ≤ k).
          let is : node_key (k - 2 ^ 62) ≡ k = omega (arith, high) in
          subst (λ q. (is_put q puts ≡ true) ⊎ (at q R ≡ wanted q)) is (covered_node (k - 2 ^ 62)))
          (cases_lt k (2 ^ 62)))
          (cases_eq k (snapshot_key s.number))

      -- each key has what is wanted
      pub at_after : (k : ℕ) → at k (with_puts puts R) ≡ wanted k
      at_after = puts_make R wanted puts all_make covered
