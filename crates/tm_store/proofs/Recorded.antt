-- The record of a node.
use Rattle.std.proofs.Common.{◌≡◌, ◌≢◌, ⊎_elim, ℕ, ◌-◌, ◌^◌, ◌≤◌, ◌==◌, ◌&&◌, Bool, true, false, cond, Option, Some, None, is_some, [], ◌∷◌, length, refl, sym, ap, ◌∙◌, arith}
use Rattle.std.specs.Prelude.{nat_le}
use Rattle.std.specs.List.{cons_option}
use Rattle.std.specs.Option.{option_map, unwrap_or}
use Rattle.std.proofs.lemmas.Bool.{cases_eq}
use Rattle.std.proofs.lemmas.Bool.Decides.{nat_tests}
use Rattle.tm_base.specs.Limits.{max_file_bytes}
use Rattle.tm_graph.specs.Nodes.{node}
use Rattle.tm_graph.proofs.Same.{at-mapped}
use Rattle.tm_identity.specs.Stored.{node_length, body_length}
use Rattle.tm_nodes.specs.Laws.{FindsSpelled}
use Rattle.tm_nodes.specs.Nodes.{HasNodeSize, IsNodeOfSize, node_text}
use Rattle.tm_nodes.specs.Records.{node_of, machine_of, snapshot_of}
use Rattle.tm_tree.specs.declared.node.LeafRow.TheVariants.{File, Link}
use Rattle.tm_tree.specs.declared.node.NodeBody.{NodeBody}
use Rattle.tm_tree.specs.declared.node.NodeBody.TheVariants.{Folder, Leaf}
use Rattle.tm_tree.specs.declared.node.NodeRow.{NodeRow}
use Rattle.tm_records.specs.declared.record.Record.{Record}
use Rattle.tm_records.specs.Records.{Records, at}
use Rattle.tm_store_records.specs.Heads.{RecordHead, RecordHeads, heads_of, head_at}
use Rattle.tm_store_records.specs.Found.{node_key, is_node_key, is_snapshot_key, node_in, nodes_in}
use Rattle.tm_store_records.specs.Rules.{most_of, reads_node, is_record}
use Rattle.tm_store_records.proofs.NextKeyLemmas.{Sorted, at_same, at_other, head_above, tail_sorted, none_below}

-- what is found in bytes is the node that they spell
abbrev pub NodesAreFound : Type 0
NodesAreFound = (size : ℕ) → FindsSpelled (λ meta. node_of meta size) node_text (IsNodeOfSize size)

abbrev RecordsNode : ℕ → RecordHead → ℕ × NodeRow → Type 0
RecordsNode key head e = (key ≡ node_key e.0) × (node_of head.meta head.size ≡ Some e.1)

-- a record that stands for a node has the node's key
records_node : (key : ℕ) (head : RecordHead) (e : ℕ × NodeRow) → node_in (key, head) ≡ Some e → RecordsNode key head e
records_node key head e is = by_test (is_node_key key) refl is
  where
    by_row : (o : Option NodeRow) → node_of head.meta head.size ≡ o → 2 ^ 62 ≤ key → option_map (λ row. (key - 2 ^ 62, row)) o ≡ Some e → (key ≡ node_key e.0) × (node_of head.meta head.size ≡ Some e.1)
    by_row None r le is = absurd (cc is)
    by_row (Some row) r le is =
        let same : (key - 2 ^ 62, row) ≡ e = cc in
        let number : key - 2 ^ 62 ≡ e.0 = ap (λ (x : ℕ × NodeRow). x.0) same in
        (omega (arith, number, le), r ∙ ap (λ (x : ℕ × NodeRow). Some x.1) same)

    by_test : (b : Bool) → is_node_key key ≡ b → cond b (option_map (λ row. (key - 2 ^ 62, row)) (node_of head.meta head.size)) None ≡ Some e → (key ≡ node_key e.0) × (node_of head.meta head.size ≡ Some e.1)
    by_test false t is = absurd (cc is)
    by_test true t is = by_row (node_of head.meta head.size) refl (grind (arith, nat_tests)) is

record HasHead (heads : RecordHeads) (n : ℕ) (row : NodeRow) : Type 0 where
  head : RecordHead
  is : head_at (node_key n) heads ≡ Some head
  reads : node_of head.meta head.size ≡ Some row

later : (x : ℕ × RecordHead) (heads : RecordHeads) (n : ℕ) (row : NodeRow) → Sorted (x ∷ heads) → HasHead heads n row → HasHead (x ∷ heads) n row
later x heads n row sorted has = record {
  head = has.head;
  is = ap (λ b. cond b (Some x.1) (head_at (node_key n) heads)) (at_other (node_key n) x.0 (λ same.
      absurd (let none : None ≡ Some has.head = sym (none_below x.0 (node_key n) heads (head_above x heads sorted) (omega (arith, same))) ∙ has.is in cc))) ∙ has.is;
  reads = has.reads;
}

-- the node of a number has a record
head_found : (heads : RecordHeads) (n : ℕ) (row : NodeRow) → Sorted heads → node (nodes_in heads) n ≡ Some row → HasHead heads n row
head_found [] n row sorted is = absurd (cc is)
head_found (x ∷ heads) n row sorted is = by_node (head_found heads n row (tail_sorted x heads sorted)) (node_in x) refl is
  where
    here : (e : ℕ × NodeRow) → node_in x ≡ Some e → n ≡ e.0 → e.1 ≡ row → HasHead (x ∷ heads) n row
    here e found same value =
        let both = records_node x.0 x.1 e found in
        record {
          head = x.1;
          is = ap (λ b. cond b (Some x.1) (head_at (node_key n) heads)) (at_same (node_key n) x.0 (omega (arith, both.0, same)));
          reads = both.1 ∙ ap (λ r. Some r) value;
        }

    by_node : (node (nodes_in heads) n ≡ Some row → HasHead heads n row) → (o : Option (ℕ × NodeRow)) → node_in x ≡ o → node (cons_option o (nodes_in heads)) n ≡ Some row → HasHead (x ∷ heads) n row
    by_node below None e is = later x heads n row sorted (below is)
    by_node below (Some e) found is = ⊎_elim
        (λ (same : n ≡ e.0).
        let first : Some e.1 ≡ Some row = sym (ap (λ b. cond b (Some e.1) (node (nodes_in heads) n)) (at_same n e.0 same)) ∙ is in
        here e found same cc)
        (λ (other : n ≢ e.0). later x heads n row sorted (below (sym (ap (λ b. cond b (Some e.1) (node (nodes_in heads) n)) (at_other n e.0 other)) ∙ is)))
        (cases_eq n e.0)

-- ---- its bytes

-- a record at a node's key keeps to the bytes that a node may have
reads_kept : (n : ℕ) (head : RecordHead) → is_record (node_key n) head ≡ true → reads_node head ≡ true
reads_kept n head is =
    let first : (node_key n == 1) ≡ false = grind (arith, nat_tests) in
    let second : is_snapshot_key (node_key n) ≡ false = grind (arith, nat_tests) in
    let third : is_node_key (node_key n) ≡ true = grind (arith, nat_tests) in
    sym (λ i. cond (first i) (is_some (machine_of head.meta) && (head.size == 0)) (cond (second i) (is_some (snapshot_of head.meta) && (head.size == 0)) (cond (third i) (reads_node head) false))) ∙ is

size_kept : (head : RecordHead) (row : NodeRow) → node_of head.meta head.size ≡ Some row → reads_node head ≡ true → head.size ≤ most_of row.body
size_kept head row is reads =
    let test : nat_le head.size (most_of row.body) ≡ true = sym (ap (λ o. unwrap_or (option_map (λ (row : NodeRow). nat_le head.size (most_of row.body)) o) false) is) ∙ reads in
    grind (arith, nat_tests)

size_is : (size : ℕ) (row : NodeRow) (body : NodeBody) → row.body ≡ body → HasNodeSize size body → size ≤ most_of body → (size ≡ node_length row) × (size ≤ max_file_bytes)
size_is size row (Folder attrs entries) is has most = (sym (ap body_length is ∙ omega (arith, most)), omega (arith, most))
size_is size row (Leaf (File attrs stamp length)) is has most = (sym has ∙ sym (ap body_length is), most)
size_is size row (Leaf (Link attrs stamp target)) is has most = (sym (ap body_length is ∙ omega (arith, most)), omega (arith, most))

-- a record of a node has as many bytes as the node says, and no more than a file may have
sized : NodesAreFound → (heads : RecordHeads) (n : ℕ) (row : NodeRow) → Sorted heads → ((key : ℕ) (head : RecordHead) → head_at key heads ≡ Some head → is_record key head ≡ true) → node (nodes_in heads) n ≡ Some row
    → (head : RecordHead) × (head_at (node_key n) heads ≡ Some head) × (head.size ≡ node_length row) × (head.size ≤ max_file_bytes)
sized law heads n row sorted each is =
    let has = head_found heads n row sorted is in
    let most = size_kept has.head row has.reads (reads_kept n has.head (each (node_key n) has.head has.is)) in
    let both = size_is has.head.size row row.body refl ((law has.head.size has.head.meta row).0 has.reads).rules.size_is most in
    (has.head, has.is, both.0, both.1)

abbrev head_of : Record → RecordHead
head_of r = record { meta = r.meta; size = r.length }

-- the same of the records in memory
pub record_there : NodesAreFound → (records : Records) (n : ℕ) (row : NodeRow) → Sorted (heads_of records) → ((key : ℕ) (head : RecordHead) → head_at key (heads_of records) ≡ Some head → is_record key head ≡ true)
    → node (nodes_in (heads_of records)) n ≡ Some row → (r : Record) × (at (node_key n) records ≡ Some r) × (r.length ≡ node_length row)
record_there law records n row sorted each is =
    let found = sized law (heads_of records) n row sorted each is in
    by_record found.0 (at (node_key n) records) refl (sym (at-mapped (λ (k : ℕ) (r : Record). head_of r) records (node_key n)) ∙ found.1) found.2
  where
    by_record : (head : RecordHead) (o : Option Record) → at (node_key n) records ≡ o → option_map head_of o ≡ Some head → head.size ≡ node_length row → (r : Record) × (at (node_key n) records ≡ Some r) × (r.length ≡ node_length row)
    by_record head None e is size = absurd (cc is)
    by_record head (Some r) e is size =
        let same : head_of r ≡ head = cc in
        (r, e, ap (λ (h : RecordHead). h.size) same ∙ size)

pub small_node : NodesAreFound → (heads : RecordHeads) (n : ℕ) (row : NodeRow) → Sorted heads → ((key : ℕ) (head : RecordHead) → head_at key heads ≡ Some head → is_record key head ≡ true) → node (nodes_in heads) n ≡ Some row → node_length row ≤ max_file_bytes
small_node law heads n row sorted each is = let found = sized law heads n row sorted each is in omega (arith, found.2, found.3)
