-- Nodes as they are read: by rising number, each with entries by rising name.
use Rattle.std.proofs.Common.{zero, suc, ◌≡◌, ℕ, ◌+◌, ◌-◌, ◌^◌, ◌<◌, ◌≤◌, Bool, true, false, cond, Option, Some, None, List, [], ◌∷◌, length, slice_get, refl, ap, ◌∙◌, arith}
use Rattle.std.specs.Prelude.{nat_le}
use Rattle.std.specs.declared.cmp.Ordering.TheVariants.{Less}
use Rattle.std.specs.Ordering.{nat_cmp}
use Rattle.std.specs.List.{AllByRecursion, filter_map, cons_option}
use Rattle.std.specs.List.Sorted.{IsStrictlySortedBy}
use Rattle.std.specs.Map.{keys_of}
use Rattle.std.specs.Option.{option_map}
use Rattle.std.proofs.lemmas.Bool.Decides.{nat_tests}
use Rattle.tm_tree.specs.declared.node.NodeBody.{NodeBody}
use Rattle.tm_tree.specs.declared.node.NodeBody.TheVariants.{Folder, Leaf}
use Rattle.tm_tree.specs.declared.node.NodeRow.{NodeRow}
use Rattle.tm_graph.specs.Nodes.{body_entries, NamesRise}
use Rattle.tm_nodes.specs.Laws.{FindsSpelled}
use Rattle.tm_nodes.specs.Nodes.{node_text, IsNodeTail, IsNodeOfSize}
use Rattle.tm_nodes.specs.Records.{node_of}
use Rattle.tm_store_records.specs.Heads.{RecordHead, RecordHeads}
use Rattle.tm_store_records.specs.Found.{is_node_key, node_in, nodes_in}
use Rattle.tm_store_records.specs.Located.{AllRise}
use Rattle.tm_store_records.proofs.NextKeyLemmas.{Sorted, head_above, tail_sorted, less_lt, lt_less}

-- what is given of a list is given of one of its elements
pub record Given {X Y : Type 0} (f : X → Option Y) (xs : List X) (y : Y) : Type 0 where
  pub place : ℕ
  pub from : X
  pub stands : slice_get xs place ≡ Some from
  pub is : f from ≡ Some y

pub given : {X Y : Type 0} (f : X → Option Y) (xs : List X) (i : ℕ) (y : Y) → slice_get (filter_map f xs) i ≡ Some y → Given f xs y
given f [] i y is = absurd (cc is)
given {X} {Y} f (x ∷ xs) i y is = by_value (f x) refl i is (λ j at. later (given f xs j y at))
  where
    later : Given f xs y → Given f (x ∷ xs) y
    later rest = record { place = suc rest.place; from = rest.from; stands = rest.stands; is = rest.is }

    by_value : (o : Option Y) → f x ≡ o → (j : ℕ) → slice_get (cons_option o (filter_map f xs)) j ≡ Some y → ((k : ℕ) → slice_get (filter_map f xs) k ≡ Some y → Given f (x ∷ xs) y) → Given f (x ∷ xs) y
    by_value None e j at after = after j at
    by_value (Some z) e zero at after = let same : z ≡ y = cc in record { place = 0; from = x; stands = refl; is = e ∙ ap (λ (v : Y). Some v) same }
    by_value (Some z) e (suc j) at after = after j at

-- ---- the record of a node

pub record IsRead (e : ℕ × NodeRow) (head : ℕ × RecordHead) : Type 0 where
  pub key : head.0 ≡ 2 ^ 62 + e.0
  pub row : node_of head.1.meta head.1.size ≡ Some e.1

at_least : (a b : ℕ) → nat_le a b ≡ true → a ≤ b
at_least a b t = grind (arith, nat_tests)

pub read_from : (head : ℕ × RecordHead) (e : ℕ × NodeRow) → node_in head ≡ Some e → IsRead e head
read_from head e is = by_key (is_node_key head.0) refl is
  where
    some_row : (o : Option NodeRow) → option_map (λ row. (head.0 - 2 ^ 62, row)) o ≡ Some e → (head.0 - 2 ^ 62 ≡ e.0) × (o ≡ Some e.1)
    some_row None h = absurd (cc h)
    some_row (Some row) h = let pair : (head.0 - 2 ^ 62, row) ≡ e = cc in (ap (λ (x : ℕ × NodeRow). x.0) pair, ap (λ (x : ℕ × NodeRow). Some x.1) pair)

    by_key : (b : Bool) → is_node_key head.0 ≡ b → cond b (option_map (λ row. (head.0 - 2 ^ 62, row)) (node_of head.1.meta head.1.size)) None ≡ Some e → IsRead e head
    by_key true t h =
        let both = some_row (node_of head.1.meta head.1.size) h in
        let low : 2 ^ 62 ≤ head.0 = at_least (2 ^ 62) head.0 t in
        record { key = omega (arith, low, both.0); row = both.1 }
    by_key false t h = absurd (cc h)

-- ---- names rise

tail_rises : (body : NodeBody) → IsNodeTail body → NamesRise (body_entries body)
unfolding IsStrictlySortedBy
tail_rises (Folder attrs entries) tail = tail.rising
tail_rises (Leaf leaf) tail = none_rise
  where
    none_rise : NamesRise []
    none_rise = tt

-- what `spellings_are_found` of tm_nodes says of nodes
abbrev pub NodesAreFound : Type 0
NodesAreFound = (size : ℕ) → FindsSpelled (λ meta. node_of meta size) node_text (IsNodeOfSize size)

pub nodes_rise : NodesAreFound → (heads : RecordHeads) → AllRise (nodes_in heads)
nodes_rise found heads place e is =
    let from = given node_in heads place e is in
    let read = read_from from.from e from.is in
    let spelled = (found from.from.1.size from.from.1.meta e.1).0 read.row in tail_rises e.1.body spelled.rules.rules.tail

-- a folder's entries are counted in 32 bits
tail_short : (body : NodeBody) → IsNodeTail body → length (body_entries body) < 2 ^ 32
tail_short (Folder attrs entries) tail = tail.few
tail_short (Leaf leaf) tail = omega arith

pub nodes_short : NodesAreFound → (heads : RecordHeads) (place : ℕ) (e : ℕ × NodeRow) → slice_get (nodes_in heads) place ≡ Some e → length (body_entries e.1.body) < 2 ^ 32
nodes_short found heads place e is =
    let from = given node_in heads place e is in
    let read = read_from from.from e from.is in
    let spelled = (found from.from.1.size from.from.1.meta e.1).0 read.row in tail_short e.1.body spelled.rules.rules.tail

-- ---- numbers rise

above_each : (low k : ℕ) (heads : RecordHeads) → k ≡ 2 ^ 62 + low → AllByRecursion (λ y. nat_cmp k y ≡ Less) (keys_of heads) → AllByRecursion (λ y. nat_cmp low y ≡ Less) (keys_of (nodes_in heads))
above_each low k [] is above = tt
above_each low k (head ∷ heads) is above = by_value (node_in head) refl (above_each low k heads is above.1)
  where
    by_value : (o : Option (ℕ × NodeRow)) → node_in head ≡ o → AllByRecursion (λ y. nat_cmp low y ≡ Less) (keys_of (nodes_in heads)) → AllByRecursion (λ y. nat_cmp low y ≡ Less) (keys_of (cons_option o (nodes_in heads)))
    by_value None e rest = rest
    by_value (Some node) e rest =
        let read = read_from head node e in
        let less = less_lt k head.0 above.0 in
        (lt_less low node.0 (let key = read.key in omega (arith, key, less, is)), rest)

pub nodes_sorted : (heads : RecordHeads) → Sorted heads → Sorted (nodes_in heads)
unfolding IsStrictlySortedBy
nodes_sorted [] sorted = tt
nodes_sorted (head ∷ heads) sorted = by_value (node_in head) refl (nodes_sorted heads (tail_sorted head heads sorted))
  where
    by_value : (o : Option (ℕ × NodeRow)) → node_in head ≡ o → Sorted (nodes_in heads) → Sorted (cons_option o (nodes_in heads))
    by_value None e rest = rest
    by_value (Some node) e rest = (above_each node.0 head.0 heads (let read = read_from head node e in read.key) (head_above head heads sorted), rest)
