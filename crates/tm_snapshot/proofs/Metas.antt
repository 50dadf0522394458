-- How long the metas of nodes and snapshots can be.
use Rattle.std.proofs.Common.{◌≡◌, ◌==◌, ℕ, suc, ◌+◌, ◌*◌, ◌^◌, ◌<◌, ◌≤◌, Bool, true, false, cond, List, [], ◌∷◌, ◌++◌, length, map, Option, Some, None, is_some, nat_eq, refl, sym, ap, ◌∙◌, arith, subst, length-append, ◌||◌}
use Rattle.std.specs.List.{All, AllByRecursion, IsDistinct, list_any, sum_by, flat_map}
use Rattle.std.specs.Map.{lookup}
use Rattle.std.specs.Option.{IsSome}
use Rattle.std.proofs.lemmas.Bool.Decides.{nat_tests}
use Rattle.std.proofs.lemmas.Cmp.{nat_eq_equiv}
use Rattle.std.proofs.lemmas.List.Sums.{sum_by-cons}
use Rattle.std.proofs.lemmas.List.Concat.{length-flat_map}
use Rattle.std.proofs.lemmas.Map.Steps.{length-le_from_keys}
use Rattle.tm_base.specs.Limits.{max_nodes}
use Rattle.tm_codec.specs.Fields.{u8_text, u16_text, u32_text, u64_text, u128_text, short_text, long_text}
use Rattle.tm_codec.proofs.Fields.{length-u8_text, length-u16_text, length-u32_text, length-u64_text, length-u128_text, length-short_text, length-long_text}
use Rattle.tm_tree.specs.declared.attrs.Attrs.{Attrs}
use Rattle.tm_tree.specs.declared.node.Child.{Child}
use Rattle.tm_tree.specs.declared.node.LeafRow.TheVariants.{File, Link}
use Rattle.tm_tree.specs.declared.node.NodeBody.{NodeBody}
use Rattle.tm_tree.specs.declared.node.NodeBody.TheVariants.{Folder, Leaf}
use Rattle.tm_tree.specs.declared.node.NodeRow.{NodeRow}
use Rattle.tm_graph.specs.Nodes.{Nodes, node, times, entries_of, body_entries, with_links}
use Rattle.tm_graph.proofs.Taken.{at_is}
use Rattle.tm_nodes.specs.declared.kind.Kind.{Kind}
use Rattle.tm_nodes.specs.declared.snapshot.SnapshotRow.{SnapshotRow}
use Rattle.tm_nodes.specs.Attrs.{extra_text, attrs_text, IsExtra, IsAttrs}
use Rattle.tm_nodes.specs.Headers.{snapshot_text, IsSnapshotRow}
use Rattle.tm_nodes.specs.Kinds.{kind_text, kind_number}
use Rattle.tm_nodes.specs.Nodes.{node_text, node_kind, node_attrs, node_tail, child_text, entries_text, IsChild, IsNodeRow, IsNodeTail}
use Rattle.tm_nodes.proofs.Lengths.{attrs_length, sum_bounded}

-- ---- attributes

-- ---- nodes

kind_len : (k : Kind) → length (kind_text k) ≡ 1
unfolding kind_text
kind_len k = length-u8_text (kind_number k)

child_len : (c : Child) → IsChild c → length (child_text c) ≤ 264
unfolding child_text
child_len c is = omega (arith, length-append (short_text c.name) (u64_text c.node), length-short_text c.name, length-u64_text c.node, is.name.short)

entries_len : (es : List Child) → All IsChild es → length es ≤ max_nodes → length (entries_text es) ≤ 2 ^ 27
unfolding entries_text
entries_len es each few =
    let all = sum_bounded (λ (c : Child). length (child_text c)) 264 IsChild child_len es each in
    omega (arith, length-append (u32_text (length es)) (flat_map child_text es), length-u32_text (length es), length-flat_map child_text es, all, few)

tail_len : (b : NodeBody) → IsNodeTail b → length (body_entries b) ≤ max_nodes → length (node_tail b) ≤ 2 ^ 27
tail_len (Folder attrs entries) tail few = entries_len entries tail.each few
tail_len (Leaf (File attrs stamp size)) tail few = omega (arith, length-u64_text stamp)
tail_len (Leaf (Link attrs stamp target)) tail few = omega (arith, length-append (u64_text stamp) (long_text target), length-u64_text stamp, length-long_text target, tail.1.short)

-- the label and the links have eight bytes
parts_len : (row : NodeRow) → length (node_text row) ≡ 17 + length (attrs_text (node_attrs row.body)) + length (node_tail row.body)
unfolding node_text
parts_len row =
    let k = kind_text (node_kind row.body) in
    let l = u64_text row.label in
    let n = u64_text row.links in
    let a = attrs_text (node_attrs row.body) in
    omega (
      arith,
      length-append (k ++ l ++ n ++ a) (node_tail row.body),
      length-append (k ++ l ++ n) a,
      length-append (k ++ l) n,
      length-append k l,
      kind_len (node_kind row.body),
      length-u64_text row.label,
      length-u64_text row.links,
    )

pub node_meta_short : (row : NodeRow) → IsNodeRow row → length (entries_of row) ≤ max_nodes → length (node_text row) < 2 ^ 32
node_meta_short row is few = omega (arith, parts_len row, attrs_length (node_attrs row.body) is.attrs, tail_len row.body is.tail few)

-- links are no part of it
pub same_len : (row : NodeRow) (links : ℕ) → length (node_text (with_links row links)) ≡ length (node_text row)
same_len row links = parts_len (with_links row links) ∙ sym (parts_len row)

-- ---- snapshots

pub snapshot_meta_short : (row : SnapshotRow) → IsSnapshotRow row → length (snapshot_text row) < 2 ^ 32
unfolding snapshot_text
snapshot_meta_short row is =
    let d = u64_text row.date in
    let i = u128_text row.id in
    let g = u64_text row.mark.generation in
    let c = u64_text row.mark.cursor in
    let v = short_text row.volume in
    let r = u64_text row.root in
    omega (
      arith,
      length-append (d ++ i ++ g ++ c ++ v) r,
      length-append (d ++ i ++ g ++ c) v,
      length-append (d ++ i ++ g) c,
      length-append (d ++ i) g,
      length-append d i,
      length-u64_text row.date,
      length-u128_text row.id,
      length-u64_text row.mark.generation,
      length-u64_text row.mark.cursor,
      length-short_text row.volume,
      length-u64_text row.root,
      is.volume.short,
    )

-- ---- no folder has more entries than there are nodes

abbrev numbers : List Child → List ℕ
numbers es = map (λ c. c.node) es

tail_once : (m : ℕ) (c : Child) (es : List Child) → times m (c ∷ es) ≤ 1 → times m es ≤ 1
tail_once m c es l = omega (arith, l, sum_by-cons (λ (x : Child). cond (x.node == m) 1 0) c es)

head_once : (c : Child) (es : List Child) → times c.node (c ∷ es) ≤ 1 → times c.node es ≡ 0
head_once c es l = let one : ◌≡◌ {A = ℕ} (cond (c.node == c.node) 1 0) 1 = grind (arith, nat_tests) in omega (arith, l, one, sum_by-cons (λ (x : Child). cond (x.node == c.node) 1 0) c es)

none_same : (m : ℕ) (es : List Child) → times m es ≡ 0 → AllByRecursion (λ y. nat_eq m y ≡ false) (numbers es)
none_same m [] none = tt
none_same m (c ∷ es) none = (by_test (c.node == m) refl, none_same m es (omega (arith, none, sum_by-cons (λ (x : Child). cond (x.node == m) 1 0) c es)))
  where
    by_test : (b : Bool) → (c.node == m) ≡ b → nat_eq m c.node ≡ false
    by_test true t = let one : ◌≡◌ {A = ℕ} (cond (c.node == m) 1 0) 1 = ap (λ b. cond b 1 0) t in absurd (omega (arith, none, one, sum_by-cons (λ (x : Child). cond (x.node == m) 1 0) c es))
    by_test false t = grind (arith, nat_tests)

distinct : (es : List Child) → ((m : ℕ) → times m es ≤ 1) → IsDistinct nat_eq (numbers es)
unfolding IsDistinct
distinct [] once = tt
distinct (c ∷ es) once = (none_same c.node es (head_once c es (once c.node)), distinct es (λ m. tail_once m c es (once m)))

named_of : (q : ℕ) (es : List Child) → list_any (nat_eq q) (numbers es) ≡ true → 0 < times q es
named_of q [] h = absurd (cc h)
named_of q (c ∷ es) h = by_test (nat_eq q c.node) refl h (λ later. named_of q es later)
  where
    by_test : (b : Bool) → nat_eq q c.node ≡ b → (b || list_any (nat_eq q) (numbers es)) ≡ true → (list_any (nat_eq q) (numbers es) ≡ true → 0 < times q es) → 0 < times q (c ∷ es)
    by_test true t h rest = let same : (c.node == q) ≡ true = grind (arith, nat_tests) in let one : ◌≡◌ {A = ℕ} (cond (c.node == q) 1 0) 1 = ap (λ b. cond b 1 0) same in omega (arith, one, sum_by-cons (λ (x : Child). cond (x.node == q) 1 0) c es)
    by_test false t h rest = let more = rest h in omega (arith, more, sum_by-cons (λ (x : Child). cond (x.node == q) 1 0) c es)

some_found : (o : Option NodeRow) → is_some o ≡ true → IsSome o
some_found None t = cc
some_found (Some row) t = search

pub few_entries : (g : Nodes) (es : List Child) → ((m : ℕ) → times m es ≤ 1) → ((q : ℕ) → 0 < times q es → is_some (node g q) ≡ true) → length es ≤ length g
few_entries g es once there =
    let few : length (numbers es) ≤ length g = length-le_from_keys nat_eq_equiv (numbers es) g (distinct es once)
    (λ q h. subst (λ (o : Option NodeRow). IsSome o) (λ i. lookup (λ k. at_is q k i) g) (some_found (node g q) (there q (named_of q es h)))) in
    omega (arith, few, length_numbers es)
  where
    length_numbers : (es : List Child) → length (numbers es) ≡ length es
    length_numbers [] = refl
    length_numbers (c ∷ es) = ap suc (length_numbers es)
