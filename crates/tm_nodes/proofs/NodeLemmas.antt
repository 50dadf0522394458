-- Nodes: what reading gives.
use Rattle.std.proofs.Common.{◌≡◌, ℕ, List, [], ◌++◌, length, Option, None, Result, refl, sym, ◌∙◌, ap, append_assoc}
use Rattle.std.specs.Prelude.{option_map}
use Rattle.std.proofs.lemmas.Cmp.{nat_list_cmp_total}
use Rattle.std.proofs.lemmas.List.{append-nil}
use Rattle.std.proofs.lemmas.List.Elements.{All-from_recursion}
use Rattle.tm_base.specs.Paths.{name_cmp}
use Rattle.tm_codec.specs.Fields.{u64_text, short_text}
use Rattle.tm_tree.specs.declared.attrs.Attrs.{Attrs}
use Rattle.tm_tree.specs.declared.node.Child.{Child}
use Rattle.tm_tree.specs.declared.node.LeafRow.{LeafRow}
use Rattle.tm_tree.specs.declared.node.LeafRow.TheVariants as leaf
use Rattle.tm_tree.specs.declared.node.NodeBody.{NodeBody}
use Rattle.tm_tree.specs.declared.node.NodeBody.TheVariants.{Folder, Leaf}
use Rattle.tm_tree.specs.declared.node.NodeRow.{NodeRow}
use Rattle.tm_nodes.specs.declared.kind.Kind.{Kind}
use Rattle.tm_nodes.specs.declared.kind.Kind.TheVariants as kind
use Rattle.tm_nodes.specs.Leaves.{leaf_tail}
use Rattle.tm_nodes.specs.Nodes.{node_kind, node_attrs, child_text, entries_text, IsChild, AreEntries, node_tail, node_text, IsNodeTail, IsNodeRow, HasNodeSize, IsNodeOfSize}
use Rattle.tm_nodes.specs.declared.error.NodeError.{NodeError}
use Rattle.tm_nodes.specs.Answers.{IfBad, Tells}
use Rattle.tm_nodes.specs.Spelled.{IsUnspelled}
use Rattle.tm_nodes.specs.Records.{node_of}
use Rattle.tm_nodes.specs.Reading.{is_after, child_at, next_child_at, entries_at, node_body_at, node_at}
use Rattle.tm_nodes.proofs.Formats.{IsReader, alike, then_reads, done_reads, only_if_reads, many_reads, Finds, whole_finds, answer_bad, IfBad-weaker}
use Rattle.tm_nodes.proofs.Numbers.{u32_reads, u64_reads}
use Rattle.tm_nodes.proofs.Fields.{name_reads}
use Rattle.tm_nodes.proofs.Orders.{is_after-true, is_after-from, Follows, chain_each, chain_sorted, chain_from}
use Rattle.tm_nodes.proofs.Parts.{attrs_reads}
use Rattle.tm_nodes.proofs.LeafLemmas.{kind_reads, IsLeafOf, file_reads, link_reads}

-- ---- entries

child_reads : IsReader child_at IsChild child_text
unfolding child_at child_text
child_reads = alike
    (then_reads (λ x. x.name) name_reads
    (λ name. then_reads (λ x. x.node) u64_reads (λ number. done_reads (record { name = name; node = number })) (λ v x is e. ap (λ (y : Child). y.node) e))
    (λ v x is kept. ap (λ (y : Child). y.name) kept.1))
    (λ x kept. record { name = kept.0; node = kept.1.0 })
    (λ x is. (is.name, (is.node, refl)))
    (λ x is. ap (λ t. short_text x.name ++ t) (append-nil (u64_text x.node)))

abbrev NextChild : Option Child → Child → Type 0
NextChild = Follows name_cmp (λ x. x.name) IsChild

pub next_child_reads : (before : Option Child) → IsReader (next_child_at before) (NextChild before) child_text
unfolding next_child_at
next_child_reads before =
    let low : Option (List ℕ) = option_map (λ x. x.name) before in
    alike
    (then_reads (λ x. x) child_reads (λ x. only_if_reads (is_after name_cmp low x.name) x) (λ a x is kept. kept.0))
    (λ x kept. record { rules = kept.0; after = is_after-true name_cmp low x.name kept.1.1 })
    (λ x is. (is.rules, (refl, is_after-from name_cmp low x.name is.after)))
    (λ x is. append-nil (child_text x))

entries_reads : IsReader entries_at AreEntries entries_text
unfolding entries_at entries_text
entries_reads = alike
    (then_reads length u32_reads (λ count. many_reads next_child_reads count None) (λ n xs small kept. kept.0))
    (λ xs kept. record {
      few = kept.0;
      each = All-from_recursion IsChild xs (chain_each nat_list_cmp_total (λ x. x.name) IsChild None xs kept.1.1);
      rising = chain_sorted nat_list_cmp_total (λ x. x.name) IsChild None xs kept.1.1;
    })
    (λ xs is. (is.few, (refl, chain_from nat_list_cmp_total (λ x. x.name) IsChild xs is.each is.rising)))
    (λ xs is. refl)

-- ---- bodies

-- a body of this kind, with these attributes and so many bytes
record IsBodyOf (size : ℕ) (attrs : Attrs) (what : Kind) (body : NodeBody) : Type 0 where
  pub kind_is : node_kind body ≡ what
  pub attrs_is : node_attrs body ≡ attrs
  pub tail : IsNodeTail body
  pub size_is : HasNodeSize size body

entries_of : NodeBody → List Child
entries_of (Folder a entries) = entries
entries_of (Leaf l) = []

leaf_of : NodeBody → LeafRow
leaf_of (Folder a entries) = leaf.File a 0 0
leaf_of (Leaf l) = l

leaf_to : (size : ℕ) (attrs : Attrs) (what : Kind) (body : NodeBody) → IsLeafOf size attrs what (leaf_of body) × (body ≡ Leaf (leaf_of body)) → IsBodyOf size attrs what body
unfolding leaf_of
leaf_to size attrs what (Folder a entries) kept = let e = kept.1 in absurd cc
leaf_to size attrs what (Leaf l) kept = let is = kept.0 in record { kind_is = is.kind_is; attrs_is = is.attrs_is; tail = is.tail; size_is = is.size_is }

file_from : (size : ℕ) (attrs : Attrs) (body : NodeBody) → IsBodyOf size attrs kind.File body → IsLeafOf size attrs kind.File (leaf_of body) × (body ≡ Leaf (leaf_of body))
unfolding leaf_of
file_from size attrs (Folder a entries) is = let e = is.kind_is in absurd cc
file_from size attrs (Leaf l) is = (record { kind_is = is.kind_is; attrs_is = is.attrs_is; tail = is.tail; size_is = is.size_is }, refl)

link_from : (size : ℕ) (attrs : Attrs) (body : NodeBody) → IsBodyOf size attrs kind.Link body → IsLeafOf size attrs kind.Link (leaf_of body) × (body ≡ Leaf (leaf_of body))
unfolding leaf_of
link_from size attrs (Folder a entries) is = let e = is.kind_is in absurd cc
link_from size attrs (Leaf l) is = (record { kind_is = is.kind_is; attrs_is = is.attrs_is; tail = is.tail; size_is = is.size_is }, refl)

file_text : (size : ℕ) (attrs : Attrs) (body : NodeBody) → IsBodyOf size attrs kind.File body → leaf_tail (leaf_of body) ++ [] ≡ node_tail body
unfolding leaf_of
file_text size attrs (Folder a entries) is = let e = is.kind_is in absurd cc
file_text size attrs (Leaf l) is = append-nil (leaf_tail l)

link_text : (size : ℕ) (attrs : Attrs) (body : NodeBody) → IsBodyOf size attrs kind.Link body → leaf_tail (leaf_of body) ++ [] ≡ node_tail body
unfolding leaf_of
link_text size attrs (Folder a entries) is = let e = is.kind_is in absurd cc
link_text size attrs (Leaf l) is = append-nil (leaf_tail l)

folder_to : (size : ℕ) (attrs : Attrs) (body : NodeBody) → AreEntries (entries_of body) × (body ≡ Folder attrs (entries_of body)) → IsBodyOf size attrs kind.Folder body
unfolding entries_of
folder_to size attrs (Folder a entries) kept =
    let e = kept.1 in
    let a_is : a ≡ attrs = cc in
    record { kind_is = refl; attrs_is = a_is; tail = kept.0; size_is = tt }
folder_to size attrs (Leaf l) kept = let e = kept.1 in absurd cc

folder_from : (size : ℕ) (attrs : Attrs) (body : NodeBody) → IsBodyOf size attrs kind.Folder body → AreEntries (entries_of body) × (body ≡ Folder attrs (entries_of body))
unfolding entries_of
folder_from size attrs (Folder a entries) is = (is.tail, λ i. Folder (is.attrs_is i) entries)
folder_from size attrs (Leaf (leaf.File a s n)) is = let e = is.kind_is in absurd cc
folder_from size attrs (Leaf (leaf.Link a s t)) is = let e = is.kind_is in absurd cc

folder_text : (size : ℕ) (attrs : Attrs) (body : NodeBody) → IsBodyOf size attrs kind.Folder body → entries_text (entries_of body) ++ [] ≡ node_tail body
unfolding entries_of
folder_text size attrs (Folder a entries) is = append-nil (entries_text entries)
folder_text size attrs (Leaf (leaf.File a s n)) is = let e = is.kind_is in absurd cc
folder_text size attrs (Leaf (leaf.Link a s t)) is = let e = is.kind_is in absurd cc

body_reads : (size : ℕ) (attrs : Attrs) (what : Kind) → IsReader (node_body_at size attrs what) (IsBodyOf size attrs what) node_tail
unfolding node_body_at leaf_of entries_of
body_reads size attrs kind.Folder = alike (then_reads entries_of entries_reads (λ entries. done_reads (Folder attrs entries)) (λ entries body is e. ap entries_of e))
    (folder_to size attrs) (folder_from size attrs) (folder_text size attrs)
body_reads size attrs kind.File = alike (then_reads leaf_of (file_reads size attrs) (λ l. done_reads (Leaf l)) (λ l body is e. ap leaf_of e))
    (leaf_to size attrs kind.File) (file_from size attrs) (file_text size attrs)
body_reads size attrs kind.Link = alike (then_reads leaf_of (link_reads size attrs) (λ l. done_reads (Leaf l)) (λ l body is e. ap leaf_of e))
    (leaf_to size attrs kind.Link) (link_from size attrs) (link_text size attrs)

node_reads : (size : ℕ) → IsReader (node_at size) (IsNodeOfSize size) node_text
unfolding node_at node_text
node_reads size = alike
    (then_reads (λ row. node_kind row.body) kind_reads
    (λ what. then_reads (λ row. row.label) u64_reads
    (λ label. then_reads (λ row. row.links) u64_reads
    (λ links. then_reads (λ row. node_attrs row.body) attrs_reads
    (λ attrs. then_reads (λ row. row.body) (body_reads size attrs what)
    (λ body. done_reads (record { label = label; links = links; body = body }))
    (λ v row is e. ap (λ (r : NodeRow). r.body) e))
    (λ v row is kept. kept.0.attrs_is))
    (λ v row is kept. ap (λ (r : NodeRow). r.links) kept.1.1))
    (λ v row is kept. ap (λ (r : NodeRow). r.label) kept.1.1.1))
    (λ v row is kept. kept.1.1.1.0.kind_is))
    (λ row kept. let body = kept.1.1.1.1.0 in record { rules = record { label = kept.1.0; links = kept.1.1.0; attrs = kept.1.1.1.0; tail = body.tail }; size_is = body.size_is })
    (λ row is. (tt, (is.rules.label, (is.rules.links, (is.rules.attrs, (record { kind_is = refl; attrs_is = refl; tail = is.rules.tail; size_is = is.size_is }, refl))))))
    (λ row is. simp (append_assoc, append-nil))

-- ---- whole records

-- the row with another size of a file
resized_leaf : ℕ → LeafRow → LeafRow
resized_leaf size (leaf.File a s n) = leaf.File a s size
resized_leaf size (leaf.Link a s t) = leaf.Link a s t

resized_body : ℕ → NodeBody → NodeBody
resized_body size (Folder a entries) = Folder a entries
resized_body size (Leaf l) = Leaf (resized_leaf size l)

resized : ℕ → NodeRow → NodeRow
resized size row = record row { body = resized_body size row.body }

resized_body-text : (size label links : ℕ) (body : NodeBody) → node_text (record { label = label; links = links; body = resized_body size body }) ≡ node_text (record { label = label; links = links; body = body })
unfolding node_text resized_body resized_leaf
resized_body-text size label links (Folder a entries) = refl
resized_body-text size label links (Leaf (leaf.File a s n)) = refl
resized_body-text size label links (Leaf (leaf.Link a s t)) = refl

resized_body-is : (size label links : ℕ) (body : NodeBody) → IsNodeRow (record { label = label; links = links; body = body }) → IsNodeOfSize size (record { label = label; links = links; body = resized_body size body })
unfolding resized_body resized_leaf
resized_body-is size label links (Folder a entries) is = record { rules = is; size_is = tt }
resized_body-is size label links (Leaf (leaf.File a s n)) is = record { rules = record { label = is.label; links = is.links; attrs = is.attrs; tail = is.tail }; size_is = refl }
resized_body-is size label links (Leaf (leaf.Link a s t)) is = record { rules = is; size_is = tt }

pub node_finds : (size : ℕ) → Finds (λ meta. node_of meta size) (IsNodeOfSize size) node_text
unfolding node_of
node_finds size = whole_finds (node_reads size)

pub node_bad : (key : ℕ) (meta : List ℕ) (size : ℕ) (answer : Result NodeRow NodeError) → Tells key answer (node_of meta size) → IfBad answer (λ k. (k ≡ key) × IsUnspelled node_text IsNodeRow meta)
unfolding resized
node_bad key meta size answer told =
    IfBad-weaker answer (answer_bad (node_finds size) key meta answer told)
    (λ k bad. (bad.0, λ row rules spelled. bad.1 (resized size row) (resized_body-is size row.label row.links row.body rules) (spelled ∙ sym (resized_body-text size row.label row.links row.body))))
