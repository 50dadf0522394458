-- Items: what reading gives.
use Rattle.std.proofs.Common.{◌≡◌, ℕ, ◌^◌, ◌<◌, Bool, true, false, ◌||◌, cond, eqb, List, [], ◌∷◌, ◌++◌, length, Option, Some, None, Result, refl, sym, ◌∙◌, ap, subst, arith, append_assoc}
use Rattle.std.specs.Prelude.{IfSome}
use Rattle.std.proofs.lemmas.List.{append-nil}
use Rattle.std.proofs.lemmas.Bool.{ne_eqb}
use Rattle.tm_base.specs.IsName.{IsName}
use Rattle.tm_codec.specs.Fields.{short_text}
use Rattle.tm_tree.specs.declared.attrs.Attrs.{Attrs}
use Rattle.tm_tree.specs.declared.node.LeafRow.{LeafRow}
use Rattle.tm_tree.specs.declared.node.LeafRow.TheVariants as leaf
use Rattle.tm_tree.specs.declared.record.ItemBody.{ItemBody}
use Rattle.tm_tree.specs.declared.record.ItemBody.TheVariants.{Folder, Leaf}
use Rattle.tm_tree.specs.declared.record.ItemRow.{ItemRow}
use Rattle.tm_nodes.specs.declared.kind.Kind.{Kind}
use Rattle.tm_nodes.specs.declared.kind.Kind.TheVariants as kind
use Rattle.tm_nodes.specs.Leaves.{leaf_tail}
use Rattle.tm_nodes.specs.Items.{item_kind, item_attrs, item_tail, item_name, item_text, IsItemTail, IsItemRow, HasItemSize, IsItemOfSize}
use Rattle.tm_nodes.specs.declared.error.NodeError.{NodeError}
use Rattle.tm_nodes.specs.Answers.{IfBad, Tells}
use Rattle.tm_nodes.specs.Spelled.{IsUnspelled}
use Rattle.tm_nodes.specs.Records.{item_of}
use Rattle.tm_nodes.specs.Reading.{is_name, item_name_at, item_body_at, item_at}
use Rattle.tm_nodes.proofs.Formats.{IsReader, alike, then_reads, done_reads, only_if_reads, Finds, whole_finds, answer_bad, IfBad-weaker}
use Rattle.tm_nodes.proofs.Numbers.{u32_reads}
use Rattle.tm_nodes.proofs.Fields.{short_reads, Decides-name}
use Rattle.tm_nodes.proofs.Parts.{attrs_reads}
use Rattle.tm_nodes.proofs.LeafLemmas.{kind_reads, IsLeafOf, file_reads, link_reads}

-- ---- names

-- the bytes as a name, where there are some
abbrev named : List ℕ → Option (List ℕ)
named name = cond (eqb (length name) 0) None (Some name)

abbrev is_named : List ℕ → Bool
is_named name = eqb (length name) 0 || is_name name

named-same : (name : List ℕ) → item_name (named name) ≡ name
named-same [] = refl
named-same (b ∷ bs) = ap (λ t. item_name (cond t None (Some (b ∷ bs)))) (ne_eqb (length (b ∷ bs)) 0 (λ e. absurd (omega arith)))

name_chosen : (empty : Bool) (name : List ℕ) → Some name ≡ cond empty None (Some name) → (empty || is_name name) ≡ true → IsName name
name_chosen true name e test = absurd cc
name_chosen false name e test = (Decides-name name).0 test

name_to : (o : Option (List ℕ)) → o ≡ named (item_name o) → is_named (item_name o) ≡ true → IfSome o IsName
name_to None e test = tt
name_to (Some name) e test = name_chosen (eqb (length name) 0) name e test

name_from : (o : Option (List ℕ)) → IfSome o IsName → (length (item_name o) < 2 ^ 8) × ((o ≡ named (item_name o)) × (is_named (item_name o) ≡ true))
name_from None is = (omega arith, (refl, refl))
name_from (Some name) is =
    let some : eqb (length name) 0 ≡ false = ne_eqb (length name) 0 (λ e. absurd (omega (arith, is.some))) in
    (omega (arith, is.short), (ap (λ t. cond t None (Some name)) (sym some), ap (λ t. t || is_name name) some ∙ (Decides-name name).1 is))

item_name_reads : IsReader item_name_at (λ o. IfSome o IsName) (λ o. short_text (item_name o))
unfolding item_name_at
item_name_reads = alike
    (then_reads item_name short_reads (λ name. only_if_reads (is_named name) (named name)) (λ name o small kept. ap item_name kept.0 ∙ named-same name))
    (λ o kept. name_to o kept.1.0 kept.1.1)
    name_from
    (λ o is. append-nil (short_text (item_name o)))

-- ---- bodies

-- a body of this kind, with these attributes and so many bytes
record IsBodyOf (size : ℕ) (attrs : Attrs) (what : Kind) (body : ItemBody) : Type 0 where
  pub kind_is : item_kind body ≡ what
  pub attrs_is : item_attrs body ≡ attrs
  pub tail : IsItemTail body
  pub size_is : HasItemSize size body

leaf_of : ItemBody → LeafRow
leaf_of (Folder a) = leaf.File a 0 0
leaf_of (Leaf l) = l

leaf_to : (size : ℕ) (attrs : Attrs) (what : Kind) (body : ItemBody) → IsLeafOf size attrs what (leaf_of body) × (body ≡ Leaf (leaf_of body)) → IsBodyOf size attrs what body
unfolding leaf_of
leaf_to size attrs what (Folder a) kept = let e = kept.1 in absurd cc
leaf_to size attrs what (Leaf l) kept = let is = kept.0 in record { kind_is = is.kind_is; attrs_is = is.attrs_is; tail = is.tail; size_is = is.size_is }

file_from : (size : ℕ) (attrs : Attrs) (body : ItemBody) → IsBodyOf size attrs kind.File body → IsLeafOf size attrs kind.File (leaf_of body) × (body ≡ Leaf (leaf_of body))
unfolding leaf_of
file_from size attrs (Folder a) is = let e = is.kind_is in absurd cc
file_from size attrs (Leaf l) is = (record { kind_is = is.kind_is; attrs_is = is.attrs_is; tail = is.tail; size_is = is.size_is }, refl)

link_from : (size : ℕ) (attrs : Attrs) (body : ItemBody) → IsBodyOf size attrs kind.Link body → IsLeafOf size attrs kind.Link (leaf_of body) × (body ≡ Leaf (leaf_of body))
unfolding leaf_of
link_from size attrs (Folder a) is = let e = is.kind_is in absurd cc
link_from size attrs (Leaf l) is = (record { kind_is = is.kind_is; attrs_is = is.attrs_is; tail = is.tail; size_is = is.size_is }, refl)

file_text : (size : ℕ) (attrs : Attrs) (body : ItemBody) → IsBodyOf size attrs kind.File body → leaf_tail (leaf_of body) ++ [] ≡ item_tail body
unfolding leaf_of
file_text size attrs (Folder a) is = let e = is.kind_is in absurd cc
file_text size attrs (Leaf l) is = append-nil (leaf_tail l)

link_text : (size : ℕ) (attrs : Attrs) (body : ItemBody) → IsBodyOf size attrs kind.Link body → leaf_tail (leaf_of body) ++ [] ≡ item_tail body
unfolding leaf_of
link_text size attrs (Folder a) is = let e = is.kind_is in absurd cc
link_text size attrs (Leaf l) is = append-nil (leaf_tail l)

folder_from : (size : ℕ) (attrs : Attrs) (body : ItemBody) → IsBodyOf size attrs kind.Folder body → body ≡ Folder attrs
folder_from size attrs (Folder a) is = ap (λ x. Folder x) is.attrs_is
folder_from size attrs (Leaf (leaf.File a s n)) is = let e = is.kind_is in absurd cc
folder_from size attrs (Leaf (leaf.Link a s t)) is = let e = is.kind_is in absurd cc

body_reads : (size : ℕ) (attrs : Attrs) (what : Kind) → IsReader (item_body_at size attrs what) (IsBodyOf size attrs what) item_tail
unfolding item_body_at leaf_of
body_reads size attrs kind.Folder = alike (done_reads (Folder attrs))
    (λ body e. subst (IsBodyOf size attrs kind.Folder) (sym e) (record { kind_is = refl; attrs_is = refl; tail = tt; size_is = tt }))
    (folder_from size attrs)
    (λ body is. ap item_tail (sym (folder_from size attrs body is)))
body_reads size attrs kind.File = alike (then_reads leaf_of (file_reads size attrs) (λ l. done_reads (Leaf l)) (λ l body is e. ap leaf_of e))
    (leaf_to size attrs kind.File) (file_from size attrs) (file_text size attrs)
body_reads size attrs kind.Link = alike (then_reads leaf_of (link_reads size attrs) (λ l. done_reads (Leaf l)) (λ l body is e. ap leaf_of e))
    (leaf_to size attrs kind.Link) (link_from size attrs) (link_text size attrs)

item_reads : (size : ℕ) → IsReader (item_at size) (IsItemOfSize size) item_text
unfolding item_at item_text
item_reads size = alike
    (then_reads (λ row. item_kind row.body) kind_reads
    (λ what. then_reads (λ row. row.parent) u32_reads
    (λ parent. then_reads (λ row. row.name) item_name_reads
    (λ name. then_reads (λ row. item_attrs row.body) attrs_reads
    (λ attrs. then_reads (λ row. row.body) (body_reads size attrs what)
    (λ body. done_reads (record { parent = parent; name = name; body = body }))
    (λ v row is e. ap (λ (r : ItemRow). r.body) e))
    (λ v row is kept. kept.0.attrs_is))
    (λ v row is kept. ap (λ (r : ItemRow). r.name) kept.1.1))
    (λ v row is kept. ap (λ (r : ItemRow). r.parent) kept.1.1.1))
    (λ v row is kept. kept.1.1.1.0.kind_is))
    (λ row kept. let body = kept.1.1.1.1.0 in record { rules = record { parent = kept.1.0; name = kept.1.1.0; attrs = kept.1.1.1.0; tail = body.tail }; size_is = body.size_is })
    (λ row is. (tt, (is.rules.parent, (is.rules.name, (is.rules.attrs, (record { kind_is = refl; attrs_is = refl; tail = is.rules.tail; size_is = is.size_is }, refl))))))
    (λ row is. simp (append_assoc, append-nil))

-- ---- whole records

-- the row with another size of a file
resized_leaf : ℕ → LeafRow → LeafRow
resized_leaf size (leaf.File a s n) = leaf.File a s size
resized_leaf size (leaf.Link a s t) = leaf.Link a s t

resized_body : ℕ → ItemBody → ItemBody
resized_body size (Folder a) = Folder a
resized_body size (Leaf l) = Leaf (resized_leaf size l)

resized : ℕ → ItemRow → ItemRow
resized size row = record row { body = resized_body size row.body }

resized_body-text : (size : ℕ) (parent : ℕ) (name : Option (List ℕ)) (body : ItemBody) → item_text (record { parent = parent; name = name; body = resized_body size body }) ≡ item_text (record { parent = parent; name = name; body = body })
unfolding item_text resized_body resized_leaf
resized_body-text size parent name (Folder a) = refl
resized_body-text size parent name (Leaf (leaf.File a s n)) = refl
resized_body-text size parent name (Leaf (leaf.Link a s t)) = refl

resized_body-is : (size : ℕ) (parent : ℕ) (name : Option (List ℕ)) (body : ItemBody) → IsItemRow (record { parent = parent; name = name; body = body }) → IsItemOfSize size (record { parent = parent; name = name; body = resized_body size body })
unfolding resized_body resized_leaf
resized_body-is size parent name (Folder a) is = record { rules = is; size_is = tt }
resized_body-is size parent name (Leaf (leaf.File a s n)) is = record { rules = record { parent = is.parent; name = is.name; attrs = is.attrs; tail = is.tail }; size_is = refl }
resized_body-is size parent name (Leaf (leaf.Link a s t)) is = record { rules = is; size_is = tt }

pub item_finds : (size : ℕ) → Finds (λ meta. item_of meta size) (IsItemOfSize size) item_text
unfolding item_of
item_finds size = whole_finds (item_reads size)

pub item_bad : (key : ℕ) (meta : List ℕ) (size : ℕ) (answer : Result ItemRow NodeError) → Tells key answer (item_of meta size) → IfBad answer (λ k. (k ≡ key) × IsUnspelled item_text IsItemRow meta)
unfolding resized
item_bad key meta size answer told =
    IfBad-weaker answer (answer_bad (item_finds size) key meta answer told)
    (λ k bad. (bad.0, λ row rules spelled. bad.1 (resized size row) (resized_body-is size row.parent row.name row.body rules) (spelled ∙ sym (resized_body-text size row.parent row.name row.body))))
