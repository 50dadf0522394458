-- Kinds, files and links: what reading gives.
use Rattle.std.proofs.Common.{◌≡◌, ℕ, ◌^◌, ◌<◌, Bool, true, false, cond, eqb, List, [], ◌++◌, Option, Some, None, refl, sym, ◌∙◌, ap, arith}
use Rattle.std.proofs.lemmas.List.{append-nil}
use Rattle.std.proofs.lemmas.Bool.{eqb-true}
use Rattle.tm_codec.specs.Fields.{u64_text, long_text}
use Rattle.tm_tree.specs.declared.attrs.Attrs.{Attrs}
use Rattle.tm_tree.specs.declared.node.LeafRow.{LeafRow}
use Rattle.tm_tree.specs.declared.node.LeafRow.TheVariants.{File, Link}
use Rattle.tm_nodes.specs.declared.kind.Kind.{Kind}
use Rattle.tm_nodes.specs.declared.kind.Kind.TheVariants as kind
use Rattle.tm_nodes.specs.Targets.{IsTarget}
use Rattle.tm_nodes.specs.Kinds.{kind_number, kind_text}
use Rattle.tm_nodes.specs.Leaves.{leaf_kind, leaf_attrs, leaf_tail, IsLeafTail, HasSize}
use Rattle.tm_nodes.specs.Reading.{kind_of, or_none, kind_at, file_at, link_at}
use Rattle.tm_nodes.proofs.Formats.{IsReader, alike, then_reads, done_reads}
use Rattle.tm_nodes.proofs.Numbers.{u8_reads, u64_reads}
use Rattle.tm_nodes.proofs.Fields.{target_reads}

or_none_reads : {A : Type 0} (o : Option A) → IsReader (or_none o) (λ a. o ≡ Some a) (λ a. [])
or_none_reads {A} None = record { takes = λ bytes x e. absurd cc; again = λ a rest e. cc }
or_none_reads {A} (Some b) = record {
  takes = λ bytes x e. let same : (b, bytes) ≡ x = cc in (ap (λ (p : A × List ℕ). Some p.0) same, record { is = ap (λ (p : A × List ℕ). p.1) same });
  again = λ a rest e. let same : b ≡ a = cc in ap (λ x. Some (x, rest)) same;
}

-- the number of a kind
three : (b : Bool) (n : ℕ) (k : Kind) → eqb n 3 ≡ b → cond b (Some kind.Link) None ≡ Some k → kind_number k ≡ n
three true n k is e = let same : kind.Link ≡ k = cc in ap kind_number (sym same) ∙ sym (eqb-true n 3 is)
three false n k is e = absurd cc

two : (b : Bool) (n : ℕ) (k : Kind) → eqb n 2 ≡ b → cond b (Some kind.File) (cond (eqb n 3) (Some kind.Link) None) ≡ Some k → kind_number k ≡ n
two true n k is e = let same : kind.File ≡ k = cc in ap kind_number (sym same) ∙ sym (eqb-true n 2 is)
two false n k is e = three (eqb n 3) n k refl e

one : (b : Bool) (n : ℕ) (k : Kind) → eqb n 1 ≡ b → cond b (Some kind.Folder) (cond (eqb n 2) (Some kind.File) (cond (eqb n 3) (Some kind.Link) None)) ≡ Some k → kind_number k ≡ n
one true n k is e = let same : kind.Folder ≡ k = cc in ap kind_number (sym same) ∙ sym (eqb-true n 1 is)
one false n k is e = two (eqb n 2) n k refl e

kind_of-some : (n : ℕ) (k : Kind) → kind_of n ≡ Some k → kind_number k ≡ n
kind_of-some n k e = one (eqb n 1) n k refl e

kind_of-number : (k : Kind) → kind_of (kind_number k) ≡ Some k
kind_of-number kind.Folder = refl
kind_of-number kind.File = refl
kind_of-number kind.Link = refl

kind_small : (k : Kind) → kind_number k < 2 ^ 8
kind_small kind.Folder = omega arith
kind_small kind.File = omega arith
kind_small kind.Link = omega arith

pub kind_reads : IsReader kind_at (λ k. Unit {0}) kind_text
unfolding kind_at kind_text
kind_reads = alike (then_reads kind_number u8_reads (λ n. or_none_reads (kind_of n)) (λ n k small e. kind_of-some n k e))
    (λ k kept. tt)
    (λ k is. (kind_small k, kind_of-number k))
    (λ k is. append-nil _)

-- a leaf of this kind, with these attributes and so many bytes
pub record IsLeafOf (size : ℕ) (attrs : Attrs) (what : Kind) (leaf : LeafRow) : Type 0 where
  pub kind_is : leaf_kind leaf ≡ what
  pub attrs_is : leaf_attrs leaf ≡ attrs
  pub tail : IsLeafTail leaf
  pub size_is : HasSize size leaf

stamp_of : LeafRow → ℕ
stamp_of (File a s n) = s
stamp_of (Link a s t) = s

target_of : LeafRow → List ℕ
target_of (File a s n) = []
target_of (Link a s t) = t

file_to : (size : ℕ) (attrs : Attrs) (leaf : LeafRow) → (stamp_of leaf < 2 ^ 64) × (leaf ≡ File attrs (stamp_of leaf) size) → IsLeafOf size attrs kind.File leaf
unfolding stamp_of
file_to size attrs (File a s n) kept =
    let a_is : a ≡ attrs = cc in
    let n_is : n ≡ size = cc in
    record { kind_is = refl; attrs_is = a_is; tail = kept.0; size_is = n_is }
file_to size attrs (Link a s t) kept = let e = kept.1 in absurd cc

file_from : (size : ℕ) (attrs : Attrs) (leaf : LeafRow) → IsLeafOf size attrs kind.File leaf → (stamp_of leaf < 2 ^ 64) × (leaf ≡ File attrs (stamp_of leaf) size)
unfolding stamp_of
file_from size attrs (File a s n) is = (is.tail, λ i. File (is.attrs_is i) s (is.size_is i))
file_from size attrs (Link a s t) is = let e = is.kind_is in absurd cc

file_text : (size : ℕ) (attrs : Attrs) (leaf : LeafRow) → IsLeafOf size attrs kind.File leaf → u64_text (stamp_of leaf) ++ [] ≡ leaf_tail leaf
unfolding stamp_of
file_text size attrs (File a s n) is = append-nil (u64_text s)
file_text size attrs (Link a s t) is = let e = is.kind_is in absurd cc

pub file_reads : (size : ℕ) (attrs : Attrs) → IsReader (file_at size attrs) (IsLeafOf size attrs kind.File) leaf_tail
unfolding file_at stamp_of
file_reads size attrs = alike (then_reads stamp_of u64_reads (λ s. done_reads (File attrs s size)) (λ s leaf small e. ap stamp_of e))
    (file_to size attrs) (file_from size attrs) (file_text size attrs)

link_to : (size : ℕ) (attrs : Attrs) (leaf : LeafRow) → (stamp_of leaf < 2 ^ 64) × (IsTarget (target_of leaf) × (leaf ≡ Link attrs (stamp_of leaf) (target_of leaf))) → IsLeafOf size attrs kind.Link leaf
unfolding stamp_of target_of
link_to size attrs (File a s n) kept = let e = kept.1.1 in absurd cc
link_to size attrs (Link a s t) kept =
    let e = kept.1.1 in
    let a_is : a ≡ attrs = cc in
    record { kind_is = refl; attrs_is = a_is; tail = (kept.0, kept.1.0); size_is = tt }

link_from : (size : ℕ) (attrs : Attrs) (leaf : LeafRow) → IsLeafOf size attrs kind.Link leaf → (stamp_of leaf < 2 ^ 64) × (IsTarget (target_of leaf) × (leaf ≡ Link attrs (stamp_of leaf) (target_of leaf)))
unfolding stamp_of target_of
link_from size attrs (File a s n) is = let e = is.kind_is in absurd cc
link_from size attrs (Link a s t) is = (is.tail.0, (is.tail.1, λ i. Link (is.attrs_is i) s t))

link_text : (size : ℕ) (attrs : Attrs) (leaf : LeafRow) → IsLeafOf size attrs kind.Link leaf → u64_text (stamp_of leaf) ++ (long_text (target_of leaf) ++ []) ≡ leaf_tail leaf
unfolding stamp_of target_of
link_text size attrs (File a s n) is = let e = is.kind_is in absurd cc
link_text size attrs (Link a s t) is = ap (λ r. u64_text s ++ r) (append-nil (long_text t))

pub link_reads : (size : ℕ) (attrs : Attrs) → IsReader (link_at attrs) (IsLeafOf size attrs kind.Link) leaf_tail
unfolding link_at stamp_of target_of
link_reads size attrs = alike
    (then_reads stamp_of u64_reads
    (λ s. then_reads target_of target_reads (λ t. done_reads (Link attrs s t)) (λ t leaf is e. ap target_of e))
    (λ s leaf small kept. ap stamp_of kept.1))
    (link_to size attrs) (link_from size attrs) (link_text size attrs)
