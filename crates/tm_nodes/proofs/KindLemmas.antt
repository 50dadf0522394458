-- The kind and the parent in a meta, without the rest of it.
use Rattle.std.proofs.Common.{◌≡◌, ℕ, ◌+◌, ◌^◌, ◌<◌, List, [], ◌++◌, length, drop, Option, Some, None, refl, sym, ◌∙◌, ap, subst, append_assoc}
use Rattle.std.specs.Prelude.{IfSome, IfNone, option_map}
use Rattle.tm_codec.specs.Fields.{u8_text, u32_text, u64_text, short_text}
use Rattle.tm_codec.specs.Places.{IsTextAt}
use Rattle.tm_codec.proofs.Fields.{read_again, length-u8_text}
use Rattle.tm_tree.specs.declared.node.NodeRow.{NodeRow}
use Rattle.tm_tree.specs.declared.record.ItemRow.{ItemRow}
use Rattle.tm_nodes.specs.declared.kind.Kind.{Kind}
use Rattle.tm_nodes.specs.Attrs.{attrs_text}
use Rattle.tm_nodes.specs.Items.{item_kind, item_attrs, item_tail, item_name, item_text}
use Rattle.tm_nodes.specs.Kinds.{kind_number, kind_text}
use Rattle.tm_nodes.specs.Nodes.{node_kind, node_attrs, node_tail, node_text}
use Rattle.tm_nodes.specs.Readers.{and_then, go_on}
use Rattle.tm_nodes.specs.Reading.{kind_of, or_none, kind_at}
use Rattle.tm_nodes.proofs.Places.{stands, too_short}
use Rattle.tm_nodes.proofs.Numbers.{u8_reads}
use Rattle.tm_nodes.proofs.LeafLemmas.{kind_reads}

-- what a kind says of the meta that it was read from
pub record IsKindOf (meta : List ℕ) (o : Option Kind) : Type 0 where
  pub stands : IfSome o (λ kind. IsTextAt (kind_text kind) 0 meta)
  pub none : IfNone o ((kind : Kind) → IsTextAt (kind_text kind) 0 meta → ⊥)
  pub item : (row : ItemRow) → meta ≡ item_text row → o ≡ Some (item_kind row.body)
  pub node : (row : NodeRow) → meta ≡ node_text row → o ≡ Some (node_kind row.body)

abbrev first_of : Option (Kind × List ℕ) → Option Kind
first_of o = option_map (λ x. x.0) o

-- a text in front
front : (meta text rest : List ℕ) → meta ≡ text ++ rest → IsTextAt text 0 meta
front meta text rest is = subst (IsTextAt text 0) (sym is) (read_again text [] rest)

kind_first : (meta rest : List ℕ) (kind : Kind) → meta ≡ kind_text kind ++ rest → first_of (kind_at meta) ≡ Some kind
kind_first meta rest kind is = ap (λ m. first_of (kind_at m)) is ∙ ap first_of (kind_reads.again kind rest tt)

kind_stands : (meta : List ℕ) (o : Option (Kind × List ℕ)) → kind_at meta ≡ o → IfSome (first_of o) (λ kind. IsTextAt (kind_text kind) 0 meta)
kind_stands meta None is = tt
kind_stands meta (Some x) is = let t = kind_reads.takes meta x is in front meta (kind_text x.0) x.1 t.1.is

kind_none : (meta : List ℕ) (o : Option Kind) → first_of (kind_at meta) ≡ o → IfNone o ((kind : Kind) → IsTextAt (kind_text kind) 0 meta → ⊥)
kind_none meta (Some kind) is = tt
kind_none meta None is = λ kind there. let some = kind_first meta _ kind there in let e = sym is ∙ some in absurd cc

item_front : (row : ItemRow) → item_text row ≡ kind_text (item_kind row.body) ++ (u32_text row.parent ++ short_text (item_name row.name) ++ attrs_text (item_attrs row.body) ++ item_tail row.body)
unfolding item_text
item_front row = simp append_assoc

node_front : (row : NodeRow) → node_text row ≡ kind_text (node_kind row.body) ++ (u64_text row.label ++ u64_text row.links ++ attrs_text (node_attrs row.body) ++ node_tail row.body)
unfolding node_text
node_front row = simp append_assoc

kind_told : (meta : List ℕ) (o : Option Kind) → first_of (kind_at meta) ≡ o → IsKindOf meta o
kind_told meta o is = record {
  stands = subst (λ p. IfSome p (λ kind. IsTextAt (kind_text kind) 0 meta)) is (kind_stands meta (kind_at meta) refl);
  none = kind_none meta o is;
  item = λ row spelled. sym is ∙ kind_first meta _ (item_kind row.body) (spelled ∙ item_front row);
  node = λ row spelled. sym is ∙ kind_first meta _ (node_kind row.body) (spelled ∙ node_front row);
}

first_is : (o : Option Kind) (rest : List ℕ) → first_of (or_none o rest) ≡ o
first_is None rest = refl
first_is (Some kind) rest = refl

-- from the first byte
pub kind_from_byte : (meta : List ℕ) (n : ℕ) (o : Option Kind) → n < 2 ^ 8 → IsTextAt (u8_text n) 0 meta → o ≡ kind_of n → IsKindOf meta o
unfolding kind_at and_then
kind_from_byte meta n o small there is =
    let read = stands u8_reads n meta (drop 1 meta) 1 small (length-u8_text n) there refl in
    kind_told meta o (ap (λ r. first_of (go_on r (λ k. or_none (kind_of k)))) read ∙ first_is (kind_of n) (drop 1 meta) ∙ sym is)

pub kind_from_none : (meta : List ℕ) → length meta < 0 + 1 → IsKindOf meta None
unfolding kind_at and_then
kind_from_none meta short =
    let read = too_short u8_reads 1 length-u8_text meta short in
    kind_told meta None (ap (λ r. first_of (go_on r (λ k. or_none (kind_of k)))) read)

-- the parent's number stands after the kind
length-kind_text : (kind : Kind) → length (kind_text kind) ≡ 1
unfolding kind_text
length-kind_text kind = length-u8_text (kind_number kind)

pub parent_stands : (meta : List ℕ) (row : ItemRow) → meta ≡ item_text row → IsTextAt (u32_text row.parent) 1 meta
unfolding item_text
parent_stands meta row is =
    let kind : List ℕ = kind_text (item_kind row.body) in
    let rest : List ℕ = short_text (item_name row.name) ++ (attrs_text (item_attrs row.body) ++ item_tail row.body) in
    let whole : kind ++ u32_text row.parent ++ rest ≡ item_text row = simp append_assoc in
    let parts : kind ++ u32_text row.parent ++ rest ≡ meta = whole ∙ sym is in
    subst (λ at. IsTextAt (u32_text row.parent) at meta) (length-kind_text (item_kind row.body)) (subst (IsTextAt (u32_text row.parent) (length kind)) parts (read_again (u32_text row.parent) kind rest))
