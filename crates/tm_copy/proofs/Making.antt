-- What is made keeps its rules.
use Rattle.std.proofs.Common.{◌≡◌, ℕ, ◌-◌, ◌≤◌, ◌^◌, Option, Some, None, List, [], ◌∷◌, ◌++◌, length, map, refl, sym, ap, ◌∙◌, arith, append-nil}
use Rattle.std.specs.List.{cons_option, slice_get}
use Rattle.std.proofs.lemmas.List.Elements.{filter_map-append}
use Rattle.std.specs.Option.{option_map}
use Rattle.tm_world.specs.declared.bytes.Blob.{Blob}
use Rattle.tm_tree.specs.declared.node.NodeRow.{NodeRow}
use Rattle.tm_graph.specs.Nodes.{Nodes, key_of, greatest, IsGraph}
use Rattle.tm_copy.specs.Making.{file_length, lengths_of, IsMaking}
use Rattle.tm_copy.proofs.Appended.{found_at}

-- the greatest number fits
pub greatest_low : (g : Nodes) → IsGraph g → greatest g ≤ 2 ^ 62
greatest_low g is = by_row (slice_get g (length g - 1)) refl
  where
    by_row : (o : Option (ℕ × NodeRow)) → slice_get g (length g - 1) ≡ o → key_of o ≤ 2 ^ 62
    by_row None e = omega arith
    by_row (Some row) e = is.low row.0 (found_at g (length g - 1) row e)

abbrev file_at : ℕ × NodeRow → Option (ℕ × ℕ)
file_at e = option_map (λ size. (e.0, size)) (file_length e.1.body)

-- one node more
lengths_push : (nodes : Nodes) (n : ℕ) (row : NodeRow) (o : Option ℕ) → file_length row.body ≡ o → lengths_of (nodes ++ (n, row) ∷ []) ≡ lengths_of nodes ++ cons_option (option_map (λ size. (n, size)) o) []
lengths_push nodes n row o e = filter_map-append file_at nodes ((n, row) ∷ []) ∙ ap (λ (o : Option ℕ). lengths_of nodes ++ cons_option (option_map (λ size. (n, size)) o) []) e

abbrev sized : ℕ × Blob → ℕ × ℕ
sized x = (x.0, x.1.length)

blobs_push : (blobs : List (ℕ × Blob)) (b : ℕ × Blob) → map sized (blobs ++ b ∷ []) ≡ map sized blobs ++ (b.0, b.1.length) ∷ []
blobs_push [] b = refl
blobs_push (x ∷ blobs) b = ap (λ (t : List (ℕ × ℕ)). (x.0, x.1.length) ∷ t) (blobs_push blobs b)

-- one node more that is no file
pub node_making : (label first : ℕ) (nodes new : Nodes) (blobs : List (ℕ × Blob)) (n : ℕ) (row : NodeRow) → new ≡ nodes ++ (n, row) ∷ [] → file_length row.body ≡ None
    → IsMaking (record { label = label; first = first; nodes = nodes; blobs = blobs }) → IsMaking (record { label = label; first = first; nodes = new; blobs = blobs })
node_making label first nodes new blobs n row e none is = record {
  low = is.low;
  files = is.files ∙ sym (ap lengths_of e ∙ lengths_push nodes n row None none ∙ append-nil (lengths_of nodes));
}

-- one file more, with its blob
pub file_making : (label first : ℕ) (nodes new : Nodes) (blobs more : List (ℕ × Blob)) (n : ℕ) (row : NodeRow) (blob : Blob) → new ≡ nodes ++ (n, row) ∷ [] → more ≡ blobs ++ (n, blob) ∷ [] → file_length row.body ≡ Some blob.length
    → IsMaking (record { label = label; first = first; nodes = nodes; blobs = blobs }) → IsMaking (record { label = label; first = first; nodes = new; blobs = more })
file_making label first nodes new blobs more n row blob e f some is = record {
  low = is.low;
  files = ap (map sized) f ∙ blobs_push blobs (n, blob) ∙ ap (λ (t : List (ℕ × ℕ)). t ++ (n, blob.length) ∷ []) is.files
      ∙ sym (ap lengths_of e ∙ lengths_push nodes n row (Some blob.length) some);
}
