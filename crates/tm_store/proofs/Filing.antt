-- The bytes of a node are those of its record.
use Rattle.std.proofs.Common.{◌≡◌, ℕ, ◌+◌, ◌≤◌, true, Option, Some, None, is_some, List, [], ◌∷◌, take, drop, refl, sym, ap, ◌∙◌, subst, arith}
use Rattle.std.specs.Prelude.{IsSome, IfSome}
use Rattle.std.specs.Map.{keys_of}
use Rattle.std.specs.Option.{option_map, unwrap_or}
use Rattle.std.specs.List.Sorted.{IsStrictlySortedBy}
use Rattle.std.specs.Ordering.{nat_cmp}
use Rattle.tm_chain.specs.Blob.{bytes_in}
use Rattle.tm_graph.specs.Nodes.{Nodes, node}
use Rattle.tm_graph.proofs.Same.{at-mapped}
use Rattle.tm_identity.specs.Stored.{node_length}
use Rattle.tm_image.specs.Lookups.{entry_at}
use Rattle.tm_image.specs.Reads.{Entry, entries_of, entry_of}
use Rattle.tm_records.specs.declared.record.Record.{Record}
use Rattle.tm_records.specs.Records.{Records, at}
use Rattle.tm_tree.specs.declared.node.NodeRow.{NodeRow}
use Rattle.tm_store_records.specs.Heads.{heads_of}
use Rattle.tm_store_records.specs.Found.{node_key}
use Rattle.tm_store_records.specs.Held.{Held, IsWhole, files_of}
use Rattle.tm_store.proofs.Recorded.{NodesAreFound, record_there}

keys_same : (records : Records) → keys_of (heads_of records) ≡ keys_of records
keys_same [] = refl
keys_same (e ∷ es) = ap (λ (ks : List ℕ). e.0 ∷ ks) (keys_same es)

pub heads_sorted : (records : Records) → IsStrictlySortedBy nat_cmp (keys_of records) → IsStrictlySortedBy nat_cmp (keys_of (heads_of records))
heads_sorted records sorted = subst (λ (ks : List ℕ). IsStrictlySortedBy nat_cmp ks) (sym (keys_same records)) sorted

record IsFiled (h : Held) (n : ℕ) : Type 0 where
  row : NodeRow
  is : node h.nodes n ≡ Some row
  found : Record
  there : at (node_key n) h.image.records ≡ Some found
  size : found.length ≡ node_length row

module _ (law : NodesAreFound) (h : Held) (whole : IsWhole h) (n : ℕ) (there : is_some (node h.nodes n) ≡ true) where
  filed : IsFiled h n
  filed = by_node (node h.nodes n) refl there
    where
      by_node : (o : Option NodeRow) → node h.nodes n ≡ o → is_some o ≡ true → IsFiled h n
      by_node None e some = absurd (cc some)
      by_node (Some row) e some =
          let found = record_there law h.image.records n row (heads_sorted h.image.records whole.sound.rising) (λ key head there. (whole.good key).reads head there) (subst (λ (g : Nodes). node g n ≡ Some row) whole.nodes_are e) in
          record { row = row; is = e; found = found.0; there = found.1; size = found.2 }

  pub record_is : IsSome (at (node_key n) h.image.records)
  record_is = let f = filed in subst (λ (o : Option Record). IsSome o) (sym f.there) refl

  pub range_is : (from len : ℕ) → IfSome (node h.nodes n) (λ row. from + len ≤ node_length row) → IfSome (at (node_key n) h.image.records) (λ r. from + len ≤ r.length)
  range_is from len within =
      let f = filed in
      let fits : from + len ≤ node_length f.row = subst (λ (o : Option NodeRow). IfSome o (λ row. from + len ≤ node_length row)) f.is within in
      let low : from + len ≤ f.found.length = omega (arith, fits, f.size) in
      subst (λ (o : Option Record). IfSome o (λ r. from + len ≤ r.length)) (sym f.there) low

  pub bytes_are : (bytes : ℕ → List ℕ) (from len : ℕ) (into : List ℕ) → IfSome (entry_at (node_key n) (entries_of bytes h.image.records)) (λ e. into ≡ take len (drop from e.bytes))
      → into ≡ take len (drop from (files_of h.image.records bytes n))
  bytes_are bytes from len into read =
      let f = filed in
      let entry : entry_at (node_key n) (entries_of bytes h.image.records) ≡ Some (entry_of bytes f.found) = at-mapped (λ k r. entry_of bytes r) h.image.records (node_key n) ∙ ap (option_map (entry_of bytes)) f.there in
      let got : into ≡ take len (drop from (entry_of bytes f.found).bytes) = subst (λ (o : Option Entry). IfSome o (λ e. into ≡ take len (drop from e.bytes))) entry read in
      got ∙ ap (λ (o : Option Record). take len (drop from (unwrap_or (option_map (λ r. bytes_in r.blocks bytes 0 r.length) o) []))) (sym f.there)
