-- How often nodes are named is told by their entries alone.
use Rattle.std.proofs.Common.{◌≡◌, ℕ, ◌+◌, Option, Some, None, List, [], ◌∷◌, refl, sym, ap, ◌∙◌, subst, sum_by}
use Rattle.std.specs.Option.{option_map, unwrap_or}
use Rattle.std.specs.Map.{values_of}
use Rattle.std.proofs.lemmas.List.Sums.{sum_by-cons}
use Rattle.tm_tree.specs.declared.node.Child.{Child}
use Rattle.tm_tree.specs.declared.node.NodeRow.{NodeRow}
use Rattle.tm_graph.specs.Nodes.{Nodes, node, entries_of, with_links, times, row_names, names, named, NamesRise}
use Rattle.tm_graph.proofs.Taken.{Sorted}
use Rattle.tm_graph.proofs.Same.{same_nodes, mapped, sorted-mapped, at-mapped}

-- the nodes' entries
abbrev pub shape : Nodes → List (ℕ × List Child)
shape g = mapped (λ _ row. entries_of row) g

named_by_shape : (g : Nodes) (q : ℕ) → named g q ≡ sum_by (times q) (values_of (shape g))
named_by_shape [] q = refl
named_by_shape (row ∷ g) q = sum_by-cons (row_names q) row.1 (values_of g) ∙ ap (λ n. row_names q row.1 + n) (named_by_shape g q) ∙ sym (sum_by-cons (times q) (entries_of row.1) (values_of (shape g)))

-- the same entries name a node as often
pub same_named : (g h : Nodes) (q : ℕ) → shape g ≡ shape h → named g q ≡ named h q
same_named g h q e = named_by_shape g q ∙ ap (λ (s : List (ℕ × List Child)). sum_by (times q) (values_of s)) e ∙ sym (named_by_shape h q)

pub same_shape : (g h : Nodes) → Sorted g → Sorted h → ((q : ℕ) → option_map entries_of (node g q) ≡ option_map entries_of (node h q)) → shape g ≡ shape h
same_shape g h s t e = same_nodes (shape g) (shape h) (sorted-mapped _ g s) (sorted-mapped _ h t) (λ q. at-mapped _ g q ∙ e q ∙ sym (at-mapped _ h q))

-- how often a node names another is told by its entries
pub names_by : (q : ℕ) (o : Option NodeRow) → names q o ≡ unwrap_or (option_map (times q) (option_map entries_of o)) 0
names_by q None = refl
names_by q (Some row) = refl

-- links are no part of it
pub same_entries : (links : ℕ → NodeRow → ℕ) (g : Nodes) → shape (mapped (λ n row. with_links row (links n row)) g) ≡ shape g
same_entries links [] = refl
same_entries links (row ∷ g) = ap (λ (s : List (ℕ × List Child)). (row.0, entries_of row.1) ∷ s) (same_entries links g)

-- the names of a node's entries rise, if it is there
abbrev pub EntriesRise : Option NodeRow → Type 0
EntriesRise o = (row : NodeRow) → o ≡ Some row → NamesRise (entries_of row)

pub rises_none : EntriesRise None
rises_none row e = cc

pub rises_some : (row : NodeRow) → NamesRise (entries_of row) → EntriesRise (Some row)
rises_some row h other e = let same : entries_of row ≡ entries_of other = cc in subst NamesRise same h

-- links are no part of it
pub rises_alike : (f : NodeRow → NodeRow) → ((row : NodeRow) → entries_of (f row) ≡ entries_of row) → (o : Option NodeRow) → EntriesRise o → EntriesRise (option_map f o)
rises_alike f same None h = h
rises_alike f same (Some row) h = rises_some (f row) (subst NamesRise (sym (same row)) (h row refl))
