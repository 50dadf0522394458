-- A node is passed with all its entries.
use Rattle.std.proofs.Common.{◌≡◌, ℕ, ◌+◌, Some, None, List, length, slice_get, subst}
use Rattle.std.specs.Ordering.{nat_cmp}
use Rattle.std.specs.Map.{keys_of}
use Rattle.std.specs.List.Sorted.{IsStrictlySortedBy}
use Rattle.tm_tree.specs.declared.node.Child.{Child}
use Rattle.tm_tree.specs.declared.node.NodeRow.{NodeRow}
use Rattle.tm_graph.specs.Nodes.{Nodes, entries_of}
use Rattle.tm_store_records.specs.declared.locations.Locations.{Locations}
use Rattle.tm_store_records.specs.Located.{Comes, DoneFrom, DoneIn, LocationsTell, IsEntryAt, AllRise}
use Rattle.tm_store_records.proofs.LocationLemmas.{locations_same}
use Rattle.tm_store_records.proofs.Walking.{locations_of, ids_of}
use Rattle.tm_store_records.proofs.ArrivalLemmas.{nowhere, more_done, first_entry, none_before, all_entries, from_entries}

module _ (g : Nodes) (roots : List ℕ) (place : ℕ) (e : ℕ × NodeRow) (sorted : IsStrictlySortedBy nat_cmp (keys_of g)) (is : slice_get g place ≡ Some e) where
  -- one that stands nowhere
  pub pass_nowhere : (s : Locations) → locations_of s e.0 ≡ None → LocationsTell g roots (Comes g roots (DoneFrom g (place + 1))) s → LocationsTell g roots (Comes g roots (DoneFrom g place)) s
  pass_nowhere s none tell = locations_same g roots (Comes g roots (DoneFrom g (place + 1))) (Comes g roots (DoneFrom g place)) (locations_of s) (ids_of s) s.count
      (more_done g roots place e.0 e.1 sorted is)
      (nowhere g roots place e.0 e.1 sorted is (λ p came. tell.none e.0 none p came)) tell

  -- before its first entry
  pub pass_first : (s : Locations) → LocationsTell g roots (Comes g roots (DoneFrom g (place + 1))) s → LocationsTell g roots (Comes g roots (DoneIn g place 0)) s
  pass_first s tell = locations_same g roots (Comes g roots (DoneFrom g (place + 1))) (Comes g roots (DoneIn g place 0)) (locations_of s) (ids_of s) s.count
      (first_entry g roots place e.0 e.1 sorted is)
      (none_before g roots place e.0 e.1 sorted is) tell

  -- after its last
  pub pass_last : (s : Locations) (count : ℕ) → count ≡ length (entries_of e.1) → LocationsTell g roots (Comes g roots (DoneIn g place count)) s → LocationsTell g roots (Comes g roots (DoneFrom g place)) s
  pass_last s count all tell = locations_same g roots (Comes g roots (DoneIn g place (length (entries_of e.1)))) (Comes g roots (DoneFrom g place)) (locations_of s) (ids_of s) s.count
      (all_entries g roots place e.0 e.1 sorted is)
      (from_entries g roots place e.0 e.1 sorted is)
      (subst (λ n. LocationsTell g roots (Comes g roots (DoneIn g place n)) s) all tell)

  -- its entry at this place
  pub pass_entry : AllRise g → (entry : ℕ) (child : Child) → slice_get (entries_of e.1) entry ≡ Some child → IsEntryAt g place entry e.0 child
  pass_entry rise entry child named = record { row = e.1; sorted = sorted; is = is; rise = rise place e is; named = named }
