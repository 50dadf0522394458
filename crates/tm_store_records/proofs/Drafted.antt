-- What a draft is in which no key is bad.
use Rattle.std.proofs.Common.{◌≡◌, ℕ, ◌^◌, ◌≤◌, true, Option, None, is_some, List, refl, sym, ap, ◌∙◌, subst}
use Rattle.tm_graph.specs.Nodes.{Nodes, IsGraph}
use Rattle.tm_store_records.specs.declared.draft.Draft.{Draft}
use Rattle.tm_store_records.specs.Heads.{RecordHeads}
use Rattle.tm_store_records.specs.Found.{machine_in, snapshots_in, nodes_in, snapshot_key, node_key}
use Rattle.tm_store_records.specs.Rules.{IsGoodKey, IsGoodStore}
use Rattle.tm_store_records.specs.Drafts.{IsUnread, IsOrdered, IsLeastFailing, DraftTells}
use Rattle.tm_store_records.proofs.Linking.{graph_is}

-- a draft that was read says what the heads stand for
pub told : (draft : Draft) (heads : RecordHeads) → draft.machine ≡ machine_in heads → draft.snapshots.items ≡ snapshots_in heads → draft.nodes.items ≡ nodes_in heads → IsUnread heads draft.unread → DraftTells draft heads
told draft heads machine snapshots nodes unread = record { machine = machine; snapshots = snapshots; nodes = nodes; unread = unread }

module _ (draft : Draft) (heads : RecordHeads) (number : ℕ) (tells : DraftTells draft heads) (key : Option ℕ) (none : key ≡ None) (least : DraftTells draft heads → IsLeastFailing (IsGoodKey heads number) key) where
  good : IsGoodStore heads number
  good = subst (λ (o : Option ℕ). IsLeastFailing (IsGoodKey heads number) o) none (least tells)

  pub has_machine : is_some draft.machine ≡ true
  has_machine = ap (λ (o : Option (List ℕ)). is_some o) tells.machine ∙ (good 1).machine refl

  pub is_graph : IsOrdered (snapshots_in heads) (nodes_in heads) → number ≤ 2 ^ 40 → IsGraph draft.nodes.items
  is_graph ordered most = subst (λ (g : Nodes). IsGraph g) (sym tells.nodes)
      (graph_is (nodes_in heads) (snapshots_in heads) number ordered.nodes_rise
      (λ place e is. (good (node_key e.0)).node_rules place e is refl)
      (λ place s is. (good (snapshot_key s.number)).snapshot place s is refl)
      ordered.names_rise most ordered.entries_few)
