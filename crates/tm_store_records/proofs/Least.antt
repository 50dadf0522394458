-- The least key that breaks a rule.
use Rattle.std.proofs.Common.{◌≡◌, ⊎_elim, ℕ, ◌<◌, ◌≤◌, Bool, true, false, cond, is_some, Option, Some, None, List, slice_get, refl, sym, ap, ◌∙◌, arith, subst}
use Rattle.std.specs.Prelude.{nat_lt}
use Rattle.std.proofs.lemmas.Bool.{cases_lt}
use Rattle.std.proofs.lemmas.Bool.Decides.{nat_tests}
use Rattle.tm_tree.specs.declared.node.NodeRow.{NodeRow}
use Rattle.tm_graph.specs.Nodes.{Nodes}
use Rattle.tm_store_records.specs.declared.snapshot.Snapshot.{Snapshot}
use Rattle.tm_store_records.specs.declared.draft.Draft.{Draft}
use Rattle.tm_store_records.specs.Heads.{RecordHeads}
use Rattle.tm_store_records.specs.Found.{machine_in, nodes_in, snapshots_in, roots_of, snapshot_key, node_key}
use Rattle.tm_store_records.specs.Rules.{IsGoodKey, IsGoodSnapshot, IsGoodNode}
use Rattle.tm_store_records.specs.Drafts.{lesser, IsLeastFailing, IsUnread, MachineIsGoodAt, RecordIsGoodAt, SnapshotsAreGoodAt, NodesAreGoodAt, IsFirstBadSnapshot, IsFirstBadNode, SnapshotsRise, DraftTells}
use Rattle.tm_store_records.proofs.NextKeyLemmas.{Sorted}
use Rattle.tm_store_records.proofs.Placed.{placed_below}

-- of two facts
pub least_both : (P Q : ℕ → Type 0) (a b : Option ℕ) → IsLeastFailing P a → IsLeastFailing Q b → IsLeastFailing (λ k. P k × Q k) (lesser a b)
least_both P Q None None p q = λ k. (p k, q k)
least_both P Q None (Some b) p q = (λ both. q.0 both.1, λ k lt. (p k, q.1 k lt))
least_both P Q (Some a) None p q = (λ both. p.0 both.0, λ k lt. (p.1 k lt, q k))
least_both P Q (Some a) (Some b) p q = by_test (nat_lt b a) refl
  where
    by_test : (t : Bool) → nat_lt b a ≡ t → IsLeastFailing (λ k. P k × Q k) (cond t (Some b) (Some a))
    by_test true t = (λ both. q.0 both.1, λ k lt. (p.1 k (let low : b < a = grind (arith, nat_tests) in omega (arith, low, lt)), q.1 k lt))
    by_test false t = (λ both. p.0 both.0, λ k lt. (p.1 k lt, q.1 k (let low : a ≤ b = grind (arith, nat_tests) in omega (arith, low, lt))))

pub least_machine : (heads : RecordHeads) (found : Option (List ℕ)) → found ≡ machine_in heads → IsLeastFailing (MachineIsGoodAt heads) (cond (is_some found) None (Some 1))
least_machine heads None e = (λ keeps. absurd (let bad : false ≡ true = ap is_some e ∙ keeps refl in cc), λ k lt one. absurd (omega (arith, lt, one)))
least_machine heads (Some name) e = λ k one. sym (ap is_some e)

pub least_unread : (heads : RecordHeads) (unread : Option ℕ) → IsUnread heads unread → IsLeastFailing (RecordIsGoodAt heads) unread
least_unread heads None is = is
least_unread heads (Some key) is = (λ keeps. absurd (let bad : false ≡ true = sym is.2 ∙ keeps is.0 is.1 in cc), λ k lt head at. is.3 k head lt at)

-- a node that is the first
pub least_node : (g : Nodes) (roots : List ℕ) (number place : ℕ) (e : ℕ × NodeRow) → Sorted g → IsFirstBadNode g roots number place → slice_get g place ≡ Some e → IsLeastFailing (NodesAreGoodAt g roots number) (Some (node_key e.0))
least_node g roots number place e sorted first is =
    let same : first.entry ≡ e = (let both : Some first.entry ≡ Some e = sym first.is ∙ is in cc) in (
      λ keeps. first.bad (keeps place first.entry first.is (ap (λ (x : ℕ × NodeRow). node_key x.0) same)),
      λ k lt i f at key. first.before i f (placed_below g i place f e sorted at is (omega (arith, lt, key))) at,
    )

-- a snapshot that is the first
pub least_snapshot : (g : Nodes) (ss : List Snapshot) (number place : ℕ) (s : Snapshot) → SnapshotsRise ss → IsFirstBadSnapshot g ss number place → slice_get ss place ≡ Some s → IsLeastFailing (SnapshotsAreGoodAt g ss number) (Some (snapshot_key s.number))
least_snapshot g ss number place s rise first is =
    let same : first.snapshot ≡ s = (let both : Some first.snapshot ≡ Some s = sym first.is ∙ is in cc) in (
      λ keeps. first.bad (keeps place first.snapshot first.is (ap (λ (x : Snapshot). snapshot_key x.number) same)),
      λ k lt i t at key. first.before i t (placed i t at (omega (arith, lt, key))) at,
    )
  where
    -- a lower number has a lower place
    placed : (i : ℕ) (t : Snapshot) → slice_get ss i ≡ Some t → t.number < s.number → i < place
    placed i t at low = ⊎_elim
        (λ (here : i < place). here)
        (λ (le : place ≤ i). ⊎_elim
        (λ (after : place < i). absurd (omega (arith, rise place i s t after is at, low)))
        (λ (ge : i ≤ place). let e : place ≡ i = omega arith in let both : Some s ≡ Some t = sym is ∙ ap (slice_get ss) e ∙ at in let rows : s ≡ t = cc in absurd (omega (arith, low, ap (λ (x : Snapshot). x.number) rows)))
        (cases_lt place i))
        (cases_lt i place)

-- ---- where none is bad

pub all_snapshots : (g h : Nodes) (ss ts : List Snapshot) (number : ℕ) → h ≡ g → ts ≡ ss → ((i : ℕ) (s : Snapshot) → slice_get ts i ≡ Some s → IsGoodSnapshot h ts number i s) → IsLeastFailing (SnapshotsAreGoodAt g ss number) None
all_snapshots g h ss ts number same_g same_ss all =
    let good : (i : ℕ) (s : Snapshot) → slice_get ss i ≡ Some s → IsGoodSnapshot g ss number i s
    = subst (λ (x : Nodes). (i : ℕ) (s : Snapshot) → slice_get ss i ≡ Some s → IsGoodSnapshot x ss number i s) same_g (subst (λ (x : List Snapshot). (i : ℕ) (s : Snapshot) → slice_get x i ≡ Some s → IsGoodSnapshot h x number i s) same_ss all) in
    λ key place s is e. good place s is

pub all_nodes : (g h : Nodes) (ss ts : List Snapshot) (number : ℕ) → h ≡ g → ts ≡ ss → ((i : ℕ) (e : ℕ × NodeRow) → slice_get h i ≡ Some e → IsGoodNode h (roots_of ts) number i e.0 e.1) → IsLeastFailing (NodesAreGoodAt g (roots_of ss) number) None
all_nodes g h ss ts number same_g same_ss all =
    let good : (i : ℕ) (e : ℕ × NodeRow) → slice_get g i ≡ Some e → IsGoodNode g (roots_of ss) number i e.0 e.1
    = subst (λ (x : Nodes). (i : ℕ) (e : ℕ × NodeRow) → slice_get x i ≡ Some e → IsGoodNode x (roots_of ss) number i e.0 e.1) same_g (subst (λ (x : List Snapshot). (i : ℕ) (e : ℕ × NodeRow) → slice_get h i ≡ Some e → IsGoodNode h (roots_of x) number i e.0 e.1) same_ss all) in
    λ key place e is at. good place e is

-- ---- all rules together

-- a fact that says the same
pub least_same : (P Q : ℕ → Type 0) (o : Option ℕ) → ((k : ℕ) → P k → Q k) → ((k : ℕ) → Q k → P k) → IsLeastFailing P o → IsLeastFailing Q o
least_same P Q None to back least = λ k. to k (least k)
least_same P Q (Some key) to back least = (λ q. least.0 (back key q), λ k lt. to k (least.1 k lt))

-- all four together
pub all_keep : (heads : RecordHeads) (number key : ℕ) → MachineIsGoodAt heads key → RecordIsGoodAt heads key → SnapshotsAreGoodAt (nodes_in heads) (snapshots_in heads) number key → NodesAreGoodAt (nodes_in heads) (roots_of (snapshots_in heads)) number key → IsGoodKey heads number key
all_keep heads number key machine reads snapshot node = record { machine = machine; reads = reads; snapshot = snapshot; node_rules = node }

abbrev EachKeeps : RecordHeads → ℕ → ℕ → Type 0
EachKeeps heads number key = (MachineIsGoodAt heads key × RecordIsGoodAt heads key) × (SnapshotsAreGoodAt (nodes_in heads) (snapshots_in heads) number key × NodesAreGoodAt (nodes_in heads) (roots_of (snapshots_in heads)) number key)

-- the least key of all
pub least_key : (heads : RecordHeads) (number : ℕ) (machine unread snapshot node : Option ℕ) → IsLeastFailing (MachineIsGoodAt heads) machine → IsLeastFailing (RecordIsGoodAt heads) unread
    → IsLeastFailing (SnapshotsAreGoodAt (nodes_in heads) (snapshots_in heads) number) snapshot → IsLeastFailing (NodesAreGoodAt (nodes_in heads) (roots_of (snapshots_in heads)) number) node
    → IsLeastFailing (IsGoodKey heads number) (lesser (lesser machine unread) (lesser snapshot node))
least_key heads number machine unread snapshot node a b c d =
    let first = least_both (MachineIsGoodAt heads) (RecordIsGoodAt heads) machine unread a b in
    let second = least_both (SnapshotsAreGoodAt (nodes_in heads) (snapshots_in heads) number) (NodesAreGoodAt (nodes_in heads) (roots_of (snapshots_in heads)) number) snapshot node c d in
    let both = least_both (λ k. MachineIsGoodAt heads k × RecordIsGoodAt heads k) (λ k. SnapshotsAreGoodAt (nodes_in heads) (snapshots_in heads) number k × NodesAreGoodAt (nodes_in heads) (roots_of (snapshots_in heads)) number k) (lesser machine unread) (lesser snapshot node) first second in
    least_same (EachKeeps heads number) (IsGoodKey heads number) (lesser (lesser machine unread) (lesser snapshot node))
    (λ k h. all_keep heads number k h.0.0 h.0.1 h.1.0 h.1.1)
    (λ k h. ((h.machine, h.reads), (h.snapshot, h.node_rules)))
    both

-- of a draft that says what these heads stand for
pub draft_least : (draft : Draft) (heads : RecordHeads) (number : ℕ) (machine snapshot node : Option ℕ) → DraftTells draft heads → machine ≡ cond (is_some draft.machine) None (Some 1)
    → IsLeastFailing (SnapshotsAreGoodAt draft.nodes.items draft.snapshots.items number) snapshot → IsLeastFailing (NodesAreGoodAt draft.nodes.items (roots_of draft.snapshots.items) number) node
    → IsLeastFailing (IsGoodKey heads number) (lesser (lesser machine draft.unread) (lesser snapshot node))
draft_least draft heads number machine snapshot node tells is_machine is_snapshot is_node =
    least_key heads number machine draft.unread snapshot node
    (subst (λ (o : Option ℕ). IsLeastFailing (MachineIsGoodAt heads) o) (sym is_machine) (least_machine heads draft.machine tells.machine))
    (least_unread heads draft.unread tells.unread)
    (subst (λ (g : Nodes). IsLeastFailing (SnapshotsAreGoodAt g (snapshots_in heads) number) snapshot) tells.nodes (subst (λ (ss : List Snapshot). IsLeastFailing (SnapshotsAreGoodAt draft.nodes.items ss number) snapshot) tells.snapshots is_snapshot))
    (subst (λ (g : Nodes). IsLeastFailing (NodesAreGoodAt g (roots_of (snapshots_in heads)) number) node) tells.nodes (subst (λ (ss : List Snapshot). IsLeastFailing (NodesAreGoodAt draft.nodes.items (roots_of ss) number) node) tells.snapshots is_node))
