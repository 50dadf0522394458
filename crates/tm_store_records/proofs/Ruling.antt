-- Nodes one after another, by what the locations say.
use Rattle.std.proofs.Common.{◌≡◌, ⊎_elim, ℕ, ◌+◌, ◌<◌, ◌≤◌, Bool, true, false, not, cond, Option, Some, None, List, length, slice_get, refl, sym, ap, ◌∙◌, arith, subst}
use Rattle.std.specs.Ordering.{nat_cmp, ordering_then, is_eq}
use Rattle.std.specs.BTreeMap.{is_at}
use Rattle.std.specs.Map.{keys_of}
use Rattle.std.specs.List.Sorted.{IsStrictlySortedBy}
use Rattle.std.proofs.lemmas.Bool.{cases_lt}
use Rattle.std.proofs.lemmas.Cmp.{nat_cmp_total, tied_itself}
use Rattle.tm_base.specs.Limits.{max_names}
use Rattle.tm_base.specs.Paths.{Names}
use Rattle.tm_tree.specs.declared.node.NodeRow.{NodeRow}
use Rattle.tm_graph.specs.Nodes.{Nodes, node}
use Rattle.tm_store_records.specs.declared.locations.Location.{Location}
use Rattle.tm_store_records.specs.declared.locations.Location.TheVariants.{At, Misplaced}
use Rattle.tm_store_records.specs.declared.locations.Step.{Step}
use Rattle.tm_store_records.specs.Places.{NodeStandsAt}
use Rattle.tm_store_records.specs.Rules.{IsGoodNode}
use Rattle.tm_store_records.specs.Located.{AreLocations}
use Rattle.tm_store_records.specs.Drafts.{IsGoodAlone, IsTaken, IsFirstBadNode, pair_cmp}
use Rattle.tm_store_records.proofs.Placed.{at_place, place_of, placed_below, rises, equal_is}
use Rattle.tm_store_records.proofs.Stepping.{then_equal, at_equal}

pair_is : (a b : ℕ × ℕ) → is_at (pair_cmp a) b ≡ true → a ≡ b
pair_is a b e =
    let both = then_equal (nat_cmp a.0 b.0) (nat_cmp a.1 b.1) (at_equal (pair_cmp a b) e) in
    λ i. (equal_is a.0 b.0 both.0 i, equal_is a.1 b.1 both.1 i)

pair_same : (a : ℕ × ℕ) → is_at (pair_cmp a) a ≡ true
pair_same a = λ i. is_eq (ordering_then (tied_itself nat_cmp_total a.0 i) (tied_itself nat_cmp_total a.1 i))

not_true : (b : Bool) → not b ≡ true → b ≡ false
not_true true e = absurd (cc e)
not_true false e = refl

not_false : (b : Bool) → not b ≡ false → b ≡ true
not_false true e = refl
not_false false e = absurd (cc e)

-- a node before a place stands at the path of this number, with this label
pub record SeenAt (g : Nodes) (locations : ℕ → Option Location) (place label id : ℕ) : Type 0 where
  pub at : ℕ
  pub entry : ℕ × NodeRow
  pub depth : ℕ
  pub low : at < place
  pub is : slice_get g at ≡ Some entry
  pub label_is : entry.1.label ≡ label
  pub location : locations entry.0 ≡ Some (At id depth)

-- the nodes before a place keep the rules, and these are their labels with their paths
pub record KeptSoFar (g : Nodes) (roots : List ℕ) (number : ℕ) (locations : ℕ → Option Location) (seen : ℕ × ℕ → Bool) (place : ℕ) : Type 0 where
  pub good : (i : ℕ) (e : ℕ × NodeRow) → i < place → slice_get g i ≡ Some e → IsGoodNode g roots number i e.0 e.1
  pub told : (label id : ℕ) → seen (label, id) ≡ true → SeenAt g locations place label id
  pub known : (i : ℕ) (e : ℕ × NodeRow) (id depth : ℕ) → i < place → slice_get g i ≡ Some e → locations e.0 ≡ Some (At id depth) → seen (e.1.label, id) ≡ true

module _ (g : Nodes) (roots : List ℕ) (number : ℕ) (locations : ℕ → Option Location) where
  pub none_seen : (seen : ℕ × ℕ → Bool) → ((q : ℕ × ℕ) → seen q ≡ false) → KeptSoFar g roots number locations seen 0
  none_seen seen none = record {
    good = λ i e lt is. absurd (omega (arith, lt));
    told = λ label id e. absurd (let bad : false ≡ true = sym (none (label, id)) ∙ e in cc);
    known = λ i e id depth lt is at. absurd (omega (arith, lt));
  }

  later : (place label id : ℕ) → SeenAt g locations place label id → SeenAt g locations (place + 1) label id
  later place label id s = record { at = s.at; entry = s.entry; depth = s.depth; low = (let low = s.low in omega (arith, low)); is = s.is; label_is = s.label_is; location = s.location }

  module _ (ids : Step → Option ℕ) (count : ℕ) (tell : AreLocations g roots (NodeStandsAt g roots) locations ids count) (sorted : IsStrictlySortedBy nat_cmp (keys_of g)) where
    module _ (seen : ℕ × ℕ → Bool) (place : ℕ) (e : ℕ × NodeRow) (is : slice_get g place ≡ Some e) (alone : IsGoodAlone g roots number place e.0 e.1) (before : KeptSoFar g roots number locations seen place) where
      same_entry : (i : ℕ) (f : ℕ × NodeRow) → i ≡ place → slice_get g i ≡ Some f → e ≡ f
      same_entry i f same at = let both : Some e ≡ Some f = sym is ∙ ap (slice_get g) (sym same) ∙ at in cc

      -- with the rules of where it stands it keeps all
      kept : ((p : Names) → NodeStandsAt g roots p e.0 → length p ≤ max_names) → ((p q : Names) → NodeStandsAt g roots p e.0 → NodeStandsAt g roots q e.0 → p ≡ q)
          → ((m : ℕ) (other : NodeRow) (p : Names) → m < e.0 → node g m ≡ Some other → other.label ≡ e.1.label → NodeStandsAt g roots p m → NodeStandsAt g roots p e.0 → ⊥)
          → IsGoodNode g roots number place e.0 e.1
      kept near one_path one_node = record {
        few = alone.few;
        least = alone.least;
        most = alone.most;
        label_least = alone.label_least;
        label_most = alone.label_most;
        children = alone.children;
        linked = alone.linked;
        counted = alone.counted;
        near = near;
        one_path = one_path;
        one_node = one_node;
      }

      good_more : IsGoodNode g roots number place e.0 e.1 → (i : ℕ) (f : ℕ × NodeRow) → i < place + 1 → slice_get g i ≡ Some f → IsGoodNode g roots number i f.0 f.1
      good_more good i f lt at = ⊎_elim
          (λ (low : i < place). before.good i f low at)
          (λ (high : place ≤ i). let same : i ≡ place = omega (arith, lt, high) in
          subst (λ k. IsGoodNode g roots number k f.0 f.1) (sym same) (subst (λ (x : ℕ × NodeRow). IsGoodNode g roots number place x.0 x.1) (same_entry i f same at) good))
          (cases_lt i place)

      -- a node that stands nowhere
      nowhere_seen : (new : ℕ × ℕ → Bool) → locations e.0 ≡ None → ((q : ℕ × ℕ) → new q ≡ seen q) → KeptSoFar g roots number locations new (place + 1)
      nowhere_seen new none same = record {
        good = good_more (kept (λ p s. absurd (tell.none e.0 none p s)) (λ p q s t. absurd (tell.none e.0 none p s)) (λ m other p lt at label s t. tell.none e.0 none p t));
        told = λ label id h. later place label id (before.told label id (sym (same (label, id)) ∙ h));
        known = λ i f id depth lt at location. ⊎_elim
            (λ (low : i < place). same (f.1.label, id) ∙ before.known i f id depth low at location)
            (λ (high : place ≤ i). let here : i ≡ place = omega (arith, lt, high) in
            absurd (let both : None ≡ Some (At id depth) = sym none ∙ ap (λ (x : ℕ × NodeRow). locations x.0) (same_entry i f here at) ∙ location in cc))
            (cases_lt i place);
      }

      module _ (id depth : ℕ) (location : locations e.0 ≡ Some (At id depth)) where
        other_is : (m : ℕ) (other : NodeRow) (p : Names) → m < e.0 → node g m ≡ Some other → NodeStandsAt g roots p m → NodeStandsAt g roots p e.0 → seen (other.label, id) ≡ true
        other_is m other p lt at s t = by_location (locations m) refl
          where
            there : (i : ℕ) × (slice_get g i ≡ Some (m, other))
            there = place_of g m other at

            low : there.0 < place
            low = placed_below g there.0 place (m, other) e sorted there.1 is lt

            good : IsGoodNode g roots number there.0 m other
            good = before.good there.0 (m, other) low there.1

            by_location : (o : Option Location) → locations m ≡ o → seen (other.label, id) ≡ true
            by_location None h = absurd (tell.none m h p s)
            by_location (Some Misplaced) h = absurd (tell.misplaced m h good.near good.one_path)
            by_location (Some (At far deep)) h =
                let one = tell.one m far deep h in
                let mine = tell.one e.0 id depth location in
                let paths : one.path ≡ mine.path = sym (one.only p s) ∙ mine.only p t in
                let same : far ≡ id = tell.numbered.distinct far id mine.path (one.is ∙ ap (λ (x : Names). Some x) paths) mine.is in
                subst (λ k. seen (other.label, k) ≡ true) same (before.known there.0 (m, other) far deep low there.1 h)

        first_there : (new : ℕ × ℕ → Bool) → seen (e.1.label, id) ≡ false → ((q : ℕ × ℕ) → new q ≡ cond (is_at (pair_cmp (e.1.label, id)) q) true (seen q)) → KeptSoFar g roots number locations new (place + 1)
        first_there new fresh puts = record {
          good = good_more (kept
              (λ p s. let one = tell.one e.0 id depth location in let long = one.long in let near = one.near in let same = one.only p s in omega (arith, long, near, ap length same))
              (λ p q s t. let one = tell.one e.0 id depth location in one.only p s ∙ sym (one.only q t))
              (λ m other p lt at label s t. let bad : false ≡ true = sym fresh ∙ ap (λ k. seen (k, id)) (sym label) ∙ other_is m other p lt at s t in cc));
          told = λ label k h. by_pair label k (is_at (pair_cmp (e.1.label, id)) (label, k)) refl (sym (puts (label, k)) ∙ h);
          known = λ i f k far lt at there. ⊎_elim
              (λ (low : i < place). kept_true f.1.label k (is_at (pair_cmp (e.1.label, id)) (f.1.label, k)) refl (before.known i f k far low at there))
              (λ (high : place ≤ i).
              let here : i ≡ place = omega (arith, lt, high) in
              let entries = same_entry i f here at in
              let both : Some (At id depth) ≡ Some (At k far) = sym location ∙ ap (λ (x : ℕ × NodeRow). locations x.0) entries ∙ there in
              let locations_same : At id depth ≡ At k far = cc in
              let number_same : id ≡ k = cc in
              ap new (λ i. ((sym entries i).1.label, sym number_same i)) ∙ puts (e.1.label, id) ∙ ap (λ b. cond b true (seen (e.1.label, id))) (pair_same (e.1.label, id)))
              (cases_lt i place);
        }
          where
            by_pair : (label k : ℕ) (b : Bool) → is_at (pair_cmp (e.1.label, id)) (label, k) ≡ b → cond (is_at (pair_cmp (e.1.label, id)) (label, k)) true (seen (label, k)) ≡ true → SeenAt g locations (place + 1) label k
            by_pair label k true t h =
                let same = pair_is (e.1.label, id) (label, k) t in
                let labels : e.1.label ≡ label = ap (λ (x : ℕ × ℕ). x.0) same in
                let numbers : id ≡ k = ap (λ (x : ℕ × ℕ). x.1) same in
                record { at = place; entry = e; depth = depth; low = omega arith; is = is; label_is = labels; location = location ∙ ap (λ n. Some (At n depth)) numbers }
            by_pair label k false t h = later place label k (before.told label k (sym (ap (λ b. cond b true (seen (label, k))) t) ∙ h))

            kept_true : (label k : ℕ) (b : Bool) → is_at (pair_cmp (e.1.label, id)) (label, k) ≡ b → seen (label, k) ≡ true → new (label, k) ≡ true
            kept_true label k true t h = puts (label, k) ∙ ap (λ b. cond b true (seen (label, k))) t
            kept_true label k false t h = puts (label, k) ∙ ap (λ b. cond b true (seen (label, k))) t ∙ h

        twice : seen (e.1.label, id) ≡ true → IsGoodNode g roots number place e.0 e.1 → ⊥
        twice h good =
            let s = before.told e.1.label id h in
            let one = tell.one s.entry.0 id s.depth s.location in
            let mine = tell.one e.0 id depth location in
            let paths : one.path ≡ mine.path = (let both : Some one.path ≡ Some mine.path = sym one.is ∙ mine.is in cc) in
            good.one_node s.entry.0 s.entry.1 mine.path (rises g s.at place s.entry e sorted s.is is s.low) (at_place g s.at s.entry sorted s.is) s.label_is
            (subst (λ (p : Names). NodeStandsAt g roots p s.entry.0) paths one.came) mine.came

      -- the next node keeps the rules
      pub node_kept : (new : ℕ × ℕ → Bool) → IsTaken seen new e.1.label (locations e.0) true → KeptSoFar g roots number locations new (place + 1)
      node_kept new = by_location (locations e.0) refl
        where
          by_location : (o : Option Location) → locations e.0 ≡ o → IsTaken seen new e.1.label o true → KeptSoFar g roots number locations new (place + 1)
          by_location None h taken = nowhere_seen new h taken.1
          by_location (Some (At id depth)) h taken = first_there id depth h new (not_true (seen (e.1.label, id)) (sym taken.0)) taken.1
          by_location (Some Misplaced) h taken = absurd (cc taken)

      -- or it is the first that doesn't
      pub node_bad : (new : ℕ × ℕ → Bool) → IsTaken seen new e.1.label (locations e.0) false → IsFirstBadNode g roots number place
      node_bad new taken = record { entry = e; is = is; bad = by_location (locations e.0) refl taken; before = before.good }
        where
          by_location : (o : Option Location) → locations e.0 ≡ o → IsTaken seen new e.1.label o false → IsGoodNode g roots number place e.0 e.1 → ⊥
          by_location None h taken good = cc taken.0
          by_location (Some (At id depth)) h taken good = twice id depth h (not_false (seen (e.1.label, id)) (sym taken.0)) good
          by_location (Some Misplaced) h taken good = tell.misplaced e.0 h good.near good.one_path

-- one that breaks a rule of its own is the first that does
pub alone_bad : (g : Nodes) (roots : List ℕ) (number : ℕ) (locations : ℕ → Option Location) (seen : ℕ × ℕ → Bool) (place : ℕ) (e : ℕ × NodeRow) → slice_get g place ≡ Some e → KeptSoFar g roots number locations seen place
    → (IsGoodAlone g roots number place e.0 e.1 → ⊥) → IsFirstBadNode g roots number place
alone_bad g roots number locations seen place e is before bad = record {
  entry = e;
  is = is;
  bad = λ good. bad (record { few = good.few; least = good.least; most = good.most; label_least = good.label_least; label_most = good.label_most; children = good.children; linked = good.linked; counted = good.counted });
  before = before.good;
}
