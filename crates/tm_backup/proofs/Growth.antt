-- How the new nodes grow, call after call.
use Rattle.std.proofs.Common.{◌≡◌, ℕ, ◌+◌, ◌<◌, ◌≤◌, ◌==◌, Bool, false, if◌then◌else◌, Option, Some, None, List, [], ◌∷◌, ◌++◌, length, refl, sym, ap, ◌∙◌, subst, arith, append_assoc, append-nil, length-append}
use Rattle.std.specs.List.{All}
use Rattle.std.specs.Cmp.{unsigned_Decides}
use Rattle.std.proofs.lemmas.Bool.Decides.{nat_tests}
use Rattle.std.proofs.lemmas.List.Elements.{All-append, All-head, All-tail, All-cons}
use Rattle.std.proofs.lemmas.List.Sums.{sum_by-append, sum_by-cons}
use Rattle.tm_base.specs.Paths.{Names}
use Rattle.tm_blockmap.specs.Counts.{times}
use Rattle.tm_world.specs.declared.bytes.Blob.{Blob}
use Rattle.tm_tree.specs.declared.attrs.Attrs.{Attrs}
use Rattle.tm_tree.specs.declared.item.Item.{Item}
use Rattle.tm_tree.specs.declared.item.Item.TheVariants as item
use Rattle.tm_tree.specs.declared.node.LeafRow.TheVariants.{Link}
use Rattle.tm_tree.specs.declared.node.NodeBody.{NodeBody}
use Rattle.tm_tree.specs.declared.node.NodeBody.TheVariants.{Leaf}
use Rattle.tm_tree.specs.declared.node.NodeRow.{NodeRow}
use Rattle.tm_tree.specs.Items.{bytes_of}
use Rattle.tm_tree.specs.Trees.{item_at}
use Rattle.tm_graph.specs.Nodes.{Nodes, greatest, new_node}
use Rattle.tm_copy.specs.Keeping.{kept_link, kept_leaf}
use Rattle.tm_copy.specs.Making.{Making, next_number, with_node, with_file, file_body, Adds}
use Rattle.tm_copy.specs.Building.{Backup, base_at, first, next, IsSound, AreNew, Builds}
use Rattle.tm_copy.proofs.Finishes.{leaf_is_kept, leaf_is_made}
use Rattle.tm_backup.specs.declared.stage.EntryPlan.TheVariants as plan
use Rattle.tm_backup.specs.Growing.{blocks_in, IsFilled, Grown, Grows}
use Rattle.tm_backup.specs.EntryPlans.{IsPlanFor}
use Rattle.tm_backup.proofs.Bytes.{held_same}

-- ---- nothing came

pub grown_none : (told : Type 0) (b : Backup) (bytes : ℕ → List ℕ) (m : Making) (staged : List ℕ) (fresh : ℕ → List ℕ) → AreNew b m.nodes → Grown told b bytes m m (λ k. 0) staged staged fresh fresh
grown_none told b bytes m staged fresh are = record {
  label = refl;
  first = refl;
  more = [];
  nodes = sym (append-nil m.nodes);
  are = are;
  same = λ k lt. refl;
  blobs = [];
  blobs_are = sym (append-nil m.blobs);
  filled = λ i d below. absurd (omega (arith, below));
  paid = λ k. omega arith;
}

-- a node is made after the others
module _ (b : Backup) (old : Making) (begun : old.first ≡ greatest b.graph + 1) where
  pub number_next : next_number old ≡ next b old.nodes
  number_next = ap (λ n. n + length old.nodes) begun

  pub next_after : (row : NodeRow) → next b (old.nodes ++ (next b old.nodes, row) ∷ []) ≡ next b old.nodes + 1
  next_after row = omega (arith, length-append old.nodes ((next b old.nodes, row) ∷ []))

  pub nodes_after : (body : NodeBody) → (with_node old body).nodes ≡ old.nodes ++ (next b old.nodes, new_node old.label body) ∷ []
  nodes_after body = ap (λ (n : ℕ). old.nodes ++ (n, new_node old.label body) ∷ []) number_next

-- what a call leaves where one node came, that is no file
module _ (told : Type 0) (b : Backup) (bytes : ℕ → List ℕ) (old : Making) (staged : List ℕ) (fresh : ℕ → List ℕ) (begun : old.first ≡ greatest b.graph + 1) (body : NodeBody) where
  pub grown_node : AreNew b (old.nodes ++ (next b old.nodes, new_node old.label body) ∷ []) → Grown told b bytes old (with_node old body) (λ k. 0) staged staged fresh fresh
  grown_node are = record {
    label = refl;
    first = refl;
    more = (next b old.nodes, new_node old.label body) ∷ [];
    nodes = nodes_after b old begun body;
    are = subst (AreNew b) (sym (nodes_after b old begun body)) are;
    same = λ k lt. refl;
    blobs = [];
    blobs_are = sym (append-nil old.blobs);
    filled = λ i d below. absurd (omega (arith, below));
    paid = λ k. omega arith;
  }

-- ---- an entry

abbrev Entry : Backup → Making → Making → Names → ℕ → (ℕ → List ℕ) → Type 0
Entry b old new q n other = Builds b new.nodes other (next b old.nodes) (next b new.nodes) q n

module _ (told : Type 0) (b : Backup) (sound : IsSound b) (bytes : ℕ → List ℕ) (old : Making) (staged : List ℕ) (fresh : ℕ → List ℕ) (label : old.label ≡ b.label) (begun : old.first ≡ greatest b.graph + 1) (are : AreNew b old.nodes) (q : Names) where
  low : first b ≤ next b old.nodes
  low = omega arith

  -- an old node is kept
  kept_grows : (e : Item) (n : ℕ) → item_at b.now q ≡ Some e → kept_leaf b.graph (base_at b q) e ≡ Some n → Grows told b bytes old old (λ k. 0) staged staged fresh (Entry b old old q n)
  kept_grows e n is h = record { other = fresh; grown = grown_none told b bytes old staged fresh are; has = leaf_is_kept b old.nodes fresh (next b old.nodes) q e n sound low is h }

  pub plan_kept : (n : ℕ) → IsPlanFor told b bytes q (plan.Kept n) → Grows told b bytes old old (λ k. 0) staged staged fresh (Entry b old old q n)
  plan_kept n h = kept_grows h.0 n h.1 h.2

  -- a link
  pub plan_link : (attrs : Attrs) (stamp : ℕ) (target : List ℕ) (new : Making) (n : ℕ) → IsPlanFor told b bytes q (plan.Link attrs stamp target)
      → Adds (kept_link b.graph (base_at b q) stamp) old (Leaf (Link attrs stamp target)) new n → Grows told b bytes old new (λ k. 0) staged staged fresh (Entry b old new q n)
  plan_link attrs stamp target new n h adds = by_kept (kept_link b.graph (base_at b q) stamp) refl adds
    where
      by_kept : (o : Option ℕ) → kept_link b.graph (base_at b q) stamp ≡ o → Adds o old (Leaf (Link attrs stamp target)) new n → Grows told b bytes old new (λ k. 0) staged staged fresh (Entry b old new q n)
      by_kept (Some m) k a = subst (λ (x : Making). Grows told b bytes old x (λ k. 0) staged staged fresh (Entry b old x q n)) (sym a.1) (kept_grows h.0 n h.1 (h.3 ∙ k ∙ ap Some (sym a.0)))
      by_kept None k a =
          let body = Leaf (Link attrs stamp target) in
          let row = new_node old.label body in
          let item : item.Link attrs stamp target ≡ h.0 = sym (h.4 k) in
          let made = leaf_is_made b old.nodes fresh q h.0 row sound are h.1 h.2 (h.3 ∙ k) label item (ap (λ (e : Item). length (bytes_of e)) item) in
          subst (λ (x : Making). Grows told b bytes old x (λ k. 0) staged staged fresh (Entry b old x q n)) (sym a.1) (record {
            other = fresh;
            grown = grown_node told b bytes old staged fresh begun body made.0;
            has = subst (λ (m : ℕ). Builds b (with_node old body).nodes fresh (next b old.nodes) (next b (with_node old body).nodes) q m) (sym (a.0 ∙ number_next b old begun))
                (subst (λ (xs : Nodes). Builds b xs fresh (next b old.nodes) (next b xs) q (next b old.nodes)) (sym (nodes_after b old begun body))
                (subst (λ (hi : ℕ). Builds b (old.nodes ++ (next b old.nodes, row) ∷ []) fresh (next b old.nodes) hi q (next b old.nodes)) (sym (next_after b old begun row)) made.1));
          })

  -- a file
  module _ (attrs : Attrs) (stamp : ℕ) (blob : Blob) (h : IsPlanFor told b bytes q (plan.File attrs stamp blob)) where
    abbrev body : NodeBody
    body = file_body attrs stamp blob

    abbrev row : NodeRow
    row = new_node old.label body

    abbrev top : ℕ
    top = next b old.nodes

    abbrev other : ℕ → List ℕ
    other k = if k == top then h.0 else fresh k

    at_top : other top ≡ h.0
    at_top = ap (λ (t : Bool). if t then h.0 else fresh top) ((unsigned_Decides top top).1 refl)

    below_top : (k : ℕ) → k < top → other k ≡ fresh k
    below_top k lt = let not : (k == top) ≡ false = grind (arith, nat_tests) in ap (λ (t : Bool). if t then h.0 else fresh k) not

    made : AreNew b (old.nodes ++ (top, row) ∷ []) × Builds b (old.nodes ++ (top, row) ∷ []) other top (top + 1) q top
    made = leaf_is_made b old.nodes other q (item.File attrs stamp h.0) row sound are h.1 refl h.2 label (ap (item.File attrs stamp) at_top) h.3

    abbrev new : Making
    new = with_file old attrs stamp blob

    new_nodes : new.nodes ≡ old.nodes ++ (top, row) ∷ []
    new_nodes = nodes_after b old begun body

    filled : IsFilled told (next b new.nodes) bytes other (next_number old, blob)
    filled = record {
      below = omega (arith, number_next b old begun, ap (next b) new_nodes, next_after b old begun row);
      small = h.4;
      many = h.5;
      holds = λ t. h.6 t ∙ sym (ap other (number_next b old begun) ∙ at_top);
    }

    pub plan_file : (n : ℕ) → n ≡ next_number old → Grows told b bytes old new (λ k. times k blob.blocks) staged staged fresh (Entry b old new q n)
    plan_file n is = record {
      other = other;
      grown = record {
        label = refl;
        first = refl;
        more = (top, row) ∷ [];
        nodes = new_nodes;
        are = subst (AreNew b) (sym new_nodes) made.0;
        same = below_top;
        blobs = (next_number old, blob) ∷ [];
        blobs_are = refl;
        filled = All-cons (IsFilled told (next b new.nodes) bytes other) (next_number old, blob) [] filled (λ i d below. absurd (omega (arith, below)));
        paid = λ k. omega (arith, sum_by-cons (λ (x : ℕ × Blob). times k x.1.blocks) (next_number old, blob) []);
      };
      has = subst (λ (m : ℕ). Builds b new.nodes other top (next b new.nodes) q m) (sym (is ∙ number_next b old begun))
          (subst (λ (xs : Nodes). Builds b xs other top (next b xs) q top) (sym new_nodes)
          (subst (λ (hi : ℕ). Builds b (old.nodes ++ (top, row) ∷ []) other top hi q top) (sym (next_after b old begun row)) made.1));
    }

-- ---- one call after another

module _ (told : Type 0) (b : Backup) (x y : ℕ → List ℕ) (old mid new : Making) (due more : ℕ → ℕ) (was staged last : List ℕ) (fresh other third : ℕ → List ℕ)
    (one : Grown told b x old mid due was staged fresh other) (two : Grown told b y mid new more staged last other third)
    (owed : (k : ℕ) → due k ≤ times k was) (kept : told → (k : ℕ) → 0 < times k staged → y k ≡ x k) where
  rises : next b old.nodes ≤ next b mid.nodes
  rises = omega (arith, ap length one.nodes, length-append old.nodes one.more)

  rises_more : next b mid.nodes ≤ next b new.nodes
  rises_more = omega (arith, ap length two.nodes, length-append mid.nodes two.more)

  still : (blobs : List (ℕ × Blob)) → ((k : ℕ) → blocks_in blobs k ≤ times k staged) → All (IsFilled told (next b mid.nodes) x other) blobs → All (IsFilled told (next b new.nodes) y third) blobs
  still [] within each = λ i d below. absurd (omega (arith, below))
  still (e ∷ blobs) within each =
      let first = All-head (IsFilled told (next b mid.nodes) x other) e blobs each in
      All-cons (IsFilled told (next b new.nodes) y third) e blobs
      (record {
        below = omega (arith, first.below, rises_more);
        small = first.small;
        many = first.many;
        holds = λ t. held_same e.1.blocks y x e.1.length first.many (λ k some. kept t k (omega (arith, some, within k, blocks-cons e blobs k))) ∙ first.holds t ∙ sym (two.same e.0 first.below);
      })
      (still blobs (λ k. omega (arith, within k, blocks-cons e blobs k)) (All-tail (IsFilled told (next b mid.nodes) x other) e blobs each))
    where
      blocks-cons : (e : ℕ × Blob) (blobs : List (ℕ × Blob)) (k : ℕ) → blocks_in (e ∷ blobs) k ≡ times k e.1.blocks + blocks_in blobs k
      blocks-cons e blobs k = sum_by-cons (λ (z : ℕ × Blob). times k z.1.blocks) e blobs

  pub grown_then : Grown told b y old new (λ k. due k + more k) was last fresh third
  grown_then = record {
    label = two.label ∙ one.label;
    first = two.first ∙ one.first;
    more = one.more ++ two.more;
    nodes = two.nodes ∙ ap (λ (xs : Nodes). xs ++ two.more) one.nodes ∙ append_assoc old.nodes one.more two.more;
    are = two.are;
    same = λ m lt. two.same m (omega (arith, lt, rises)) ∙ one.same m lt;
    blobs = one.blobs ++ two.blobs;
    blobs_are = two.blobs_are ∙ ap (λ (xs : List (ℕ × Blob)). xs ++ two.blobs) one.blobs_are ∙ append_assoc old.blobs one.blobs two.blobs;
    filled = All-append (IsFilled told (next b new.nodes) y third) one.blobs two.blobs (still one.blobs (λ k. omega (arith, one.paid k, owed k)) one.filled) two.filled;
    paid = λ k. omega (arith, one.paid k, two.paid k, sum_by-append (λ (z : ℕ × Blob). times k z.1.blocks) one.blobs two.blobs);
  }

-- another way to count what was due
pub grown_due : (told : Type 0) (b : Backup) (x : ℕ → List ℕ) (old new : Making) (due more : ℕ → ℕ) (was staged : List ℕ) (fresh other : ℕ → List ℕ) → ((k : ℕ) → due k ≡ more k)
    → Grown told b x old new due was staged fresh other → Grown told b x old new more was staged fresh other
grown_due told b x old new due more was staged fresh other same g = record {
  label = g.label;
  first = g.first;
  more = g.more;
  nodes = g.nodes;
  are = g.are;
  same = g.same;
  blobs = g.blobs;
  blobs_are = g.blobs_are;
  filled = g.filled;
  paid = λ k. omega (arith, g.paid k, same k);
}

-- and of what is staged
pub grown_paid : (told : Type 0) (b : Backup) (x : ℕ → List ℕ) (old new : Making) (due more : ℕ → ℕ) (was before staged : List ℕ) (fresh other : ℕ → List ℕ) → ((k : ℕ) → due k + times k before ≡ more k + times k was)
    → Grown told b x old new due was staged fresh other → Grown told b x old new more before staged fresh other
grown_paid told b x old new due more was before staged fresh other same g = record {
  label = g.label;
  first = g.first;
  more = g.more;
  nodes = g.nodes;
  are = g.are;
  same = g.same;
  blobs = g.blobs;
  blobs_are = g.blobs_are;
  filled = g.filled;
  paid = λ k. omega (arith, g.paid k, same k);
}
