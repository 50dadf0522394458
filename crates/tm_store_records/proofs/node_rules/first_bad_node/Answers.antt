use Rattle.std.proofs.Common.{rules, ◌≡◌, ℕ, ◌<◌, Bool, true, false, Option, Some, length, slice_get, sym, ap, ◌∙◌, arith, subst}
use Rattle.std.specs.BTreeSet.{contains}
use Rattle.std.proofs.lemmas.Option.{slice_get-get_or, slice_get_within}
use Rattle.tm_tree.specs.declared.node.NodeRow.{NodeRow}
use Rattle.tm_store_records.specs.declared.locations.Location.{Location}
use Rattle.tm_store_records.specs.Found.{roots_of}
use Rattle.tm_store_records.specs.Drafts.{IsTaken, pair_cmp}
use Rattle.tm_store_records.proofs.Walking.{locations_of, ids_of}
use Rattle.tm_store_records.proofs.Ruling.{node_kept, node_bad, alone_bad}
use Rattle.tm_store_records.proofs.node_rules.first_bad_node.Goals as goal

pub returns-then-not-is_good_alone-clause-some : goal.returns-then-not-is_good_alone-clause-some
returns-then-not-is_good_alone-clause-some c =
    let g = c.args.nodes.now in
    let roots = roots_of c.args.snapshots.now in
    let place = c.loop-place.place in
    let e = c.index-nodes-place.result in
    let lt : place < length g = omega arith in
    let is : slice_get g place ≡ Some e = slice_get-get_or g place e lt ∙ ap (λ (x : ℕ × NodeRow). Some x) (sym c.index-nodes-place.is) in
    alone_bad g roots c.args.number (locations_of c.in_ok-locations.locations) (λ q. contains pair_cmp c.loop-place.seen q) place e is c.loop-place.invariant
    (λ good. let yes : c.is_good_alone.result ≡ true = (c.is_good_alone.ensures roots c.in_ok-counts.ensures).1 good in absurd (cc (yes, c.if-not-is_good_alone.true)))

pub returns-then-not-branch-clause-some : goal.returns-then-not-branch-clause-some
returns-then-not-branch-clause-some c =
    let g = c.args.nodes.now in
    let roots = roots_of c.args.snapshots.now in
    let place = c.loop-place.place in
    let e = c.index-nodes-place.result in
    let s = c.in_ok-locations.locations in
    let lt : place < length g = omega arith in
    let is : slice_get g place ≡ Some e = slice_get-get_or g place e lt ∙ ap (λ (x : ℕ × NodeRow). Some x) (sym c.index-nodes-place.is) in
    let alone = (c.is_good_alone.ensures roots c.in_ok-counts.ensures).0 (search rules) in
    let location : c.copied.result ≡ locations_of s e.0 = search rules in
    let no : c.in_ok-take_location.field-0 ≡ false = search rules in
    node_bad g roots c.args.number (locations_of s) (ids_of s) s.count c.in_ok-locations.ensures c.requires.sorted (λ q. contains pair_cmp c.loop-place.seen q) place e is alone c.loop-place.invariant
    (λ q. contains pair_cmp c.take_location.new.seen q)
    (subst (λ (o : Option Location). IsTaken (λ q. contains pair_cmp c.loop-place.seen q) (λ q. contains pair_cmp c.take_location.new.seen q) e.1.label o false) location
    (subst (λ (b : Bool). IsTaken (λ q. contains pair_cmp c.loop-place.seen q) (λ q. contains pair_cmp c.take_location.new.seen q) e.1.label c.copied.result b) no c.in_ok-take_location.ensures))

pub loop-place-preserved : goal.loop-place-preserved
loop-place-preserved c =
    let g = c.args.nodes.now in
    let roots = roots_of c.args.snapshots.now in
    let place = c.loop-place.place in
    let e = c.index-nodes-place.result in
    let s = c.in_ok-locations.locations in
    let lt : place < length g = omega arith in
    let is : slice_get g place ≡ Some e = slice_get-get_or g place e lt ∙ ap (λ (x : ℕ × NodeRow). Some x) (sym c.index-nodes-place.is) in
    let alone = (c.is_good_alone.ensures roots c.in_ok-counts.ensures).0 (search rules) in
    let location : c.copied.result ≡ locations_of s e.0 = search rules in
    let yes : c.in_ok-take_location.field-0 ≡ true = search rules in
    node_kept g roots c.args.number (locations_of s) (ids_of s) s.count c.in_ok-locations.ensures c.requires.sorted (λ q. contains pair_cmp c.loop-place.seen q) place e is alone c.loop-place.invariant
    (λ q. contains pair_cmp c.take_location.new.seen q)
    (subst (λ (o : Option Location). IsTaken (λ q. contains pair_cmp c.loop-place.seen q) (λ q. contains pair_cmp c.take_location.new.seen q) e.1.label o true) location
    (subst (λ (b : Bool). IsTaken (λ q. contains pair_cmp c.loop-place.seen q) (λ q. contains pair_cmp c.take_location.new.seen q) e.1.label c.copied.result b) yes c.in_ok-take_location.ensures))

pub returns-clause-none : goal.returns-clause-none
returns-clause-none c = λ i e is.
    c.loop-place.invariant.good i e (let lt = slice_get_within c.args.nodes.now i e is in omega (arith, lt, c.loop-place-test.false)) is
