use Rattle.std.proofs.Common.{◌≡◌, ℕ, ◌<◌, ◌≤◌, ◌++◌, ◌∷◌, [], true, false, None, arith, ap, sym, ◌∙◌, refl, ⊎_elim}
use Rattle.std.proofs.lemmas.Bool.{cases_lt}
use Rattle.std.specs.Option.{unwrap_or}
use Rattle.tm_graph.specs.Losing.{spends, is_spent}
use Rattle.tm_graph.specs.Nodes.{node, times}
use Rattle.tm_graph.specs.Unlinking.{lost_all, thins, is_thinned}
use Rattle.tm_graph.proofs.Lost.{falling_push, names_at, falling_start, spends_nothing, not_here}
use Rattle.tm_graph.proofs.Unlinked.{push_all, all-le, thins_nothing, not_both, not_there, told_on, told_past, stays_lost, start_all, absent_of, none_told}
use Rattle.tm_graph.proofs.losses.collect.Goals as goal

pub loop-number-init : goal.loop-number-init
loop-number-init c =
    let g = c.args.nodes.now.entries in
    let roots = c.args.roots.now in
    let none = c.new-gone.ensures.items in
    let none_thinned = c.new-thinned.ensures.items in
    record {
      counts = λ q. c.in_ok-counts.ensures q ∙ sym (start_all g roots c.new-gone.result.items q none);
      falls = falling_start _ none;
      thinned_falls = falling_start _ none_thinned;
      spent = λ q l. none_told _ q _ none (ap (λ o. spends (lost_all g roots c.new-gone.result.items q) o) (not_there g q c.requires.graph (omega (arith, l))));
      thins = λ q l. none_told _ q _ none_thinned (ap (λ o. thins (lost_all g roots c.new-gone.result.items q) o) (not_there g q c.requires.graph (omega (arith, l))));
      below = λ q l. none_told _ q false none refl;
      thinned_below = λ q l. none_told _ q false none_thinned refl;
    }

pub count_all-requires : goal.count_all-requires
count_all-requires c = λ q.
    let g = c.args.nodes.now.entries in
    let roots = c.args.roots.now in
    let n = c.in-Some.number in
    let here = names_at g n q c.in-Some-get.row.now (sym c.in-Some-get.ensures.value) in
    let falls = falling_push c.loop-number.gone.items n c.loop-number.invariant.falls (λ q l. c.loop-number.invariant.below q (omega (arith, l, c.in-Some.ensures.below))) in
    let fits = all-le g roots _ q c.requires.graph c.requires.linked falls in
    omega (arith, fits, here, push_all g roots c.loop-number.gone.items n q, c.loop-number.invariant.counts q, c.requires.graph.few q, ap (times q) c.children_of.ensures)

pub loop-number-preserved-in-Continue-branch-3 : goal.loop-number-preserved-in-Continue-branch-3
loop-number-preserved-in-Continue-branch-3 c =
    let g = c.args.nodes.now.entries in
    let roots = c.args.roots.now in
    let n = c.in-Some.number in
    let gone = c.loop-number.gone.items in
    let old = c.loop-number.invariant in
    let row = sym c.in-Some-get.ensures.value in
    let count = λ (q : ℕ) (low : n < q) (high : q < c.loop-number.above). sym (old.counts q) ∙ ap (λ o. unwrap_or o 0) (c.in-Some.ensures.greatest q low high) in
    let spent : spends (lost_all g roots gone n) (node g n) ≡ true = ap (λ o. spends (lost_all g roots gone n) o) row
    ∙ ap (λ k. is_spent c.in-Some-get.row.now.links k) (sym (old.counts n) ∙ ap (λ o. unwrap_or o 0) c.in-Some.ensures.found) ∙ sym c.is_spent.ensures ∙ c.if-is_spent.true in
    let stays : (q : ℕ) → n ≤ q → lost_all g roots (gone ++ n ∷ []) q ≡ lost_all g roots gone q = λ q l. stays_lost g roots gone n c.loop-number.above q c.requires.graph c.in-Some.ensures.below l (count q) in
    record {
      counts = λ q. rw c.in_ok-push.ensures.items
          (let here = names_at g n q c.in-Some-get.row.now row in
          omega (arith, here, push_all g roots gone n q, old.counts q, c.in_ok-count_all.ensures q, ap (times q) c.children_of.ensures));
      falls = rw c.in_ok-push.ensures.items (falling_push gone n old.falls (λ q l. old.below q (omega (arith, l, c.in-Some.ensures.below))));
      thinned_falls = old.thinned_falls;
      spent = λ q l. rw c.in_ok-push.ensures.items (
          told_on g roots gone n c.loop-number.above q c.requires.graph c.in-Some.ensures.below l (count q) gone spends spends_nothing old.below (old.spent q) spent
          ∙ sym (ap (λ k. spends k (node g q)) (stays q l)));
      thins = λ q l. rw c.in_ok-push.ensures.items (
          told_past g roots gone n c.loop-number.above q c.requires.graph c.in-Some.ensures.below l (count q) c.loop-number.thinned.items thins thins_nothing old.thinned_below (old.thins q) (not_both (lost_all g roots gone n) (node g n) spent)
          ∙ sym (ap (λ k. thins k (node g q)) (stays q l)));
      below = λ q l. rw c.in_ok-push.ensures.items (not_here gone n q (old.below q (omega (arith, l, c.in-Some.ensures.below))) l);
      thinned_below = λ q l. old.thinned_below q (omega (arith, l, c.in-Some.ensures.below));
    }

pub loop-number-preserved-in-Continue-branch-4 : goal.loop-number-preserved-in-Continue-branch-4
loop-number-preserved-in-Continue-branch-4 c =
    let g = c.args.nodes.now.entries in
    let roots = c.args.roots.now in
    let n = c.in-Some.number in
    let gone = c.loop-number.gone.items in
    let thinned = c.loop-number.thinned.items in
    let old = c.loop-number.invariant in
    let row = sym c.in-Some-get.ensures.value in
    let count = λ (q : ℕ) (low : n < q) (high : q < c.loop-number.above). sym (old.counts q) ∙ ap (λ o. unwrap_or o 0) (c.in-Some.ensures.greatest q low high) in
    let number = sym (old.counts n) ∙ ap (λ o. unwrap_or o 0) c.in-Some.ensures.found in
    let unspent : spends (lost_all g roots gone n) (node g n) ≡ false = ap (λ o. spends (lost_all g roots gone n) o) row
    ∙ ap (λ k. is_spent c.in-Some-get.row.now.links k) number ∙ sym c.is_spent.ensures ∙ c.if-is_spent.false in
    let thinning : thins (lost_all g roots gone n) (node g n) ≡ true = ap (λ o. thins (lost_all g roots gone n) o) row
    ∙ ap (λ k. is_thinned c.in-Some-get.row.now.links k) number ∙ sym c.is_thinned.ensures ∙ c.if-is_thinned.true in
    record {
      counts = old.counts;
      falls = old.falls;
      thinned_falls = rw c.in_ok-push-2.ensures.items (falling_push thinned n old.thinned_falls (λ q l. old.thinned_below q (omega (arith, l, c.in-Some.ensures.below))));
      spent = λ q l. told_past g roots gone n c.loop-number.above q c.requires.graph c.in-Some.ensures.below l (count q) gone spends spends_nothing old.below (old.spent q) unspent;
      thins = λ q l. rw c.in_ok-push-2.ensures.items (told_on g roots gone n c.loop-number.above q c.requires.graph c.in-Some.ensures.below l (count q) thinned thins thins_nothing old.thinned_below (old.thins q) thinning);
      below = λ q l. old.below q (omega (arith, l, c.in-Some.ensures.below));
      thinned_below = λ q l. rw c.in_ok-push-2.ensures.items (not_here thinned n q (old.thinned_below q (omega (arith, l, c.in-Some.ensures.below))) l);
    }

pub loop-number-preserved-else-is_thinned : goal.loop-number-preserved-else-is_thinned
loop-number-preserved-else-is_thinned c =
    let g = c.args.nodes.now.entries in
    let roots = c.args.roots.now in
    let n = c.in-Some.number in
    let gone = c.loop-number.gone.items in
    let old = c.loop-number.invariant in
    let row = sym c.in-Some-get.ensures.value in
    let count = λ (q : ℕ) (low : n < q) (high : q < c.loop-number.above). sym (old.counts q) ∙ ap (λ o. unwrap_or o 0) (c.in-Some.ensures.greatest q low high) in
    let number = sym (old.counts n) ∙ ap (λ o. unwrap_or o 0) c.in-Some.ensures.found in
    let unspent : spends (lost_all g roots gone n) (node g n) ≡ false = ap (λ o. spends (lost_all g roots gone n) o) row
    ∙ ap (λ k. is_spent c.in-Some-get.row.now.links k) number ∙ sym c.is_spent.ensures ∙ c.if-is_spent.false in
    let unthinned : thins (lost_all g roots gone n) (node g n) ≡ false = ap (λ o. thins (lost_all g roots gone n) o) row
    ∙ ap (λ k. is_thinned c.in-Some-get.row.now.links k) number ∙ sym c.is_thinned.ensures ∙ c.if-is_thinned.false in
    record {
      counts = old.counts;
      falls = old.falls;
      thinned_falls = old.thinned_falls;
      spent = λ q l. told_past g roots gone n c.loop-number.above q c.requires.graph c.in-Some.ensures.below l (count q) gone spends spends_nothing old.below (old.spent q) unspent;
      thins = λ q l. told_past g roots gone n c.loop-number.above q c.requires.graph c.in-Some.ensures.below l (count q) c.loop-number.thinned.items thins thins_nothing old.thinned_below (old.thins q) unthinned;
      below = λ q l. old.below q (omega (arith, l, c.in-Some.ensures.below));
      thinned_below = λ q l. old.thinned_below q (omega (arith, l, c.in-Some.ensures.below));
    }

pub loop-number-preserved : goal.loop-number-preserved
loop-number-preserved c =
    let g = c.args.nodes.now.entries in
    let roots = c.args.roots.now in
    let n = c.in-Some.number in
    let gone = c.loop-number.gone.items in
    let old = c.loop-number.invariant in
    let absent : node g n ≡ None = absent_of _ c.get.result (node g n) (λ x is. c.in_default-get.not-Some x is) c.get.ensures.value in
    let count = λ (q : ℕ) (low : n < q) (high : q < c.loop-number.above). sym (old.counts q) ∙ ap (λ o. unwrap_or o 0) (c.in-Some.ensures.greatest q low high) in
    record {
      counts = old.counts;
      falls = old.falls;
      thinned_falls = old.thinned_falls;
      spent = λ q l. told_past g roots gone n c.loop-number.above q c.requires.graph c.in-Some.ensures.below l (count q) gone spends spends_nothing old.below (old.spent q) (ap (λ o. spends (lost_all g roots gone n) o) absent);
      thins = λ q l. told_past g roots gone n c.loop-number.above q c.requires.graph c.in-Some.ensures.below l (count q) c.loop-number.thinned.items thins thins_nothing old.thinned_below (old.thins q) (ap (λ o. thins (lost_all g roots gone n) o) absent);
      below = λ q l. old.below q (omega (arith, l, c.in-Some.ensures.below));
      thinned_below = λ q l. old.thinned_below q (omega (arith, l, c.in-Some.ensures.below));
    }

pub returns-clause-lost : goal.returns-clause-lost
returns-clause-lost c =
    let g = c.args.nodes.now.entries in
    let roots = c.args.roots.now in
    let gone = c.loop-number.gone.items in
    let old = c.loop-number.invariant in
    let nothing = λ (q : ℕ) (low : q < c.loop-number.above). sym (old.counts q) ∙ ap (λ o. unwrap_or o 0) (c.in_default.ensures.none q low) in
    record {
      gone_fall = old.falls;
      thinned_fall = old.thinned_falls;
      gone_are = λ q. ⊎_elim (λ low. old.below q low ∙ sym (spends_nothing (lost_all g roots gone q) (node g q) (nothing q low))) (λ high. old.spent q high) (cases_lt q c.loop-number.above);
      thinned_are = λ q. ⊎_elim (λ low. old.thinned_below q low ∙ sym (thins_nothing (lost_all g roots gone q) (node g q) (nothing q low))) (λ high. old.thins q high) (cases_lt q c.loop-number.above);
    }
