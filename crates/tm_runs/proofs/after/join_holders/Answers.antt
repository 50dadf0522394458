use Rattle.std.proofs.Common.{◌≡◌, ◌++◌, ◌+◌, ◌-◌, ◌∙◌, get_or, take, drop, arith, refl, ap, subst}
use Rattle.tm_pages.specs.declared.cut.Cut.{Cut}
use Rattle.tm_records.specs.Removes.{without}
use Rattle.tm_pages.specs.Paged.{lengths}
use Rattle.tm_pages.specs.Cuts.{cut_len, cut_lengths}
use Rattle.tm_runs.specs.declared.holder.Holder.{Holder}
use Rattle.tm_runs.specs.Marks.{mark_at, place, AreHoldersFrom}
use Rattle.tm_runs.proofs.Going.{nought, going_start, going_here, going_next, going_run, going_last, going_on, inside_at, made_more, pages_enough, slice_is, fresh_within, going_end}
use Rattle.tm_runs.proofs.after.join_holders.Goals as goal

pub loop-k-init : goal.loop-k-init
loop-k-init c = record { going = λ p. going_start (without c.args.left_out.now c.args.records.now.entries) c.args.holders.now c.new-new.result.items c.args.runs.now c.args.cuts.now (lengths c.args.pages.now) p c.new-new.ensures.items }

pub bounds-runs-k : goal.bounds-runs-k
bounds-runs-k c =
    let p = c.requires.plan in
    going_run (without c.args.left_out.now c.args.records.now.entries) c.args.holders.now p.old p.many (lengths c.args.pages.now) c.args.runs.now c.args.cuts.now c.loop-k.k c.loop-k.at c.loop-k.new.items c.loop-k-test.true (c.loop-k.invariant.going p)

pub push_kept-requires-clause-order : goal.push_kept-requires-clause-order
push_kept-requires-clause-order c =
    let p = c.requires.plan in
    let g = going_here (without c.args.left_out.now c.args.records.now.entries) c.args.holders.now p.old p.many (lengths c.args.pages.now) c.args.runs.now c.args.cuts.now c.loop-k.k c.loop-k.at c.loop-k.new.items c.loop-k-test.true (c.loop-k.invariant.going p) in
    (inside_at (without c.args.left_out.now c.args.records.now.entries) c.args.holders.now p.old p.many (lengths c.args.pages.now) _ _ _ _ c.loop-k.at c.loop-k.new.items g).0

pub push_kept-requires-clause-inside : goal.push_kept-requires-clause-inside
push_kept-requires-clause-inside c =
    let p = c.requires.plan in
    let g = going_here (without c.args.left_out.now c.args.records.now.entries) c.args.holders.now p.old p.many (lengths c.args.pages.now) c.args.runs.now c.args.cuts.now c.loop-k.k c.loop-k.at c.loop-k.new.items c.loop-k-test.true (c.loop-k.invariant.going p) in
    (inside_at (without c.args.left_out.now c.args.records.now.entries) c.args.holders.now p.old p.many (lengths c.args.pages.now) _ _ _ _ c.loop-k.at c.loop-k.new.items g).1

pub begin_of-begin-requires : goal.begin_of-begin-requires
begin_of-begin-requires c =
    let p = c.requires.plan in
    let g = going_next (without c.args.left_out.now c.args.records.now.entries) c.args.holders.now p.old p.many (lengths c.args.pages.now) c.args.runs.now c.args.cuts.now c.loop-k.k c.loop-k.at c.loop-k.new.items c.index-runs-k.result c.loop-k-test.true c.index-runs-k.is (c.loop-k.invariant.going p) in
    (inside_at (without c.args.left_out.now c.args.records.now.entries) c.args.holders.now p.old p.many (lengths c.args.pages.now) _ _ _ _ c.loop-k.at c.loop-k.new.items g).3

pub fresh_holders-requires-clause-rises : goal.fresh_holders-requires-clause-rises
fresh_holders-requires-clause-rises c =
    let p = c.requires.plan in
    let g = going_next (without c.args.left_out.now c.args.records.now.entries) c.args.holders.now p.old p.many (lengths c.args.pages.now) c.args.runs.now c.args.cuts.now c.loop-k.k c.loop-k.at c.loop-k.new.items c.index-runs-k.result c.loop-k-test.true c.index-runs-k.is (c.loop-k.invariant.going p) in
    g.of.0.within.0

pub fresh_holders-requires-clause-enough : goal.fresh_holders-requires-clause-enough
fresh_holders-requires-clause-enough c =
    let p = c.requires.plan in
    let g = going_next (without c.args.left_out.now c.args.records.now.entries) c.args.holders.now p.old p.many (lengths c.args.pages.now) c.args.runs.now c.args.cuts.now c.loop-k.k c.loop-k.at c.loop-k.new.items c.index-runs-k.result c.loop-k-test.true c.index-runs-k.is (c.loop-k.invariant.going p) in
    omega (
      arith,
      made_more (without c.args.left_out.now c.args.records.now.entries) c.args.holders.now p.old p.many (lengths c.args.pages.now) _ _ _ _ c.loop-k.at c.loop-k.new.items g c.push_kept.new.new.items c.in_ok-push_kept.ensures,
      c.len.ensures,
      pages_enough (without c.args.left_out.now c.args.records.now.entries) c.args.holders.now p.old p.many (lengths c.args.pages.now) _ _ _ _ c.loop-k.at c.loop-k.new.items g c.args.pages.now refl,
    )

pub fresh_holders-requires-clause-lens : goal.fresh_holders-requires-clause-lens
fresh_holders-requires-clause-lens c =
    let p = c.requires.plan in
    let cut : Cut = get_or c.args.cuts.now c.loop-k.k nought in
    let g = going_next (without c.args.left_out.now c.args.records.now.entries) c.args.holders.now p.old p.many (lengths c.args.pages.now) c.args.runs.now c.args.cuts.now c.loop-k.k c.loop-k.at c.loop-k.new.items c.index-runs-k.result c.loop-k-test.true c.index-runs-k.is (c.loop-k.invariant.going p) in
    slice_is (without c.args.left_out.now c.args.records.now.entries) c.args.holders.now p.old p.many (lengths c.args.pages.now) _ _ _ _ c.loop-k.at c.loop-k.new.items g c.args.pages.now refl c.len.result (cut_len (cut.end - cut.start))
    (omega (arith, c.len.ensures, made_more (without c.args.left_out.now c.args.records.now.entries) c.args.holders.now p.old p.many (lengths c.args.pages.now) _ _ _ _ c.loop-k.at c.loop-k.new.items g c.push_kept.new.new.items c.in_ok-push_kept.ensures)) refl

pub fresh_holders-requires-clause-within : goal.fresh_holders-requires-clause-within
fresh_holders-requires-clause-within c =
    let p = c.requires.plan in
    let g = going_next (without c.args.left_out.now c.args.records.now.entries) c.args.holders.now p.old p.many (lengths c.args.pages.now) c.args.runs.now c.args.cuts.now c.loop-k.k c.loop-k.at c.loop-k.new.items c.index-runs-k.result c.loop-k-test.true c.index-runs-k.is (c.loop-k.invariant.going p) in
    omega (arith, ap (place (without c.args.left_out.now c.args.records.now.entries)) c.begin_of-begin.ensures, fresh_within (without c.args.left_out.now c.args.records.now.entries) c.args.holders.now p.old p.many (lengths c.args.pages.now) _ _ _ _ c.loop-k.at c.loop-k.new.items g)

pub loop-k-preserved : goal.loop-k-preserved
loop-k-preserved c = record {
  going = λ p.
      let cut : Cut = get_or c.args.cuts.now c.loop-k.k nought in
      let g = going_next (without c.args.left_out.now c.args.records.now.entries) c.args.holders.now p.old p.many (lengths c.args.pages.now) c.args.runs.now c.args.cuts.now c.loop-k.k c.loop-k.at c.loop-k.new.items c.index-runs-k.result c.loop-k-test.true c.index-runs-k.is (c.loop-k.invariant.going p) in
      let made : c.extend_from_slice.new.self.items ≡ (c.loop-k.new.items ++ take (cut.from - c.loop-k.at) (drop c.loop-k.at c.args.holders.now)) ++ c.in_ok-fresh.fresh.items =
      c.in_ok-extend_from_slice.ensures.items ∙ ap (λ t. c.push_kept.new.new.items ++ t) c.deref.ensures.value ∙ ap (λ t. t ++ c.in_ok-fresh.fresh.items) c.in_ok-push_kept.ensures in
      let stand : AreHoldersFrom (without c.args.left_out.now c.args.records.now.entries) (place (without c.args.left_out.now c.args.records.now.entries) (mark_at c.args.holders.now (c.index-runs-k.result.from - 1)) + cut.start) (cut_lengths (cut.end - cut.start)) c.in_ok-fresh.fresh.items =
      subst (λ (h : Holder). AreHoldersFrom (without c.args.left_out.now c.args.records.now.entries) (place (without c.args.left_out.now c.args.records.now.entries) h + cut.start) (cut_lengths (cut.end - cut.start)) c.in_ok-fresh.fresh.items) c.begin_of-begin.ensures c.in_ok-fresh.ensures in
      going_on (without c.args.left_out.now c.args.records.now.entries) c.args.holders.now p.old p.many (lengths c.args.pages.now) _ _ _ _ c.loop-k.at c.loop-k.new.items g c.in_ok-fresh.fresh.items c.extend_from_slice.new.self.items made stand;
}

pub push_kept-requires-2-clause-order : goal.push_kept-requires-2-clause-order
push_kept-requires-2-clause-order c =
    let p = c.requires.plan in
    omega (arith, (c.loop-k.invariant.going p).within, p.many)

pub returns : goal.returns
returns c =
    let p = c.requires.plan in
    let g = going_last (without c.args.left_out.now c.args.records.now.entries) c.args.holders.now p.old p.many (lengths c.args.pages.now) c.args.runs.now c.args.cuts.now c.loop-k.k c.loop-k.at c.loop-k.new.items (omega (arith, c.loop-k-test.false)) (c.loop-k.invariant.going p) in
    going_end (without c.args.left_out.now c.args.records.now.entries) c.args.holders.now p.old p.many (lengths c.args.pages.now) c.loop-k.at c.loop-k.new.items c.push_kept-2.new.new.items g c.in_ok-push_kept-2.ensures
