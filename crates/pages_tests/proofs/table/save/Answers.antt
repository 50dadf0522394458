use Rattle.std.proofs.Common.{◌∙◌, arith, sym, ap, subst}
use Rattle.tm_blockmap.specs.Counts.{times}
use Rattle.tm_records.specs.Records.{Records}
use Rattle.tm_records.specs.Removes.{without}
use Rattle.tm_pages.specs.Paged.{lengths, blocks_of}
use Rattle.tm_pages.specs.Runs.{AreRuns, AreCuts, gone, edited_len}
use Rattle.tm_runs.specs.After.{IsPlanFor}
use Rattle.pages_tests.proofs.Saving.{rises, fit, small, plan_for}
use Rattle.pages_tests.proofs.table.save.Goals as goal

pub runs_of-requires-clause-rise : goal.runs_of-requires-clause-rise
runs_of-requires-clause-rise g c =
    rises (without c.args.left_out.now c.args.records.now.entries) c.args.old.now c.args.holders.now c.args.keys.now c.requires.change c.runs_fit_pages.ensures.rise

pub plan_pages-requires-clause-runs : goal.plan_pages-requires-clause-runs
plan_pages-requires-clause-runs g c =
    let new : Records = without c.args.left_out.now c.args.records.now.entries in
    let all = fit new c.args.old.now c.args.holders.now c.args.keys.now c.requires.change c.in_ok-runs.runs.items c.runs_fit_pages.ensures.fit c.in_ok-runs.ensures.runs in
    subst (AreRuns (lengths c.args.old.now) 0) (sym c.deref.ensures.value) all.runs_are

pub holders_after_plan-requires-clause-small : goal.holders_after_plan-requires-clause-small
holders_after_plan-requires-clause-small g c =
    let new : Records = without c.args.left_out.now c.args.records.now.entries in
    let long = c.in_ok-plan.ensures.long ∙ ap (edited_len (lengths c.args.old.now) 0) c.deref.ensures.value in
    small new c.args.old.now c.args.holders.now c.args.keys.now c.requires.change c.in_ok-runs.runs.items c.runs_fit_pages.ensures.fit c.in_ok-runs.ensures.runs c.in_ok-plan.plan.pages.items long
    c.paged_texts_are_short.ensures.short c.marks_count_blocks.ensures.most c.plan_pages.new.map c.in_ok-plan.ensures.paged c.plan_pages.ensures.are_marks (omega (arith, c.plan_pages.ensures.size, c.requires.small)) c.in_ok-plan.ensures.used

pub holders_after_plan-requires-clause-plan : goal.holders_after_plan-requires-clause-plan
holders_after_plan-requires-clause-plan g c =
    let new : Records = without c.args.left_out.now c.args.records.now.entries in
    let long = c.in_ok-plan.ensures.long ∙ ap (edited_len (lengths c.args.old.now) 0) c.deref.ensures.value in
    let cuts : AreCuts (lengths c.args.old.now) c.in_ok-runs.runs.items c.in_ok-plan.plan.cuts.items = subst (λ rs. AreCuts (lengths c.args.old.now) rs c.in_ok-plan.plan.cuts.items) c.deref.ensures.value c.in_ok-plan.ensures.cuts in
    subst (λ rs. IsPlanFor new c.args.holders.now rs c.in_ok-plan.plan.cuts.items (lengths c.in_ok-plan.plan.pages.items)) (sym c.deref-3.ensures.value)
    (plan_for new c.args.old.now c.args.holders.now c.args.keys.now c.requires.change c.in_ok-runs.runs.items c.runs_fit_pages.ensures.fit c.in_ok-runs.ensures.runs c.in_ok-plan.plan.pages.items long c.in_ok-plan.plan.cuts.items cuts c.in_ok-plan.ensures.lens)

pub give_gone-requires-clause-used : goal.give_gone-requires-clause-used
give_gone-requires-clause-used g c b =
    omega (arith, ap (λ cs. times b (blocks_of (gone c.args.old.now cs))) c.deref-4.ensures.value, c.in_ok-plan.ensures.balance b, c.in_ok-plan.ensures.marks b, c.requires.used b)

pub returns-clause-held : goal.returns-clause-held
returns-clause-held g c = record {
  paged = c.in_ok-plan.ensures.paged;
  are = c.in_ok-holders.ensures;
  used = λ b. omega (arith, ap (λ cs. times b (blocks_of (gone c.args.old.now cs))) c.deref-4.ensures.value, c.in_ok-plan.ensures.balance b, c.in_ok-plan.ensures.marks b, c.requires.used b, c.give_gone.ensures.marks b);
}
