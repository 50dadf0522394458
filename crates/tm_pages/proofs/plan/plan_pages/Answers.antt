use Rattle.std.proofs.Common.{rules, ◌≡◌, ◌≤◌, ◌+◌, ◌∙◌, length, get_or, sym, ap, subst, arith}
use Rattle.std.specs.List.{All}
use Rattle.tm_blockmap.specs.Counts.{times}
use Rattle.tm_pages.specs.declared.cut.Cut.{Cut}
use Rattle.tm_pages.specs.Paged.{lengths}
use Rattle.tm_pages.specs.Runs.{AreInOrder, fresh_len, planned}
use Rattle.tm_pages.proofs.Placing.{starts_first, parts_of}
use Rattle.tm_pages.proofs.PlanFacts.{plan_order, lens_is, plan_full, plan_paged, plan_long, plan_stays, plan_balance, given_back, taken_once, taken_within}
use Rattle.tm_pages.proofs.plan.plan_pages.Goals as goal

pub count_fresh-requires : goal.count_fresh-requires
count_fresh-requires c =
    let same : c.deref.result.now ≡ c.in_ok-cuts.cuts.items = search rules in
    subst (λ cs. All (λ (cut : Cut). cut.start ≤ cut.end) cs) (sym same) (starts_first (lengths c.args.old.now) c.args.runs.now c.in_ok-cuts.cuts.items c.in_ok-cuts.ensures.cuts)

pub returns-in_default-clause-full : goal.returns-in_default-clause-full
returns-in_default-clause-full c e =
    let same : c.deref.result.now ≡ c.in_ok-cuts.cuts.items = search rules in
    plan_full c.args.old.now c.args.runs.now c.in_ok-cuts.cuts.items c.requires.runs c.in_ok-cuts.ensures.cuts _ _ c.free.result c.requires.paged c.free.ensures (omega (arith, c.in_default.ensures.full, ap fresh_len same))

pub lay-requires-clause-order : goal.lay-requires-clause-order
lay-requires-clause-order c =
    let same : c.deref-2.result.now ≡ c.in_ok-cuts.cuts.items = search rules in
    subst (AreInOrder (length c.args.old.now) 0) (sym same) (plan_order c.args.old.now c.args.runs.now c.in_ok-cuts.cuts.items c.requires.runs c.in_ok-cuts.ensures.cuts)

pub returns-in-Ok-clause-lens : goal.returns-in-Ok-clause-lens
returns-in-Ok-clause-lens c =
    let is : c.in-Ok.pages.items ≡ planned c.args.old.now 0 c.in_ok-cuts.cuts.items c.in_ok-blocks.blocks.items = search rules in
    lens_is c.args.old.now c.args.runs.now c.in_ok-cuts.cuts.items c.requires.runs c.in_ok-cuts.ensures.cuts c.in-Ok.pages.items c.in_ok-blocks.blocks.items is

pub returns-in-Ok-clause-paged : goal.returns-in-Ok-clause-paged
returns-in-Ok-clause-paged c =
    let is : c.in-Ok.pages.items ≡ planned c.args.old.now 0 c.in_ok-cuts.cuts.items c.in_ok-blocks.blocks.items = search rules in
    plan_paged c.args.old.now c.args.runs.now c.in_ok-cuts.cuts.items c.requires.runs c.in_ok-cuts.ensures.cuts c.in-Ok.pages.items c.in_ok-blocks.blocks.items is c.requires.paged

pub returns-in-Ok-clause-long : goal.returns-in-Ok-clause-long
returns-in-Ok-clause-long c =
    let is : c.in-Ok.pages.items ≡ planned c.args.old.now 0 c.in_ok-cuts.cuts.items c.in_ok-blocks.blocks.items = search rules in
    plan_long c.args.old.now c.args.runs.now c.in_ok-cuts.cuts.items c.requires.runs c.in_ok-cuts.ensures.cuts c.in-Ok.pages.items c.in_ok-blocks.blocks.items is

pub returns-in-Ok-clause-stays : goal.returns-in-Ok-clause-stays
returns-in-Ok-clause-stays c =
    let is : c.in-Ok.pages.items ≡ planned c.args.old.now 0 c.in_ok-cuts.cuts.items c.in_ok-blocks.blocks.items = search rules in
    plan_stays c.args.old.now c.args.runs.now c.in_ok-cuts.cuts.items c.requires.runs c.in_ok-cuts.ensures.cuts c.in-Ok.pages.items c.in_ok-blocks.blocks.items is

pub returns-in-Ok-clause-balance : goal.returns-in-Ok-clause-balance
returns-in-Ok-clause-balance c =
    let same : c.deref.result.now ≡ c.in_ok-cuts.cuts.items = search rules in
    let many : fresh_len c.in_ok-cuts.cuts.items ≡ length c.in_ok-blocks.blocks.items = sym (c.in_ok-blocks.ensures.many ∙ c.in-Some.ensures.many ∙ ap fresh_len same) in
    let is : c.in-Ok.pages.items ≡ planned c.args.old.now 0 c.in_ok-cuts.cuts.items c.in_ok-blocks.blocks.items = search rules in
    plan_balance c.args.old.now c.args.runs.now c.in_ok-cuts.cuts.items c.requires.runs c.in_ok-cuts.ensures.cuts c.in-Ok.pages.items c.in_ok-blocks.blocks.items is many

pub returns-in-Ok-clause-used : goal.returns-in-Ok-clause-used
returns-in-Ok-clause-used c b =
    let same : c.deref.result.now ≡ c.in_ok-cuts.cuts.items = search rules in
    let many : fresh_len c.in_ok-cuts.cuts.items ≡ length c.in_ok-blocks.blocks.items = sym (c.in_ok-blocks.ensures.many ∙ c.in-Some.ensures.many ∙ ap fresh_len same) in
    let is : c.in-Ok.pages.items ≡ planned c.args.old.now 0 c.in_ok-cuts.cuts.items c.in_ok-blocks.blocks.items = search rules in
    omega (arith, plan_balance c.args.old.now c.args.runs.now c.in_ok-cuts.cuts.items c.requires.runs c.in_ok-cuts.ensures.cuts c.in-Ok.pages.items c.in_ok-blocks.blocks.items is many b, c.requires.used b, c.in_ok-blocks.ensures.marks b)

pub returns-in-Err-clause-err : goal.returns-in-Err-clause-err
returns-in-Err-clause-err c =
    let same : c.deref-in-Err.result.now ≡ c.in_ok-blocks.blocks.items = search rules in
    given_back c.args.map.now c.take_all.new.self c.give_all.new.self c.in_ok-blocks.blocks.items c.in_ok-blocks.ensures.marks (λ b. ap (λ bs. get_or c.give_all.new.self b 0 + times b bs) (sym same) ∙ c.give_all.ensures.marks b) (c.give_all.ensures.size ∙ c.in_ok-blocks.ensures.size)

pub returns-in-Ok-clause-parts : goal.returns-in-Ok-clause-parts
returns-in-Ok-clause-parts c = parts_of (lengths c.args.old.now) c.args.runs.now c.in_ok-cuts.cuts.items c.in_ok-cuts.ensures.cuts

pub returns-in-Ok-clause-within : goal.returns-in-Ok-clause-within
returns-in-Ok-clause-within c = taken_within c.args.map.now c.take_all.new.self c.in_ok-blocks.blocks.items c.in_ok-blocks.ensures.marks c.in_ok-blocks.ensures.size

pub returns-in-Ok-clause-distinct : goal.returns-in-Ok-clause-distinct
returns-in-Ok-clause-distinct c = taken_once c.args.map.now c.take_all.new.self c.in_ok-blocks.blocks.items c.in_ok-blocks.ensures.are_marks c.in_ok-blocks.ensures.marks

pub returns-in-Ok-clause-order : goal.returns-in-Ok-clause-order
returns-in-Ok-clause-order c = plan_order c.args.old.now c.args.runs.now c.in_ok-cuts.cuts.items c.requires.runs c.in_ok-cuts.ensures.cuts
