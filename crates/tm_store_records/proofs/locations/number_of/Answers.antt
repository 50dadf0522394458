use Rattle.std.proofs.Common.{rules, ◌≡◌, ℕ, List, Option, Some, None, sym, ap, ◌∙◌, refl, subst, cond, ◌+◌, ◌<◌, ◌^◌, arith}
use Rattle.std.specs.Option.{SomeIff}
use Rattle.std.specs.BTreeMap.{get, is_at}
use Rattle.tm_store_records.specs.declared.locations.Step.{Step}
use Rattle.tm_store_records.specs.Located.{step_cmp, step_of, StepLeads}
use Rattle.tm_store_records.proofs.Stepping.{lead_known, lead_fresh}
use Rattle.tm_store_records.proofs.locations.number_of.Goals as goal

plus : (count : ℕ) (o : Option ℕ) (more : ℕ) → SomeIff o (count + 1 < 2 ^ 64) (count + 1) → o ≡ Some more → more ≡ count + 1
plus count o more iff is = search (rules, arith)

pub returns-in-Some : goal.returns-in-Some
returns-in-Some c =
    let m = c.args.paths.now in
    let s = step_of c.args.path c.args.name.now in
    let is : Some c.in-Some.id.now ≡ get step_cmp m s = c.in-Some.ensures.value ∙ ap (λ (n : List ℕ). get step_cmp m (step_of c.args.path n)) c.in_ok-clone.ensures.cases in
    lead_known (λ q. get step_cmp m q) (λ q. get step_cmp m q) c.args.count.now s c.in-Some.id.now (λ q. refl) is

pub returns : goal.returns
returns c =
    let m = c.args.paths.now in
    let s = step_of c.args.path c.args.name.now in
    let named = c.in_ok-clone.ensures.cases in
    let none : None ≡ get step_cmp m s = c.in_default.ensures.value ∙ ap (λ (n : List ℕ). get step_cmp m (step_of c.args.path n)) named in
    let put : (q : Step) → get step_cmp c.insert.new.self q ≡ cond (is_at (step_cmp s) q) (Some c.args.count.now) (get step_cmp m q)
    = λ q. c.in_ok-insert.ensures.updates.0 q ∙ ap (λ (n : List ℕ). cond (is_at (step_cmp (step_of c.args.path n)) q) (Some c.args.count.now) (get step_cmp m q)) named in
    let more : c.in_ok-more.more ≡ c.args.count.now + 1 = plus (c.args.count.now) c.checked_add.result c.in_ok-more.more c.checked_add.ensures c.in_ok-more.ensures.ok_part in
    subst (λ n. StepLeads (λ q. get step_cmp m q) (λ q. get step_cmp c.insert.new.self q) c.args.count.now n s c.args.count.now) (sym more) (lead_fresh (λ q. get step_cmp m q) (λ q. get step_cmp c.insert.new.self q) c.args.count.now s none put)
