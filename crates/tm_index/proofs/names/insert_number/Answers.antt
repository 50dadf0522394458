use Rattle.std.proofs.Common.{ℕ, List, Some, cond, sym, ◌∙◌, ap}
use Rattle.std.proofs.lemmas.Result.{on_ok_weaker, on_err_weaker}
use Rattle.std.specs.BTreeMap.{BTreeMap, is_at}
use Rattle.std.specs.Ordering.{nat_cmp}
use Rattle.tm_index.specs.Folders.{folders_of}
use Rattle.tm_index.proofs.Numbering.{Maps, map_at, set_in_map, set_in_new, set_same}
use Rattle.tm_index.proofs.names.insert_number.Goals as goal

pub returns-in-Some-clause-ok : goal.returns-in-Some-clause-ok
returns-in-Some-clause-ok c = on_ok_weaker c.insert_name.result
    (λ named. set_in_map c.args.parent c.args.name (Some c.args.number) c.in-Some.named.now c.insert_name.new.named c.args.folders.now.entries _ c.in-Some.ensures.value named
    (λ there q. ((c.get_mut.follows.holds c.insert_name.new.named).3 there).0 q))
    c.insert_name.ensures.ok

pub returns-in-Some-clause-err : goal.returns-in-Some-clause-err
returns-in-Some-clause-err c = on_err_weaker c.insert_name.result
    (λ same. ap (λ (x : Maps). folders_of x) (c.get_mut.follows.holds c.insert_name.new.named).0
    ∙ set_same (is_at (nat_cmp c.args.parent)) c.args.folders.now.entries c.in-Some.named.now c.insert_name.new.named (sym c.in-Some.ensures.value) same)
    c.insert_name.ensures.err

pub returns-in_ok-insert-in-None-clause-ok : goal.returns-in_ok-insert-in-None-clause-ok
returns-in_ok-insert-in-None-clause-ok c =
    set_in_new c.args.parent c.args.name (Some c.args.number) c.in_ok-named-in-None.named c.args.folders.now.entries _ c.in-None.ensures.value c.in_ok-named-in-None.ensures
    (λ q. c.in_ok-insert-in-None.ensures.updates.0 q
    ∙ ap (λ (x : Maps). cond (is_at (nat_cmp c.args.parent) q) (Some c.in_ok-named-in-None.named) (map_at q x)) (ap (λ (x : BTreeMap ℕ (BTreeMap (List ℕ) ℕ)). x.entries) c.get_mut.follows.holds-at-none))
