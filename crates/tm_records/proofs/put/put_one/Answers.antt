use Rattle.std.proofs.Common.{◌≡◌, ◌∙◌, ap, sym, subst, arith, Some, rules}
use Rattle.std.specs.Option.{IsSome, IfSome}
use Rattle.std.proofs.lemmas.Result.{on_ok_weaker}
use Rattle.tm_records.specs.declared.record.Record.{Record}
use Rattle.tm_records.specs.Puts.{CanPut, brought}
use Rattle.tm_records.specs.Records.{at}
use Rattle.std.specs.Ordering.{nat_cmp}
use Rattle.std.specs.BTreeMap.{insert_entry}
use Rattle.std.specs.List.{sum_by}
use Rattle.tm_records.specs.Undo.{with_meta}
use Rattle.tm_records.proofs.Maps.{meta_entries, meta_back, meta_balance, stays_there}
use Rattle.tm_records.proofs.Putting.{there, puts_kept, puts_empty, puts_new, stays_put}
use Rattle.tm_records.proofs.put.put_one.Goals as goal

old_one : (c : goal.After-replace_meta-old) → (x : Record) × (at c.args.put.key c.args.records.now.entries ≡ Some x)
old_one c = there _ (subst (λ b. CanPut b (at c.args.put.key c.args.records.now.entries)) c.in-Kept.is c.requires)

pub returns-in-Kept-clause-ok : goal.returns-in-Kept-clause-ok
returns-in-Kept-clause-ok c = let old = old_one c in puts_kept c.args.put _ _ c.in-Kept.is old.0 old.1 c.replace_meta-old.ensures.entries

pub returns-in-Kept-clause-undo : goal.returns-in-Kept-clause-undo
returns-in-Kept-clause-undo c =
    let old = old_one c in
    let here = subst (λ o. IfSome o (λ r. at c.args.put.key c.replace_meta-old.new.records.entries ≡ Some (record { meta = c.args.put.meta; length = r.length; blocks = r.blocks }))) old.1 c.replace_meta-old.ensures.here in
    let meta = subst (λ o. IfSome o (λ r. c.replace_meta-old.result ≡ r.meta)) old.1 c.replace_meta-old.ensures.old in (
      subst IsSome (sym here) (search rules),
      ap (λ m. with_meta c.args.put.key m (at c.args.put.key c.replace_meta-old.new.records.entries) c.replace_meta-old.new.records.entries) meta
          ∙ meta_back c.args.records.now.entries c.args.put.key old.0 c.args.put.meta old.1 _ c.replace_meta-old.ensures.entries c.replace_meta-old.ensures.was_ordered here,
    )

pub returns-in-Kept-clause-balance : goal.returns-in-Kept-clause-balance
returns-in-Kept-clause-balance c = λ w.
    let old = old_one c in
    let none : sum_by w (brought c.args.put.body) ≡ 0 = ap (λ v. sum_by w (brought v)) c.in-Kept.is in
    omega (arith, none, meta_balance c.args.records.now.entries c.args.put.key old.0 c.args.put.meta old.1 _ c.replace_meta-old.ensures.entries c.replace_meta-old.ensures.was_ordered w)

pub returns-in-Empty-clause-ok : goal.returns-in-Empty-clause-ok
returns-in-Empty-clause-ok c = on_ok_weaker c.place.result (λ (e : c.place.new.records.entries ≡ insert_entry nat_cmp c.args.records.now.entries c.args.put.key (record { meta = c.args.put.meta; length = 0; blocks = c.of.result })). puts_empty c.args.put c.args.records.now.entries c.place.new.records.entries c.in-Empty.is (e ∙ ap (λ bs. insert_entry nat_cmp c.args.records.now.entries c.args.put.key (record { meta = c.args.put.meta; length = 0; blocks = bs })) (c.of.ensures ∙ c.new.ensures.items))) c.place.ensures.ok

pub returns-in-New-clause-ok : goal.returns-in-New-clause-ok
returns-in-New-clause-ok c = on_ok_weaker c.place-in-New.result (puts_new c.args.put c.args.records.now.entries c.place-in-New.new.records.entries c.in-New.blob c.in-New.is) c.place-in-New.ensures.ok

pub returns-in-Kept-clause-stays : goal.returns-in-Kept-clause-stays
returns-in-Kept-clause-stays c = λ k h.
    let old = old_one c in
    subst (λ es. IsSome (at k es)) (sym (meta_entries c.args.records.now.entries c.args.put.key old.0 c.args.put.meta old.1 _ c.replace_meta-old.ensures.entries)) (stays_there _ _ _ k h)

pub returns-in-Empty-clause-stays : goal.returns-in-Empty-clause-stays
returns-in-Empty-clause-stays c = on_ok_weaker _ (stays_put c.args.records.now.entries _ c.args.put.key _) c.place.ensures.ok

pub returns-in-New-clause-stays : goal.returns-in-New-clause-stays
returns-in-New-clause-stays c = on_ok_weaker _ (stays_put c.args.records.now.entries _ c.args.put.key _) c.place-in-New.ensures.ok
