use Rattle.std.proofs.Common.{◌≡◌, ◌==◌, true, cond, Some, None, sym, ap, ◌∙◌, arith}
use Rattle.tm_store_records.proofs.Tagging.{reads_date, small_date, mark_is, found}
use Rattle.tm_store_records.proofs.tag.date_in.Goals as goal

pub returns-then-tag-eq1 : goal.returns-then-tag-eq1
returns-then-tag-eq1 c t =
    let e = c.get_u64.ensures.read t.date (small_date c.args.tag.now t) (reads_date c.args.tag.now t) in
    let d : c.unwrap.result ≡ t.date = cc (e, c.unwrap.ensures) in
    let most = t.date_most in
    let on : (t.running == 1) ≡ true = ap (λ r. r == 1) (sym (mark_is c.args.tag.now t) ∙ c.if-tag-eq1.true) in
    found c.from_seconds.result c.unwrap.result c.from_seconds.ensures.none c.from_seconds.ensures.some (omega (arith, d, most))
    ∙ ap (λ x. Some x) d ∙ ap (λ b. cond b (Some t.date) None) (sym on)
