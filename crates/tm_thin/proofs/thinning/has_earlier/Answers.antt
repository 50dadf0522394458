use Rattle.std.proofs.Common.{◌≡◌, ◌-◌, ◌<◌, length, get_or, sym, ◌∙◌, arith}
use Rattle.std.proofs.lemmas.Grind.{get_or_default_zero}
use Rattle.tm_thin.specs.Buckets.{bucket_of, same_bucket}
use Rattle.tm_thin.proofs.StayingLemmas.{earlier_before}
use Rattle.tm_thin.proofs.thinning.has_earlier.Goals as goal

pub returns-then-at-gt0 : goal.returns-then-at-gt0
returns-then-at-gt0 c =
    let dates = c.args.dates.now in
    let at = c.args.at in
    let m = c.args.moment in
    let low : at < length dates = c.requires.within in
    let before : c.index-dates-at.result ≡ get_or dates (at - 1) 0 = c.index-dates-at.is ∙ get_or_default_zero dates (at - 1) _ (omega arith) in
    let date : c.index-dates-at-then-at-gt0.result ≡ get_or dates at 0 = c.index-dates-at-then-at-gt0.is ∙ get_or_default_zero dates at _ low in
    let tested : c.is_same.result ≡ same_bucket (bucket_of c.index-dates-at.result m) (bucket_of c.index-dates-at-then-at-gt0.result m) = cc in
    tested ∙ (λ i. same_bucket (bucket_of (before i) m) (bucket_of (date i) m)) ∙ sym (earlier_before dates at m c.requires.rising low c.requires.past c.if-at-gt0.true)
