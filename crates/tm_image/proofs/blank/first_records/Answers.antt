use Rattle.std.proofs.Common.{[], ◌^◌, ◌<◌, sym, subst, arith, ap, ◌∙◌}
use Rattle.std.specs.List.{All}
use Rattle.std.specs.Map.{keys_of, values_of}
use Rattle.tm_records.specs.Records.{Records}
use Rattle.tm_records.specs.Puts.{with_puts}
use Rattle.tm_image.specs.Blank.{IsWithoutData}
use Rattle.tm_image.proofs.First.{first_each, first_keys}
use Rattle.tm_image.proofs.blank.first_records.Goals as goal

pub returns-clause-each : goal.returns-clause-each
returns-clause-each c = subst (λ (es : Records). All IsWithoutData (values_of es)) (sym (c.in_ok-put_all.ensures.ok ∙ ap (with_puts c.args.put.items) c.new-records.ensures.empty)) (first_each c.args.put.items [] c.requires (λ k d lt. absurd (omega arith)))

pub returns-clause-keys : goal.returns-clause-keys
returns-clause-keys c = subst (λ (es : Records). All (λ k. k < 2 ^ 64) (keys_of es)) (sym (c.in_ok-put_all.ensures.ok ∙ ap (with_puts c.args.put.items) c.new-records.ensures.empty)) (first_keys c.args.put.items c.requires)
