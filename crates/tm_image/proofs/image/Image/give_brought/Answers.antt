use Rattle.std.proofs.Common.{◌≡◌, ◌∙◌, ℕ, arith, get_or, ap, sym}
use Rattle.std.proofs.lemmas.List.Sums.{sum_by_more_le}
use Rattle.tm_blockmap.specs.Counts.{times}
use Rattle.tm_records.specs.declared.record.Put.{Put}
use Rattle.tm_records.specs.declared.record.Body.{Body}
use Rattle.tm_records.specs.Puts.{brought}
use Rattle.tm_image.proofs.image.Image.give_brought.Goals as goal

pub give_back-requires : goal.give_back-requires
give_back-requires c = record {
  staged = λ b.
      let f : Put → ℕ = λ p. times b (brought p.body) in
      let is : f (get_or c.args.puts.now c.loop-put.put-index c.put-item.result) ≡ times b c.in-New.blob.blocks = ap f (sym c.put-item.is) ∙ ap (λ (body : Body). times b (brought body)) c.in-New.is in
      omega (arith, sum_by_more_le f c.args.puts.now c.loop-put.put-index c.put-item.result c.loop-put-test.true, is, c.requires.staged b, c.loop-put.invariant.staged_are b, ap (times b) c.as_slice.ensures);
}
