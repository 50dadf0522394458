use Rattle.std.proofs.Common.{◌≡◌, ◌+◌, ◌/◌, ◌∙◌, ap, length, ℕ, replicate, arith, rules}
use Rattle.std.specs.List.{sum}
use Rattle.std.proofs.lemmas.List.{length-replicate}
use Rattle.tm_blockmap.specs.Words.{marks_of}
use Rattle.tm_blockmap.proofs.Bits.{marks_of-zeros, sum-zeros}
use Rattle.tm_blockmap.proofs.BlockMap.unused.Goals as goal

pub invariant_of-result : goal.invariant_of-result
invariant_of-result c =
    let n : ℕ = (c.args.n + 63) / 64 in
    let e : c.in_ok-words.words.items ≡ replicate n 0 = search rules in
    let len : length c.in_ok-words.words.items ≡ n = ap length e ∙ length-replicate n 0 in
    let zeros : marks_of c.args.n c.in_ok-words.words.items ≡ replicate c.args.n 0 = ap (marks_of c.args.n) e ∙ marks_of-zeros c.args.n n (omega arith) in
    record {
      small = omega arith;
      enough = omega arith;
      no_more = omega arith;
      full = λ w lt. absurd (omega arith);
      hint = omega arith;
      free = omega (arith, ap sum zeros, sum-zeros c.args.n);
    }

pub returns : goal.returns
returns c =
    let n : ℕ = (c.args.n + 63) / 64 in
    let e : c.in_ok-words.words.items ≡ replicate n 0 = search rules in
    ap (marks_of c.args.n) e ∙ marks_of-zeros c.args.n n (omega arith)
