use Rattle.std.proofs.Common.{arith, rules}
use Rattle.tm_chain.specs.Chain.{link_of}
use Rattle.tm_chain.proofs.Writing.{written-none, written-more, holds-more}
use Rattle.tm_chain.proofs.write.write_chain.Goals as goal

pub loop-k-init : goal.loop-k-init
loop-k-init g c = record {
  written = λ told. written-none c.args.side _ c.args.blocks.now;
  lies = λ told. record { each = λ k lt. absurd (omega arith) };
  blocks = search rules;
  faults = search rules;
}

pub returns-in_err-write-clause-any_moment : goal.returns-in_err-write-clause-any_moment
returns-in_err-write-clause-any_moment g c told =
    (written-more c.args.side _ c.args.blocks.now _ _ c.loop-k.k _ c.loop-k-test.true (c.loop-k.invariant.written told) (c.write.ensures.steps told)).runs

pub returns-in_err-write-clause-differs : goal.returns-in_err-write-clause-differs
returns-in_err-write-clause-differs g c told =
    (written-more c.args.side _ c.args.blocks.now _ _ c.loop-k.k _ c.loop-k-test.true (c.loop-k.invariant.written told) (c.write.ensures.steps told)).differs

pub loop-k-preserved : goal.loop-k-preserved
loop-k-preserved g c = record {
  written = λ told. written-more c.args.side _ c.args.blocks.now _ _ c.loop-k.k _ c.loop-k-test.true (c.loop-k.invariant.written told) (c.write.ensures.steps told);
  lies = λ told. holds-more c.args.side (g.W.World.log c.args.world.now) c.args.blocks.now _ _ (link_of c.args.text.now c.args.blocks.now) c.loop-k.k _ c.loop-k-test.true c.requires.distinct c.link-block.ensures (c.loop-k.invariant.lies told) (c.in_ok-write.ensures.steps told);
  blocks = search rules;
  faults = λ p. omega (arith, c.loop-k.invariant.faults p, c.write.ensures.never_less p);
}
