use Rattle.std.proofs.Common.{rules, arith, ◌∙◌, ◌-◌, ◌+◌, ℕ, List, length, get_or, take, drop, sym, ap, subst}
use Rattle.tm_world.specs.Outside.{disk}
use Rattle.tm_world.specs.Log.{now}
use Rattle.tm_blockmap.specs.Counts.{IsDistinct}
use Rattle.tm_chain.specs.Differs.{DiffersIn}
use Rattle.tm_chain.specs.Blob.{FillsOn}
use Rattle.tm_world.specs.Runs.{Runs}
use Rattle.tm_pages.specs.declared.cut.Cut.{Cut}
use Rattle.tm_pages.specs.Cuts.{cut_len}
use Rattle.tm_pages.proofs.Writing.{Written, written-none, Turn, turn, runs_within, written_all, written_more, written_part}
use Rattle.tm_pages.proofs.write.write_pages.Goals as goal

pub loop-k-init : goal.loop-k-init
loop-k-init g c = record {
  parts = c.requires.parts;
  many = omega (arith, c.requires.many);
  written = λ told. written-none c.args.side _ c.args.plan.now.blocks.items;
  so_far = λ told later same w. w;
  blocks = search rules;
  faults = search rules;
}

abbrev nought : Cut
nought = record { from = 0; to = 0; start = 0; end = 0 }

pub bounds-runs-k : goal.bounds-runs-k
bounds-runs-k g c =
    runs_within c.args.runs.now c.args.plan.now.cuts.items c.loop-k.k nought c.loop-k.invariant.parts (omega (arith, c.loop-k-test.true, ap length c.deref-cut-items.ensures.value))

pub write_part-requires-clause-distinct : goal.write_part-requires-clause-distinct
write_part-requires-clause-distinct g c = subst IsDistinct (sym c.deref.ensures.value) c.requires.distinct

pub returns-clause-written : goal.returns-clause-written
returns-clause-written g c told =
    written_all c.args.runs.now c.args.plan.now.cuts.items c.args.plan.now.blocks.items c.loop-k.first c.loop-k.k _ (omega (arith, ap length c.deref-cut-items.ensures.value, c.loop-k-test.false)) (c.loop-k.invariant.so_far told)

pub returns-in_err-write_part-clause-any_moment : goal.returns-in_err-write_part-clause-any_moment
returns-in_err-write_part-clause-any_moment g c told =
    let cut : Cut = get_or c.deref-cut-items.result.now c.loop-k.k nought in
    let part : List ℕ = take (cut.end - cut.start) (drop cut.start c.as_slice.result.now) in
    let here : Turn c.args.runs.now c.args.plan.now.cuts.items c.args.plan.now.blocks.items part c.loop-k.k c.loop-k.first c.index-runs-k.result = turn c.args.runs.now c.deref-cut-items.result.now c.args.plan.now.cuts.items c.args.plan.now.blocks.items c.as_slice.result.now c.loop-k.k c.loop-k.first c.index-runs-k.result nought c.loop-k.invariant.parts c.loop-k.invariant.many c.deref-cut-items.ensures.value c.loop-k-test.true c.index-runs-k.is c.as_slice.ensures in
    let of : (bs : List ℕ) → List ℕ = λ bs. take (cut_len (length part)) (drop c.loop-k.first bs) in
    let runs : Runs c.args.side (DiffersIn (of c.args.plan.now.blocks.items) (disk c.args.side (now (g.W.World.log c.loop-k.world)))) (g.W.World.log c.loop-k.world) (g.W.World.log c.write_part.new.world) =
    subst (λ bs. Runs c.args.side (DiffersIn (of bs) (disk c.args.side (now (g.W.World.log c.loop-k.world)))) (g.W.World.log c.loop-k.world) (g.W.World.log c.write_part.new.world)) c.deref.ensures.value (c.write_part.ensures.any_moment told) in
    let differs : DiffersIn (of c.args.plan.now.blocks.items) (disk c.args.side (now (g.W.World.log c.loop-k.world))) (disk c.args.side (now (g.W.World.log c.write_part.new.world))) =
    subst (λ bs. DiffersIn (of bs) (disk c.args.side (now (g.W.World.log c.loop-k.world))) (disk c.args.side (now (g.W.World.log c.write_part.new.world)))) c.deref.ensures.value (c.write_part.ensures.differs told) in
    let written : Written c.args.side (g.W.World.log c.args.world.now) c.args.plan.now.blocks.items (g.W.World.log c.write_part.new.world) =
    written_part c.args.plan.now.blocks.items c.loop-k.first (cut_len (length part)) here.room c.args.side (g.W.World.log c.args.world.now) (g.W.World.log c.loop-k.world) (g.W.World.log c.write_part.new.world) (c.loop-k.invariant.written told) runs differs in
    written.runs

pub returns-in_err-write_part-clause-differs : goal.returns-in_err-write_part-clause-differs
returns-in_err-write_part-clause-differs g c told =
    let cut : Cut = get_or c.deref-cut-items.result.now c.loop-k.k nought in
    let part : List ℕ = take (cut.end - cut.start) (drop cut.start c.as_slice.result.now) in
    let here : Turn c.args.runs.now c.args.plan.now.cuts.items c.args.plan.now.blocks.items part c.loop-k.k c.loop-k.first c.index-runs-k.result = turn c.args.runs.now c.deref-cut-items.result.now c.args.plan.now.cuts.items c.args.plan.now.blocks.items c.as_slice.result.now c.loop-k.k c.loop-k.first c.index-runs-k.result nought c.loop-k.invariant.parts c.loop-k.invariant.many c.deref-cut-items.ensures.value c.loop-k-test.true c.index-runs-k.is c.as_slice.ensures in
    let of : (bs : List ℕ) → List ℕ = λ bs. take (cut_len (length part)) (drop c.loop-k.first bs) in
    let runs : Runs c.args.side (DiffersIn (of c.args.plan.now.blocks.items) (disk c.args.side (now (g.W.World.log c.loop-k.world)))) (g.W.World.log c.loop-k.world) (g.W.World.log c.write_part.new.world) =
    subst (λ bs. Runs c.args.side (DiffersIn (of bs) (disk c.args.side (now (g.W.World.log c.loop-k.world)))) (g.W.World.log c.loop-k.world) (g.W.World.log c.write_part.new.world)) c.deref.ensures.value (c.write_part.ensures.any_moment told) in
    let differs : DiffersIn (of c.args.plan.now.blocks.items) (disk c.args.side (now (g.W.World.log c.loop-k.world))) (disk c.args.side (now (g.W.World.log c.write_part.new.world))) =
    subst (λ bs. DiffersIn (of bs) (disk c.args.side (now (g.W.World.log c.loop-k.world))) (disk c.args.side (now (g.W.World.log c.write_part.new.world)))) c.deref.ensures.value (c.write_part.ensures.differs told) in
    let written : Written c.args.side (g.W.World.log c.args.world.now) c.args.plan.now.blocks.items (g.W.World.log c.write_part.new.world) =
    written_part c.args.plan.now.blocks.items c.loop-k.first (cut_len (length part)) here.room c.args.side (g.W.World.log c.args.world.now) (g.W.World.log c.loop-k.world) (g.W.World.log c.write_part.new.world) (c.loop-k.invariant.written told) runs differs in
    written.differs

pub loop-k-preserved : goal.loop-k-preserved
loop-k-preserved g c =
    let cut : Cut = get_or c.deref-cut-items.result.now c.loop-k.k nought in
    let part : List ℕ = take (cut.end - cut.start) (drop cut.start c.as_slice.result.now) in
    let here : Turn c.args.runs.now c.args.plan.now.cuts.items c.args.plan.now.blocks.items part c.loop-k.k c.loop-k.first c.index-runs-k.result = turn c.args.runs.now c.deref-cut-items.result.now c.args.plan.now.cuts.items c.args.plan.now.blocks.items c.as_slice.result.now c.loop-k.k c.loop-k.first c.index-runs-k.result nought c.loop-k.invariant.parts c.loop-k.invariant.many c.deref-cut-items.ensures.value c.loop-k-test.true c.index-runs-k.is c.as_slice.ensures in
    record {
      parts = here.rest;
      many = omega (arith, here.many, c.cut_count-first.ensures);
      written = λ told.
          let cut : Cut = get_or c.deref-cut-items.result.now c.loop-k.k nought in
          let part : List ℕ = take (cut.end - cut.start) (drop cut.start c.as_slice.result.now) in
          let here : Turn c.args.runs.now c.args.plan.now.cuts.items c.args.plan.now.blocks.items part c.loop-k.k c.loop-k.first c.index-runs-k.result = turn c.args.runs.now c.deref-cut-items.result.now c.args.plan.now.cuts.items c.args.plan.now.blocks.items c.as_slice.result.now c.loop-k.k c.loop-k.first c.index-runs-k.result nought c.loop-k.invariant.parts c.loop-k.invariant.many c.deref-cut-items.ensures.value c.loop-k-test.true c.index-runs-k.is c.as_slice.ensures in
          let of : (bs : List ℕ) → List ℕ = λ bs. take (cut_len (length part)) (drop c.loop-k.first bs) in
          let runs : Runs c.args.side (DiffersIn (of c.args.plan.now.blocks.items) (disk c.args.side (now (g.W.World.log c.loop-k.world)))) (g.W.World.log c.loop-k.world) (g.W.World.log c.write_part.new.world) =
          subst (λ bs. Runs c.args.side (DiffersIn (of bs) (disk c.args.side (now (g.W.World.log c.loop-k.world)))) (g.W.World.log c.loop-k.world) (g.W.World.log c.write_part.new.world)) c.deref.ensures.value (c.write_part.ensures.any_moment told) in
          let differs : DiffersIn (of c.args.plan.now.blocks.items) (disk c.args.side (now (g.W.World.log c.loop-k.world))) (disk c.args.side (now (g.W.World.log c.write_part.new.world))) =
          subst (λ bs. DiffersIn (of bs) (disk c.args.side (now (g.W.World.log c.loop-k.world))) (disk c.args.side (now (g.W.World.log c.write_part.new.world)))) c.deref.ensures.value (c.write_part.ensures.differs told) in
          let written : Written c.args.side (g.W.World.log c.args.world.now) c.args.plan.now.blocks.items (g.W.World.log c.write_part.new.world) =
          written_part c.args.plan.now.blocks.items c.loop-k.first (cut_len (length part)) here.room c.args.side (g.W.World.log c.args.world.now) (g.W.World.log c.loop-k.world) (g.W.World.log c.write_part.new.world) (c.loop-k.invariant.written told) runs differs in
          written;
      so_far = λ told.
          let cut : Cut = get_or c.deref-cut-items.result.now c.loop-k.k nought in
          let part : List ℕ = take (cut.end - cut.start) (drop cut.start c.as_slice.result.now) in
          let here : Turn c.args.runs.now c.args.plan.now.cuts.items c.args.plan.now.blocks.items part c.loop-k.k c.loop-k.first c.index-runs-k.result = turn c.args.runs.now c.deref-cut-items.result.now c.args.plan.now.cuts.items c.args.plan.now.blocks.items c.as_slice.result.now c.loop-k.k c.loop-k.first c.index-runs-k.result nought c.loop-k.invariant.parts c.loop-k.invariant.many c.deref-cut-items.ensures.value c.loop-k-test.true c.index-runs-k.is c.as_slice.ensures in
          let of : (bs : List ℕ) → List ℕ = λ bs. take (cut_len (length part)) (drop c.loop-k.first bs) in
          let runs : Runs c.args.side (DiffersIn (of c.args.plan.now.blocks.items) (disk c.args.side (now (g.W.World.log c.loop-k.world)))) (g.W.World.log c.loop-k.world) (g.W.World.log c.write_part.new.world) =
          subst (λ bs. Runs c.args.side (DiffersIn (of bs) (disk c.args.side (now (g.W.World.log c.loop-k.world)))) (g.W.World.log c.loop-k.world) (g.W.World.log c.write_part.new.world)) c.deref.ensures.value (c.write_part.ensures.any_moment told) in
          let differs : DiffersIn (of c.args.plan.now.blocks.items) (disk c.args.side (now (g.W.World.log c.loop-k.world))) (disk c.args.side (now (g.W.World.log c.write_part.new.world))) =
          subst (λ bs. DiffersIn (of bs) (disk c.args.side (now (g.W.World.log c.loop-k.world))) (disk c.args.side (now (g.W.World.log c.write_part.new.world)))) c.deref.ensures.value (c.write_part.ensures.differs told) in
          let written : Written c.args.side (g.W.World.log c.args.world.now) c.args.plan.now.blocks.items (g.W.World.log c.write_part.new.world) =
          written_part c.args.plan.now.blocks.items c.loop-k.first (cut_len (length part)) here.room c.args.side (g.W.World.log c.args.world.now) (g.W.World.log c.loop-k.world) (g.W.World.log c.write_part.new.world) (c.loop-k.invariant.written told) runs differs in
          let fills : FillsOn (of c.args.plan.now.blocks.items) part (disk c.args.side (now (g.W.World.log c.write_part.new.world))).bytes =
          subst (λ bs. FillsOn (of bs) part (disk c.args.side (now (g.W.World.log c.write_part.new.world))).bytes) c.deref.ensures.value (c.in_ok-write_part.ensures.fills told) in
          written_more c.args.runs.now c.args.plan.now.cuts.items c.args.plan.now.blocks.items part c.loop-k.k c.loop-k.first (c.loop-k.first + c.cut_count-first.result) c.index-runs-k.result here.cut _ _ here.in_runs here.in_cuts here.run_is here.cut_is here.part_is here.size here.room c.requires.distinct (omega (arith, c.cut_count-first.ensures)) differs fills (c.loop-k.invariant.so_far told);
      blocks = c.write_part.ensures.blocks ∙ c.loop-k.invariant.blocks;
      faults = λ p. omega (arith, c.loop-k.invariant.faults p, c.write_part.ensures.never_less p);
    }
