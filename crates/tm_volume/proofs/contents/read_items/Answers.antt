use Rattle.std.proofs.Common.{◌≡◌, ◌≤◌, ℕ, List, Option, Some, None, IfNone, ◌∙◌, refl, arith}
use Rattle.tm_world.specs.Log.{now}
use Rattle.tm_world.specs.Outside.{disk}
use Rattle.tm_world.specs.declared.world.Side.TheVariants.{Volume}
use Rattle.tm_world.proofs.Going.{Steps-none, Steps-then}
use Rattle.tm_volume_records.specs.Records.{items_in}
use Rattle.tm_volume.proofs.Gathering.{gathering_starts, gathering_skips, gathering_goes_on, gathering_ends}
use Rattle.tm_volume.proofs.contents.read_items.Goals as goal

pub loop-number-init : goal.loop-number-init
loop-number-init g c = record {
  low = omega arith;
  high = omega arith;
  below = λ told. gathering_starts c.args.image.now.records c.total.ensures.sound.rising _ c.new-items.result.entries c.new-items.ensures.empty;
  steps = λ told. Steps-none (g.W.World.log c.args.world.now);
  blocks = refl;
  faults = λ part. omega arith;
}

pub loop-number-preserved : goal.loop-number-preserved
loop-number-preserved g c =
    let first = c.in-Some.ensures.some in
    let start = now (g.W.World.log c.args.world.now) in
    record {
      low = omega (arith, first.0, c.loop-number.invariant.low);
      high = omega (arith, first.1);
      below = λ told. gathering_goes_on c.args.image.now.records c.total.ensures.sound.rising start (now (g.W.World.log c.loop-number.world)) c.in-Some.number
          c.loop-number.items.entries c.add_item.new.items.entries (c.loop-number.invariant.steps told).ends
          (gathering_skips c.args.image.now.records c.total.ensures.sound.rising (disk Volume start).bytes c.loop-number.least c.in-Some.number c.loop-number.items.entries first.0
          (λ m least below. first.2 (disk Volume start).bytes m least below) (c.loop-number.invariant.below told))
          (c.in_ok-add_item.ensures.added told);
      steps = λ told. Steps-then (g.W.World.log c.args.world.now) (g.W.World.log c.loop-number.world) (g.W.World.log c.add_item.new.world) (c.loop-number.invariant.steps told) (c.in_ok-add_item.ensures.steps told);
      blocks = c.in_ok-add_item.ensures.blocks ∙ c.loop-number.invariant.blocks;
      faults = λ part. omega (arith, c.loop-number.invariant.faults part, c.in_ok-add_item.ensures.never_less part);
    }

none_by : (Q : Type 0) (o : Option ℕ) → ((x : ℕ) → o ≡ Some x → ⊥) → IfNone o Q → Q
none_by Q None not h = h
none_by Q (Some x) not h = absurd (not x refl)

pub returns-clause-items : goal.returns-clause-items
returns-clause-items g c told = gathering_ends c.args.image.now.records c.total.ensures.sound.rising _ c.loop-number.least c.loop-number.items.entries
    (λ m least. none_by ((bytes : ℕ → List ℕ) (m : ℕ) → c.loop-number.least ≤ m → items_in c.args.image.now.records bytes m ≡ None) c.number_from.result (λ x is. c.in_default.not-Some x is) c.number_from.ensures.none
    (disk Volume (now (g.W.World.log c.args.world.now))).bytes m least) (c.loop-number.invariant.below told)
