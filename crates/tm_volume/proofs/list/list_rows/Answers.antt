use Rattle.std.proofs.Common.{◌∙◌}
use Rattle.tm_volume_records.specs.Records.{items_in}
use Rattle.tm_volume.proofs.Listing.{rows_pushed, rows_end, there_first, there_rest}
use Rattle.tm_volume.proofs.list.list_rows.Goals as goal

pub item_row-requires : goal.item_row-requires
item_row-requires c = there_first c.args.image.now.records c.loop-name.name-iterator c.next.new.self c.in-Some.name.now c.in-Some.number.now c.in-Some.ensures.steps c.loop-name.invariant.there

pub loop-name-preserved : goal.loop-name-preserved
loop-name-preserved c = record {
  there = there_rest c.args.image.now.records c.loop-name.name-iterator c.next.new.self c.in-Some.name.now c.in-Some.number.now c.in-Some.ensures.steps c.loop-name.invariant.there;
  so_far = λ bytes. rows_pushed (items_in c.args.image.now.records bytes) c.loop-name.rows.items c.push.new.self.items c.loop-name.name-iterator c.next.new.self
      c.in-Some.name.now c.in_ok-clone.field-0 c.in-Some.number.now c.in_ok-body.field-0 c.list_kind.result _
      c.in_ok-push.ensures.items c.in_ok-clone.ensures.cases c.list_kind.ensures c.in-Some.ensures.steps (c.in_ok-body.ensures bytes) (c.loop-name.invariant.so_far bytes);
}

pub returns : goal.returns
returns c = λ bytes. c.of.ensures ∙ rows_end (items_in c.args.image.now.records bytes) c.loop-name.rows.items c.loop-name.name-iterator _ c.in-None.ensures.steps.0 (c.loop-name.invariant.so_far bytes)
