use Rattle.std.proofs.Common.{◌≡◌, true, is_some, ℕ, List, ◌++◌, sym, ap, ◌∙◌, subst}
use Rattle.std.specs.List.{All}
use Rattle.std.specs.Vec.Iter.{into_iter_items}
use Rattle.tm_world.specs.declared.bytes.Blob.{Blob}
use Rattle.tm_graph.specs.Nodes.{node}
use Rattle.tm_snapshot.specs.Puts.{file_puts}
use Rattle.tm_snapshot.proofs.Listing.{files_step, files_rest}
use Rattle.tm_snapshot.proofs.records.put_files.Goals as goal

pub loop-number-init : goal.loop-number-init
loop-number-init c =
    let items : into_iter_items c.into_iter-number-iterator.result ≡ c.args.blobs = c.into_iter-number-iterator.ensures.into_iter_gives.0 ∙ c.into_list-number-items.ensures in
    record {
      there = subst (λ (bs : List (ℕ × Blob)). All (λ b. is_some (node c.args.graph.now b.0) ≡ true) bs) (sym items) c.requires.there;
      all = ap (λ (bs : List (ℕ × Blob)). c.args.puts.now.items ++ file_puts c.args.graph.now bs) items;
    }

pub loop-number-preserved : goal.loop-number-preserved
loop-number-preserved c =
    let rest = into_iter_items c.next.new.self in
    let left = into_iter_items c.loop-number.number-iterator in
    record {
      there = (files_rest c.args.graph.now c.in-Some.number c.in-Some.blob rest left c.in-Some.ensures.steps.0 c.loop-number.invariant.there).1;
      all = files_step c.args.graph.now c.loop-number.puts.items c.push.new.self.items c.in-Some.number c.in-Some.blob rest left c.in_ok-record_at.field-0 _ c.in-Some.ensures.steps.0 c.loop-number.invariant.all
          c.in_ok-record_at.ensures c.in_ok-push.ensures.items;
    }
