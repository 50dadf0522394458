use Rattle.std.proofs.Common.{◌∙◌, ap}
use Rattle.tm_store_records.specs.Held.{files_of, store_on}
use Rattle.tm_graph.specs.Nodes.{Nodes}
use Rattle.tm_machine.specs.Queries.{holding_snapshot, list_rows, node_lines, stored_tree}
use Rattle.tm_machine.proofs.StoredLemmas.{stored_lists, stored_missing}
use Rattle.tm_machine.proofs.store.list_stored.Goals as goal

pub returns-in_ok-node_lines-in-Ok : goal.returns-in_ok-node_lines-in-Ok
returns-in_ok-node_lines-in-Ok c bytes =
    let h = c.args.store.now in
    let item = c.args.item.now in
    stored_lists (files_of h.image.records bytes) h.nodes (holding_snapshot (store_on h bytes) item) item.path c.in-Ok.found c.in_ok-node_lines-in-Ok.field-0
    (λ n r e. c.held_files.ensures h bytes n r c.requires e) (c.in-Ok.ensures.finds bytes) (c.in_ok-node_lines-in-Ok.ensures ∙ ap (λ (g : Nodes). node_lines g c.in-Ok.found.row.now item.path) c.graph.ensures)

pub returns-in-Err : goal.returns-in-Err
returns-in-Err c bytes =
    let h = c.args.store.now in
    let item = c.args.item.now in
    let o = holding_snapshot (store_on h bytes) item in
    stored_missing (files_of h.image.records bytes) h.nodes o item.path c.in-Err.why (list_rows (stored_tree o) item.path) (c.in-Err.ensures.finds bytes)
