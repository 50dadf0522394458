use Rattle.std.proofs.Common.{◌∙◌, is_some, ap}
use Rattle.tm_store_records.specs.Held.{files_of, store_on}
use Rattle.tm_tree.specs.declared.node.LeafRow.{LeafRow}
use Rattle.tm_tree.specs.declared.node.NodeBody.TheVariants.{Leaf}
use Rattle.tm_world.specs.Log.{now}
use Rattle.tm_world.specs.Outside.{disk}
use Rattle.tm_world.specs.declared.world.Side.TheVariants.{Store as StoreSide}
use Rattle.tm_machine.specs.Queries.{content_rows, holding_snapshot, stored_tree}
use Rattle.tm_machine.proofs.StoredLemmas.{body_is, stored_untold, stored_folder, stored_file, stored_link}
use Rattle.tm_machine.proofs.store.tell_stored.Goals as goal

pub returns-in-Err-clause-answer : goal.returns-in-Err-clause-answer
returns-in-Err-clause-answer g c told =
    let h = c.args.store.now in
    let item = c.args.item.now in
    let bytes = (disk StoreSide (now (g.W.World.log c.args.world.now))).bytes in
    let o = holding_snapshot (store_on h bytes) item in
    stored_untold (files_of h.image.records bytes) h.nodes o item.path c.in-Err.why (content_rows (stored_tree o) item.path) (c.in-Err.ensures.finds bytes)

pub read_stored-requires-clause-there : goal.read_stored-requires-clause-there
read_stored-requires-clause-there g c = ap is_some c.in-Ok.ensures.row

pub returns-in-None-clause-answer : goal.returns-in-None-clause-answer
returns-in-None-clause-answer g c told =
    let h = c.args.store.now in
    let item = c.args.item.now in
    let bytes = (disk StoreSide (now (g.W.World.log c.args.world.now))).bytes in
    stored_folder (files_of h.image.records bytes) h.nodes (holding_snapshot (store_on h bytes) item) item.path c.in-Ok.found (c.in-Ok.ensures.finds bytes) c.in-None.ensures

pub returns-in-Ok-read_stored-clause-answer : goal.returns-in-Ok-read_stored-clause-answer
returns-in-Ok-read_stored-clause-answer g c told =
    let h = c.args.store.now in
    let item = c.args.item.now in
    let bytes = (disk StoreSide (now (g.W.World.log c.args.world.now))).bytes in
    let is = body_is c.in-Ok.found.row.now.body c.in-Some-File.field-0.now c.in-Some-File.ensures ∙ ap (λ (l : LeafRow). Leaf l) c.in-Some-File.field-0-is in
    stored_file (files_of h.image.records bytes) h.nodes (holding_snapshot (store_on h bytes) item) item.path c.in-Ok.found c.in-Some-File.field-0-0 c.in-Some-File.field-0-1 c.in-Some-File.length
    c.in-Ok-read_stored.bytes c.one_row.result (c.in-Ok.ensures.finds bytes) is (c.in-Ok-read_stored.ensures.bytes told) c.one_row.ensures

pub returns-in_ok-clone-in-Some-Link-clause-answer : goal.returns-in_ok-clone-in-Some-Link-clause-answer
returns-in_ok-clone-in-Some-Link-clause-answer g c told =
    let h = c.args.store.now in
    let item = c.args.item.now in
    let bytes = (disk StoreSide (now (g.W.World.log c.args.world.now))).bytes in
    let is = body_is c.in-Ok.found.row.now.body c.in-Some-Link.field-0.now c.in-Some-Link.ensures ∙ ap (λ (l : LeafRow). Leaf l) c.in-Some-Link.field-0-is in
    stored_link (files_of h.image.records bytes) h.nodes (holding_snapshot (store_on h bytes) item) item.path c.in-Ok.found c.in-Some-Link.field-0-0 c.in-Some-Link.field-0-1 c.in-Some-Link.target
    c.in_ok-clone-in-Some-Link.field-0 c.one_row-in-Some-Link.result (c.in-Ok.ensures.finds bytes) is c.in_ok-clone-in-Some-Link.ensures.cases c.one_row-in-Some-Link.ensures
