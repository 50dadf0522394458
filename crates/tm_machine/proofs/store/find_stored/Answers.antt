use Rattle.std.proofs.Common.{◌≡◌, [], ℕ, Option, Some, Ok, Err, IsSomeAnd, sym, subst}
use Rattle.tm_graph.specs.Nodes.{Nodes, IsGraph, node}
use Rattle.tm_graph.specs.Trees.{number_at}
use Rattle.tm_store.specs.Finding.{Looks, held_under}
use Rattle.tm_store_records.specs.Held.{files_of, store_on}
use Rattle.tm_tree.specs.Lookups.{snapshot_under}
use Rattle.tm_machine.specs.Queries.{holding_snapshot}
use Rattle.tm_machine.proofs.StoredLemmas.{found_stored, looks_unfailed, missed_stored}
use Rattle.tm_machine.proofs.store.find_stored.Goals as goal

pub returns-in-Err-clause-finds : goal.returns-in-Err-clause-finds
returns-in-Err-clause-finds c bytes =
    let h = c.args.store.now in
    let item = c.args.item.now in
    let looks = subst (λ (d : Option ℕ). Looks (files_of h.image.records bytes) h.nodes (snapshot_under (store_on h bytes) item.snapshot.machine d item.volume) item.path (Err c.in-Err.why)) c.date_of.ensures (c.in-Err.ensures.looks bytes) in
    missed_stored (files_of h.image.records bytes) h.nodes (holding_snapshot (store_on h bytes) item) item.path c.in-Err.why looks

pub returns-clause-finds : goal.returns-clause-finds
returns-clause-finds c bytes =
    let h = c.args.store.now in
    let item = c.args.item.now in
    let found = c.in-Ok.found in
    let looks = subst (λ (d : Option ℕ). Looks (files_of h.image.records bytes) h.nodes (snapshot_under (store_on h bytes) item.snapshot.machine d item.volume) item.path (Ok found)) c.date_of.ensures (c.in-Ok.ensures.looks bytes) in
    let number = subst (λ (d : Option ℕ). IsSomeAnd (held_under h.machine h.snapshots item.snapshot.machine d item.volume) (λ s. number_at h.nodes s.root item.path ≡ Some found.node)) c.date_of.ensures c.in-Ok.ensures.number in
    let graph = subst IsGraph c.graph.ensures c.in-Some.ensures.graph in
    let row = sym (subst (λ (g : Nodes). Some c.in-Some.row.now ≡ node g found.node) c.graph.ensures c.in-Some.ensures.found) in
    found_stored c.snapshots_are_named.ensures.under c.entries_stand.ensures h bytes graph item found c.in-Some.row number row looks

pub returns-in-Err-clause-fault : goal.returns-in-Err-clause-fault
returns-in-Err-clause-fault c side e =
    let h = c.args.store.now in
    let item = c.args.item.now in
    looks_unfailed (files_of h.image.records (λ b. [])) h.nodes (snapshot_under (store_on h (λ b. [])) item.snapshot.machine c.date_of.result item.volume) item.path c.in-Err.why (c.in-Err.ensures.looks (λ b. [])) side e
