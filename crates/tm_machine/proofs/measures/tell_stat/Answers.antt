use Rattle.std.proofs.Common.{◌≡◌, ℕ, Option, Some, Ok, Err, IsSomeAnd, subst}
use Rattle.tm_graph.specs.Trees.{number_at}
use Rattle.tm_store.specs.Finding.{Looks, held_under}
use Rattle.tm_store_records.specs.Held.{files_of, store_on}
use Rattle.tm_tree.specs.Changes.{item_tests}
use Rattle.tm_tree.specs.Lookups.{snapshot_under}
use Rattle.tm_machine.specs.Answers.{AnswersQuery}
use Rattle.tm_machine.specs.Queries.{holding_snapshot, stat_rows}
use Rattle.tm_machine.specs.Steps.{stored_tests}
use Rattle.tm_machine.proofs.Exits.{after_err}
use Rattle.tm_machine.proofs.Measuring.{stat_told}
use Rattle.tm_machine.proofs.StoredLemmas.{missed_stored, stored_missing}
use Rattle.tm_machine.proofs.measures.tell_stat.Goals as goal

pub returns-in_err-found : goal.returns-in_err-found
returns-in_err-found c bytes =
    let h = c.args.store.now in
    let item = c.args.item.now in
    let files = files_of h.image.records bytes in
    let o = holding_snapshot (store_on h bytes) item in
    let why = c.in_err-found.field-0.0 in
    let looks = subst (λ (d : Option ℕ). Looks files h.nodes (snapshot_under (store_on h bytes) item.snapshot.machine d item.volume) item.path (Err why)) c.date_of.ensures (c.in_err-found.ensures.looks bytes) in
    after_err (AnswersQuery (stored_tests item_tests o item.path) (stat_rows (store_on h bytes) item)) why c.from_residual.result c.from_residual.ensures.1
    (stored_missing files h.nodes o item.path why (stat_rows (store_on h bytes) item) (missed_stored files h.nodes o item.path why looks))

pub returns : goal.returns
returns c bytes =
    let h = c.args.store.now in
    let item = c.args.item.now in
    let found = c.in_ok-found.found in
    let looks = subst (λ (d : Option ℕ). Looks (files_of h.image.records bytes) h.nodes (snapshot_under (store_on h bytes) item.snapshot.machine d item.volume) item.path (Ok found)) c.date_of.ensures (c.in_ok-found.ensures.looks bytes) in
    let number = subst (λ (d : Option ℕ). IsSomeAnd (held_under h.machine h.snapshots item.snapshot.machine d item.volume) (λ s. number_at h.nodes s.root item.path ≡ Some found.node)) c.date_of.ensures c.in_ok-found.ensures.number in
    stat_told c.snapshots_are_named.ensures.under c.held_is_store.ensures.store c.links_are_counted.ensures h bytes c.requires item found c.stat-stat.result c.reply_kind.result
    number looks c.stat-stat.ensures c.reply_kind.ensures c.one_row.result c.one_row.ensures
